use Rattle.std.proofs.Common.{◌≡◌, ℕ, ◌+◌, ◌<◌, drop}
use Rattle.ledger.specs.State.{standing, of_account}
use Rattle.settling.proofs.lines.Ahead.pass.Given as goal

-- what was passed is in the sum or of no later account
abbrev pub invariant-loop-line : goal.invariant-loop-line
invariant-loop-line l =
    (l.passed ≡ l.line-index) × (l.therms + standing (of_account l.number) (drop l.line-index l.self.lines.now) ≡ standing (of_account l.number) l.self.lines.now)
    × ((m : ℕ) → l.number < m → standing (of_account m) (drop l.line-index l.self.lines.now) ≡ standing (of_account m) l.self.lines.now)
