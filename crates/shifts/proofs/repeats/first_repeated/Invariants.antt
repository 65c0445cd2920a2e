use Rattle.std.proofs.Common.{◌≡◌, [], reverse, take, drop}
use Rattle.ledger.specs.Table.{first_repeated}
use Rattle.shifts.proofs.repeats.first_repeated.Given as goal

-- what is left decides, after the lines before it
abbrev pub invariant-loop-i : goal.invariant-loop-i
invariant-loop-i l = first_repeated (reverse (take l.i l.named)) (drop l.i l.named) ≡ first_repeated [] l.named
