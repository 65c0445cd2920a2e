use Rattle.std.proofs.Common.{◌≡◌, drop}
use Rattle.register.specs.Views.{held, room}
use Rattle.ledger.specs.Effects.{put_lines}
use Rattle.shifts.proofs.writes.put_all.Given as goal

-- what is left to put comes to the whole
abbrev pub invariant-loop-line : goal.invariant-loop-line
invariant-loop-line l =
    (put_lines (drop l.line-index l.named) (held l.lines.shelf) ≡ put_lines l.named (held l.initial.lines.shelf))
    × (room l.lines.shelf ≡ room l.initial.lines.shelf)
