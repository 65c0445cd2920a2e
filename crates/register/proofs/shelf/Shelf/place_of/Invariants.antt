use Rattle.std.proofs.Common.{◌-◌, ◌<◌, ◌≤◌, length, take, drop}
use Rattle.std.specs.List.{AllByRecursion}
use Rattle.register.proofs.shelf.Shelf.place_of.Given as goal

-- all keys before `low` are lower, and all from `high` on are higher
abbrev pub invariant-loop-low : goal.invariant-loop-low
invariant-loop-low g l =
    (l.low ≤ l.high) × (l.high ≤ length l.items) × AllByRecursion (λ x. g.T.Keyed.key x < l.key) (take l.low l.items)
    × AllByRecursion (λ x. l.key < g.T.Keyed.key x) (drop l.high l.items)

abbrev pub decreases-loop-low : goal.decreases-loop-low
decreases-loop-low g l = l.high - l.low
