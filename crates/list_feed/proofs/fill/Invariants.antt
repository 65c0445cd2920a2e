use Rattle.std.proofs.Common.{◌-◌, ◌≡◌, ◌≤◌, length, take}
use Rattle.std.specs.Io.KnownBytes.{Consumes}
use Rattle.list_feed.proofs.fill.Given as goal

-- what was read is what the source began with
abbrev pub invariant-loop-count : goal.invariant-loop-count
invariant-loop-count g l = (l.count ≤ length l.places) × (length l.places ≡ length l.initial.places) × Consumes (g.R.Read.remaining l.initial.source) (g.R.Read.remaining l.source) (take l.count l.places)

abbrev pub decreases-loop-count : goal.decreases-loop-count
decreases-loop-count g l = length l.places - l.count
