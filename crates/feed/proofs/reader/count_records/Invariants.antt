use Rattle.std.proofs.Common.{◌≡◌, ◌+◌, List, length}
use Rattle.calls.specs.declared.fields.Call.{Call}
use Rattle.feed.proofs.CutSteps.{Behind}
use Rattle.feed.proofs.reader.count_records.Given as goal

-- what the records left are cut into, behind what was counted, the whole is cut into
abbrev pub invariant-loop-record : goal.invariant-loop-record
invariant-loop-record l =
    (l.count + 1 ≡ l.record-iterator.ordinal)
    × ((done : List Call) × (length done ≡ l.count) × Behind l.feed done l.record-iterator)
