-- The table past a call's own limits and its stage, as the code of the book goes by it.
use Rattle.std.specs.Prelude.{ℕ, Bool, not, List, map, drop, Option, ◌==◌}
use Rattle.calls.specs.declared.fields.Line.{Line}
use Rattle.calls.specs.declared.fields.Call.{Call}
use Rattle.calls.specs.declared.refusal.Refusal.{Refusal}
use Rattle.ledger.specs.State.{State, standing, on_pipeline}
use Rattle.ledger.specs.Table.{Entry, table, first, as_it_stands}

-- the named lines come to another total on a pipeline than what stands in their places
abbrev pub changes_among : List Line → List Line → ℕ → Bool
changes_among lines ls p = not (standing (on_pipeline p) ls == standing (on_pipeline p) (map (as_it_stands lines) ls))

-- the numbers past a call's own limits and its stage
abbrev pub later_entries : State → Call → List Entry
later_entries s c = drop 2 (table s c)

-- the verdict on a call within its limits, in a stage that takes it
abbrev pub later_verdict : State → Call → Option Refusal
later_verdict s c = first (later_entries s c)
