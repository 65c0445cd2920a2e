-- The state of a book, and what one call promises of all runs.
use Rattle.std.specs.Prelude.{ℕ, ◌+◌, cond, ◌∷◌, None, Option, Result}
use Rattle.tariff.specs.declared.calendar.Date.{Date}
use Rattle.tariff.specs.Calendar.{date_in}
use Rattle.calls.specs.declared.fields.Call.{Call}
use Rattle.calls.specs.declared.refusal.Refusal.{Refusal}
use Rattle.ledger.specs.State.{State}
use Rattle.ledger.specs.Table.{is_unopened}
use Rattle.ledger.specs.Rows.{Rules}
use Rattle.ledger.specs.Runs.{History, Leads, met}
use Rattle.ledger.specs.Law.{Upheld}
use Rattle.book.specs.declared.book.Book.{Book}
use Rattle.tables.specs.States as tables

abbrev pub state_of : Book → State
state_of b = tables.state_of b.tables

-- a refused call writes nothing
abbrev pub Untouched : Result ℕ Refusal → Book → Book → Type 0
Untouched r before later = tables.Untouched r before.tables later.tables

-- whatever history led to the book as it was: with this call, both rules' meanings and what it returned, that history leads to the book as
-- it is, and the law over runs holds of it
abbrev pub LawGoesOn : State → Call → Rules → Result ℕ Refusal → State → Type 0
LawGoesOn s c rules r t = (h : History) → Leads h s → Upheld (met c rules r ∷ h) t

-- the gas day under way, or the one due next; none before the first month and once all days of the month are settled
abbrev pub day_due : State → Option Date
day_due s = cond (is_unopened s.stage) None (date_in s.year s.month (s.settled + 1))
