-- What the tables hold, and what a call within its limits, in a stage that takes it, makes of them.
use Rattle.std.specs.Prelude.{◌≡◌, ℕ, not, List, [], map, length, None, Some, Ok, Err, Option, Result, ◌==◌}
use Rattle.std.specs.List.{find}
use Rattle.register.specs.Views.{held, room}
use Rattle.calls.specs.declared.fields.Call.{Call}
use Rattle.calls.specs.declared.fields.Line.{Line}
use Rattle.calls.specs.declared.fields.PriceQuote.{PriceQuote}
use Rattle.calls.specs.declared.refusal.Refusal.{Refusal}
use Rattle.calls.specs.declared.refusal.Refusal.TheVariants.{NoAccount, LineRepeated, NoSpace, OutsideWindow, OtherSupplier, TotalChanged}
use Rattle.calls.specs.Limits.{between}
use Rattle.ledger.specs.declared.records.Account.{Account}
use Rattle.ledger.specs.declared.records.Row.{Row}
use Rattle.ledger.specs.State.{State, known, supplier_of}
use Rattle.ledger.specs.Table.{Condition, or_else, refuse_if, refuse_naming, first_repeated, no_room, count_absent, pipelines}
use Rattle.ledger.specs.Later.{later_verdict, changes_among}
use Rattle.ledger.specs.Rows.{Rule, Rules}
use Rattle.ledger.specs.Runs.{answer_by, after_by, count_of}
use Rattle.tables.specs.declared.tables.Tables.{Tables}

abbrev pub state_of : Tables → State
state_of t = record {
  stage = t.stage;
  year = t.year;
  month = t.month;
  loss = t.loss;
  settled = t.settled;
  gas_cost = t.gas_cost;
  accounts = held t.accounts.shelf;
  lines = held t.lines.shelf;
  prices = held t.prices.shelf;
  rows = held t.rows;
  account_room = room t.accounts.shelf;
  line_room = room t.lines.shelf;
  price_room = room t.prices.shelf;
  row_room = room t.rows;
}

-- what a call returns, past its limits and its stage
abbrev pub later_answer : State → Call → Result ℕ Refusal
later_answer s c = answer_by (later_verdict s c) (count_of s c)

-- and what it leaves: that state where it is taken, and else the book as it was
abbrev pub left_by : State → Call → State → State
left_by s c taken = after_by (later_verdict s c) taken s

-- the account that is found, or the refusal that names it
abbrev pub known_account : ℕ → Option Account → Result Account Refusal
known_account n None = Err (NoAccount n)
known_account n (Some a) = Ok a

-- the table's later numbers for a reallocation, by its parts
abbrev pub names_unknown : State → List Line → Condition
names_unknown s named = refuse_naming NoAccount (find (λ n. not (known n s.accounts)) (map (λ l. l.account) named))

abbrev pub repeats : List Line → Condition
repeats named = refuse_naming (λ l. LineRepeated l.account) (first_repeated [] named)

abbrev pub lacks_room : State → List Line → Condition
lacks_room s named = refuse_if (no_room (length s.lines) (count_absent s.lines named) s.line_room) NoSpace

abbrev pub out_of_window : ℕ → Condition
out_of_window minute = refuse_if (not (between 810 930 minute)) OutsideWindow

abbrev pub names_anothers : State → ℕ → List Line → Condition
names_anothers s supplier named = refuse_naming (λ l. OtherSupplier l.account) (find (λ l. not (supplier_of l.account s.accounts == supplier)) named)

abbrev pub moves_total : State → List Line → Condition
moves_total s named = refuse_naming TotalChanged (find (changes_among s.lines named) pipelines)

abbrev pub shift_verdict : State → ℕ → ℕ → List Line → Option Refusal
shift_verdict s supplier minute named =
    or_else (names_unknown s named) (or_else (repeats named) (or_else (lacks_room s named)
    (or_else (out_of_window minute) (or_else (names_anothers s supplier named) (or_else (moves_total s named) None)))))

-- nothing refuses it, or that does
abbrev pub allowed_by : Option Refusal → Result (Unit {0}) Refusal
allowed_by None = Ok tt
allowed_by (Some refusal) = Err refusal

-- the meanings of the two rules that a settling is handed
abbrev pub both : Rule → Rule → Rules
both ordinary critical = record { ordinary = ordinary; critical = critical }

-- the lent memory, whole, whatever of it is held
pub record Memory : Type 0 where
  pub accounts : List Account
  pub lines : List Line
  pub prices : List PriceQuote
  pub rows : List Row

abbrev pub memory_of : Tables → Memory
memory_of t = record {
  accounts = t.accounts.shelf.items.now;
  lines = t.lines.shelf.items.now;
  prices = t.prices.shelf.items.now;
  rows = t.rows.items.now;
}

-- a refused call writes nothing, not even where nothing is held
abbrev pub Untouched : Result ℕ Refusal → Tables → Tables → Type 0
Untouched (Ok count) before later = Unit {0}
Untouched (Err refusal) before later = memory_of later ≡ memory_of before
