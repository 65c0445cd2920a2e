-- A book from its making on, call after call.
use Rattle.std.specs.Prelude.{◌≡◌, ℕ, true, List, [], ◌∷◌, length, Some, None, Ok, Err, Option, Result}
use Rattle.tariff.specs.declared.question.Figures.{Figures}
use Rattle.tariff.specs.Figures.{fair}
use Rattle.tariff.specs.Keeps.{Keeps}
use Rattle.calls.specs.declared.fields.Call.{Call}
use Rattle.calls.specs.declared.fields.Call.TheVariants.{BeginMonth, OpenAccount, MoveAccount, SetGasCost, SetPrice, BeginDay, Nominate, EndDay, Reallocate, Read, Settle, Close, Post}
use Rattle.calls.specs.declared.refusal.Refusal.{Refusal}
use Rattle.ledger.specs.declared.records.Stage.TheVariants.{Unopened}
use Rattle.ledger.specs.State.{State}
use Rattle.ledger.specs.Table.{verdict}
use Rattle.ledger.specs.Rows.{Rule, Rules}
use Rattle.ledger.specs.Effects.{done}

-- a book just made: Unopened and empty, whatever its memory held
abbrev pub fresh_book : ℕ → ℕ → ℕ → ℕ → State
fresh_book account_room line_room price_room row_room = record {
  stage = Unopened;
  year = 0;
  month = 0;
  loss = 0;
  settled = 0;
  gas_cost = None;
  accounts = [];
  lines = [];
  prices = [];
  rows = [];
  account_room = account_room;
  line_room = line_room;
  price_room = price_room;
  row_room = row_room;
}

-- the rows that an accepted call writes
abbrev pub count_of : State → Call → ℕ
count_of s (BeginMonth c) = 0
count_of s (OpenAccount c) = 0
count_of s (MoveAccount c) = 0
count_of s (SetGasCost c) = 0
count_of s (SetPrice c) = 0
count_of s (BeginDay c) = 0
count_of s (Nominate c) = 0
count_of s (EndDay c) = 0
count_of s (Reallocate c) = 0
count_of s (Read c) = 0
count_of s (Settle c) = length s.accounts
count_of s (Close c) = length s.accounts
count_of s (Post c) = 0

abbrev pub answer_by : Option Refusal → ℕ → Result ℕ Refusal
answer_by None count = Ok count
answer_by (Some r) count = Err r

-- what a call returns: the count of rows written, or the refusal
abbrev pub answered : State → Call → Result ℕ Refusal
answered s c = answer_by (verdict s c) (count_of s c)

abbrev pub after_by : Option Refusal → State → State → State
after_by None done stays = done
after_by (Some r) done stays = stays

-- a refused call changes nothing
abbrev pub after : Rules → State → Call → State
after rules s c = after_by (verdict s c) (done rules s c) s

abbrev pub Lawful : Rule → Type 0
Lawful rule = (f : Figures) → fair f ≡ true → Keeps f (rule f)

-- one call of a history: with both rules' meanings, and what it returned
pub record Met : Type 0 where
  pub call : Call
  pub rules : Rules
  pub returned : Result ℕ Refusal

-- the newest first
abbrev pub History : Type 0
History = List Met

abbrev pub met : Call → Rules → Result ℕ Refusal → Met
met call rules returned = record { call = call; rules = rules; returned = returned }

-- this history leads to this state
pub data Leads : History → State → Type 0 where
  fresh : (a l p r : ℕ) → Leads [] (fresh_book a l p r)
  refused : {h : History} {s : State} (c : Call) (rules : Rules) (r : Refusal) → Leads h s → verdict s c ≡ Some r → Leads (met c rules (Err r) ∷ h) s
  accepted : {h : History} {s : State} (c : Call) (rules : Rules) → Leads h s → Lawful rules.ordinary → Lawful rules.critical → verdict s c ≡ None
      → Leads (met c rules (Ok (count_of s c)) ∷ h) (done rules s c)

-- a list of calls, the first one first, under the same rules
abbrev pub run : Rules → State → List Call → State
run rules s [] = s
run rules s (c ∷ cs) = run rules (after rules s c) cs
