-- What an accepted call leaves.
use Rattle.std.specs.Prelude.{ℕ, ◌+◌, cond, List, [], ◌∷◌, ◌++◌, map, Some, None, Option, ◌==◌}
use Rattle.register.specs.Keys.{put}
use Rattle.calls.specs.declared.fields.MonthBegin.{MonthBegin}
use Rattle.calls.specs.declared.fields.AccountOpening.{AccountOpening}
use Rattle.calls.specs.declared.fields.Line.{Line}
use Rattle.calls.specs.declared.fields.PriceQuote.{PriceQuote}
use Rattle.calls.specs.declared.fields.Call.{Call}
use Rattle.calls.specs.declared.fields.Call.TheVariants.{BeginMonth, OpenAccount, MoveAccount, SetGasCost, SetPrice, BeginDay, Nominate, EndDay, Reallocate, Read, Settle, Close, Post}
use Rattle.calls.specs.Limits.{named_lines}
use Rattle.ledger.specs.declared.records.Account.{Account}
use Rattle.ledger.specs.declared.records.DayKind.{DayKind}
use Rattle.ledger.specs.declared.records.DayKind.TheVariants.{Ordinary, Critical}
use Rattle.ledger.specs.declared.records.Stage.{Stage}
use Rattle.ledger.specs.declared.records.Stage.TheVariants.{Unopened, Between, Nominating, Ended, Closed}
use Rattle.ledger.specs.State.{State, number, line_key, price_day, account_at}
use Rattle.ledger.specs.Rows.{Rules, settled_account, settled_row, closed_account, closed_row}

abbrev pub with_stage : Stage → State → State
with_stage stage s = record {
  stage = stage;
  year = s.year;
  month = s.month;
  loss = s.loss;
  settled = s.settled;
  gas_cost = s.gas_cost;
  accounts = s.accounts;
  lines = s.lines;
  prices = s.prices;
  rows = s.rows;
  account_room = s.account_room;
  line_room = s.line_room;
  price_room = s.price_room;
  row_room = s.row_room;
}

abbrev pub with_accounts : List Account → State → State
with_accounts accounts s = record {
  stage = s.stage;
  year = s.year;
  month = s.month;
  loss = s.loss;
  settled = s.settled;
  gas_cost = s.gas_cost;
  accounts = accounts;
  lines = s.lines;
  prices = s.prices;
  rows = s.rows;
  account_room = s.account_room;
  line_room = s.line_room;
  price_room = s.price_room;
  row_room = s.row_room;
}

abbrev pub with_lines : List Line → State → State
with_lines lines s = record {
  stage = s.stage;
  year = s.year;
  month = s.month;
  loss = s.loss;
  settled = s.settled;
  gas_cost = s.gas_cost;
  accounts = s.accounts;
  lines = lines;
  prices = s.prices;
  rows = s.rows;
  account_room = s.account_room;
  line_room = s.line_room;
  price_room = s.price_room;
  row_room = s.row_room;
}

abbrev pub with_gas_cost : ℕ → State → State
with_gas_cost price s = record {
  stage = s.stage;
  year = s.year;
  month = s.month;
  loss = s.loss;
  settled = s.settled;
  gas_cost = Some price;
  accounts = s.accounts;
  lines = s.lines;
  prices = s.prices;
  rows = s.rows;
  account_room = s.account_room;
  line_room = s.line_room;
  price_room = s.price_room;
  row_room = s.row_room;
}

abbrev pub with_prices : List PriceQuote → State → State
with_prices prices s = record {
  stage = s.stage;
  year = s.year;
  month = s.month;
  loss = s.loss;
  settled = s.settled;
  gas_cost = s.gas_cost;
  accounts = s.accounts;
  lines = s.lines;
  prices = prices;
  rows = s.rows;
  account_room = s.account_room;
  line_room = s.line_room;
  price_room = s.price_room;
  row_room = s.row_room;
}

-- prices and gas cost are emptied, and no day is settled
abbrev pub month_begun : MonthBegin → State → State
month_begun c s = record {
  stage = Between;
  year = c.year;
  month = c.month;
  loss = c.loss;
  settled = 0;
  gas_cost = None;
  accounts = s.accounts;
  lines = s.lines;
  prices = [];
  rows = s.rows;
  account_room = s.account_room;
  line_room = s.line_room;
  price_room = s.price_room;
  row_room = s.row_room;
}

abbrev pub opened : AccountOpening → Account
opened c = record { number = c.account; supplier = c.supplier; capacity = c.capacity; storage = c.storage; reading = None }

-- storage stays with the account
abbrev pub moved : ℕ → Account → Account
moved supplier a = record { number = a.number; supplier = supplier; capacity = a.capacity; storage = a.storage; reading = a.reading }

abbrev pub read : ℕ → Account → Account
read therms a = record { number = a.number; supplier = a.supplier; capacity = a.capacity; storage = a.storage; reading = Some therms }

-- one account changed, where it is known
abbrev pub put_changed : (Account → Account) → Option Account → List Account → List Account
put_changed f None accounts = accounts
put_changed f (Some a) accounts = put number (f a) accounts

abbrev pub change_account : ℕ → (Account → Account) → List Account → List Account
change_account n f accounts = put_changed f (account_at n accounts) accounts

abbrev pub put_line : Line → List Line → List Line
put_line l lines = put line_key l lines

abbrev pub put_lines : List Line → List Line → List Line
put_lines [] lines = lines
put_lines (l ∷ ls) lines = put_lines ls (put_line l lines)

abbrev pub kind_of : ℕ → DayKind
kind_of kind = cond (kind == 0) Ordinary Critical

abbrev pub begun_kind : Stage → DayKind
begun_kind Unopened = Ordinary
begun_kind Between = Ordinary
begun_kind (Nominating k) = k
begun_kind (Ended k) = k
begun_kind Closed = Ordinary

-- every account settled and a row for each, in rising number; lines and readings go
abbrev pub settled_day : Rules → State → State
settled_day rules s = record {
  stage = Between;
  year = s.year;
  month = s.month;
  loss = s.loss;
  settled = s.settled + 1;
  gas_cost = s.gas_cost;
  accounts = map (settled_account rules (begun_kind s.stage) s) s.accounts;
  lines = [];
  prices = s.prices;
  rows = s.rows ++ map (settled_row rules (begun_kind s.stage) s) s.accounts;
  account_room = s.account_room;
  line_room = s.line_room;
  price_room = s.price_room;
  row_room = s.row_room;
}

-- every account's storage in its band and a row for each, in rising number
abbrev pub month_closed : State → State
month_closed s = record {
  stage = Closed;
  year = s.year;
  month = s.month;
  loss = s.loss;
  settled = s.settled;
  gas_cost = s.gas_cost;
  accounts = map (closed_account s) s.accounts;
  lines = s.lines;
  prices = s.prices;
  rows = s.rows ++ map (closed_row s) s.accounts;
  account_room = s.account_room;
  line_room = s.line_room;
  price_room = s.price_room;
  row_room = s.row_room;
}

abbrev pub done : Rules → State → Call → State
done rules s (BeginMonth c) = month_begun c s
done rules s (OpenAccount c) = with_accounts (put number (opened c) s.accounts) s
done rules s (MoveAccount c) = with_accounts (change_account c.account (moved c.supplier) s.accounts) s
done rules s (SetGasCost c) = with_gas_cost c.gas_cost s
done rules s (SetPrice c) = with_prices (put price_day c s.prices) s
done rules s (BeginDay c) = with_stage (Nominating (kind_of c.kind)) s
done rules s (Nominate c) = with_lines (put_line c.line s.lines) s
done rules s (EndDay c) = with_stage (Ended (begun_kind s.stage)) s
done rules s (Reallocate c) = with_lines (put_lines (named_lines c) s.lines) s
done rules s (Read c) = with_accounts (change_account c.account (read c.therms) s.accounts) s
done rules s (Settle c) = settled_day rules s
done rules s (Close c) = month_closed s
done rules s (Post c) = s
