-- The terms of a day and of a close, alike for every account, and what they come to: what the code of the book is held to.
use Rattle.std.specs.Prelude.{ℕ, ◌+◌, [], ◌++◌, map, None}
use Rattle.tariff.specs.declared.calendar.Date.{Date}
use Rattle.tariff.specs.declared.question.Figures.{Figures}
use Rattle.tariff.specs.declared.settling.SettledDay.{SettledDay}
use Rattle.tariff.specs.declared.closing.MonthClose.{MonthClose}
use Rattle.tariff.specs.Calendar.{date}
use Rattle.tariff.specs.Prices.{average}
use Rattle.tariff.specs.Settling.{published_day, settled}
use Rattle.tariff.specs.Closing.{closed}
use Rattle.ledger.specs.declared.records.Account.{Account}
use Rattle.ledger.specs.declared.records.Row.{Row}
use Rattle.ledger.specs.declared.records.RowKind.TheVariants as Rows
use Rattle.ledger.specs.declared.records.Stage.TheVariants.{Between}
use Rattle.ledger.specs.State.{State, days_of, amount, standing, of_account}
use Rattle.ledger.specs.Rows.{Rule, index_on, market_on, index_total}

-- what a gas day is settled by, alike for every account: prices in hundredths of a cent per therm, loss in hundredths of a percent
pub record DayTerms : Type 0 where
  pub date : Date
  pub loss : ℕ
  pub gas_cost : ℕ
  pub index : ℕ
  pub market : ℕ

-- what a month is closed by, alike for every account
pub record CloseTerms : Type 0 where
  pub last_day : Date
  pub gas_cost : ℕ
  pub average_index : ℕ

-- what the day begun is settled by
abbrev pub day_terms : State → DayTerms
day_terms s = record {
  date = date s.year s.month (s.settled + 1);
  loss = s.loss;
  gas_cost = amount s.gas_cost;
  index = index_on s (s.settled + 1);
  market = market_on s (s.settled + 1);
}

-- what the day's rule is given for an account whose lines come to so many therms
abbrev pub figures_on : DayTerms → ℕ → Account → Figures
figures_on t lines a = published_day t.date.month t.loss t.date.day lines (amount a.reading) a.storage a.capacity

-- what a question comes to by a rule, at the day's prices
abbrev pub settled_on : Rule → DayTerms → Figures → SettledDay
settled_on rule t question = settled rule t.gas_cost t.index t.market question

-- the reading goes with the day
abbrev pub account_after_day : Rule → DayTerms → ℕ → Account → Account
account_after_day rule t lines a =
    record { number = a.number; supplier = a.supplier; capacity = a.capacity; storage = (settled_on rule t (figures_on t lines a)).storage_after; reading = None }

-- the row of a day that was settled: the question, and what came of it
abbrev pub row_on : Date → Account → Figures → SettledDay → Row
row_on date a question day = record {
  kind = Rows.Day;
  date = date;
  account = a.number;
  supplier = a.supplier;
  delivered = question.delivered;
  used = question.used;
  injected = day.answer.injected;
  withdrawn = day.answer.withdrawn;
  bought = day.answer.bought;
  sold = day.answer.sold;
  authorized = day.answer.authorized;
  unauthorized = day.answer.unauthorized;
  storage_after = day.storage_after;
  cents = day.cents;
}

abbrev pub row_after_day : Rule → DayTerms → ℕ → Account → Row
row_after_day rule t lines a = row_on t.date a (figures_on t lines a) (settled_on rule t (figures_on t lines a))

-- what an account's lines that stand come to
abbrev pub lines_of : State → Account → ℕ
lines_of s a = standing (of_account a.number) s.lines

-- what the month is closed by
abbrev pub close_terms : State → CloseTerms
close_terms s = record {
  last_day = date s.year s.month (days_of s);
  gas_cost = amount s.gas_cost;
  average_index = average (index_total s.prices) (days_of s);
}

abbrev pub closed_on : CloseTerms → Account → MonthClose
closed_on t a = closed t.gas_cost t.average_index t.last_day.month a.capacity a.storage

abbrev pub account_after_close : CloseTerms → Account → Account
account_after_close t a =
    record { number = a.number; supplier = a.supplier; capacity = a.capacity; storage = (closed_on t a).storage_after; reading = a.reading }

-- a close's row has the month's last day, and 0 in the columns that it lacks
abbrev pub row_of_close : Date → Account → MonthClose → Row
row_of_close last_day a close = record {
  kind = Rows.Close;
  date = last_day;
  account = a.number;
  supplier = a.supplier;
  delivered = 0;
  used = 0;
  injected = 0;
  withdrawn = 0;
  bought = close.bought;
  sold = close.sold;
  authorized = 0;
  unauthorized = 0;
  storage_after = close.storage_after;
  cents = close.cents;
}

abbrev pub row_after_close : CloseTerms → Account → Row
row_after_close t a = row_of_close t.last_day a (closed_on t a)

-- every account settled by a rule and a row for each, in rising number; lines and readings go
abbrev pub day_settled_by : Rule → State → State
day_settled_by rule s = record {
  stage = Between;
  year = s.year;
  month = s.month;
  loss = s.loss;
  settled = s.settled + 1;
  gas_cost = s.gas_cost;
  accounts = map (λ a. account_after_day rule (day_terms s) (lines_of s a) a) s.accounts;
  lines = [];
  prices = s.prices;
  rows = s.rows ++ map (λ a. row_after_day rule (day_terms s) (lines_of s a) a) s.accounts;
  account_room = s.account_room;
  line_room = s.line_room;
  price_room = s.price_room;
  row_room = s.row_room;
}
