-- Settling and closing one account: what it holds after, and the row that is written.
use Rattle.std.specs.Prelude.{ℕ, ◌+◌, List, [], ◌∷◌, None}
use Rattle.tariff.specs.declared.question.Figures.{Figures}
use Rattle.tariff.specs.declared.answer.Answer.{Answer}
use Rattle.tariff.specs.declared.tiers.Tiers.{Tiers}
use Rattle.tariff.specs.declared.settling.SettledDay.{SettledDay}
use Rattle.tariff.specs.declared.closing.MonthClose.{MonthClose}
use Rattle.tariff.specs.Calendar.{date}
use Rattle.tariff.specs.Prices.{average}
use Rattle.tariff.specs.Settling.{published_day, settled}
use Rattle.tariff.specs.Closing.{closed}
use Rattle.calls.specs.declared.fields.PriceQuote.{PriceQuote}
use Rattle.ledger.specs.declared.records.Account.{Account}
use Rattle.ledger.specs.declared.records.DayKind.{DayKind}
use Rattle.ledger.specs.declared.records.DayKind.TheVariants.{Ordinary, Critical}
use Rattle.ledger.specs.declared.records.Row.{Row}
use Rattle.ledger.specs.declared.records.RowKind.TheVariants as Rows
use Rattle.ledger.specs.State.{State, days_of, price_on, shown, amount, standing, of_account}

-- a day rule's meaning, and the two that a settling is handed
abbrev pub Rule : Type 0
Rule = Figures → Answer

pub record Rules : Type 0 where
  pub ordinary : Rule
  pub critical : Rule

abbrev pub rule_for : DayKind → Rules → Rule
rule_for Ordinary rules = rules.ordinary
rule_for Critical rules = rules.critical

-- what the day's rule is given for an account
abbrev pub day_figures : State → Account → Figures
day_figures s a =
    published_day s.month s.loss (s.settled + 1) (standing (of_account a.number) s.lines) (amount a.reading) a.storage a.capacity

abbrev pub index_on : State → ℕ → ℕ
index_on s day = shown (λ p. p.index) (price_on day s.prices)

abbrev pub market_on : State → ℕ → ℕ
market_on s day = shown (λ p. p.market) (price_on day s.prices)

-- what a question comes to, by the rule of the day's kind and at the day's prices
abbrev pub settled_by : Rules → DayKind → State → Figures → SettledDay
settled_by rules kind s question =
    settled (rule_for kind rules) (amount s.gas_cost) (index_on s (s.settled + 1)) (market_on s (s.settled + 1)) question

abbrev pub settle_one : Rules → DayKind → State → Account → SettledDay
settle_one rules kind s a = settled_by rules kind s (day_figures s a)

-- the reading goes with the day
abbrev pub settled_account : Rules → DayKind → State → Account → Account
settled_account rules kind s a =
    record { number = a.number; supplier = a.supplier; capacity = a.capacity; storage = (settle_one rules kind s a).storage_after; reading = None }

abbrev pub no_tiers : Tiers ℕ
no_tiers = record { first = 0; second = 0; third = 0 }

-- the row of a day that was settled: the question, and what came of it
abbrev pub row_of_day : State → Account → Figures → SettledDay → Row
row_of_day s a question day = record {
  kind = Rows.Day;
  date = date s.year s.month (s.settled + 1);
  account = a.number;
  supplier = a.supplier;
  delivered = question.delivered;
  used = question.used;
  injected = day.answer.injected;
  withdrawn = day.answer.withdrawn;
  bought = day.answer.bought;
  sold = day.answer.sold;
  authorized = day.answer.authorized;
  unauthorized = day.answer.unauthorized;
  storage_after = day.storage_after;
  cents = day.cents;
}

abbrev pub settled_row : Rules → DayKind → State → Account → Row
settled_row rules kind s a = row_of_day s a (day_figures s a) (settle_one rules kind s a)

abbrev pub index_total : List PriceQuote → ℕ
index_total [] = 0
index_total (p ∷ ps) = p.index + index_total ps

abbrev pub close_one : State → Account → MonthClose
close_one s a = closed (amount s.gas_cost) (average (index_total s.prices) (days_of s)) s.month a.capacity a.storage

abbrev pub closed_account : State → Account → Account
closed_account s a =
    record { number = a.number; supplier = a.supplier; capacity = a.capacity; storage = (close_one s a).storage_after; reading = a.reading }

-- a close's row has the month's last day, and 0 in the columns that it lacks
abbrev pub closed_row : State → Account → Row
closed_row s a =
    let close = close_one s a in
    record {
      kind = Rows.Close;
      date = date s.year s.month (days_of s);
      account = a.number;
      supplier = a.supplier;
      delivered = 0;
      used = 0;
      injected = 0;
      withdrawn = 0;
      bought = close.bought;
      sold = close.sold;
      authorized = 0;
      unauthorized = 0;
      storage_after = close.storage_after;
      cents = close.cents;
    }
