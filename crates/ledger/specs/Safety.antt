-- What the calls need to be safe, wherever a run stands: keys that rise, tables within their room, therms and cents within bounds, and a
-- price for every settled day.
use Rattle.std.specs.Prelude.{◌≡◌, ℕ, ◌<◌, ◌≤◌, Bool, true, false, ◌&&◌, ◌||◌, List, length, is_some, None, Option, nat_le}
use Rattle.std.specs.List.{AllByRecursion}
use Rattle.tariff.specs.Calendar.{in_calendar, days_in}
use Rattle.tariff.specs.Loss.{most_loss}
use Rattle.tariff.specs.Prices.{most_price}
use Rattle.tariff.specs.Cents.{RowBound}
use Rattle.register.specs.Keys.{rising}
use Rattle.calls.specs.declared.fields.Line.{Line}
use Rattle.calls.specs.declared.fields.PriceQuote.{PriceQuote}
use Rattle.calls.specs.declared.fields.MonthClosing.{MonthClosing}
use Rattle.calls.specs.declared.fields.Call.TheVariants.{Close}
use Rattle.calls.specs.Limits.{is_account, is_supplier, line_within, price_within}
use Rattle.ledger.specs.declared.records.Account.{Account}
use Rattle.ledger.specs.declared.records.Row.{Row}
use Rattle.ledger.specs.declared.records.Stage.{Stage}
use Rattle.ledger.specs.State.{State, number, line_key, price_day, amount, price_on, days_of, most_accounts, most_rows}
use Rattle.ledger.specs.Table.{is_unopened, is_nominating, is_ended, verdict}
use Rattle.ledger.specs.Runs.{History, Leads}

abbrev pub account_within : Account → Bool
account_within a =
    is_account a.number && is_supplier a.supplier && nat_le a.capacity 100000000 && nat_le a.storage a.capacity && nat_le (amount a.reading) 8000000

pub record AccountsSafe (room : ℕ) (accounts : List Account) : Type 0 where
  pub rise : rising number accounts ≡ true
  pub fit : length accounts ≤ room
  pub each : AllByRecursion (λ a. account_within a ≡ true) accounts

pub record LinesSafe (room : ℕ) (lines : List Line) : Type 0 where
  pub rise : rising line_key lines ≡ true
  pub fit : length lines ≤ room
  pub each : AllByRecursion (λ l. line_within l ≡ true) lines

pub record PricesSafe (room days : ℕ) (prices : List PriceQuote) : Type 0 where
  pub rise : rising price_day prices ≡ true
  pub fit : length prices ≤ room
  pub each : AllByRecursion (λ p. (price_within p && nat_le p.day days) ≡ true) prices

-- a million rows within this bound come to less than 64 bits hold
pub record RowsSafe (room : ℕ) (rows : List Row) : Type 0 where
  pub fit : length rows ≤ room
  pub each : AllByRecursion (λ r. RowBound r.cents) rows

pub record CalendarSafe (stage : Stage) (year month settled : ℕ) : Type 0 where
  pub month_known : is_unopened stage ≡ false → in_calendar year month ≡ true
  pub within_month : settled ≤ days_in year month
  pub today : (is_nominating stage || is_ended stage) ≡ true → settled < days_in year month

-- days up to this one have their prices, and there is a gas cost for them
pub record PricedTo (day : ℕ) (gas_cost : Option ℕ) (prices : List PriceQuote) : Type 0 where
  pub prices_there : (d : ℕ) → 0 < d → d ≤ day → is_some (price_on d prices) ≡ true
  pub gas_cost_there : 0 < day → is_some gas_cost ≡ true

pub record Safe (s : State) : Type 0 where
  pub accounts : AccountsSafe (most_accounts s) s.accounts
  pub lines : LinesSafe s.line_room s.lines
  pub prices : PricesSafe s.price_room (days_of s) s.prices
  pub rows : RowsSafe (most_rows s) s.rows
  pub calendar : CalendarSafe s.stage s.year s.month s.settled
  pub loss : s.loss ≤ most_loss
  pub gas_cost : amount s.gas_cost ≤ most_price
  pub priced : PricedTo s.settled s.gas_cost s.prices

-- a close finds all its prices
abbrev pub ClosePriced : State → Type 0
ClosePriced s = (c : MonthClosing) → verdict s (Close c) ≡ None → PricedTo (days_of s) s.gas_cost s.prices

abbrev pub SafeOverRuns : Type 0
SafeOverRuns = (h : History) (s : State) → Leads h s → Safe s × ClosePriced s
