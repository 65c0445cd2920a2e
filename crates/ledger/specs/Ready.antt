-- What every call may lean on, each part as a test, wherever calls alone have led.
use Rattle.std.specs.Prelude.{◌≡◌, ℕ, Bool, true, not, ◌&&◌, ◌||◌, length, pos, neg_ℤ, is_some, ◌==◌, int_le, nat_le, nat_lt}
use Rattle.tariff.specs.Calendar.{in_calendar}
use Rattle.tariff.specs.Each.{each}
use Rattle.tariff.specs.Loss.{most_loss}
use Rattle.tariff.specs.Prices.{most_price}
use Rattle.register.specs.Keys.{rising}
use Rattle.calls.specs.declared.fields.PriceQuote.{PriceQuote}
use Rattle.calls.specs.Limits.{line_within, price_within}
use Rattle.ledger.specs.declared.records.Account.{Account}
use Rattle.ledger.specs.declared.records.Row.{Row}
use Rattle.ledger.specs.declared.records.Stage.{Stage}
use Rattle.ledger.specs.State.{State, number, line_key, price_day, amount, days_of, most_rows}
use Rattle.ledger.specs.Table.{is_unopened, is_nominating, is_ended}
use Rattle.ledger.specs.Terms.{lines_of}
use Rattle.ledger.specs.Runs.{History, Leads}
use Rattle.ledger.specs.Safety.{account_within}

-- the book came here by calls alone
abbrev pub Led : State → Type 0
Led s = ∥ ((h : History) × Leads h s) ∥₁

abbrev pub no_day : Stage → Bool
no_day t = not (is_nominating t || is_ended t)

abbrev pub price_of_month : ℕ → PriceQuote → Bool
price_of_month days p = price_within p && nat_le p.day days

abbrev pub cents_bounded : Row → Bool
cents_bounded r = int_le (neg_ℤ (pos 1157500000000)) r.cents && int_le r.cents (pos 1157500000000)

-- an account's lines come to what a day can deliver
abbrev pub deliverable : State → Account → Bool
deliverable s a = nat_le (lines_of s a) 8000000

pub record Ready (s : State) : Type 0 where
  pub accounts_rise : rising number s.accounts ≡ true
  pub lines_rise : rising line_key s.lines ≡ true
  pub prices_rise : rising price_day s.prices ≡ true
  pub accounts_within : each account_within s.accounts ≡ true
  pub lines_within : each line_within s.lines ≡ true
  pub accounts_deliverable : each (deliverable s) s.accounts ≡ true
  pub prices_within : each (price_of_month (days_of s)) s.prices ≡ true
  pub rows_few : nat_le (length s.rows) (most_rows s) ≡ true
  pub rows_bounded : each cents_bounded s.rows ≡ true
  pub month_known : (is_unopened s.stage || in_calendar s.year s.month) ≡ true
  pub day_known : (no_day s.stage || nat_lt s.settled (days_of s)) ≡ true
  pub settled_few : nat_le s.settled (days_of s) ≡ true
  pub loss_within : nat_le s.loss most_loss ≡ true
  pub gas_cost_there : (s.settled == 0 || is_some s.gas_cost) ≡ true
  pub gas_cost_within : nat_le (amount s.gas_cost) most_price ≡ true
