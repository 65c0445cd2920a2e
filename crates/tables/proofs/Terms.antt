-- What the day begun is settled by is within its limits, and what a month is closed by is what its values say.
use Rattle.std.proofs.Common.{◌≡◌, ℕ, ◌+◌, ◌∙◌, ap₂, true, length, Some, le_refl}
use Rattle.std.proofs.lemmas.Bool.{le-leb}
use Rattle.calls.specs.declared.fields.PriceQuote.{PriceQuote}
use Rattle.calls.specs.Limits.{is_price}
use Rattle.tariff.specs.declared.calendar.Month.{Month}
use Rattle.tariff.specs.declared.prices.MonthPrices.{MonthPrices}
use Rattle.tariff.specs.Calendar.{date, days_in}
use Rattle.tariff.specs.Prices.{average}
use Rattle.settling.specs.Terms.{terms_of_close}
use Rattle.ledger.specs.Rows.{index_total}
use Rattle.ledger.specs.Terms.{close_terms}
use Rattle.ledger.specs.State.{State, amount, days_of, price_on}
use Rattle.ledger.specs.Safety.{PricesSafe}
use Rattle.ledger.specs.Ready.{Ready, price_of_month}
use Rattle.ledger.proofs.Safety.{index_high}
use Rattle.ledger.proofs.Steps.{each_all}

module _ (s : State) (ready : Ready s) where
  prices_safe : PricesSafe (length s.prices) (days_of s) s.prices
  prices_safe = record { rise = ready.prices_rise; fit = le_refl (length s.prices); each = each_all (price_of_month (days_of s)) s.prices ready.prices_within }

  pub today_priced : (p : PriceQuote) → price_on (s.settled + 1) s.prices ≡ Some p → (is_price p.index ≡ true) × (is_price p.market ≡ true)
  today_priced p e = let high = index_high prices_safe (s.settled + 1) (Some p) e in (le-leb _ _ high.0, le-leb _ _ high.1)

-- what the month is closed by, from its own month and prices
pub closed_by : (s : State) (month : Month) (day : ℕ) (prices : MonthPrices) → month.year ≡ s.year → month.number ≡ s.month → day ≡ days_in month.year month.number → prices.gas_cost.hundredths ≡ amount s.gas_cost
    → prices.average_index.hundredths ≡ average (index_total s.prices) (days_of s) → terms_of_close month day prices ≡ close_terms s
closed_by s month day prices ey em ed eg ea = λ i. record {
  last_day = date (ey i) (em i) (last i);
  gas_cost = eg i;
  average_index = ea i;
}
  where
    last : day ≡ days_in s.year s.month
    last = ed ∙ ap₂ days_in ey em
