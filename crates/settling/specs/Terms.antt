-- What a gas day is settled by, and a month closed by, read off the tariff's own values.
use Rattle.std.specs.Prelude.{ℕ}
use Rattle.tariff.specs.declared.calendar.Month.{Month}
use Rattle.tariff.specs.declared.prices.MonthPrices.{MonthPrices}
use Rattle.tariff.specs.declared.settling.GasDay.{GasDay}
use Rattle.tariff.specs.Calendar.{date}
use Rattle.ledger.specs.Terms.{DayTerms, CloseTerms}

abbrev pub terms_of_day : GasDay → DayTerms
terms_of_day d = record {
  date = date d.month.year d.month.number d.day;
  loss = d.loss.hundredths;
  gas_cost = d.prices.gas_cost.hundredths;
  index = d.prices.index.hundredths;
  market = d.prices.market.hundredths;
}

abbrev pub terms_of_close : Month → ℕ → MonthPrices → CloseTerms
terms_of_close m day p = record {
  last_day = date m.year m.number day;
  gas_cost = p.gas_cost.hundredths;
  average_index = p.average_index.hundredths;
}
