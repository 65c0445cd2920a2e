-- The limits of every call's fields.
use Rattle.std.specs.Prelude.{ℕ, Bool, true, ◌&&◌, List, length, take, drop, ◌==◌, nat_le}
use Rattle.tariff.specs.Each.{each}
use Rattle.tariff.specs.Calendar.{in_calendar}
use Rattle.tariff.specs.Loss.{most_loss}
use Rattle.tariff.specs.Prices.{most_price}
use Rattle.tariff.specs.Postings.{postable}
use Rattle.calls.specs.declared.fields.MonthBegin.{MonthBegin}
use Rattle.calls.specs.declared.fields.AccountOpening.{AccountOpening}
use Rattle.calls.specs.declared.fields.AccountMove.{AccountMove}
use Rattle.calls.specs.declared.fields.GasCost.{GasCost}
use Rattle.calls.specs.declared.fields.PriceQuote.{PriceQuote}
use Rattle.calls.specs.declared.fields.DayBegin.{DayBegin}
use Rattle.calls.specs.declared.fields.Line.{Line}
use Rattle.calls.specs.declared.fields.Nomination.{Nomination}
use Rattle.calls.specs.declared.fields.DayEnd.{DayEnd}
use Rattle.calls.specs.declared.fields.Reallocation.{Reallocation}
use Rattle.calls.specs.declared.fields.MeterReading.{MeterReading}
use Rattle.calls.specs.declared.fields.DaySettle.{DaySettle}
use Rattle.calls.specs.declared.fields.MonthClosing.{MonthClosing}
use Rattle.calls.specs.declared.fields.PostedMaxima.{PostedMaxima}
use Rattle.calls.specs.declared.fields.Call.{Call}
use Rattle.calls.specs.declared.fields.Call.TheVariants.{BeginMonth, OpenAccount, MoveAccount, SetGasCost, SetPrice, BeginDay, Nominate, EndDay, Reallocate, Read, Settle, Close, Post}

abbrev pub between : ℕ → ℕ → ℕ → Bool
between low high n = nat_le low n && nat_le n high

abbrev pub is_account : ℕ → Bool
is_account n = between 1 999999999 n

abbrev pub is_supplier : ℕ → Bool
is_supplier n = between 1 65535 n

abbrev pub is_pipeline : ℕ → Bool
is_pipeline n = between 1 8 n

abbrev pub is_day : ℕ → Bool
is_day n = between 1 31 n

abbrev pub is_minute : ℕ → Bool
is_minute n = nat_le n 1439

abbrev pub is_price : ℕ → Bool
is_price n = nat_le n most_price

abbrev pub month_begin_within : MonthBegin → Bool
month_begin_within c = in_calendar c.year c.month && nat_le c.loss most_loss

-- an account opens with at most what it can store
abbrev pub opening_within : AccountOpening → Bool
opening_within c = is_account c.account && is_supplier c.supplier && nat_le c.capacity 100000000 && nat_le c.storage c.capacity

abbrev pub move_within : AccountMove → Bool
move_within c = is_account c.account && is_supplier c.supplier

abbrev pub gas_cost_within : GasCost → Bool
gas_cost_within c = is_price c.gas_cost

abbrev pub price_within : PriceQuote → Bool
price_within c = is_day c.day && is_price c.index && is_price c.market

abbrev pub day_begin_within : DayBegin → Bool
day_begin_within c = is_day c.day && nat_le c.kind 1

abbrev pub line_within : Line → Bool
line_within l = is_account l.account && is_pipeline l.pipeline && nat_le l.therms 1000000

abbrev pub nomination_within : Nomination → Bool
nomination_within c = line_within c.line && is_minute c.minute

abbrev pub blank_line : Line
blank_line = record { account = 0; pipeline = 0; therms = 0 }

abbrev pub is_blank : Line → Bool
is_blank l = l.account == 0 && l.pipeline == 0 && l.therms == 0

-- the lines that a reallocation names, and the places past them
abbrev pub named_lines : Reallocation → List Line
named_lines c = take c.count c.lines

abbrev pub places_past : Reallocation → List Line
places_past c = drop c.count c.lines

-- 1 to 200 lines stand first among 200 places, and the others are blank
abbrev pub reallocation_within : Reallocation → Bool
reallocation_within c =
    is_supplier c.supplier && is_minute c.minute && between 1 200 c.count && length c.lines == 200
    && each line_within (named_lines c) && each is_blank (places_past c)

abbrev pub reading_within : MeterReading → Bool
reading_within c = is_account c.account && nat_le c.therms 8000000

abbrev pub posting_within : PostedMaxima → Bool
posting_within c = postable c.day c.max_injection c.max_withdrawal

abbrev pub day_end_within : DayEnd → Bool
day_end_within c = true

abbrev pub settle_within : DaySettle → Bool
settle_within c = true

abbrev pub closing_within : MonthClosing → Bool
closing_within c = true

abbrev pub within : Call → Bool
within (BeginMonth c) = month_begin_within c
within (OpenAccount c) = opening_within c
within (MoveAccount c) = move_within c
within (SetGasCost c) = gas_cost_within c
within (SetPrice c) = price_within c
within (BeginDay c) = day_begin_within c
within (Nominate c) = nomination_within c
within (EndDay c) = day_end_within c
within (Reallocate c) = reallocation_within c
within (Read c) = reading_within c
within (Settle c) = settle_within c
within (Close c) = closing_within c
within (Post c) = posting_within c
