-- The fields of each kind of record: what its bytes say, and its bytes.
use Rattle.std.specs.Prelude.{ℕ, zero, suc, ◌+◌, ◌-◌, ◌*◌, List, [], ◌∷◌, ◌++◌, drop, replicate}
use Rattle.calls.specs.declared.fields.MonthBegin.{MonthBegin}
use Rattle.calls.specs.declared.fields.AccountOpening.{AccountOpening}
use Rattle.calls.specs.declared.fields.AccountMove.{AccountMove}
use Rattle.calls.specs.declared.fields.GasCost.{GasCost}
use Rattle.calls.specs.declared.fields.PriceQuote.{PriceQuote}
use Rattle.calls.specs.declared.fields.DayBegin.{DayBegin}
use Rattle.calls.specs.declared.fields.Nomination.{Nomination}
use Rattle.calls.specs.declared.fields.DayEnd.{DayEnd}
use Rattle.calls.specs.declared.fields.Reallocation.{Reallocation}
use Rattle.calls.specs.declared.fields.MeterReading.{MeterReading}
use Rattle.calls.specs.declared.fields.DaySettle.{DaySettle}
use Rattle.calls.specs.declared.fields.MonthClosing.{MonthClosing}
use Rattle.calls.specs.declared.fields.PostedMaxima.{PostedMaxima}
use Rattle.calls.specs.declared.fields.Line.{Line}
use Rattle.calls.specs.Limits.{blank_line, named_lines}
use Rattle.feed.specs.Numbers.{num1, num2, num4, one, two, four}

abbrev pub month_begin_of : List ℕ → MonthBegin
month_begin_of bs = record { year = num2 bs 0; month = num1 bs 2; loss = num2 bs 3 }

abbrev pub month_begin_bytes : MonthBegin → List ℕ
month_begin_bytes c = two c.year (one c.month (two c.loss []))

abbrev pub opening_of : List ℕ → AccountOpening
opening_of bs = record { account = num4 bs 0; supplier = num2 bs 4; capacity = num4 bs 6; storage = num4 bs 10 }

abbrev pub opening_bytes : AccountOpening → List ℕ
opening_bytes c = four c.account (two c.supplier (four c.capacity (four c.storage [])))

abbrev pub move_of : List ℕ → AccountMove
move_of bs = record { account = num4 bs 0; supplier = num2 bs 4 }

abbrev pub move_bytes : AccountMove → List ℕ
move_bytes c = four c.account (two c.supplier [])

abbrev pub gas_cost_of : List ℕ → GasCost
gas_cost_of bs = record { gas_cost = num4 bs 0 }

abbrev pub gas_cost_bytes : GasCost → List ℕ
gas_cost_bytes c = four c.gas_cost []

abbrev pub price_of : List ℕ → PriceQuote
price_of bs = record { day = num1 bs 0; index = num4 bs 1; market = num4 bs 5 }

abbrev pub price_bytes : PriceQuote → List ℕ
price_bytes c = one c.day (four c.index (four c.market []))

abbrev pub day_begin_of : List ℕ → DayBegin
day_begin_of bs = record { day = num1 bs 0; kind = num1 bs 1 }

abbrev pub day_begin_bytes : DayBegin → List ℕ
day_begin_bytes c = one c.day (one c.kind [])

-- a line: account, pipeline, therms
abbrev pub line_at : List ℕ → ℕ → Line
line_at bs i = record { account = num4 bs i; pipeline = num1 bs (i + 4); therms = num4 bs (i + 5) }

abbrev pub line_bytes : Line → List ℕ → List ℕ
line_bytes l bs = four l.account (one l.pipeline (four l.therms bs))

abbrev pub nomination_of : List ℕ → Nomination
nomination_of bs = record { line = line_at bs 0; minute = num2 bs 9 }

abbrev pub nomination_bytes : Nomination → List ℕ
nomination_bytes c = line_bytes c.line (two c.minute [])

abbrev pub day_end_of : List ℕ → DayEnd
day_end_of bs = record {}

abbrev pub day_end_bytes : DayEnd → List ℕ
day_end_bytes c = []

-- so many lines, nine bytes each
abbrev pub lines_of : ℕ → List ℕ → List Line
lines_of zero bs = []
lines_of (suc n) bs = line_at bs 0 ∷ lines_of n (drop 9 bs)

abbrev pub lines_bytes : List Line → List ℕ
lines_bytes [] = []
lines_bytes (l ∷ ls) = line_bytes l (lines_bytes ls)

-- lines first among two hundred places, and the others blank
abbrev pub padded : ℕ → List Line → List Line
padded count lines = lines ++ replicate (200 - count) blank_line

abbrev pub reallocation_of : List ℕ → Reallocation
reallocation_of bs = record {
  supplier = num2 bs 0;
  minute = num2 bs 2;
  count = num1 bs 4;
  lines = padded (num1 bs 4) (lines_of (num1 bs 4) (drop 5 bs));
}

abbrev pub reallocation_bytes : Reallocation → List ℕ
reallocation_bytes c = two c.supplier (two c.minute (one c.count (lines_bytes (named_lines c))))

-- a head's count byte says how many bytes follow it, as written
abbrev pub lines_tail : List ℕ → ℕ
lines_tail head = 9 * num1 head 4

abbrev pub reading_of : List ℕ → MeterReading
reading_of bs = record { account = num4 bs 0; therms = num4 bs 4 }

abbrev pub reading_bytes : MeterReading → List ℕ
reading_bytes c = four c.account (four c.therms [])

abbrev pub settle_of : List ℕ → DaySettle
settle_of bs = record {}

abbrev pub settle_bytes : DaySettle → List ℕ
settle_bytes c = []

abbrev pub closing_of : List ℕ → MonthClosing
closing_of bs = record {}

abbrev pub closing_bytes : MonthClosing → List ℕ
closing_bytes c = []

abbrev pub posting_of : List ℕ → PostedMaxima
posting_of bs = record { day = num1 bs 0; max_injection = num2 bs 1; max_withdrawal = num2 bs 3 }

abbrev pub posting_bytes : PostedMaxima → List ℕ
posting_bytes c = one c.day (two c.max_injection (two c.max_withdrawal []))
