-- The day of two accounts, from the book's making to the settled rows.
use Rattle.std.specs.Prelude.{◌≡◌, ℕ, ◌-◌, List, [], ◌∷◌, ◌++◌, length, replicate, ℤ, pos, neg_ℤ, Err}
use Rattle.tariff.specs.Calendar.{date}
use Rattle.tariff.specs.Ordinary.{ordinary}
use Rattle.tariff.specs.Critical.{critical}
use Rattle.calls.specs.declared.fields.Line.{Line}
use Rattle.calls.specs.declared.fields.Call.{Call}
use Rattle.calls.specs.declared.fields.Call.TheVariants.{BeginMonth, OpenAccount, SetGasCost, SetPrice, BeginDay, Nominate, EndDay, Reallocate, Read, Settle}
use Rattle.calls.specs.declared.refusal.Refusal.TheVariants.{OutsideWindow, TotalChanged, ReadingMissing}
use Rattle.calls.specs.Limits.{blank_line}
use Rattle.tariff.specs.declared.tiers.Tiers.{Tiers}
use Rattle.ledger.specs.declared.records.Row.{Row}
use Rattle.ledger.specs.declared.records.RowKind.TheVariants as Kinds
use Rattle.ledger.specs.State.{State}
use Rattle.ledger.specs.Rows.{Rules}
use Rattle.ledger.specs.Runs.{fresh_book, answered, run}

abbrev pub published : Rules
published = record { ordinary = ordinary; critical = critical }

abbrev pub line : ℕ → ℕ → ℕ → Line
line account pipeline therms = record { account = account; pipeline = pipeline; therms = therms }

abbrev pub opening : ℕ → ℕ → ℕ → Call
opening account capacity storage = OpenAccount (record { account = account; supplier = 12; capacity = capacity; storage = storage })

abbrev pub nomination : ℕ → ℕ → ℕ → Call
nomination account therms minute = Nominate (record { line = line account 1 therms; minute = minute })

abbrev pub reallocation : ℕ → List Line → Call
reallocation minute lines =
    Reallocate (record { supplier = 12; minute = minute; count = length lines; lines = lines ++ replicate (200 - length lines) blank_line })

abbrev pub reading : ℕ → ℕ → Call
reading account therms = Read (record { account = account; therms = therms })

-- up to the reallocation
abbrev pub morning : List Call
morning =
    BeginMonth (record { year = 2025; month = 8; loss = 150 })
    ∷ opening 7001 100000 40000
    ∷ opening 7002 50000 100
    ∷ SetGasCost (record { gas_cost = 3000 })
    ∷ SetPrice (record { day = 1; index = 2800; market = 2800 })
    ∷ BeginDay (record { day = 1; kind = 0 })
    ∷ nomination 7001 2000 600
    ∷ nomination 7002 1000 780
    ∷ EndDay (record {})
    ∷ []

abbrev pub shift : Call
shift = reallocation 810 (line 7001 1 1800 ∷ line 7002 1 1200 ∷ [])

abbrev pub evening : List Call
evening = shift ∷ reading 7001 500 ∷ reading 7002 1600 ∷ Settle (record {}) ∷ []

abbrev pub start : State
start = fresh_book 16 128 31 512

abbrev pub ended : State
ended = run published start morning

-- the day's rows
abbrev pub written : List Row
written = (run published ended evening).rows

abbrev pub tiers : ℕ → ℕ → ℕ → Tiers ℕ
tiers a b c = record { first = a; second = b; third = c }

abbrev pub day_row : ℕ → ℕ → ℕ → ℕ → ℕ → Tiers ℕ → Tiers ℕ → ℕ → ℤ → Row
day_row account delivered used injected withdrawn bought sold storage cents = record {
  kind = Kinds.Day;
  date = date 2025 8 1;
  account = account;
  supplier = 12;
  delivered = delivered;
  used = used;
  injected = injected;
  withdrawn = withdrawn;
  bought = bought;
  sold = sold;
  authorized = 0;
  unauthorized = 0;
  storage_after = storage;
  cents = cents;
}

pub record ExampleDay : Type 0 where
  -- the whole day, to its rows
  pub rows : written
      ≡ day_row 7001 1773 500 700 0 (tiers 0 0 0) (tiers 70 70 433) 40700 (neg_ℤ (pos 10900))
      ∷ day_row 7002 1182 1600 0 100 (tiers 15 15 288) (tiers 0 0 0) 0 (pos 13064)
      ∷ []
  -- a shift before its window, one that moves a pipeline's total, and a settling without a reading
  pub too_early : answered ended (reallocation 809 (line 7001 1 1800 ∷ line 7002 1 1200 ∷ [])) ≡ Err OutsideWindow
  pub total_moved : answered ended (reallocation 810 (line 7001 1 1800 ∷ line 7002 1 1201 ∷ [])) ≡ Err (TotalChanged 1)
  pub unread : answered (run published ended (reading 7002 1600 ∷ [])) (Settle (record {})) ≡ Err (ReadingMissing 7001)
