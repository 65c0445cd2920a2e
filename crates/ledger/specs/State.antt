-- What the book holds, and what can be read off it.
use Rattle.std.specs.Prelude.{ℕ, ◌+◌, ◌*◌, min, Bool, cond, ◌&&◌, List, is_some, Some, None, Option, ◌==◌}
use Rattle.tariff.specs.Calendar.{days_in}
use Rattle.register.specs.Keys.{at}
use Rattle.calls.specs.declared.fields.Line.{Line}
use Rattle.calls.specs.declared.fields.PriceQuote.{PriceQuote}
use Rattle.ledger.specs.declared.records.Account.{Account}
use Rattle.ledger.specs.declared.records.Row.{Row}
use Rattle.ledger.specs.declared.records.Stage.{Stage}
use Rattle.ledger.specs.Sums.{added}

-- the month's figures and the tables, each with the room that was lent for it
pub record State : Type 0 where
  pub stage : Stage
  pub year : ℕ
  pub month : ℕ
  pub loss : ℕ
  -- days settled of the month
  pub settled : ℕ
  pub gas_cost : Option ℕ
  pub accounts : List Account
  pub lines : List Line
  pub prices : List PriceQuote
  pub rows : List Row
  pub account_room : ℕ
  pub line_room : ℕ
  pub price_room : ℕ
  pub row_room : ℕ

-- a book has at most 600 accounts and 1,000,000 rows, whatever was lent
abbrev pub most_accounts : State → ℕ
most_accounts s = min s.account_room 600

abbrev pub most_rows : State → ℕ
most_rows s = min s.row_room 1000000

abbrev pub days_of : State → ℕ
days_of s = days_in s.year s.month

abbrev pub number : Account → ℕ
number a = a.number

abbrev pub line_key : Line → ℕ
line_key l = l.account * 16 + l.pipeline

abbrev pub price_day : PriceQuote → ℕ
price_day p = p.day

abbrev pub account_at : ℕ → List Account → Option Account
account_at n accounts = at number n accounts

abbrev pub known : ℕ → List Account → Bool
known n accounts = is_some (account_at n accounts)

abbrev pub price_on : ℕ → List PriceQuote → Option PriceQuote
price_on day prices = at price_day day prices

-- the line of an account on a pipeline
abbrev pub line_at : ℕ → ℕ → List Line → Option Line
line_at account pipeline lines = at line_key (account * 16 + pipeline) lines

-- what a record shows, and 0 where there is none
abbrev pub shown : {X : Type 0} → (X → ℕ) → Option X → ℕ
shown f None = 0
shown f (Some x) = f x

abbrev pub supplier_of : ℕ → List Account → ℕ
supplier_of n accounts = shown (λ a. a.supplier) (account_at n accounts)

abbrev pub therms_at : ℕ → ℕ → List Line → ℕ
therms_at account pipeline lines = shown (λ l. l.therms) (line_at account pipeline lines)

abbrev pub storage_of : ℕ → List Account → ℕ
storage_of n accounts = shown (λ a. a.storage) (account_at n accounts)

abbrev pub amount : Option ℕ → ℕ
amount o = shown (λ n. n) o

abbrev pub reading_of : ℕ → List Account → ℕ
reading_of n accounts = shown (λ a. amount a.reading) (account_at n accounts)

-- the therms of the lines that a test of account and pipeline picks
abbrev pub picked : (ℕ → ℕ → Bool) → Line → ℕ
picked test l = cond (test l.account l.pipeline) l.therms 0

abbrev pub standing : (ℕ → ℕ → Bool) → List Line → ℕ
standing test lines = added (picked test) lines

abbrev pub of_account : ℕ → ℕ → ℕ → Bool
of_account n account pipeline = account == n

abbrev pub on_pipeline : ℕ → ℕ → ℕ → Bool
on_pipeline p account pipeline = pipeline == p

abbrev pub of_supplier : (ℕ → ℕ) → ℕ → ℕ → ℕ → ℕ → Bool
of_supplier supplier s p account pipeline = supplier account == s && pipeline == p
