-- What is claimed of the book over all runs.
use Rattle.std.specs.Prelude.{◌≡◌, ℕ, ◌+◌, ◌<◌, ◌≤◌, Bool, true, false, cond, List, [], ◌∷◌, ◌++◌, ℤ, pos, ◌==◌}
use Rattle.std.specs.List.{AllByRecursion}
use Rattle.tariff.specs.declared.question.Figures.{Figures}
use Rattle.tariff.specs.Figures.{fair}
use Rattle.tariff.specs.Published.{maxima_of, band_of}
use Rattle.register.specs.Keys.{rising}
use Rattle.calls.specs.declared.fields.Call.{Call}
use Rattle.calls.specs.declared.fields.Call.TheVariants.{BeginMonth, OpenAccount, MoveAccount, SetGasCost, SetPrice, BeginDay, Nominate, EndDay, Reallocate, Read, Settle, Close, Post}
use Rattle.ledger.specs.declared.records.Account.{Account}
use Rattle.tariff.specs.declared.tiers.Tiers.{Tiers}
use Rattle.ledger.specs.declared.records.Row.{Row}
use Rattle.ledger.specs.Sums.{added, owed, below, belowℤ}
use Rattle.ledger.specs.State.{State, number, known, storage_of, supplier_of, standing, of_supplier}
use Rattle.ledger.specs.Table.{settles}
use Rattle.ledger.specs.Rows.{Rules, row_of_day, settled_by}
use Rattle.ledger.specs.Effects.{done, begun_kind}
use Rattle.ledger.specs.Runs.{History, Leads, fresh, refused, accepted}
use Rattle.ledger.specs.Count.{Count, count, delivered}

abbrev pub all_tiers : Tiers ℕ → ℕ
all_tiers t = t.first + t.second + t.third

-- the therms of one account's rows
abbrev pub of_rows : (Row → ℕ) → List Row → ℕ → ℕ
of_rows f rows n = added (λ r. cond (r.account == n) (f r) 0) rows

abbrev pub came : Row → ℕ
came r = all_tiers r.bought + r.authorized + r.unauthorized

abbrev pub went : Row → ℕ
went r = all_tiers r.sold

-- every therm of one account: opening storage, what pipelines and the Company brought; what was used, sold and is stored now
abbrev pub Even : Count → List Account → List Row → ℕ → Type 0
Even k accounts rows n = k.opening n + k.pipeline n + of_rows came rows n ≡ k.used n + of_rows went rows n + storage_of n accounts

-- what a supplier owes
abbrev pub statement : List Row → ℕ → ℤ
statement rows s = owed (λ r. cond (r.supplier == s) r.cents (pos 0)) rows

-- wherever a run stands
pub record Balanced (h : History) (s : State) : Type 0 where
  pub ordered : rising number s.accounts ≡ true
  pub kept : (n : ℕ) → (count h).opened n ≡ true → known n s.accounts ≡ true
  pub even : (n : ℕ) → (count h).opened n ≡ true → Even (count h) s.accounts s.rows n
  -- storage is within zero and capacity
  pub stored : AllByRecursion (λ a. a.storage ≤ a.capacity) s.accounts
  -- each row is counted in one statement
  pub once : AllByRecursion (λ r. below 65536 (λ t. cond (r.supplier == t) 1 0) ≡ 1) s.rows
  pub statements : belowℤ 65536 (statement s.rows) ≡ owed (λ r. r.cents) s.rows

-- a row is what the day's rule answered to the account's question, at the tariff's cents; the question is put of what the gas count has
pub record Answered (k : Count) (s : State) (rules : Rules) (a : Account) (r : Row) : Type 0 where
  pub question : Figures
  pub possible : fair question ≡ true
  pub day : question.day ≡ s.settled + 1
  pub brought : question.delivered ≡ delivered k a.number
  pub used : question.used ≡ k.reading a.number
  pub storage : question.storage ≡ a.storage
  pub capacity : question.capacity ≡ a.capacity
  pub injection : question.max_injection ≡ (maxima_of s.month a.capacity).injection
  pub withdrawal : question.max_withdrawal ≡ (maxima_of s.month a.capacity).withdrawal
  pub columns : r ≡ row_of_day s a question (settled_by rules (begun_kind s.stage) s question)

-- account for account, row for row
abbrev pub Paired : (Account → Row → Type 0) → List Account → List Row → Type 0
Paired R [] [] = Unit {0}
Paired R [] (r ∷ rows) = ⊥
Paired R (a ∷ accounts) [] = ⊥
Paired R (a ∷ accounts) (r ∷ rows) = R a r × Paired R accounts rows

abbrev pub closes : Call → Bool
closes (BeginMonth c) = false
closes (OpenAccount c) = false
closes (MoveAccount c) = false
closes (SetGasCost c) = false
closes (SetPrice c) = false
closes (BeginDay c) = false
closes (Nominate c) = false
closes (EndDay c) = false
closes (Reallocate c) = false
closes (Read c) = false
closes (Settle c) = false
closes (Close c) = true
closes (Post c) = false

abbrev pub InBand : ℕ → Account → Type 0
InBand month a = ((band_of month a.capacity).lowest ≤ a.storage) × (a.storage ≤ (band_of month a.capacity).highest)

-- at a call that is accepted
pub record Straight (h : History) (s : State) (c : Call) (rules : Rules) : Type 0 where
  -- at a settling every supplier's total on every pipeline is what stood nominated when the gas day ended
  pub nominated : settles c ≡ true → (supplier pipeline : ℕ) → pipeline < 9
      → standing (of_supplier (λ n. supplier_of n s.accounts) supplier pipeline) s.lines ≡ (count h).noted supplier pipeline
  -- a row is its supplier's, who had the account when it was written
  pub charged : (new : List Row) → (done rules s c).rows ≡ s.rows ++ new → AllByRecursion (λ r. r.supplier ≡ (count h).supplier r.account) new
  -- a settling writes a row for every account, in rising number
  pub answered : settles c ≡ true → (new : List Row) → (done rules s c).rows ≡ s.rows ++ new → Paired (Answered (count h) s rules) s.accounts new
  -- a close leaves every account within the month's band
  pub banded : closes c ≡ true → AllByRecursion (InBand s.month) (done rules s c).accounts

-- at every accepted call of a run
abbrev pub StraightAllAlong : {h : History} {s : State} → Leads h s → Type 0
StraightAllAlong (fresh a l p r) = Unit {0}
StraightAllAlong (refused c rules r l v) = StraightAllAlong l
StraightAllAlong (accepted {h = h} {s = s} c rules l o k v) = Straight h s c rules × StraightAllAlong l

abbrev pub LawOverRuns : Type 0
LawOverRuns = (h : History) (s : State) (l : Leads h s) → Balanced h s × StraightAllAlong l

-- so the statements below this number are all
abbrev pub SuppliersBelow : ℕ → Type 0
SuppliersBelow n = (h : History) (s : State) → Leads h s → AllByRecursion (λ r. r.supplier < n) s.rows
