-- Which call is refused, and why. Every number has its condition; the smallest number whose condition holds is the refusal.
use Rattle.std.specs.Prelude.{◌≡◌, ℕ, ◌+◌, ◌<◌, Bool, true, false, cond, not, ◌&&◌, ◌||◌, List, [], ◌∷◌, map, length, is_some, Some, None, Option, ◌==◌, nat_le, nat_lt}
use Rattle.std.specs.List.{find}
use Rattle.std.specs.List.{ContainsAt, AllByRecursion}
use Rattle.tariff.specs.Calendar.{critical_season, following}
use Rattle.calls.specs.declared.fields.Line.{Line}
use Rattle.calls.specs.declared.fields.Call.{Call}
use Rattle.calls.specs.declared.fields.Call.TheVariants.{BeginMonth, OpenAccount, MoveAccount, SetGasCost, SetPrice, BeginDay, Nominate, EndDay, Reallocate, Read, Settle, Close, Post}
use Rattle.calls.specs.declared.refusal.Refusal.{Refusal}
use Rattle.calls.specs.declared.refusal.Refusal.TheVariants.{OutsideLimits, WrongStage, NoAccount, AlreadyOpen, GasCostGiven, PriceGiven, ReadingGiven, LineRepeated, NoSpace, OutsideWindow, NotDue, OutOfSeason, OtherSupplier, TotalChanged, PriceMissing, ReadingMissing}
use Rattle.calls.specs.Limits.{within, between, named_lines}
use Rattle.calls.specs.Refusals.{number_of}
use Rattle.ledger.specs.declared.records.Account.{Account}
use Rattle.ledger.specs.declared.records.Stage.{Stage}
use Rattle.ledger.specs.declared.records.Stage.TheVariants.{Unopened, Between, Nominating, Ended, Closed}
use Rattle.ledger.specs.State.{State, most_accounts, most_rows, days_of, known, account_at, price_on, line_at, line_key, supplier_of, therms_at, standing, on_pipeline}

-- a condition that holds names its refusal
abbrev pub Condition : Type 0
Condition = Option Refusal

abbrev pub refuse_if : Bool → Refusal → Condition
refuse_if b r = cond b (Some r) None

-- a refusal that names what was picked
abbrev pub refuse_naming : {X : Type 0} → (X → Refusal) → Option X → Condition
refuse_naming name None = None
refuse_naming name (Some x) = Some (name x)

-- stages
abbrev pub is_unopened : Stage → Bool
is_unopened Unopened = true
is_unopened Between = false
is_unopened (Nominating k) = false
is_unopened (Ended k) = false
is_unopened Closed = false

abbrev pub is_between : Stage → Bool
is_between Unopened = false
is_between Between = true
is_between (Nominating k) = false
is_between (Ended k) = false
is_between Closed = false

abbrev pub is_nominating : Stage → Bool
is_nominating Unopened = false
is_nominating Between = false
is_nominating (Nominating k) = true
is_nominating (Ended k) = false
is_nominating Closed = false

abbrev pub is_ended : Stage → Bool
is_ended Unopened = false
is_ended Between = false
is_ended (Nominating k) = false
is_ended (Ended k) = true
is_ended Closed = false

abbrev pub is_closed : Stage → Bool
is_closed Unopened = false
is_closed Between = false
is_closed (Nominating k) = false
is_closed (Ended k) = false
is_closed Closed = true

-- a month is open
abbrev pub in_month : Stage → Bool
in_month t = is_between t || is_nominating t || is_ended t

-- the stages in which a call is taken; a posting is none of the book's calls
abbrev pub taken_in : Stage → Call → Bool
taken_in t (BeginMonth c) = is_unopened t || is_closed t
taken_in t (OpenAccount c) = is_between t
taken_in t (MoveAccount c) = is_between t
taken_in t (SetGasCost c) = in_month t
taken_in t (SetPrice c) = in_month t
taken_in t (BeginDay c) = is_between t
taken_in t (Nominate c) = is_nominating t
taken_in t (EndDay c) = is_nominating t
taken_in t (Reallocate c) = is_ended t
taken_in t (Read c) = is_ended t
taken_in t (Settle c) = is_ended t
taken_in t (Close c) = is_between t
taken_in t (Post c) = false

-- the accounts that a call takes for open, in its order
abbrev pub accounts_meant : Call → List ℕ
accounts_meant (BeginMonth c) = []
accounts_meant (OpenAccount c) = []
accounts_meant (MoveAccount c) = c.account ∷ []
accounts_meant (SetGasCost c) = []
accounts_meant (SetPrice c) = []
accounts_meant (BeginDay c) = []
accounts_meant (Nominate c) = c.line.account ∷ []
accounts_meant (EndDay c) = []
accounts_meant (Reallocate c) = map (λ l. l.account) (named_lines c)
accounts_meant (Read c) = c.account ∷ []
accounts_meant (Settle c) = []
accounts_meant (Close c) = []
accounts_meant (Post c) = []

-- the first line that repeats an earlier one, by account and pipeline
abbrev pub among : ℕ → List Line → Bool
among k [] = false
among k (l ∷ ls) = line_key l == k || among k ls

abbrev pub first_repeated : List Line → List Line → Option Line
first_repeated earlier [] = None
first_repeated earlier (l ∷ ls) = cond (among (line_key l) earlier) (Some l) (first_repeated (l ∷ earlier) ls)

abbrev pub has_reading : Account → Bool
has_reading a = is_some a.reading

abbrev pub read_already : Option Account → Bool
read_already None = false
read_already (Some a) = has_reading a

-- what was given already
abbrev pub given_already : State → Call → Condition
given_already s (BeginMonth c) = None
given_already s (OpenAccount c) = refuse_if (known c.account s.accounts) (AlreadyOpen c.account)
given_already s (MoveAccount c) = None
given_already s (SetGasCost c) = refuse_if (is_some s.gas_cost) GasCostGiven
given_already s (SetPrice c) = refuse_if (is_some (price_on c.day s.prices)) (PriceGiven c.day)
given_already s (BeginDay c) = None
given_already s (Nominate c) = None
given_already s (EndDay c) = None
given_already s (Reallocate c) = refuse_naming (λ l. LineRepeated l.account) (first_repeated [] (named_lines c))
given_already s (Read c) = refuse_if (read_already (account_at c.account s.accounts)) (ReadingGiven c.account)
given_already s (Settle c) = None
given_already s (Close c) = None
given_already s (Post c) = None

-- how many lines do not stand yet
abbrev pub is_absent : List Line → Line → Bool
is_absent lines l = not (is_some (line_at l.account l.pipeline lines))

abbrev pub count_absent : List Line → List Line → ℕ
count_absent lines [] = 0
count_absent lines (l ∷ ls) = cond (is_absent lines l) 1 0 + count_absent lines ls

-- so many more find no room; what adds nothing always does
abbrev pub no_room : ℕ → ℕ → ℕ → Bool
no_room held more room = nat_lt 0 more && nat_lt room (held + more)

-- what a call adds or writes finds no room
abbrev pub no_space : State → Call → Bool
no_space s (BeginMonth c) = false
no_space s (OpenAccount c) = no_room (length s.accounts) 1 (most_accounts s)
no_space s (MoveAccount c) = false
no_space s (SetGasCost c) = false
no_space s (SetPrice c) = no_room (length s.prices) 1 s.price_room
no_space s (BeginDay c) = false
no_space s (Nominate c) = no_room (length s.lines) (count_absent s.lines (c.line ∷ [])) s.line_room
no_space s (EndDay c) = false
no_space s (Reallocate c) = no_room (length s.lines) (count_absent s.lines (named_lines c)) s.line_room
no_space s (Read c) = false
no_space s (Settle c) = no_room (length s.rows) (length s.accounts) (most_rows s)
no_space s (Close c) = no_room (length s.rows) (length s.accounts) (most_rows s)
no_space s (Post c) = false

-- nominations until 1:00 P.M., reallocations from 1:30 to 3:30 P.M.
abbrev pub in_window : Call → Bool
in_window (BeginMonth c) = true
in_window (OpenAccount c) = true
in_window (MoveAccount c) = true
in_window (SetGasCost c) = true
in_window (SetPrice c) = true
in_window (BeginDay c) = true
in_window (Nominate c) = nat_le c.minute 780
in_window (EndDay c) = true
in_window (Reallocate c) = between 810 930 c.minute
in_window (Read c) = true
in_window (Settle c) = true
in_window (Close c) = true
in_window (Post c) = true

abbrev pub is_month : ℕ → ℕ → Option (ℕ × ℕ) → Bool
is_month year month None = false
is_month year month (Some m) = year == m.0 && month == m.1

-- the month that follows a closed one, the next day, a day of the month, all days settled
abbrev pub is_due : State → Call → Bool
is_due s (BeginMonth c) = not (is_closed s.stage) || is_month c.year c.month (following s.year s.month)
is_due s (OpenAccount c) = true
is_due s (MoveAccount c) = true
is_due s (SetGasCost c) = true
is_due s (SetPrice c) = nat_le c.day (days_of s)
is_due s (BeginDay c) = c.day == s.settled + 1 && nat_le c.day (days_of s)
is_due s (Nominate c) = true
is_due s (EndDay c) = true
is_due s (Reallocate c) = true
is_due s (Read c) = true
is_due s (Settle c) = true
is_due s (Close c) = s.settled == days_of s
is_due s (Post c) = true

-- a Critical Day from May to October
abbrev pub out_of_season : State → Call → Bool
out_of_season s (BeginMonth c) = false
out_of_season s (OpenAccount c) = false
out_of_season s (MoveAccount c) = false
out_of_season s (SetGasCost c) = false
out_of_season s (SetPrice c) = false
out_of_season s (BeginDay c) = c.kind == 1 && not (critical_season s.month)
out_of_season s (Nominate c) = false
out_of_season s (EndDay c) = false
out_of_season s (Reallocate c) = false
out_of_season s (Read c) = false
out_of_season s (Settle c) = false
out_of_season s (Close c) = false
out_of_season s (Post c) = false

-- the lines that a reallocation names, and the supplier that it is for
abbrev pub shifted : Call → List Line
shifted (BeginMonth c) = []
shifted (OpenAccount c) = []
shifted (MoveAccount c) = []
shifted (SetGasCost c) = []
shifted (SetPrice c) = []
shifted (BeginDay c) = []
shifted (Nominate c) = []
shifted (EndDay c) = []
shifted (Reallocate c) = named_lines c
shifted (Read c) = []
shifted (Settle c) = []
shifted (Close c) = []
shifted (Post c) = []

abbrev pub shifted_by : Call → ℕ
shifted_by (BeginMonth c) = 0
shifted_by (OpenAccount c) = 0
shifted_by (MoveAccount c) = 0
shifted_by (SetGasCost c) = 0
shifted_by (SetPrice c) = 0
shifted_by (BeginDay c) = 0
shifted_by (Nominate c) = 0
shifted_by (EndDay c) = 0
shifted_by (Reallocate c) = c.supplier
shifted_by (Read c) = 0
shifted_by (Settle c) = 0
shifted_by (Close c) = 0
shifted_by (Post c) = 0

-- a line with the therms that stand at its account and pipeline
abbrev pub as_it_stands : List Line → Line → Line
as_it_stands lines l = record { account = l.account; pipeline = l.pipeline; therms = therms_at l.account l.pipeline lines }

-- the named lines come to another total on a pipeline than what stands in their places
abbrev pub changes : State → List Line → ℕ → Bool
changes s ls p = not (standing (on_pipeline p) ls == standing (on_pipeline p) (map (as_it_stands s.lines) ls))

abbrev pub pipelines : List ℕ
pipelines = 1 ∷ 2 ∷ 3 ∷ 4 ∷ 5 ∷ 6 ∷ 7 ∷ 8 ∷ []

abbrev pub settles : Call → Bool
settles (BeginMonth c) = false
settles (OpenAccount c) = false
settles (MoveAccount c) = false
settles (SetGasCost c) = false
settles (SetPrice c) = false
settles (BeginDay c) = false
settles (Nominate c) = false
settles (EndDay c) = false
settles (Reallocate c) = false
settles (Read c) = false
settles (Settle c) = true
settles (Close c) = false
settles (Post c) = false

-- gas cost or the price of the day begun is missing
abbrev pub unpriced : State → Bool
unpriced s = not (is_some s.gas_cost && is_some (price_on (s.settled + 1) s.prices))

abbrev pub unread : List Account → Option Account
unread accounts = find (λ a. not (has_reading a)) accounts

-- a number with its condition
pub record Entry : Type 0 where
  pub number : ℕ
  pub condition : Condition

abbrev pub entry : ℕ → Condition → Entry
entry number condition = record { number = number; condition = condition }

-- the table: every number with its condition, and what it names
abbrev pub table : State → Call → List Entry
table s c =
    entry 3 (refuse_if (not (within c)) OutsideLimits)
    ∷ entry 4 (refuse_if (not (taken_in s.stage c)) WrongStage)
    ∷ entry 5 (refuse_naming NoAccount (find (λ n. not (known n s.accounts)) (accounts_meant c)))
    ∷ entry 6 (given_already s c)
    ∷ entry 7 (refuse_if (no_space s c) NoSpace)
    ∷ entry 8 (refuse_if (not (in_window c)) OutsideWindow)
    ∷ entry 9 (refuse_if (not (is_due s c)) NotDue)
    ∷ entry 10 (refuse_if (out_of_season s c) OutOfSeason)
    ∷ entry 11 (refuse_naming (λ l. OtherSupplier l.account) (find (λ l. not (supplier_of l.account s.accounts == shifted_by c)) (shifted c)))
    ∷ entry 12 (refuse_naming TotalChanged (find (changes s (shifted c)) pipelines))
    ∷ entry 13 (refuse_if (settles c && unpriced s) PriceMissing)
    ∷ entry 14 (cond (settles c) (refuse_naming (λ a. ReadingMissing a.number) (unread s.accounts)) None)
    ∷ []

abbrev pub or_else : Condition → Condition → Condition
or_else None later = later
or_else (Some r) later = Some r

-- the first condition that holds
abbrev pub first : List Entry → Condition
first [] = None
first (e ∷ es) = or_else e.condition (first es)

abbrev pub verdict : State → Call → Option Refusal
verdict s c = first (table s c)

abbrev pub Holding : ℕ → Condition → Type 0
Holding number None = Unit {0}
Holding number (Some r) = number_of r ≡ number

-- a condition that holds names a refusal of its own number
abbrev pub Own : Entry → Type 0
Own e = Holding e.number e.condition

-- the refusal is that of a number whose condition holds, and no smaller number's does
pub record Smallest (es : List Entry) (r : Refusal) : Type 0 where
  pub by : Entry
  pub there : ContainsAt es by
  pub holds : by.condition ≡ Some r
  pub none_before : AllByRecursion (λ e. e.number < by.number → e.condition ≡ None) es

-- a call is refused with a number exactly when that number's condition holds and no smaller one's does, and each number comes only
-- under its condition
pub record ByTheTable (s : State) (c : Call) : Type 0 where
  pub own : AllByRecursion Own (table s c)
  pub refused : (r : Refusal) → verdict s c ≡ Some r → Smallest (table s c) r
  pub refuses : (r : Refusal) → Smallest (table s c) r → verdict s c ≡ Some r

abbrev pub RefusedByTheTable : Type 0
RefusedByTheTable = (s : State) (c : Call) → ByTheTable s c

-- how many numbers the table has
abbrev pub Numbered : ℕ → Type 0
Numbered n = (s : State) (c : Call) → length (table s c) ≡ n
