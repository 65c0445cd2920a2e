-- The law over every run.
use Rattle.std.proofs.Common.{◌≡◌, ◌<◌, ◌≤◌, true, cond, eqb, List, [], ◌∷◌, ◌++◌, map, Some, ap, ◌∙◌, subst}
use mathlib.Core.Path.{fun_ext}
use Rattle.std.specs.List.{AllByRecursion}
use Rattle.std.proofs.lemmas.Bool.{false≢true}
use Rattle.std.proofs.ByRecursion.{All-weaker}
use Rattle.std.proofs.lemmas.List.{append-nil, append_cancel_left}
use Rattle.calls.specs.declared.fields.Call.{Call}
use Rattle.calls.specs.declared.fields.Call.TheVariants.{BeginMonth, OpenAccount, MoveAccount, SetGasCost, SetPrice, BeginDay, Nominate, EndDay, Reallocate, Read, Settle, Close, Post}
use Rattle.ledger.specs.declared.records.Account.{Account}
use Rattle.ledger.specs.declared.records.Row.{Row}
use Rattle.ledger.specs.Sums.{below}
use Rattle.ledger.specs.State.{State, number, account_at, standing, of_supplier}
use Rattle.ledger.specs.Table.{settles, is_ended}
use Rattle.ledger.specs.Rows.{Rules, settled_row, closed_account}
use Rattle.ledger.specs.Effects.{done, begun_kind}
use Rattle.ledger.specs.Runs.{History, Leads, fresh, refused, accepted}
use Rattle.ledger.specs.Count.{Count, count}
use Rattle.ledger.specs.Claim.{Answered, Paired, closes, InBand, Balanced, Straight, StraightAllAlong, LawOverRuns, SuppliersBelow}
use Rattle.ledger.proofs.Found.{self_at}
use Rattle.ledger.proofs.Totals.{by_group, below_one}
use Rattle.ledger.proofs.Accounts.{Sound}
use Rattle.ledger.proofs.Written.{rows_charged}
use Rattle.ledger.proofs.Invariant.{Holds, InRange, holds_fresh}
use Rattle.ledger.proofs.Days.{settled_rows, closed_rows, answered_row, in_band}
use Rattle.ledger.proofs.Accepted.{Accepted, facts}
use Rattle.ledger.proofs.Steps.{step, ended_in}

pub holds : {h : History} {s : State} → Leads h s → Holds (count h) s
holds (fresh a l p r) = holds_fresh a l p r
holds (refused c rules r l v) = holds l
holds (accepted {h = h} {s = s} c rules l lo lc v) = step (count h) s c rules (holds l) lo lc (facts s c v)

pub balanced : (h : History) (s : State) → Holds (count h) s → Balanced h s
balanced h s i =
    let agree = i.accounts in
    record {
      ordered = agree.ordered;
      kept = λ n e. agree.known_if n ∙ e;
      even = λ n e. i.even n;
      stored = All-weaker Sound (λ a. a.storage ≤ a.capacity) (λ a x. x.within) s.accounts agree.sound;
      once = All-weaker InRange (λ r. below 65536 (λ t. cond (eqb r.supplier t) 1 0) ≡ 1) (λ r x. below_one 65536 r.supplier x.1) s.rows i.rows;
      statements = by_group 65536 (λ r. r.supplier) (λ r. r.cents) s.rows (All-weaker InRange (λ r. r.supplier < 65536) (λ r x. x.1) s.rows i.rows);
    }

all_both : {X : Type 0} (P Q R : X → Type 0) → ((x : X) → P x → Q x → R x) → (xs : List X) → AllByRecursion P xs → AllByRecursion Q xs → AllByRecursion R xs
all_both P Q R f [] a b = tt
all_both P Q R f (x ∷ xs) a b = (f x a.0 b.0, all_both P Q R f xs a.1 b.1)

-- only an ended day is settled
settles_ended : (s : State) (c : Call) → Accepted s c → settles c ≡ true → is_ended s.stage ≡ true
settles_ended s (BeginMonth c) ok e = absurd (false≢true e)
settles_ended s (OpenAccount c) ok e = absurd (false≢true e)
settles_ended s (MoveAccount c) ok e = absurd (false≢true e)
settles_ended s (SetGasCost c) ok e = absurd (false≢true e)
settles_ended s (SetPrice c) ok e = absurd (false≢true e)
settles_ended s (BeginDay c) ok e = absurd (false≢true e)
settles_ended s (Nominate c) ok e = absurd (false≢true e)
settles_ended s (EndDay c) ok e = absurd (false≢true e)
settles_ended s (Reallocate c) ok e = absurd (false≢true e)
settles_ended s (Read c) ok e = absurd (false≢true e)
settles_ended s (Settle c) ok e = ok.stage
settles_ended s (Close c) ok e = absurd (false≢true e)
settles_ended s (Post c) ok e = absurd (false≢true e)

module _ (k : Count) (s : State) (i : Holds k s) where
  charged : (more new : List Row) → AllByRecursion (λ r. r.supplier ≡ k.supplier r.account) more → s.rows ++ more ≡ s.rows ++ new → AllByRecursion (λ r. r.supplier ≡ k.supplier r.account) new
  charged more new a e = subst (AllByRecursion (λ r. r.supplier ≡ k.supplier r.account)) (append_cancel_left s.rows more new e) a

  unwritten : (new : List Row) → s.rows ≡ s.rows ++ new → AllByRecursion (λ r. r.supplier ≡ k.supplier r.account) new
  unwritten new e = charged [] new tt (append-nil s.rows ∙ e)

  pub wrote : (c : Call) (rules : Rules) (new : List Row) → (done rules s c).rows ≡ s.rows ++ new → AllByRecursion (λ r. r.supplier ≡ k.supplier r.account) new
  wrote (BeginMonth c) rules new e = unwritten new e
  wrote (OpenAccount c) rules new e = unwritten new e
  wrote (MoveAccount c) rules new e = unwritten new e
  wrote (SetGasCost c) rules new e = unwritten new e
  wrote (SetPrice c) rules new e = unwritten new e
  wrote (BeginDay c) rules new e = unwritten new e
  wrote (Nominate c) rules new e = unwritten new e
  wrote (EndDay c) rules new e = unwritten new e
  wrote (Reallocate c) rules new e = unwritten new e
  wrote (Read c) rules new e = unwritten new e
  wrote (Settle c) rules new e = charged _ new (rows_charged i.accounts (settled_rows rules (begun_kind s.stage) s)) e
  wrote (Close c) rules new e = charged _ new (rows_charged i.accounts (closed_rows s)) e
  wrote (Post c) rules new e = unwritten new e

-- a row for every account
paired : (R : Account → Row → Type 0) (row : Account → Row) (accounts : List Account) → AllByRecursion (λ a. R a (row a)) accounts → Paired R accounts (map row accounts)
paired R row [] a = tt
paired R row (x ∷ xs) a = (a.0, paired R row xs a.1)

rows_answered : (k : Count) (s : State) → Holds k s → (c : Call) (rules : Rules) → Accepted s c → settles c ≡ true → (new : List Row) → (done rules s c).rows ≡ s.rows ++ new
    → Paired (Answered k s rules) s.accounts new
rows_answered k s i (BeginMonth c) rules ok e new w = absurd (false≢true e)
rows_answered k s i (OpenAccount c) rules ok e new w = absurd (false≢true e)
rows_answered k s i (MoveAccount c) rules ok e new w = absurd (false≢true e)
rows_answered k s i (SetGasCost c) rules ok e new w = absurd (false≢true e)
rows_answered k s i (SetPrice c) rules ok e new w = absurd (false≢true e)
rows_answered k s i (BeginDay c) rules ok e new w = absurd (false≢true e)
rows_answered k s i (Nominate c) rules ok e new w = absurd (false≢true e)
rows_answered k s i (EndDay c) rules ok e new w = absurd (false≢true e)
rows_answered k s i (Reallocate c) rules ok e new w = absurd (false≢true e)
rows_answered k s i (Read c) rules ok e new w = absurd (false≢true e)
rows_answered k s i (Settle c) rules ok e new w =
    let row = settled_row rules (begun_kind s.stage) s in
    let each = all_both Sound (λ a. account_at a.number s.accounts ≡ Some a) (λ a. Answered k s rules a (row a))
    (λ a x q. answered_row k s i (i.day (ended_in s.stage ok.stage)) rules a x q) s.accounts i.accounts.sound (self_at number s.accounts i.accounts.ordered) in
    subst (Paired (Answered k s rules) s.accounts) (append_cancel_left s.rows (map row s.accounts) new w) (paired (Answered k s rules) row s.accounts each)
rows_answered k s i (Close c) rules ok e new w = absurd (false≢true e)
rows_answered k s i (Post c) rules ok e new w = absurd (false≢true e)

closed_in_band : (s : State) (c : Call) (rules : Rules) → closes c ≡ true → AllByRecursion (InBand s.month) (done rules s c).accounts
closed_in_band s (BeginMonth c) rules e = absurd (false≢true e)
closed_in_band s (OpenAccount c) rules e = absurd (false≢true e)
closed_in_band s (MoveAccount c) rules e = absurd (false≢true e)
closed_in_band s (SetGasCost c) rules e = absurd (false≢true e)
closed_in_band s (SetPrice c) rules e = absurd (false≢true e)
closed_in_band s (BeginDay c) rules e = absurd (false≢true e)
closed_in_band s (Nominate c) rules e = absurd (false≢true e)
closed_in_band s (EndDay c) rules e = absurd (false≢true e)
closed_in_band s (Reallocate c) rules e = absurd (false≢true e)
closed_in_band s (Read c) rules e = absurd (false≢true e)
closed_in_band s (Settle c) rules e = absurd (false≢true e)
closed_in_band s (Close c) rules e = every s.accounts
  where
    every : (xs : List Account) → AllByRecursion (InBand s.month) (map (closed_account s) xs)
    every [] = tt
    every (x ∷ xs) = (in_band s x, every xs)
closed_in_band s (Post c) rules e = absurd (false≢true e)

straight : (h : History) (s : State) (c : Call) (rules : Rules) → Holds (count h) s → Accepted s c → Straight h s c rules
straight h s c rules i ok = record {
  nominated = λ e sup p l.
      ap (λ f. standing (of_supplier f sup p) s.lines) (fun_ext i.accounts.suppliers) ∙ i.lines.totals sup p l ∙ i.noted (settles_ended s c ok e) sup p l;
  charged = wrote (count h) s i c rules;
  answered = rows_answered (count h) s i c rules ok;
  banded = closed_in_band s c rules;
}

pub straight_all_along : {h : History} {s : State} (l : Leads h s) → StraightAllAlong l
straight_all_along (fresh a l p r) = tt
straight_all_along (refused c rules r l v) = straight_all_along l
straight_all_along (accepted {h = h} {s = s} c rules l lo lc v) = (straight h s c rules (holds l) (facts s c v), straight_all_along l)

pub law_over_runs : LawOverRuns
law_over_runs h s l = (balanced h s (holds l), straight_all_along l)

pub suppliers_below : SuppliersBelow 65536
suppliers_below h s l = All-weaker InRange (λ r. r.supplier < 65536) (λ r x. x.1) s.rows (holds l).rows
