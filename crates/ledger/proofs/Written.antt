-- A call that makes every account anew and writes a row for each: the settling of a day, and the close of a month.
-- What is left of each is one fact of one account.
use Rattle.std.proofs.Common.{◌≡◌, ℕ, ◌+◌, Bool, cond, eqb, List, ◌++◌, map, Some, None, Option, sym, refl, ap, ◌∙◌, arith}
use Rattle.std.specs.List.{AllByRecursion}
use Rattle.std.proofs.ByRecursion.{All-weaker, All-map}
use Rattle.ledger.specs.declared.records.Account.{Account}
use Rattle.ledger.specs.declared.records.Row.{Row}
use Rattle.register.specs.Keys.{at}
use Rattle.ledger.specs.State.{number, shown, amount, account_at, storage_of}
use Rattle.ledger.specs.Claim.{of_rows, came, went}
use Rattle.ledger.proofs.Found.{at_map, some_map, rising_map, added_at, self_at}
use Rattle.ledger.proofs.Totals.{added_append, added_map, added_same}
use Rattle.ledger.proofs.Accounts.{Sound, AccountsAgree}
use Rattle.ledger.proofs.Invariant.{InRange}

pub record Written (new : Account → Account) (row : Account → Row) : Type 0 where
  pub same_number : (a : Account) → (new a).number ≡ a.number
  pub same_supplier : (a : Account) → (new a).supplier ≡ a.supplier
  pub row_number : (a : Account) → (row a).account ≡ a.number
  pub row_supplier : (a : Account) → (row a).supplier ≡ a.supplier

module _ {opened : ℕ → Bool} {supplier reading : ℕ → ℕ} {accs : List Account} (agree : AccountsAgree opened supplier reading accs) {new : Account → Account} {row : Account → Row} (l : Written new row) where
  pub accounts_map : (after : ℕ → ℕ) → ((n : ℕ) → shown (λ a. amount (new a).reading) (account_at n accs) ≡ after n) → ((a : Account) → Sound a → Sound (new a)) → AccountsAgree opened supplier after (map new accs)
  accounts_map after read sound = record {
    ordered = rising_map number new l.same_number accs agree.ordered;
    sound = All-map Sound new accs (All-weaker Sound (λ a. Sound (new a)) sound accs agree.sound);
    known_if = λ n. some_map number new l.same_number n accs ∙ agree.known_if n;
    suppliers = λ n. at_map number new l.same_number (λ a. a.supplier) n accs ∙ same n (account_at n accs) ∙ agree.suppliers n;
    readings = λ n. at_map number new l.same_number (λ a. amount a.reading) n accs ∙ read n;
  }
    where
      same : (n : ℕ) (o : Option Account) → shown (λ a. (new a).supplier) o ≡ shown (λ a. a.supplier) o
      same n None = refl
      same n (Some a) = l.same_supplier a

  of_rows_more : (f : Row → ℕ) (rows : List Row) (n : ℕ) → of_rows f (rows ++ map row accs) n ≡ of_rows f rows n + shown (λ a. f (row a)) (account_at n accs)
  of_rows_more f rows n =
      let pick : Row → ℕ = λ r. cond (eqb r.account n) (f r) 0 in
      added_append pick rows (map row accs)
      ∙ ap (λ t. of_rows f rows n + t)
      (added_map pick row accs ∙ added_same _ _ (λ a. ap (λ m. cond (eqb m n) (f (row a)) 0) (l.row_number a)) accs ∙ added_at number (λ a. f (row a)) n accs agree.ordered)

  -- what came in and went out at one account balances, so its whole count does
  pub even_more : (rows : List Row) (n opening piped used grown drawn : ℕ)
      → opening + piped + of_rows came rows n ≡ used + of_rows went rows n + storage_of n accs
      → ((o : Option Account) → account_at n accs ≡ o → grown + shown (λ a. came (row a)) o + shown (λ a. a.storage) o ≡ drawn + shown (λ a. went (row a)) o + shown (λ a. (new a).storage) o)
      → opening + (piped + grown) + of_rows came (rows ++ map row accs) n ≡ (used + drawn) + of_rows went (rows ++ map row accs) n + storage_of n (map new accs)
  even_more rows n opening piped used grown drawn was day =
      let today = day (account_at n accs) refl in
      let bought = of_rows_more came rows n in
      let sold = of_rows_more went rows n in
      let stored = at_map number new l.same_number (λ a. a.storage) n accs in
      omega arith

  pub rows_in_range : AllByRecursion InRange (map row accs)
  rows_in_range =
      All-map InRange row accs
      (All-weaker Sound (λ a. InRange (row a)) (λ a x. (omega (arith, x.from_one, l.row_supplier a), omega (arith, x.to_limit, l.row_supplier a))) accs agree.sound)

  pub rows_charged : AllByRecursion (λ r. r.supplier ≡ supplier r.account) (map row accs)
  rows_charged =
      All-map (λ r. r.supplier ≡ supplier r.account) row accs
      (All-weaker (λ a. at number (number a) accs ≡ Some a) (λ a. (row a).supplier ≡ supplier (row a).account)
      (λ a e. l.row_supplier a ∙ sym (ap (shown (λ b. b.supplier)) e) ∙ agree.suppliers a.number ∙ ap supplier (sym (l.row_number a)))
      accs (self_at number accs agree.ordered))
