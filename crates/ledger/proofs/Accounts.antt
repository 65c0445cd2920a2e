-- The book's accounts and the count's agree, one account after another.
use Rattle.std.proofs.Common.{◌≡◌, ℕ, ◌<◌, ◌≤◌, Bool, true, cond, eqb, List, arith}
use mathlib.Core.Path.{fun_ext}
use Rattle.std.specs.List.{AllByRecursion}
use Rattle.std.proofs.lemmas.Bool.Decides.{nat_tests}
use Rattle.ledger.specs.declared.records.Account.{Account}
use Rattle.register.specs.Keys.{put, rising}
use Rattle.register.proofs.AtKeys.{rising_put}
use Rattle.ledger.specs.State.{number, amount, known, supplier_of, reading_of, storage_of}
use Rattle.ledger.specs.Count.{set}
use Rattle.ledger.proofs.Found.{at_put, all_put}

pub record Sound (a : Account) : Type 0 where
  pub within : a.storage ≤ a.capacity
  pub limit : a.capacity ≤ 100000000
  pub read : amount a.reading ≤ 8000000
  pub from_one : 0 < a.supplier
  pub to_limit : a.supplier < 65536

pub record AccountsAgree (opened : ℕ → Bool) (supplier reading : ℕ → ℕ) (accs : List Account) : Type 0 where
  pub ordered : rising number accs ≡ true
  pub sound : AllByRecursion Sound accs
  pub known_if : (n : ℕ) → known n accs ≡ opened n
  pub suppliers : (n : ℕ) → supplier_of n accs ≡ supplier n
  pub readings : (n : ℕ) → reading_of n accs ≡ reading n

module _ {opened : ℕ → Bool} {supplier reading : ℕ → ℕ} {accs : List Account} (i : AccountsAgree opened supplier reading accs) (n : ℕ) (a : Account) (at_n : a.number ≡ n) where
  pub accounts_put : Sound a → AccountsAgree (set opened n true) (set supplier n a.supplier) (set reading n (amount a.reading)) (put number a accs)
  accounts_put sound = record {
    ordered = rising_put number a accs i.ordered;
    sound = all_put number Sound a accs sound i.sound;
    known_if = λ m. let e = at_put number m a accs in let f = i.known_if m in grind (arith, nat_tests);
    suppliers = λ m. let e = at_put number m a accs in let f = i.suppliers m in grind (arith, nat_tests);
    readings = λ m. let e = at_put number m a accs in let f = i.readings m in grind (arith, nat_tests);
  }

  pub storage_put : (m : ℕ) → storage_of m (put number a accs) ≡ cond (eqb m n) a.storage (storage_of m accs)
  storage_put m = let e = at_put number m a accs in grind (arith, nat_tests)

-- a value set anew
pub set_same : {A : Type 0} (f : ℕ → A) (k : ℕ) (v : A) → f k ≡ v → set f k v ≡ f
set_same f k v e = fun_ext (λ n. grind (arith, nat_tests))
