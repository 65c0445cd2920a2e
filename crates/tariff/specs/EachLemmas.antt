-- Reading from and writing to a list of which every element passes a test.
use Rattle.std.specs.Prelude.{◌≡◌, ℕ, zero, suc, Bool, true, List, [], ◌∷◌, slice_index_or, slice_set}
use Rattle.std.proofs.lemmas.Bool.{and_parts, and_from}
use Rattle.tariff.specs.Each.{each}

module _ {A : Type 0} (test : A → Bool) where
  pub each_getD : (xs : List A) (k : ℕ) (d : A) → test d ≡ true → each test xs ≡ true → test (slice_index_or xs k d) ≡ true
  each_getD [] k d hd h = hd
  each_getD (x ∷ xs) zero d hd h = (and_parts (test x) (each test xs) h).0
  each_getD (x ∷ xs) (suc k) d hd h = each_getD xs k d hd (and_parts (test x) (each test xs) h).1

  pub each_set : (xs : List A) (k : ℕ) (y : A) → test y ≡ true → each test xs ≡ true → each test (slice_set xs k y) ≡ true
  each_set [] k y hy h = h
  each_set (x ∷ xs) zero y hy h = and_from (test y) (each test xs) hy (and_parts (test x) (each test xs) h).1
  each_set (x ∷ xs) (suc k) y hy h =
      let p = and_parts (test x) (each test xs) h in
      and_from (test x) (each test (slice_set xs k y)) p.0 (each_set xs k y hy p.1)
