-- Keys of a list with rising keys.
use Rattle.std.proofs.Common.{◌≡◌, ℕ, zero, suc, ◌<◌, ◌≤◌, true, ltb, List, [], ◌∷◌, length, get_or, drop, refl, arith}
use Rattle.std.specs.List.{AllByRecursion}
use Rattle.std.proofs.lemmas.Bool.{and_from, and_parts, lt-ltb, ltb-true}
use Rattle.register.specs.Keys.{all_above, rising}

module _ {X : Type 0} (key : X → ℕ) where
  pub above_all : (k : ℕ) (xs : List X) → all_above key k xs ≡ true → AllByRecursion (λ x. k < key x) xs
  above_all k [] h = tt
  above_all k (x ∷ xs) h = let p = and_parts (ltb k (key x)) (all_above key k xs) h in (ltb-true _ _ p.0, above_all k xs p.1)

  pub all_above_from : (k : ℕ) (xs : List X) → AllByRecursion (λ x. k < key x) xs → all_above key k xs ≡ true
  all_above_from k [] a = refl
  all_above_from k (x ∷ xs) a = and_from _ _ (lt-ltb _ _ a.0) (all_above_from k xs a.1)

  pub above_at : (k : ℕ) (xs : List X) (m : ℕ) (d : X) → all_above key k xs ≡ true → m < length xs → k < key (get_or xs m d)
  above_at k [] m d h lt = absurd (omega arith)
  above_at k (x ∷ xs) zero d h lt = ltb-true _ _ (and_parts (ltb k (key x)) (all_above key k xs) h).0
  above_at k (x ∷ xs) (suc m) d h lt = above_at k xs m d (and_parts (ltb k (key x)) (all_above key k xs) h).1 (omega arith)

  -- no key is above a later one
  pub never_falls : (xs : List X) → rising key xs ≡ true → (i j : ℕ) (d : X) → i ≤ j → j < length xs → key (get_or xs i d) ≤ key (get_or xs j d)
  never_falls [] r i j d le lt = absurd (omega arith)
  never_falls (x ∷ xs) r zero zero d le lt = omega arith
  never_falls (x ∷ xs) r zero (suc j) d le lt =
      let up = above_at (key x) xs j d (and_parts (all_above key (key x) xs) (rising key xs) r).0 (omega arith) in omega arith
  never_falls (x ∷ xs) r (suc i) zero d le lt = absurd (omega arith)
  never_falls (x ∷ xs) r (suc i) (suc j) d le lt = never_falls xs (and_parts (all_above key (key x) xs) (rising key xs) r).1 i j d (omega arith) (omega arith)

  -- the keys of a part rise too
  pub rising_drop : (n : ℕ) (xs : List X) → rising key xs ≡ true → rising key (drop n xs) ≡ true
  rising_drop zero xs r = r
  rising_drop (suc n) [] r = refl
  rising_drop (suc n) (x ∷ xs) r = rising_drop n xs (and_parts (all_above key (key x) xs) (rising key xs) r).1
