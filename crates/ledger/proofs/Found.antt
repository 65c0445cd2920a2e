-- What `at` and `put` come to. Only the last two need the keys to rise.
use Rattle.std.proofs.Common.{◌≡◌, ℕ, ◌+◌, ◌<◌, ◌≤◌, true, cond, eqb, ltb, List, [], ◌∷◌, map, is_some, Some, refl, ⊎_elim, arith}
use Rattle.std.specs.List.{AllByRecursion}
use Rattle.std.proofs.lemmas.Bool.Decides.{nat_tests}
use Rattle.std.proofs.lemmas.Bool.{and_from, and_parts, cond_both, cases_lt}
use Rattle.std.proofs.ByRecursion.{All-weaker}
use Rattle.register.specs.Keys.{at, put, all_above, rising}
use Rattle.register.proofs.Rising.{above_all, all_above_from}
use Rattle.ledger.specs.Sums.{added}
use Rattle.ledger.specs.State.{shown}

module _ {X : Type 0} (key : X → ℕ) where
  pub at_put : (m : ℕ) (x : X) (xs : List X) → at key m (put key x xs) ≡ cond (eqb m (key x)) (Some x) (at key m xs)
  at_put m x [] = grind (arith, nat_tests)
  at_put m x (y ∷ ys) = let ih = at_put m x ys in grind (arith, nat_tests)

  pub at_key : (m : ℕ) (xs : List X) (y : X) → at key m xs ≡ Some y → key y ≡ m
  at_key m [] y h = grind arith
  at_key m (x ∷ xs) y h = let ih = at_key m xs y in grind (arith, nat_tests)

  pub added_put : (f : X → ℕ) (x : X) (xs : List X) → added f (put key x xs) + shown f (at key (key x) xs) ≡ added f xs + f x
  added_put f x [] = grind arith
  added_put f x (y ∷ ys) = let ih = added_put f x ys in grind (arith, nat_tests)

  pub at_map : (f : X → X) → ((x : X) → key (f x) ≡ key x) → (g : X → ℕ) (m : ℕ) (xs : List X) → shown g (at key m (map f xs)) ≡ shown (λ x. g (f x)) (at key m xs)
  at_map f same g m [] = refl
  at_map f same g m (x ∷ xs) = let ih = at_map f same g m xs in grind (arith, nat_tests, same x)

  pub some_map : (f : X → X) → ((x : X) → key (f x) ≡ key x) → (m : ℕ) (xs : List X) → is_some (at key m (map f xs)) ≡ is_some (at key m xs)
  some_map f same m [] = refl
  some_map f same m (x ∷ xs) = let ih = some_map f same m xs in grind (arith, nat_tests, same x)

  pub all_put : (P : X → Type 0) (x : X) (xs : List X) → P x → AllByRecursion P xs → AllByRecursion P (put key x xs)
  all_put P x [] p a = (p, tt)
  all_put P x (y ∷ ys) p a =
      cond_both (eqb (key x) (key y)) _ _ (AllByRecursion P) (λ _. (p, a.1))
      (λ _. cond_both (ltb (key x) (key y)) _ _ (AllByRecursion P) (λ _. (p, a)) (λ _. (a.0, all_put P x ys p a.1)))

  pub all_at : (P : X → Type 0) (m : ℕ) (xs : List X) (y : X) → AllByRecursion P xs → at key m xs ≡ Some y → P y
  all_at P m [] y a h = grind arith
  all_at P m (x ∷ xs) y a h = let ih = all_at P m xs y a.1 in let p = a.0 in grind (arith, nat_tests)

  pub rising_parts : (x : X) (xs : List X) → rising key (x ∷ xs) ≡ true → AllByRecursion (λ z. key x < key z) xs × (rising key xs ≡ true)
  rising_parts x xs r = let p = and_parts (all_above key (key x) xs) (rising key xs) r in (above_all key (key x) xs p.0, p.1)

  pub rising_map : (f : X → X) → ((x : X) → key (f x) ≡ key x) → (xs : List X) → rising key xs ≡ true → rising key (map f xs) ≡ true
  rising_map f same [] r = refl
  rising_map f same (y ∷ ys) r =
      let p = rising_parts y ys r in and_from _ _ (all_above_from key (key (f y)) (map f ys) (above ys p.0)) (rising_map f same ys p.1)
    where
      above : (zs : List X) → AllByRecursion (λ z. key y < key z) zs → AllByRecursion (λ z. key (f y) < key z) (map f zs)
      above [] a = tt
      above (z ∷ zs) a = (omega (arith, same y, same z, a.0), above zs a.1)

  -- a sum over the records with one key has at most one part
  none_at : (f : X → ℕ) (m : ℕ) (xs : List X) → AllByRecursion (λ z. m < key z) xs → added (λ x. cond (eqb (key x) m) (f x) 0) xs ≡ 0
  none_at f m [] a = refl
  none_at f m (x ∷ xs) a = let ih = none_at f m xs a.1 in let h = a.0 in grind (arith, nat_tests)

  pub added_at : (f : X → ℕ) (m : ℕ) (xs : List X) → rising key xs ≡ true → added (λ x. cond (eqb (key x) m) (f x) 0) xs ≡ shown f (at key m xs)
  added_at f m [] r = refl
  added_at f m (x ∷ xs) r =
      let p = rising_parts x xs r in
      let ih = added_at f m xs p.1 in
      ⊎_elim (λ (l : key x < m). grind (arith, nat_tests))
      (λ (l : m ≤ key x).
      let none = none_at f m xs (All-weaker (λ z. key x < key z) (λ z. m < key z) (λ z k. omega arith) xs p.0) in
      grind (arith, nat_tests))
      (cases_lt (key x) m)

  -- each record is found at its own key
  pub self_at : (xs : List X) → rising key xs ≡ true → AllByRecursion (λ x. at key (key x) xs ≡ Some x) xs
  self_at [] r = tt
  self_at (x ∷ xs) r = let p = rising_parts x xs r in (here, past xs p.0 (self_at xs p.1))
    where
      here : at key (key x) (x ∷ xs) ≡ Some x
      here = grind (arith, nat_tests)

      past : (zs : List X) → AllByRecursion (λ z. key x < key z) zs → AllByRecursion (λ z. at key (key z) xs ≡ Some z) zs → AllByRecursion (λ z. at key (key z) (x ∷ xs) ≡ Some z) zs
      past [] a b = tt
      past (z ∷ zs) a b = (let l = a.0 in let e = b.0 in grind (arith, nat_tests), past zs a.1 b.1)
