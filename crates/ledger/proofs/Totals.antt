-- Sums below a bound, and statements.
use Rattle.std.proofs.Common.{◌≡◌, ℕ, zero, suc, ◌+◌, ◌*◌, ◌<◌, ◌≤◌, cond, eqb, List, [], ◌∷◌, ◌++◌, map, ℤ, pos, ◌+ℤ◌, sym, refl, ap, ◌∙◌, zero-add, arith}
use Rattle.std.specs.List.{AllByRecursion}
use Rattle.std.proofs.lemmas.Bool.Decides.{nat_tests}
use Rattle.std.proofs.lemmas.Int.{ints}
use Rattle.ledger.specs.Sums.{added, owed, below, belowℤ}
use Rattle.ledger.specs.Count.{set}

pub added_append : {X : Type 0} (f : X → ℕ) (xs ys : List X) → added f (xs ++ ys) ≡ added f xs + added f ys
added_append f [] ys = sym (zero-add (added f ys))
added_append f (x ∷ xs) ys = let ih = added_append f xs ys in omega arith

pub added_map : {X Y : Type 0} (f : Y → ℕ) (g : X → Y) (xs : List X) → added f (map g xs) ≡ added (λ x. f (g x)) xs
added_map f g [] = refl
added_map f g (x ∷ xs) = ap (λ n. f (g x) + n) (added_map f g xs)

pub added_same : {X : Type 0} (f g : X → ℕ) → ((x : X) → f x ≡ g x) → (xs : List X) → added f xs ≡ added g xs
added_same f g e [] = refl
added_same f g e (x ∷ xs) = let ih = added_same f g e xs in omega (arith, e x)

pub below_same : (n : ℕ) (f g : ℕ → ℕ) → ((k : ℕ) → k < n → f k ≡ g k) → below n f ≡ below n g
unfolding below
below_same zero f g h = refl
below_same (suc n) f g h = let ih = below_same n f g (λ k l. h k (omega arith)) in omega (arith, h n (omega arith))

pub below_zero : (n : ℕ) (f : ℕ → ℕ) → ((k : ℕ) → k < n → f k ≡ 0) → below n f ≡ 0
unfolding below
below_zero zero f h = refl
below_zero (suc n) f h = let ih = below_zero n f (λ k l. h k (omega arith)) in omega (arith, h n (omega arith))

-- the first part by itself, and each other at most m
pub below_le : (n : ℕ) (f : ℕ → ℕ) (m : ℕ) → ((k : ℕ) → k < suc n → f k ≤ m) → below (suc n) f ≤ f 0 + n * m
unfolding below
below_le zero f m h = omega arith
below_le (suc n) f m h = let ih = below_le n f m (λ k l. h k (omega arith)) in omega (arith, h (suc n) (omega arith))

-- one number's part is changed
pub below_set : (n : ℕ) (f : ℕ → ℕ) (k v : ℕ) → k < n → below n (set f k v) + f k ≡ below n f + v
unfolding below
below_set zero f k v h = omega arith
below_set (suc n) f k v h =
    let ih : k < n → below n (set f k v) + f k ≡ below n f + v = below_set n f k v in
    let past : n ≤ k → below n (set f k v) ≡ below n f = λ l. below_same n (set f k v) f (λ j m. grind (arith, nat_tests)) in
    grind (arith, nat_tests)

pub below_one : (n k : ℕ) → k < n → below n (λ t. cond (eqb k t) 1 0) ≡ 1
below_one n k h =
    let none = below_zero n (λ _. 0) (λ _ _. refl) in
    let same = below_same n (λ t. cond (eqb k t) 1 0) (set (λ _. 0) k 1) (λ j l. grind (arith, nat_tests)) in
    let one = below_set n (λ _. 0) k 1 h in
    omega arith

-- all suppliers' statements together
pub belowℤ_zero : (n : ℕ) → belowℤ n (λ _. pos 0) ≡ pos 0
unfolding belowℤ
belowℤ_zero zero = refl
belowℤ_zero (suc n) = let ih = belowℤ_zero n in omega (arith, ints)

pub belowℤ_add : (n : ℕ) (f g : ℕ → ℤ) → belowℤ n (λ k. f k +ℤ g k) ≡ belowℤ n f +ℤ belowℤ n g
unfolding belowℤ
belowℤ_add zero f g = refl
belowℤ_add (suc n) f g = let ih = belowℤ_add n f g in omega (arith, ints)

pub belowℤ_none : (n k : ℕ) (z : ℤ) → n ≤ k → belowℤ n (λ s. cond (eqb k s) z (pos 0)) ≡ pos 0
unfolding belowℤ
belowℤ_none zero k z h = refl
belowℤ_none (suc n) k z h = let ih = belowℤ_none n k z (omega arith) in grind (arith, nat_tests, ints)

pub belowℤ_one : (n k : ℕ) (z : ℤ) → k < n → belowℤ n (λ s. cond (eqb k s) z (pos 0)) ≡ z
unfolding belowℤ
belowℤ_one zero k z h = absurd (omega arith)
belowℤ_one (suc n) k z h =
    let ih = belowℤ_one n k z in
    let none = belowℤ_none n k z in
    grind (arith, nat_tests, ints)

pub by_group : {X : Type 0} (n : ℕ) (group : X → ℕ) (f : X → ℤ) (xs : List X) → AllByRecursion (λ x. group x < n) xs → belowℤ n (λ s. owed (λ x. cond (eqb (group x) s) (f x) (pos 0)) xs) ≡ owed f xs
by_group n group f [] a = belowℤ_zero n
by_group n group f (x ∷ xs) a =
    belowℤ_add n (λ s. cond (eqb (group x) s) (f x) (pos 0)) (λ s. owed (λ y. cond (eqb (group y) s) (f y) (pos 0)) xs)
    ∙ (let one = belowℤ_one n (group x) (f x) a.0 in let ih = by_group n group f xs a.1 in cc)
