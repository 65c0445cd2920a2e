-- What a search by halves finds in a list with rising keys.
use Rattle.std.proofs.Common.{◌≡◌, ℕ, zero, suc, ◌+◌, ◌<◌, ◌≤◌, true, List, [], ◌∷◌, length, get_or, take, drop, arith}
use Rattle.std.specs.List.{AllByRecursion}
use Rattle.register.specs.Keys.{rising}
use Rattle.register.proofs.Rising.{never_falls}

all_before : {X : Type 0} (P : X → Type 0) (xs : List X) (m : ℕ) → m ≤ length xs → ((i : ℕ) (d : X) → i < m → P (get_or xs i d)) → AllByRecursion P (take m xs)
all_before P xs zero le h = tt
all_before P [] (suc m) le h = absurd (omega arith)
all_before P (x ∷ xs) (suc m) le h = (h zero x (omega arith), all_before P xs m (omega arith) (λ i d lt. h (suc i) d (omega arith)))

all_from : {X : Type 0} (P : X → Type 0) (xs : List X) (m : ℕ) → ((i : ℕ) (d : X) → m ≤ i → i < length xs → P (get_or xs i d)) → AllByRecursion P (drop m xs)
all_from P [] zero h = tt
all_from P [] (suc m) h = tt
all_from P (x ∷ xs) zero h = (h zero x (omega arith) (omega arith), all_from P xs zero (λ i d low lt. h (suc i) d (omega arith) (omega arith)))
all_from P (x ∷ xs) (suc m) h = all_from P xs m (λ i d low lt. h (suc i) d (omega arith) (omega arith))

module _ {X : Type 0} (key : X → ℕ) (k : ℕ) (xs : List X) (m : ℕ) (up : rising key xs ≡ true) (lt : m < length xs) where
  -- up to a key below k, all are below k
  pub lower : ((d : X) → key (get_or xs m d) < k) → (n : ℕ) → n ≤ m + 1 → AllByRecursion (λ x. key x < k) (take n xs)
  lower h n le = all_before (λ x. key x < k) xs n (omega arith) (λ i d below. omega (arith, never_falls key xs up i m d (omega arith) lt, h d))

  -- from a key above k on, all are above k
  pub higher : ((d : X) → k < key (get_or xs m d)) → (n : ℕ) → m ≤ n → AllByRecursion (λ x. k < key x) (drop n xs)
  higher h n le = all_from (λ x. k < key x) xs n (λ i d above within. omega (arith, never_falls key xs up m i d (omega arith) within, h d))
