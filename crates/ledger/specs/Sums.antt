-- Sums over a list and over the numbers below a bound.
use Rattle.std.specs.Prelude.{ℕ, zero, suc, ◌+◌, List, [], ◌∷◌, ℤ, pos, ◌+ℤ◌}

abbrev pub added : {X : Type 0} → (X → ℕ) → List X → ℕ
added f [] = 0
added f (x ∷ xs) = f x + added f xs

abbrev pub owed : {X : Type 0} → (X → ℤ) → List X → ℤ
owed f [] = pos 0
owed f (x ∷ xs) = f x +ℤ owed f xs

-- shut, since its bounds are large numerals
unfoldable pub below : ℕ → (ℕ → ℕ) → ℕ
below zero f = 0
below (suc n) f = f n + below n f

unfoldable pub belowℤ : ℕ → (ℕ → ℤ) → ℤ
belowℤ zero f = pos 0
belowℤ (suc n) f = f n +ℤ belowℤ n f
