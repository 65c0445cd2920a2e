-- Lists of records with rising keys: what is found at a key, and one record more or changed.
use Rattle.std.specs.Prelude.{ℕ, Bool, true, cond, ◌&&◌, ◌||◌, List, [], ◌∷◌, length, is_some, Some, None, Option, ◌==◌, nat_lt}

module _ {X : Type 0} (key : X → ℕ) where
  -- the record with a key
  abbrev pub at : ℕ → List X → Option X
  at k [] = None
  at k (y ∷ ys) = cond (k == key y) (Some y) (cond (nat_lt k (key y)) None (at k ys))

  -- a record in the place of the one with its key, or between those before and after it
  abbrev pub put : X → List X → List X
  put x [] = x ∷ []
  put x (y ∷ ys) = cond (key x == key y) (x ∷ ys) (cond (nat_lt (key x) (key y)) (x ∷ y ∷ ys) (y ∷ put x ys))

  -- a record finds its place: over the one with its key, or where there is room for one more
  abbrev pub fits : ℕ → List X → X → Bool
  fits room xs x = is_some (at (key x) xs) || nat_lt (length xs) room

  -- every key is above k
  abbrev pub all_above : ℕ → List X → Bool
  all_above k [] = true
  all_above k (x ∷ xs) = nat_lt k (key x) && all_above k xs

  -- the keys rise, so none comes twice
  abbrev pub rising : List X → Bool
  rising [] = true
  rising (x ∷ xs) = all_above (key x) xs && rising xs
