-- Places in a list of records, and whether one more is taken.
use Rattle.std.specs.Prelude.{◌≡◌, ℕ, ◌<◌, ◌≤◌, Bool, true, false, List, length, take, drop, Ok, Err, Result, slice_index_or}
use Rattle.std.specs.List.{AllByRecursion}
use Rattle.register.specs.declared.shelf.Untaken.{Untaken}
use Rattle.register.specs.declared.shelf.Untaken.TheVariants.{Full}

-- where the key stands, or else the place before which all keys are lower and from which on all are higher
abbrev pub Sought : {X : Type 0} → (X → ℕ) → ℕ → List X → Result ℕ ℕ → Type 0
Sought {X} key k xs (Ok i) = (i < length xs) × ((d : X) → key (slice_index_or xs i d) ≡ k)
Sought {X} key k xs (Err i) = (i ≤ length xs) × AllByRecursion (λ x. key x < k) (take i xs) × AllByRecursion (λ x. k < key x) (drop i xs)

-- taken where there is a place for it
abbrev pub taken_if : Bool → Result (Unit {0}) Untaken
taken_if true = Ok tt
taken_if false = Err Full
