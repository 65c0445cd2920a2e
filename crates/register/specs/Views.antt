-- What a shelf holds, and how much it can hold. A register holds what its shelf does.
use Rattle.std.specs.Prelude.{ℕ, List, length, take}
use Rattle.register.specs.declared.shelf.Shelf.{Shelf}

-- the records that it holds
abbrev pub held : {X : Type 0} → Shelf X → List X
held s = take s.count s.items.now

-- how many it can hold
abbrev pub room : {X : Type 0} → Shelf X → ℕ
room s = length s.items.now
