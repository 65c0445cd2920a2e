-- Numbers of a feed: unsigned, the most significant byte first.
use Rattle.std.specs.Prelude.{ℕ, ◌+◌, ◌*◌, ◌/◌, ◌%◌, ◌<◌, List, [], ◌∷◌, slice_index}

-- each is a byte
abbrev pub Bytes : List ℕ → Type 0
Bytes [] = Unit {0}
Bytes (b ∷ bs) = (b < 256) × Bytes bs

-- the number in one, two and four bytes from a place on
abbrev pub num1 : List ℕ → ℕ → ℕ
num1 bs i = slice_index bs i

abbrev pub num2 : List ℕ → ℕ → ℕ
num2 bs i = slice_index bs i * 256 + slice_index bs (i + 1)

abbrev pub num4 : List ℕ → ℕ → ℕ
num4 bs i = slice_index bs i * 16777216 + slice_index bs (i + 1) * 65536 + slice_index bs (i + 2) * 256 + slice_index bs (i + 3)

-- a number in one, two and four bytes, and then more bytes
abbrev pub one : ℕ → List ℕ → List ℕ
one n bs = n ∷ bs

abbrev pub two : ℕ → List ℕ → List ℕ
two n bs = (n / 256) ∷ (n % 256) ∷ bs

abbrev pub four : ℕ → List ℕ → List ℕ
four n bs = (n / 16777216) ∷ (n / 65536 % 256) ∷ (n / 256 % 256) ∷ (n % 256) ∷ bs
