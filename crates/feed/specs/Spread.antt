-- Bytes place by place, and the bytes of the numbers that they spell.
use Rattle.std.specs.Prelude.{◌≡◌, ℕ, zero, suc, ◌+◌, ◌/◌, ◌%◌, ◌<◌, ◌≤◌, List, [], ◌∷◌, ◌++◌, length, drop, slice_index, slice_index_or, refl}
use Rattle.std.proofs.Common.{sym, ap, ◌∙◌, arith, drop-cons}
use Rattle.feed.specs.Numbers.{Bytes, num2, num4, two, four}

abbrev pub spread : ℕ → ℕ → List ℕ → List ℕ
spread zero i bs = []
spread (suc n) i bs = slice_index bs i ∷ spread n (suc i) bs

shifted : (n i b : ℕ) (bs : List ℕ) → spread n (suc i) (b ∷ bs) ≡ spread n i bs
shifted zero i b bs = refl
shifted (suc n) i b bs = ap (λ xs. slice_index bs i ∷ xs) (shifted n (suc i) b bs)

pub spread_is : (bs : List ℕ) → spread (length bs) 0 bs ≡ bs
spread_is [] = refl
spread_is (b ∷ bs) = ap (λ xs. b ∷ xs) (shifted (length bs) 0 b bs ∙ spread_is bs)

pub spread_at : (n : ℕ) (bs : List ℕ) → length bs ≡ n → spread n 0 bs ≡ bs
spread_at n bs e = ap (λ k. spread k 0 bs) (sym e) ∙ spread_is bs

-- so many bytes from a place on, and what follows them
pub spread_drop : (n i : ℕ) (bs : List ℕ) → i + n ≤ length bs → drop i bs ≡ spread n i bs ++ drop (i + n) bs
spread_drop zero i bs h = let e : i ≡ i + 0 = omega arith in ap (λ k. drop k bs) e
spread_drop (suc n) i bs h =
    let e : suc i + n ≡ i + suc n = omega arith in
    drop-cons bs i 0 (omega arith) ∙ ap (λ xs. slice_index bs i ∷ xs) (spread_drop n (suc i) bs (omega arith) ∙ ap (λ k. spread n (suc i) bs ++ drop k bs) e)

pub byte_at : (bs : List ℕ) → Bytes bs → (i : ℕ) → slice_index bs i < 256
byte_at [] h i = omega arith
byte_at (b ∷ bs) h zero = h.0
byte_at (b ∷ bs) h (suc i) = byte_at bs h.1 i

pub two_num2 : (bs : List ℕ) → Bytes bs → (i : ℕ) (xs : List ℕ) → two (num2 bs i) xs ≡ slice_index bs i ∷ (slice_index bs (i + 1) ∷ xs)
two_num2 bs h i xs =
    let l : slice_index_or bs (i + 1) 0 < 256 = byte_at bs h (i + 1) in
    let p : num2 bs i / 256 ≡ slice_index_or bs i 0 = omega arith in
    let q : num2 bs i % 256 ≡ slice_index_or bs (i + 1) 0 = omega arith in
    cc

pub four_num4 : (bs : List ℕ) → Bytes bs → (i : ℕ) (xs : List ℕ) → four (num4 bs i) xs ≡ slice_index bs i ∷ (slice_index bs (i + 1) ∷ (slice_index bs (i + 2) ∷ (slice_index bs (i + 3) ∷ xs)))
four_num4 bs h i xs =
    let l : slice_index_or bs (i + 1) 0 < 256 = byte_at bs h (i + 1) in
    let m : slice_index_or bs (i + 2) 0 < 256 = byte_at bs h (i + 2) in
    let n : slice_index_or bs (i + 3) 0 < 256 = byte_at bs h (i + 3) in
    let p : num4 bs i / 16777216 ≡ slice_index_or bs i 0 = omega arith in
    let q : num4 bs i / 65536 % 256 ≡ slice_index_or bs (i + 1) 0 = omega arith in
    let r : num4 bs i / 256 % 256 ≡ slice_index_or bs (i + 2) 0 = omega arith in
    let s : num4 bs i % 256 ≡ slice_index_or bs (i + 3) 0 = omega arith in
    cc
