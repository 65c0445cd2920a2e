-- Lines read place by place: a line of the nine bytes that stand there, or a blank one.
use Rattle.std.proofs.Common.{◌≡◌, ℕ, suc, zero, ◌-◌, ◌<◌, ◌≤◌, List, [], ◌∷◌, ◌++◌, length, get_or, take, drop, replicate, sym, refl, ◌∙◌, arith}
use Rattle.std.proofs.lemmas.List.{length-append, length-replicate}
use Rattle.std.specs.Simd.{first_chunks}
use Rattle.calls.specs.declared.fields.Line.{Line}
use Rattle.calls.specs.Limits.{blank_line}
use Rattle.feed.specs.Fields.{line_at, lines_of, padded}
use Rattle.feed.specs.LineBytes.{length_lines}

line_of_nine : (bs : List ℕ) → line_at (take 9 bs) 0 ≡ line_at bs 0
line_of_nine [] = refl
line_of_nine (a ∷ []) = refl
line_of_nine (a ∷ b ∷ []) = refl
line_of_nine (a ∷ b ∷ c ∷ []) = refl
line_of_nine (a ∷ b ∷ c ∷ d ∷ []) = refl
line_of_nine (a ∷ b ∷ c ∷ d ∷ e ∷ []) = refl
line_of_nine (a ∷ b ∷ c ∷ d ∷ e ∷ f ∷ []) = refl
line_of_nine (a ∷ b ∷ c ∷ d ∷ e ∷ f ∷ g ∷ []) = refl
line_of_nine (a ∷ b ∷ c ∷ d ∷ e ∷ f ∷ g ∷ h ∷ []) = refl
line_of_nine (a ∷ b ∷ c ∷ d ∷ e ∷ f ∷ g ∷ h ∷ i ∷ bs) = refl

pub blank_at : (k i : ℕ) → get_or (replicate k blank_line) i blank_line ≡ blank_line
blank_at zero i = refl
blank_at (suc k) zero = refl
blank_at (suc k) (suc i) = blank_at k i

-- a place below the count holds the line of its nine bytes, and another is blank
pub placed : (n m k i : ℕ) (bs : List ℕ) (y : Line) → n ≤ m
    → (i < n → y ≡ line_at (get_or (take n (first_chunks 9 m bs)) i []) 0) → (n ≤ i → y ≡ blank_line)
    → y ≡ get_or (lines_of n bs ++ replicate k blank_line) i blank_line
placed zero m k i bs y le read blank = blank (omega arith) ∙ sym (blank_at k i)
placed (suc n) zero k i bs y le read blank = absurd (omega arith)
placed (suc n) (suc m) k zero bs y le read blank = read (omega arith) ∙ line_of_nine bs
placed (suc n) (suc m) k (suc i) bs y le read blank =
    placed n m k i (drop 9 bs) y (omega arith) (λ lt. read (omega (arith, lt))) (λ ge. blank (omega (arith, ge)))

pub length_padded : (n : ℕ) (bs : List ℕ) → n ≤ 200 → length (padded n (lines_of n bs)) ≡ 200
length_padded n bs h =
    length-append (lines_of n bs) (replicate (200 - n) blank_line)
    ∙ omega (arith, length_lines n bs, length-replicate (200 - n) blank_line)
