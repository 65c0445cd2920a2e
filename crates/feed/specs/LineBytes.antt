-- Lines and their bytes, nine each.
use Rattle.std.specs.Prelude.{◌≡◌, ℕ, zero, suc, ◌*◌, true, List, [], ◌∷◌, length, drop, replicate, refl}
use Rattle.std.proofs.Common.{ap, ◌∙◌, arith}
use Rattle.std.proofs.lemmas.List.{length-drop}
use Rattle.std.proofs.lemmas.Bool.{and_parts}
use Rattle.std.proofs.lemmas.Bool.Decides.{nat_tests}
use Rattle.tariff.specs.Each.{each}
use Rattle.calls.specs.declared.fields.Line.{Line}
use Rattle.calls.specs.Limits.{blank_line, is_blank, line_within}
use Rattle.feed.specs.Numbers.{Bytes, num1, num4, one, four}
use Rattle.feed.specs.Fields.{line_at, line_bytes, lines_of, lines_bytes}
use Rattle.feed.specs.Spread.{spread_drop, four_num4}

pub length_lines : (n : ℕ) (bs : List ℕ) → length (lines_of n bs) ≡ n
length_lines zero bs = refl
length_lines (suc n) bs = ap suc (length_lines n (drop 9 bs))

pub length_bytes : (ls : List Line) → length (lines_bytes ls) ≡ 9 * length ls
length_bytes [] = refl
length_bytes (l ∷ ls) = let h = length_bytes ls in omega arith

pub bytes_drop : (n : ℕ) (bs : List ℕ) → Bytes bs → Bytes (drop n bs)
bytes_drop zero bs h = h
bytes_drop (suc n) [] h = tt
bytes_drop (suc n) (b ∷ bs) h = bytes_drop n bs h.1

no_bytes : (bs : List ℕ) → length bs ≡ 0 → [] ≡ bs
no_bytes [] h = refl
no_bytes (b ∷ bs) h = absurd (omega arith)

-- bytes are those of the lines that they say
pub bytes_of_lines : (n : ℕ) (bs : List ℕ) → Bytes bs → length bs ≡ 9 * n → lines_bytes (lines_of n bs) ≡ bs
bytes_of_lines zero bs ok size = no_bytes bs (omega arith)
bytes_of_lines (suc n) bs ok size =
    let rest = lines_bytes (lines_of n (drop 9 bs)) in
    let ih : rest ≡ drop 9 bs = bytes_of_lines n (drop 9 bs) (bytes_drop 9 bs ok) (length-drop 9 bs ∙ omega arith) in
    let a = four_num4 bs ok 0 (one (num1 bs 4) (four (num4 bs 5) rest)) in
    let b = four_num4 bs ok 5 rest in
    let s = spread_drop 9 0 bs (omega arith) in
    cc

line_says : (l : Line) (bs : List ℕ) → line_within l ≡ true → line_at (line_bytes l bs) 0 ≡ l
line_says l bs h =
    let a : num4 (line_bytes l bs) 0 ≡ l.account = grind (arith, nat_tests) in
    let b : num4 (line_bytes l bs) 5 ≡ l.therms = grind (arith, nat_tests) in
    λ i. record { account = a i; pipeline = l.pipeline; therms = b i }

-- lines are what their bytes say
pub lines_of_bytes : (ls : List Line) → each line_within ls ≡ true → lines_of (length ls) (lines_bytes ls) ≡ ls
lines_of_bytes [] h = refl
lines_of_bytes (l ∷ ls) h =
    let p = and_parts (line_within l) (each line_within ls) h in
    let one_line = line_says l (lines_bytes ls) p.0 in
    let ih = lines_of_bytes ls p.1 in
    cc

blank_is : (l : Line) → is_blank l ≡ true → l ≡ blank_line
blank_is l h =
    let a : l.account ≡ 0 = grind (arith, nat_tests) in
    let b : l.pipeline ≡ 0 = grind (arith, nat_tests) in
    let c : l.therms ≡ 0 = grind (arith, nat_tests) in
    λ i. record { account = a i; pipeline = b i; therms = c i }

pub blanks_are : (ls : List Line) → each is_blank ls ≡ true → ls ≡ replicate (length ls) blank_line
blanks_are [] h = refl
blanks_are (l ∷ ls) h =
    let p = and_parts (is_blank l) (each is_blank ls) h in
    let a = blank_is l p.0 in
    let ih = blanks_are ls p.1 in
    cc
