-- A reallocation and its bytes.
use Rattle.std.specs.Prelude.{◌≡◌, ℕ, ◌+◌, ◌-◌, ◌*◌, ◌≤◌, true, ◌&&◌, List, ◌∷◌, ◌++◌, length, take, drop, replicate, ◌==◌, slice_index, slice_index_or}
use Rattle.std.proofs.Common.{sym, ap, ◌∙◌, arith, take-append-drop, get_or-take}
use Rattle.std.proofs.lemmas.List.{length-take, length-drop, take_at}
use Rattle.std.proofs.lemmas.Bool.{and_parts, eqb-true}
use Rattle.std.proofs.lemmas.Bool.Decides.{nat_tests}
use Rattle.tariff.specs.Each.{each}
use Rattle.calls.specs.declared.fields.Line.{Line}
use Rattle.calls.specs.declared.fields.Reallocation.{Reallocation}
use Rattle.calls.specs.Limits.{is_supplier, is_minute, between, blank_line, is_blank, line_within, named_lines, places_past, reallocation_within}
use Rattle.feed.specs.Numbers.{Bytes, num1, num2, one, two}
use Rattle.feed.specs.Fields.{lines_of, lines_bytes, padded, reallocation_of, reallocation_bytes, lines_tail}
use Rattle.feed.specs.Spread.{spread_drop, two_num2}
use Rattle.feed.specs.LineBytes.{length_lines, length_bytes, bytes_drop, bytes_of_lines, lines_of_bytes, blanks_are}

-- what the limits of a reallocation say
pub record Fit (c : Reallocation) : Type 0 where
  pub supplier_high : c.supplier ≤ 65535
  pub minute_high : c.minute ≤ 1439
  pub count_high : c.count ≤ 200
  pub size : length c.lines ≡ 200
  pub lines : each line_within (named_lines c) ≡ true
  pub blanks : each is_blank (places_past c) ≡ true

pub fit : (c : Reallocation) → reallocation_within c ≡ true → Fit c
fit c h =
    let head = is_supplier c.supplier && is_minute c.minute && between 1 200 c.count in
    let p = and_parts (head && length c.lines == 200 && each line_within (named_lines c)) (each is_blank (places_past c)) h in
    let q = and_parts (head && length c.lines == 200) (each line_within (named_lines c)) p.0 in
    let r = and_parts head (length c.lines == 200) q.0 in
    let t : head ≡ true = r.0 in
    record {
      supplier_high = grind (arith, nat_tests);
      minute_high = grind (arith, nat_tests);
      count_high = grind (arith, nat_tests);
      size = eqb-true _ _ r.1;
      lines = q.1;
      blanks = p.1;
    }

named_length : (c : Reallocation) → Fit c → length (named_lines c) ≡ c.count
named_length c f = length-take c.count c.lines ∙ omega (arith, f.size, f.count_high)

pub sized : (c : Reallocation) → reallocation_within c ≡ true → length (reallocation_bytes c) ≡ 5 + lines_tail (take 5 (reallocation_bytes c))
sized c h = omega (arith, length_bytes (named_lines c), named_length c (fit c h))

whole_lines : (c : Reallocation) → Fit c → padded c.count (named_lines c) ≡ c.lines
whole_lines c f =
    let n : length (places_past c) ≡ 200 - c.count = length-drop c.count c.lines ∙ omega (arith, f.size) in
    ap (λ k. named_lines c ++ replicate k blank_line) (sym n)
    ∙ ap (λ ls. named_lines c ++ ls) (sym (blanks_are (places_past c) f.blanks))
    ∙ take-append-drop c.count c.lines

pub reads : (c : Reallocation) → reallocation_within c ≡ true → reallocation_of (reallocation_bytes c) ≡ c
reads c h =
    let f = fit c h in
    let s : num2 (reallocation_bytes c) 0 ≡ c.supplier = omega (arith, f.supplier_high) in
    let m : num2 (reallocation_bytes c) 2 ≡ c.minute = omega (arith, f.minute_high) in
    let said : lines_of c.count (lines_bytes (named_lines c)) ≡ named_lines c =
    ap (λ n. lines_of n (lines_bytes (named_lines c))) (sym (named_length c f)) ∙ lines_of_bytes (named_lines c) f.lines in
    let l : padded c.count (lines_of c.count (lines_bytes (named_lines c))) ≡ c.lines =
    ap (padded c.count) said ∙ whole_lines c f in
    λ i. record { supplier = s i; minute = m i; count = c.count; lines = l i }

pub writes : (bs : List ℕ) → Bytes bs → length bs ≡ 5 + lines_tail (take 5 bs) → reallocation_bytes (reallocation_of bs) ≡ bs
writes bs bytes size =
    let n = num1 bs 4 in
    let count : slice_index_or (take 5 bs) 4 0 ≡ n = get_or-take 5 bs 4 0 (omega arith) in
    let left : length (drop 5 bs) ≡ 9 * n = length-drop 5 bs ∙ omega arith in
    let named : take n (padded n (lines_of n (drop 5 bs))) ≡ lines_of n (drop 5 bs) = take_at (lines_of n (drop 5 bs)) _ n (length_lines n (drop 5 bs)) in
    let tail : lines_bytes (take n (padded n (lines_of n (drop 5 bs)))) ≡ drop 5 bs =
    ap lines_bytes named ∙ bytes_of_lines n (drop 5 bs) (bytes_drop 5 bs bytes) left in
    let a = two_num2 bs bytes 0 (two (num2 bs 2) (one n (drop 5 bs))) in
    let b = two_num2 bs bytes 2 (one n (drop 5 bs)) in
    let s = spread_drop 5 0 bs (omega arith) in
    ap (λ xs. two (num2 bs 0) (two (num2 bs 2) (one n xs))) tail ∙ a ∙ ap (λ xs. slice_index bs 0 ∷ slice_index bs 1 ∷ xs) b ∙ sym s

-- what the reader makes of bytes is what they say
pub read_is : (bs rest : List ℕ) (s m : ℕ) (ls : List Line) → rest ≡ drop 5 bs → s ≡ num2 bs 0 → m ≡ num2 bs 2
    → ls ≡ padded (num1 bs 4) (lines_of (num1 bs 4) rest)
    → ◌≡◌ {A = Reallocation} (record { supplier = s; minute = m; count = num1 bs 4; lines = ls }) (reallocation_of bs)
read_is bs rest s m ls er es em el =
    let l : ls ≡ padded (num1 bs 4) (lines_of (num1 bs 4) (drop 5 bs)) = el ∙ ap (λ xs. padded (num1 bs 4) (lines_of (num1 bs 4) xs)) er in
    λ i. record { supplier = es i; minute = em i; count = num1 bs 4; lines = l i }
