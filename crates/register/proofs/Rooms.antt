-- Writing among the records that are held.
use Rattle.std.proofs.Common.{◌≡◌, ℕ, zero, suc, ◌+◌, ◌-◌, ◌≤◌, List, [], ◌∷◌, ◌++◌, length, take, drop, set, sym, refl, ap, ◌∙◌, arith}
use borrow.Rule.Slice.PartMut.{mid_of, put_mid}
use Rattle.std.specs.List.{insert}
use Rattle.std.proofs.lemmas.List.{drop-append-le, drop-take, drop_at, length-append, length-drop, length-take-le, take-append-le, take-take}
use Rattle.std.proofs.lemmas.Slice.{take-put_mid}
use Rattle.std.proofs.Math.Seq.{take-append_seam}

pub take_set_front : {X : Type 0} (n : ℕ) (xs : List X) (i : ℕ) (y : X) → take n (set xs i y) ≡ set (take n xs) i y
take_set_front zero xs i y = refl
take_set_front (suc n) [] i y = refl
take_set_front (suc n) (x ∷ xs) zero y = refl
take_set_front (suc n) (x ∷ xs) (suc i) y = ap (λ l. x ∷ l) (take_set_front n xs i y)

-- a record that stands last among those held, brought before the ones from a place on
module _ {X : Type 0} (ys xs : List X) (at m : ℕ) (x : X) (le : at ≤ length xs) (within : m ≤ length ys) (has : take m ys ≡ xs ++ x ∷ []) where
  many : m ≡ length xs + 1
  many = omega (arith, length-take-le m ys within, ap length has, length-append xs (x ∷ []))

  part : mid_of at (m - at) ys ≡ drop at xs ++ x ∷ []
  part =
      let whole : at + (m - at) ≡ m = omega (arith, many) in
      sym (drop-take at (m - at) ys) ∙ ap (λ j. drop at (take j ys)) whole ∙ ap (drop at) has ∙ drop-append-le at xs (x ∷ []) le

  turned : (j : ℕ) → j ≡ length (mid_of at (m - at) ys) - 1 → drop j (mid_of at (m - at) ys) ++ take j (mid_of at (m - at) ys) ≡ x ∷ drop at xs
  turned j e =
      let short : length (drop at xs) ≡ j = omega (arith, e, ap length part, length-append (drop at xs) (x ∷ [])) in
      ap (λ l. drop j l ++ take j l) part
      ∙ ap (λ l. l ++ take j (drop at xs ++ x ∷ [])) (drop_at (drop at xs) (x ∷ []) j short)
      ∙ ap (λ l. x ∷ l) (ap (λ n. take n (drop at xs ++ x ∷ [])) (sym short) ∙ take-append_seam (drop at xs) (x ∷ []))

  pub brought : (zs : List X) (j : ℕ) → j ≡ length (mid_of at (m - at) ys) - 1 → zs ≡ drop j (mid_of at (m - at) ys) ++ take j (mid_of at (m - at) ys)
      → take m (put_mid at (m - at) ys zs) ≡ insert xs at x
  brought zs j e turned_is =
      let is : zs ≡ x ∷ drop at xs = turned_is ∙ turned j e in
      let all : m ≡ at + length zs = omega (arith, many, ap length is, length-drop at xs) in
      let front : take at ys ≡ take at xs = sym (take-take at m ys (omega (arith, many))) ∙ ap (take at) has ∙ take-append-le at xs (x ∷ []) le in
      take-put_mid at (m - at) ys zs m all (omega (arith, many)) ∙ ap (λ l. l ++ zs) front ∙ ap (λ l. take at xs ++ l) is
