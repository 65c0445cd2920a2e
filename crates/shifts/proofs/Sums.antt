-- What a chain counts and adds up, and the count of what is left of a list.
use Rattle.std.proofs.Common.{◌≡◌, ℕ, ◌+◌, ◌<◌, Bool, true, false, cond, List, [], ◌∷◌, length, get_or, drop, refl, arith}
use Rattle.std.specs.List.{count_by, filter, sum_by}
use Rattle.std.proofs.lemmas.List.{at_drop_more}
use Rattle.std.proofs.lemmas.List.Recursion.{is_count_by}
use Rattle.std.proofs.lemmas.List.Sums.{sum_by-cons}
use Rattle.calls.specs.declared.fields.Line.{Line}
use Rattle.ledger.specs.Sums.{added}
use Rattle.ledger.specs.Table.{is_absent, count_absent}

-- how many a test picks
pub absent_is_count : (lines named : List Line) → count_absent lines named ≡ count_by (is_absent lines) named
absent_is_count lines named =
    is_count_by (count_absent lines) (is_absent lines) refl (λ l ls. one_more (is_absent lines l) (count_absent lines ls)) named
  where
    one_more : (b : Bool) (n : ℕ) → cond b 1 0 + n ≡ cond b (1 + n) n
    one_more true n = refl
    one_more false n = omega arith

pub absent_more : (lines named : List Line) (i : ℕ) (d : Line) → i < length named
    → count_absent lines (drop i named) ≡ cond (is_absent lines (get_or named i d)) 1 0 + count_absent lines (drop (i + 1) named)
absent_more lines named i d h = at_drop_more (count_absent lines) named i d h

-- a figure of those that a test picks
pub added_is_sum : {X : Type 0} (f : X → ℕ) (test : X → Bool) (figure : X → ℕ)
    → ((x : X) → f x ≡ cond (test x) (figure x) 0) → (xs : List X) → added f xs ≡ sum_by figure (filter test xs)
added_is_sum f test figure each [] = refl
added_is_sum {X} f test figure each (x ∷ xs) = picked (test x) _ _ (filter test xs) (each x) (added_is_sum f test figure each xs)
  where
    picked : (b : Bool) (n m : ℕ) (ys : List X) → n ≡ cond b (figure x) 0
        → m ≡ sum_by figure ys → n + m ≡ sum_by figure (cond b (x ∷ ys) ys)
    picked true n m ys e k = omega (arith, sum_by-cons figure x ys)
    picked false n m ys e k = omega arith
