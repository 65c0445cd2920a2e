-- The first of a list that a test picks: what `find` answers, what `1..=8` gives, and the lines that repeat an earlier one.
use denote.Param.Members.{Mut}
use denote.Ref.{Bor}
use mathlib.Core.List.{reverse-cons}
use Rattle.std.proofs.Common.{◌≡◌, ℕ, ◌+◌, ◌-◌, ◌<◌, Bool, true, false, cond, ◌||◌, eqb, List, [], ◌∷◌, ◌++◌, map, reverse, length, get_or, take, drop, Some, Option, sym, refl, ap, ap₂, ◌∙◌, subst, add-one, arith}
use Rattle.std.specs.declared.ops.RangeInclusive.{RangeInclusive}
use Rattle.std.specs.Fn.{CalledAt}
use Rattle.std.specs.Iterator.{FindsItem}
use Rattle.std.specs.List.{find, list_any, range_with_len}
use Rattle.std.specs.Option.{option_map}
use Rattle.std.specs.Range.{range_inclusive_start, range_inclusive_end, range_inclusive_exhausted, range_inclusive_len}
use Rattle.std.proofs.iter.runs.Sources.{nat_range_inclusive_steps}
use Rattle.std.proofs.lemmas.Bool.Decides.{nat_tests}
use Rattle.std.proofs.lemmas.Iterator.{YieldsList}
use Rattle.std.proofs.lemmas.Iterator.Adapters.{option_map_id}
use Rattle.std.proofs.lemmas.Iterator.Consumers.{YieldsList-from_shown}
use Rattle.std.proofs.lemmas.Iterator.Search.{find_from_yields_List}
use Rattle.std.proofs.lemmas.List.{take_more, at_drop_more, reverse-append}
use Rattle.std.proofs.lemmas.List.FromFn.{length-range_with_len}
use Rattle.calls.specs.declared.fields.Line.{Line}
use Rattle.ledger.specs.State.{line_key}
use Rattle.ledger.specs.Table.{first_repeated, among, pipelines}

-- what `find` answers over a chain of values, where the closure computes the test
pub found_by : {S A F : Type 0} {steps : S → Option A → S → Type 0} {g : Mut F (Bor A × Unit {0}) Bool} {s : S} {all : List A} (test : A → Bool) (u : S) (f : F) (r : Option A)
    → FindsItem steps g s f r u → YieldsList steps (λ x. x) s all → ((x : A) (b : Bool) (q : F) → CalledAt g f x b q → (q ≡ f) × (b ≡ test x)) → r ≡ find test all
found_by test u f r ran yields calls = sym (option_map_id r) ∙ find_from_yields_List test u f r ran yields calls

-- the first figure that a test picks is that of the first whose figure it picks
pub find_figure : {X Y : Type 0} (figure : X → Y) (test : Y → Bool) (xs : List X) → find test (map figure xs) ≡ option_map figure (find (λ x. test (figure x)) xs)
find_figure figure test [] = refl
find_figure {X} {Y} figure test (x ∷ xs) = either (test (figure x)) _ _ (find_figure figure test xs)
  where
    either : (b : Bool) (o : Option Y) (p : Option X) → o ≡ option_map figure p → cond b (Some (figure x)) o ≡ option_map figure (cond b (Some x) p)
    either true o p e = refl
    either false o p e = e

-- what `a..=b` has left
abbrev many : ℕ → ℕ → Bool → ℕ
many a b spent = range_inclusive_len (λ x y. y - x) a b spent

abbrev left : RangeInclusive ℕ → List ℕ
left s = range_with_len (range_inclusive_start s) (many (range_inclusive_start s) (range_inclusive_end s) (range_inclusive_exhausted s))

one_left : (a n m : ℕ) → m + 1 ≡ n → range_with_len a n ≡ a ∷ range_with_len (a + 1) m
one_left a n m e = ap (range_with_len a) (sym e ∙ add-one m)

moved : (spent : Bool) (a c b : ℕ) → (spent ≡ false → c ≡ a)
    → range_with_len a (many c b spent) ≡ range_with_len c (many c b spent)
moved true a c b h = refl
moved false a c b h = ap (λ k. range_with_len k (many c b false)) (sym (h refl))

eight : (a b : ℕ) (spent : Bool) → a ≡ 1 → b ≡ 8 → spent ≡ false → range_with_len a (many a b spent) ≡ pipelines
eight a b spent e f g = rw (e, f, g)

pub pipelines_given : {s : RangeInclusive ℕ}
    → range_inclusive_start s ≡ 1 → range_inclusive_end s ≡ 8 → range_inclusive_exhausted s ≡ false
    → YieldsList nat_range_inclusive_steps (λ x. x) s pipelines
pipelines_given {s} e f g =
    subst (λ ys. YieldsList nat_range_inclusive_steps (λ x. x) s ys) (eight _ _ _ e f g)
    (YieldsList-from_shown nat_range_inclusive_steps (λ x. x) left (λ s t h. length-range_with_len _ _ ∙ h.1.0)
    (λ s x t h. one_left _ _ _ h.1.1 ∙ ap (λ ys. range_inclusive_start s ∷ ys) (moved _ _ _ _ h.1.2)
    ∙ ap (λ n. n ∷ left t) (sym h.1.0)) s)

-- the same key among the lines passed, from the last to the first
abbrev pub same_key : ℕ → Line → Bool
same_key k l = eqb (line_key l) k

among_push : (k : ℕ) (ls : List Line) (l : Line) → among k (ls ++ (l ∷ [])) ≡ (same_key k l || among k ls)
among_push k [] l = refl
among_push k (x ∷ ls) l = let ih = among_push k ls l in grind (arith, nat_tests)

among_passed : (k : ℕ) (ls : List Line) → list_any (same_key k) ls ≡ among k (reverse ls)
among_passed k [] = refl
among_passed k (l ∷ ls) =
    ap (λ b. same_key k l || b) (among_passed k ls) ∙ sym (among_push k (reverse ls) l) ∙ ap (among k) (sym (reverse-cons l ls))

module _ (xs : List Line) (i : ℕ) (d : Line) (h : i < length xs) where
  passed_more : reverse (take (i + 1) xs) ≡ get_or xs i d ∷ reverse (take i xs)
  passed_more = ap reverse (take_more xs i d h) ∙ reverse-append (take i xs) (get_or xs i d ∷ [])

  -- one line on, where r says whether an earlier one has its key
  pub repeated_more : (r : Bool) → r ≡ list_any (same_key (line_key (get_or xs i d))) (take i xs)
      → first_repeated (reverse (take i xs)) (drop i xs)
      ≡ cond r (Some (get_or xs i d)) (first_repeated (reverse (take (i + 1) xs)) (drop (i + 1) xs))
  repeated_more r e =
      at_drop_more (first_repeated (reverse (take i xs))) xs i d h
      ∙ ap₂ (λ b ls. cond b (Some (get_or xs i d)) (first_repeated ls (drop (i + 1) xs)))
      (sym (e ∙ among_passed _ (take i xs))) (sym passed_more)
