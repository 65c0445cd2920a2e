-- Where the parts of a record lie.
use Rattle.std.proofs.Common.{◌≡◌, ℕ, ◌-◌, ◌≤◌, Bool, true, not, ◌&&◌, ltb, List, [], ◌∷◌, length, get_or, take, drop, Err, Result, sym, refl, ap, ◌∙◌, arith}
use Rattle.std.proofs.lemmas.Slice.{between_to_end}
use Rattle.std.proofs.lemmas.Bool.{le-ltb, cond-false, and_parts, not-true}
use Rattle.calls.specs.declared.fields.Call.{Call}
use Rattle.feed.specs.declared.fault.FeedRefusal.{FeedRefusal}
use Rattle.feed.specs.declared.fault.FeedRefusal.TheVariants.{UnknownMark}
use Rattle.feed.specs.Records.{Form, forms, marked, read_by, first_record}

-- what a feed answers that begins with two bytes
pub by_mark : (bs : List ℕ) (a b : ℕ) (r : Result (Call × ℕ) FeedRefusal) → 2 ≤ length bs → get_or bs 0 0 ≡ a → get_or bs 1 0 ≡ b
    → r ≡ read_by forms a b (take (length bs - 2) (drop 2 bs)) → r ≡ first_record bs
by_mark bs a b r h p q v =
    v ∙ ap (λ xs. read_by forms a b xs) (between_to_end bs 2 (length bs) (omega arith))
    ∙ ap (λ y. read_by forms a y (drop 2 bs)) (sym q) ∙ ap (λ x. read_by forms x (get_or bs 1 0) (drop 2 bs)) (sym p)
    ∙ sym (cond-false (ltb (length bs) 2) _ _ (le-ltb (length bs) 2 h))

-- two bytes that are no kind's mark
abbrev pub unmarked : ℕ → ℕ → List Form → Bool
unmarked a b [] = true
unmarked a b (f ∷ fs) = not (marked a b f.mark) && unmarked a b fs

read_none : (fs : List Form) (a b : ℕ) (rest : List ℕ) → unmarked a b fs ≡ true → Err UnknownMark ≡ read_by fs a b rest
read_none [] a b rest h = refl
read_none (f ∷ fs) a b rest h =
    let p = and_parts (not (marked a b f.mark)) (unmarked a b fs) h in
    read_none fs a b rest p.1 ∙ sym (cond-false (marked a b f.mark) _ _ (not-true (marked a b f.mark) p.0))

pub by_no_mark : (bs : List ℕ) → 2 ≤ length bs → unmarked (get_or bs 0 0) (get_or bs 1 0) forms ≡ true → Err UnknownMark ≡ first_record bs
by_no_mark bs h none =
    let rest = take (length bs - 2) (drop 2 bs) in
    by_mark bs (get_or bs 0 0) (get_or bs 1 0) (Err UnknownMark) h refl refl (read_none forms (get_or bs 0 0) (get_or bs 1 0) rest none)
