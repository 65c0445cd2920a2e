-- A reallocation keeps each supplier's total on each pipeline.
use Rattle.std.proofs.Common.{◌≡◌, ℕ, ◌+◌, Bool, true, false, cond, eqb, List, [], ◌∷◌, map, Some, None, refl, ap, arith}
use Rattle.std.specs.List.{AllByRecursion}
use Rattle.std.proofs.lemmas.Bool.Decides.{nat_tests}
use Rattle.std.proofs.lemmas.Bool.{eqb-false, or_parts}
use Rattle.std.proofs.ByRecursion.{All-weaker}
use Rattle.calls.specs.declared.fields.Line.{Line}
use Rattle.register.specs.Keys.{put}
use Rattle.ledger.specs.State.{line_key, therms_at, standing, of_supplier, on_pipeline}
use Rattle.ledger.specs.Table.{as_it_stands, among, first_repeated}
use Rattle.ledger.specs.Effects.{put_lines}
use Rattle.ledger.proofs.Lines.{Small, standing_put, therms_put}
use Rattle.ledger.proofs.Found.{all_put}

-- no line is named twice
abbrev pub Distinct : List Line → Type 0
Distinct [] = Unit {0}
Distinct (x ∷ xs) = AllByRecursion (λ y. line_key x ≡ line_key y → ⊥) xs × Distinct xs

fresh_on : (earlier : List Line) (x : Line) (xs : List Line) → (first_repeated (x ∷ earlier) xs ≡ None → AllByRecursion (λ y. among (line_key y) (x ∷ earlier) ≡ false) xs)
    → (b : Bool) → among (line_key x) earlier ≡ b → cond b (Some x) (first_repeated (x ∷ earlier) xs) ≡ None → AllByRecursion (λ y. among (line_key y) earlier ≡ false) (x ∷ xs)
fresh_on earlier x xs later true e g = absurd (let bad : ◌≡◌ {A = ℕ} 0 1 = cc in omega arith)
fresh_on earlier x xs later false e g = (e, All-weaker (λ y. among (line_key y) (x ∷ earlier) ≡ false) (λ y. among (line_key y) earlier ≡ false) (λ y h. (or_parts _ _ h).1) xs (later g))

-- none repeats an earlier one
unrepeated : (earlier xs : List Line) → first_repeated earlier xs ≡ None → AllByRecursion (λ y. among (line_key y) earlier ≡ false) xs
unrepeated earlier [] h = tt
unrepeated earlier (x ∷ xs) h = fresh_on earlier x xs (unrepeated (x ∷ earlier) xs) (among (line_key x) earlier) refl h

rest_on : (earlier : List Line) (x : Line) (xs : List Line) (b : Bool) → cond b (Some x) (first_repeated (x ∷ earlier) xs) ≡ None → first_repeated (x ∷ earlier) xs ≡ None
rest_on earlier x xs true g = absurd (let bad : ◌≡◌ {A = ℕ} 0 1 = cc in omega arith)
rest_on earlier x xs false g = g

pub distinct : (earlier xs : List Line) → first_repeated earlier xs ≡ None → Distinct xs
distinct earlier [] h = tt
distinct earlier (x ∷ xs) h =
    let rest = rest_on earlier x xs (among (line_key x) earlier) h in
    (All-weaker (λ y. among (line_key y) (x ∷ earlier) ≡ false) (λ y. line_key x ≡ line_key y → ⊥) (λ y f. eqb-false (line_key x) (line_key y) (or_parts _ _ f).0) xs (unrepeated (x ∷ earlier) xs rest), distinct (x ∷ earlier) xs rest)

-- a line that is set leaves what stands on the others
olds_kept : (c : ℕ → ℕ → Bool) (x : Line) (ls : List Line) → Small x → (xs : List Line) → AllByRecursion Small xs → AllByRecursion (λ y. line_key x ≡ line_key y → ⊥) xs
    → standing c (map (as_it_stands (put line_key x ls)) xs) ≡ standing c (map (as_it_stands ls) xs)
olds_kept c x ls sx [] small d = refl
olds_kept c x ls sx (y ∷ ys) small d =
    let apart = d.0 in
    let ih = olds_kept c x ls sx ys small.1 d.1 in
    let t = therms_put x ls sx y.account y.pipeline small.0.1 in
    let same : therms_at y.account y.pipeline (put line_key x ls) ≡ therms_at y.account y.pipeline ls = grind (arith, nat_tests) in
    let one = ap (λ n. cond (c y.account y.pipeline) n 0) same in
    omega arith

standing_puts : (c : ℕ → ℕ → Bool) (xs ls : List Line) → AllByRecursion Small ls → AllByRecursion Small xs → Distinct xs
    → standing c (put_lines xs ls) + standing c (map (as_it_stands ls) xs) ≡ standing c ls + standing c xs
standing_puts c [] ls sl sx d = omega arith
standing_puts c (x ∷ xs) ls sl sx d =
    let ih = standing_puts c xs (put line_key x ls) (all_put line_key Small x ls sx.0 sl) sx.1 d.1 in
    let kept = olds_kept c x ls sx.0 xs sx.1 d.0 in
    let one = standing_put c x ls sl sx.0 in
    omega arith

one_supplier : (supplier : ℕ → ℕ) (sup s p : ℕ) (xs : List Line) → AllByRecursion (λ x. supplier x.account ≡ sup) xs → standing (of_supplier supplier s p) xs ≡ cond (eqb sup s) (standing (on_pipeline p) xs) 0
one_supplier supplier sup s p [] a = grind arith
one_supplier supplier sup s p (x ∷ xs) a = let ih = one_supplier supplier sup s p xs a.1 in let h = a.0 in grind (arith, nat_tests)

olds_supplier : (supplier : ℕ → ℕ) (sup : ℕ) (ls xs : List Line) → AllByRecursion (λ x. supplier x.account ≡ sup) xs → AllByRecursion (λ x. supplier x.account ≡ sup) (map (as_it_stands ls) xs)
olds_supplier supplier sup ls [] a = tt
olds_supplier supplier sup ls (x ∷ xs) a = (a.0, olds_supplier supplier sup ls xs a.1)

pub totals_kept : (supplier : ℕ → ℕ) (sup s p : ℕ) (xs ls : List Line) → AllByRecursion Small ls → AllByRecursion Small xs → Distinct xs → AllByRecursion (λ x. supplier x.account ≡ sup) xs
    → standing (on_pipeline p) xs ≡ standing (on_pipeline p) (map (as_it_stands ls) xs) → standing (of_supplier supplier s p) (put_lines xs ls) ≡ standing (of_supplier supplier s p) ls
totals_kept supplier sup s p xs ls sl sx d own same =
    let moved = standing_puts (of_supplier supplier s p) xs ls sl sx d in
    let new = one_supplier supplier sup s p xs own in
    let was = one_supplier supplier sup s p (map (as_it_stands ls) xs) (olds_supplier supplier sup ls xs own) in
    let both = ap (λ n. cond (eqb sup s) n 0) same in
    omega arith
