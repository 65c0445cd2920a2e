-- The book's lines and the count's agree, one line after another.
use Rattle.std.proofs.Common.{◌≡◌, ℕ, ◌+◌, ◌*◌, ◌<◌, ◌≤◌, Bool, cond, ◌&&◌, eqb, List, [], ◌∷◌, Some, None, Option, sym, refl, ap, ◌∙◌, ap₂, ⊎_elim, arith}
use Rattle.std.specs.List.{AllByRecursion}
use Rattle.std.proofs.lemmas.Bool.Decides.{nat_tests}
use Rattle.std.proofs.lemmas.Bool.{cases_eq}
use Rattle.calls.specs.declared.fields.Line.{Line}
use Rattle.ledger.specs.Sums.{below}
use Rattle.register.specs.Keys.{at, put}
use Rattle.ledger.specs.State.{line_key, shown, therms_at, picked, standing, of_account, of_supplier}
use Rattle.ledger.specs.Effects.{put_lines}
use Rattle.ledger.specs.Count.{set, set_line, set_lines, counted}
use Rattle.ledger.proofs.Found.{at_put, at_key, added_put, all_put, all_at}
use Rattle.ledger.proofs.Totals.{below_le, below_same, below_set, below_zero}

abbrev pub Small : Line → Type 0
Small l = (0 < l.pipeline) × (l.pipeline < 9) × (l.therms ≤ 1000000)

pub record LinesAgree (supplier : ℕ → ℕ) (lines : ℕ → ℕ → ℕ) (book : List Line) : Type 0 where
  pub small : AllByRecursion Small book
  pub each : (n p : ℕ) → p < 9 → therms_at n p book ≡ lines n p
  pub whole : (n : ℕ) → standing (of_account n) book ≡ below 9 (lines n)
  pub totals : (s p : ℕ) → p < 9 → standing (of_supplier supplier s p) book ≡ counted supplier lines s p

-- what a test picks of the line that stood there
was : (c : ℕ → ℕ → Bool) (x : Line) (ls : List Line) → AllByRecursion Small ls → Small x → (o : Option Line) → at line_key (line_key x) ls ≡ o → shown (picked c) o ≡ cond (c x.account x.pipeline) (shown (λ l. l.therms) o) 0
was c x ls small sx None e = grind arith
was c x ls small sx (Some y) e =
    let sy = all_at line_key Small (line_key x) ls y small e in
    let same = at_key line_key (line_key x) ls y e in
    let a : y.account ≡ x.account = omega arith in
    let p : y.pipeline ≡ x.pipeline = omega arith in
    ap (λ b. cond b y.therms 0) (ap₂ c a p)

pub standing_put : (c : ℕ → ℕ → Bool) (x : Line) (ls : List Line) → AllByRecursion Small ls → Small x → standing c (put line_key x ls) + cond (c x.account x.pipeline) (therms_at x.account x.pipeline ls) 0 ≡ standing c ls + cond (c x.account x.pipeline) x.therms 0
standing_put c x ls small sx =
    let w = was c x ls small sx (at line_key (line_key x) ls) refl in
    let s = added_put line_key (picked c) x ls in
    omega arith

pub therms_put : (x : Line) (ls : List Line) → Small x → (n p : ℕ) → p < 9 → therms_at n p (put line_key x ls) ≡ cond (eqb n x.account && eqb p x.pipeline) x.therms (therms_at n p ls)
therms_put x ls sx n p h = let e = at_put line_key (n * 16 + p) x ls in grind (arith, nat_tests)

-- two sums that change by the same
level : (a b a' b' out out' in' : ℕ) → a' + out ≡ a + in' → b' + out' ≡ b + in' → a ≡ b → out ≡ out' → a' ≡ b'
level a b a' b' out out' in' p q e f = omega arith

module _ (supplier : ℕ → ℕ) (lines : ℕ → ℕ → ℕ) (book : List Line) (x : Line) where
  whole_set : (n : ℕ) → Small x → below 9 (set_line lines x n) + cond (eqb x.account n) (lines x.account x.pipeline) 0 ≡ below 9 (lines n) + cond (eqb x.account n) x.therms 0
  whole_set n sx =
      ⊎_elim
      (λ (e : x.account ≡ n).
      let same = below_same 9 (set_line lines x n) (set (lines n) x.pipeline x.therms) (λ k h. grind (arith, nat_tests)) in
      let one = below_set 9 (lines n) x.pipeline x.therms sx.1 in
      grind (arith, nat_tests))
      (λ (e : x.account ≡ n → ⊥).
      let same = below_same 9 (set_line lines x n) (lines n) (λ k h. grind (arith, nat_tests)) in
      grind (arith, nat_tests))
      (cases_eq x.account n)

  totals_set : (s p : ℕ) → x.account < 1000000000 → counted supplier (set_line lines x) s p + cond (of_supplier supplier s p x.account x.pipeline) (lines x.account x.pipeline) 0 ≡ counted supplier lines s p + cond (of_supplier supplier s p x.account x.pipeline) x.therms 0
  totals_set s p big =
      let f : ℕ → ℕ = λ n. cond (eqb (supplier n) s) (lines n p) 0 in
      let g : ℕ → ℕ = λ n. cond (eqb (supplier n) s) (set_line lines x n p) 0 in
      let v : ℕ = cond (eqb (supplier x.account) s) x.therms 0 in
      ⊎_elim
      (λ (e : x.pipeline ≡ p).
      let same = below_same 1000000000 g (set f x.account v) (λ k h. grind (arith, nat_tests)) in
      let one = below_set 1000000000 f x.account v big in
      grind (arith, nat_tests))
      (λ (e : x.pipeline ≡ p → ⊥).
      let same = below_same 1000000000 g f (λ k h. grind (arith, nat_tests)) in
      grind (arith, nat_tests))
      (cases_eq x.pipeline p)

  pub lines_put : x.account < 1000000000 → Small x → LinesAgree supplier lines book → LinesAgree supplier (set_line lines x) (put line_key x book)
  lines_put big sx i =
      let stood = i.each x.account x.pipeline sx.1 in
      record {
        small = all_put line_key Small x book sx i.small;
        each = λ n p h. therms_put x book sx n p h ∙ ap (cond (eqb n x.account && eqb p x.pipeline) x.therms) (i.each n p h);
        whole = λ n. level _ _ _ _ _ _ _ (standing_put (of_account n) x book i.small sx) (whole_set n sx) (i.whole n) (ap (λ t. cond (eqb x.account n) t 0) stood);
        totals = λ s p h. level _ _ _ _ _ _ _ (standing_put (of_supplier supplier s p) x book i.small sx) (totals_set s p big) (i.totals s p h) (ap (λ t. cond (of_supplier supplier s p x.account x.pipeline) t 0) stood);
      }

-- each line of a reallocation in turn
pub lines_puts : {supplier : ℕ → ℕ} (xs : List Line) {lines : ℕ → ℕ → ℕ} {book : List Line} → AllByRecursion (λ x. (x.account < 1000000000) × Small x) xs → LinesAgree supplier lines book → LinesAgree supplier (set_lines lines xs) (put_lines xs book)
lines_puts [] ok i = i
lines_puts {supplier} (x ∷ xs) {lines} {book} ok i = lines_puts xs ok.1 (lines_put supplier lines book x ok.0.0 ok.0.1 i)

pub lines_none : (supplier : ℕ → ℕ) → LinesAgree supplier (λ _ _. 0) []
lines_none supplier = record {
  small = tt;
  each = λ n p h. refl;
  whole = λ n. sym (below_zero 9 (λ _. 0) (λ k h. refl));
  totals = λ s p h. sym (below_zero 1000000000 (λ n. cond (eqb (supplier n) s) 0 0) (λ k h. grind arith));
}

-- without lines the suppliers do not matter
pub lines_idle : {supplier : ℕ → ℕ} {lines : ℕ → ℕ → ℕ} {book : List Line} → book ≡ [] → LinesAgree supplier lines book → (other : ℕ → ℕ) → LinesAgree other lines book
lines_idle {supplier} {lines} {book} none i other = record {
  small = i.small;
  each = i.each;
  whole = i.whole;
  totals = λ s p h.
      ap (standing (of_supplier other s p)) none
      ∙ sym (below_zero 1000000000 (λ n. cond (eqb (other n) s) (lines n p) 0)
      (λ n l. let zero : lines n p ≡ 0 = sym (i.each n p h) ∙ ap (λ ls. therms_at n p ls) none in grind arith));
}

-- no account's lines come to more than eight full ones
at_most : (ls : List Line) (n p : ℕ) → p < 9 → AllByRecursion Small ls → (o : Option Line) → at line_key (n * 16 + p) ls ≡ o → (shown (λ l. l.therms) o ≤ 1000000) × (p ≡ 0 → shown (λ l. l.therms) o ≡ 0)
at_most ls n p h small None e = (omega arith, λ _. refl)
at_most ls n p h small (Some y) e =
    let sy = all_at line_key Small (n * 16 + p) ls y small e in
    let same = at_key line_key (n * 16 + p) ls y e in
    (sy.2, λ z. absurd (omega arith))

pub whole_limit : {supplier : ℕ → ℕ} {lines : ℕ → ℕ → ℕ} {book : List Line} → LinesAgree supplier lines book → (n : ℕ) → standing (of_account n) book ≤ 8000000
whole_limit {supplier} {lines} {book} i n =
    let each : (k : ℕ) → k < 9 → lines n k ≤ 1000000 = λ k h. omega (arith, i.each n k h, (at_most book n k h i.small (at line_key (n * 16 + k) book) refl).0) in
    let none : lines n 0 ≡ 0 = sym (i.each n 0 (omega arith)) ∙ (at_most book n 0 (omega arith) i.small (at line_key (n * 16 + 0) book) refl).1 refl in
    omega (arith, below_le 8 (lines n) 1000000 each, i.whole n)
