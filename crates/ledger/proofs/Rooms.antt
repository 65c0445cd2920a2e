-- How long tables become.
use Rattle.std.proofs.Common.{◌≡◌, ℕ, ◌+◌, ◌*◌, ◌<◌, ◌≤◌, true, false, cond, not, eqb, List, [], ◌∷◌, length, is_some, refl, arith}
use Rattle.std.specs.List.{AllByRecursion}
use Rattle.std.proofs.lemmas.Bool.Decides.{nat_tests}
use Rattle.register.specs.Keys.{at, put, rising}
use Rattle.calls.specs.declared.fields.Line.{Line}
use Rattle.calls.specs.declared.fields.PriceQuote.{PriceQuote}
use Rattle.ledger.specs.State.{line_key}
use Rattle.ledger.specs.Table.{no_room, count_absent}
use Rattle.ledger.specs.Rows.{index_total}
use Rattle.ledger.specs.Effects.{put_lines}
use Rattle.ledger.proofs.Found.{at_put, rising_parts}
use Rattle.ledger.proofs.Reallocation.{Distinct}

pub roomy : (held more room : ℕ) → no_room held more room ≡ false → held ≤ room → held + more ≤ room
roomy held more room h k = grind (arith, nat_tests)

pub length_put : {X : Type 0} (key : X → ℕ) (x : X) (xs : List X) → length (put key x xs) ≡ length xs + cond (not (is_some (at key (key x) xs))) 1 0
length_put key x [] = refl
length_put key x (y ∷ ys) = let ih = length_put key x ys in grind (arith, nat_tests)

-- a line that is put changes nothing of the others
absent_kept : (x : Line) (lines xs : List Line) → AllByRecursion (λ y. line_key x ≡ line_key y → ⊥) xs → count_absent (put line_key x lines) xs ≡ count_absent lines xs
absent_kept x lines [] d = refl
absent_kept x lines (y ∷ ys) d =
    let ih = absent_kept x lines ys d.1 in
    let apart = d.0 in
    let same = at_put line_key (line_key y) x lines in
    grind (arith, nat_tests)

pub length_puts : (xs lines : List Line) → Distinct xs → length (put_lines xs lines) ≡ length lines + count_absent lines xs
length_puts [] lines d = omega arith
length_puts (x ∷ xs) lines d =
    let ih = length_puts xs (put line_key x lines) d.1 in
    let kept = absent_kept x lines xs d.0 in
    let one = length_put line_key x lines in
    omega arith

-- rising keys above one number and up to another are no more than what lies between
pub rising_count : {X : Type 0} (key : X → ℕ) (low high : ℕ) (xs : List X) → rising key xs ≡ true → AllByRecursion (λ x. low < key x) xs → AllByRecursion (λ x. key x ≤ high) xs → length xs + low ≤ high + cond (eqb (length xs) 0) low 0
rising_count key low high [] r a b = grind (arith, nat_tests)
rising_count key low high (x ∷ xs) r a b =
    let p = rising_parts key x xs r in
    let ih = rising_count key (key x) high xs p.1 p.0 b.1 in
    let up = a.0 in
    let top = b.0 in
    grind (arith, nat_tests)

pub index_total_high : (prices : List PriceQuote) → AllByRecursion (λ p. p.index ≤ 1000000) prices → index_total prices ≤ length prices * 1000000
index_total_high [] a = omega arith
index_total_high (p ∷ ps) a = let ih = index_total_high ps a.1 in let h = a.0 in omega arith
