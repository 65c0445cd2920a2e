use Rattle.std.proofs.Common.{◌≡◌, ℕ, zero, suc, ◌+◌, ◌<◌, ◌≤◌, true, List, [], ◌∷◌, length, get_or, drop, sym, refl, ap, ◌∙◌, subst, arith}
use Rattle.std.specs.Result.{IsOk}
use Rattle.std.proofs.lemmas.Bool.Decides.{nat_tests}
use Rattle.register.specs.Keys.{fits}
use Rattle.register.specs.Places.{taken_if}
use Rattle.register.specs.Views.{held, room}
use Rattle.calls.specs.declared.fields.Line.{Line}
use Rattle.calls.specs.Limits.{blank_line}
use Rattle.ledger.specs.State.{line_key}
use Rattle.ledger.specs.Table.{count_absent}
use Rattle.ledger.specs.Effects.{put_lines}
use Rattle.ledger.proofs.Reallocation.{Distinct, distinct}
use Rattle.ledger.proofs.Rooms.{length_puts}
use Rattle.shifts.proofs.Sums.{absent_more}
use Rattle.shifts.proofs.writes.put_all.Goals as goal

-- the lines left of those that differ differ
distinct_drop : (i : ℕ) (xs : List Line) → Distinct xs → Distinct (drop i xs)
distinct_drop zero xs d = d
distinct_drop (suc i) [] d = tt
distinct_drop (suc i) (x ∷ xs) d = distinct_drop i xs d.1

-- the next line finds its place, since what is left comes to what all of them come to
has_place : (xs lines start : List Line) (i space : ℕ) → Distinct xs → put_lines (drop i xs) lines ≡ put_lines xs start
    → length start + count_absent start xs ≤ space → i < length xs → fits line_key space lines (get_or xs i blank_line) ≡ true
has_place xs lines start i space d inv enough lt =
    let left = length_puts (drop i xs) lines (distinct_drop i xs d) in
    let whole = length_puts xs start d in
    let same = ap length inv in
    let next = absent_more lines xs i blank_line lt in
    grind (arith, nat_tests)

pub unwrap-requires : goal.unwrap-requires
unwrap-requires c =
    let xs = c.args.named.now in
    let inv = c.loop-line.invariant in
    let apart = distinct [] xs c.requires.unrepeated in
    let placed = has_place xs (held c.loop-line.lines.shelf) _ c.loop-line.line-index (room c.loop-line.lines.shelf) apart inv.0
    (omega (arith, inv.1, c.requires.space)) c.loop-line-test.true in
    subst IsOk (sym (c.set.ensures.answer ∙ ap taken_if placed)) refl
