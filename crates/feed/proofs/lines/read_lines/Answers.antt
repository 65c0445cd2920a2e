use Rattle.std.proofs.Common.{◌≡◌, ◌-◌, ◌/◌, ◌<◌, ◌≤◌, ◌∙◌, sym, ap, [], length, get_or, take, arith, below_more, get_or-set_other, get_or-set_same}
use Rattle.std.proofs.Math.Seq.{ext_get_or}
use Rattle.std.proofs.lemmas.List.{length-set, length-take, length-replicate}
use Rattle.calls.specs.Limits.{blank_line}
use Rattle.feed.specs.Fields.{line_at, lines_of, padded}
use Rattle.feed.proofs.ReadLines.{blank_at, placed, length_padded}
use Rattle.feed.proofs.lines.read_lines.Goals as goal

pub loop-i-init : goal.loop-i-init
loop-i-init c = (length-replicate 200 blank_line, λ k lt. absurd (omega (arith, lt)), λ k ge. blank_at 200 k)

pub loop-i-preserved : goal.loop-i-preserved
loop-i-preserved c =
    let lines = c.loop-i.lines in
    let i = c.loop-i.i in
    let x = c.read_line.result in
    let long : length lines ≡ 200 = c.loop-i.invariant.0 in
    let named = length-take c.from.result c.as_chunks.result.0.now in
    let place : i < length lines = omega (arith, named, c.requires.1, c.from.ensures, c.loop-i-test.true) in (
      length-set lines i x ∙ long,
      below_more _ _
          (λ k lt. get_or-set_other lines i k x blank_line (omega (arith, lt)) ∙ c.loop-i.invariant.1 k lt)
          (get_or-set_same lines i x blank_line place ∙ c.read_line.ensures),
      λ k ge. get_or-set_other lines i k x blank_line (omega (arith, ge)) ∙ c.loop-i.invariant.2 k (omega (arith, ge)),
    )

pub returns : goal.returns
returns c =
    let n = c.args.count in
    let bs = c.args.bytes.now in
    let lines = c.loop-i.lines in
    let i = c.loop-i.i in
    let named = length-take c.from.result c.as_chunks.result.0.now in
    let same : length lines ≡ length (padded n (lines_of n bs)) = c.loop-i.invariant.0 ∙ sym (length_padded n bs c.requires.1) in
    let enough : n ≤ length bs / 9 = omega (arith, c.requires.0) in
    let all : n ≤ i = omega arith in
    let none : i ≤ n = omega arith in
    let front = c.as_chunks.ensures.front in
    let items : take c.from.result c.as_chunks.result.0.now ≡ take n c.as_chunks.result.0.now = ap (λ m. take m c.as_chunks.result.0.now) c.from.ensures in
    ext_get_or blank_line lines _ same (λ k lt.
    placed n _ (200 - n) k bs (get_or lines k blank_line) enough
    (λ below. c.loop-i.invariant.1 k (omega (arith, below, all)) ∙ ap (λ xs. line_at (get_or xs k []) 0) items ∙ ap (λ xs. line_at (get_or (take n xs) k []) 0) front)
    (λ past. c.loop-i.invariant.2 k (omega (arith, past, none))))
