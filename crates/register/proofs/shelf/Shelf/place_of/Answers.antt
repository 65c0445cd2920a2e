use Rattle.std.proofs.Common.{◌≡◌, ◌+◌, ◌-◌, ◌/◌, ◌<◌, true, length, get_or, sym, ap, ◌∙◌, arith}
use Rattle.std.proofs.lemmas.List.{get_or_default}
use Rattle.register.specs.Keys.{rising}
use Rattle.register.proofs.Seeking.{lower, higher}
use Rattle.register.proofs.shelf.Shelf.place_of.Goals as goal

pub loop-low-preserved-then-here-key-2 : goal.loop-low-preserved-then-here-key-2
loop-low-preserved-then-here-key-2 g c =
    let key = g.T.Keyed.key in
    let xs = c.all-items.result.now in
    let mid = c.loop-low.low + (c.loop-low.high - c.loop-low.low) / 2 in
    let lt : mid < length xs = omega arith in
    let here : (d : g.row.T.Denot) → key (get_or xs mid d) ≡ c.key-here.result = λ d. ap key (get_or_default xs mid d c.index-items-mid.result lt ∙ sym c.index-items-mid.is) ∙ sym c.key-here.ensures in
    let up : rising key xs ≡ true = ap (rising key) c.all-items.ensures ∙ c.requires.rises in
    (omega arith, omega arith, lower key c.args.key xs mid up lt (λ d. omega (arith, here d)) _ (omega arith), c.loop-low.invariant.3)

pub loop-low-preserved : goal.loop-low-preserved
loop-low-preserved g c =
    let key = g.T.Keyed.key in
    let xs = c.all-items.result.now in
    let mid = c.loop-low.low + (c.loop-low.high - c.loop-low.low) / 2 in
    let lt : mid < length xs = omega arith in
    let here : (d : g.row.T.Denot) → key (get_or xs mid d) ≡ c.key-here.result = λ d. ap key (get_or_default xs mid d c.index-items-mid.result lt ∙ sym c.index-items-mid.is) ∙ sym c.key-here.ensures in
    let up : rising key xs ≡ true = ap (rising key) c.all-items.ensures ∙ c.requires.rises in
    let apart = c.if-here-key.false in
    (omega arith, omega arith, c.loop-low.invariant.2, higher key c.args.key xs mid up lt (λ d. omega (arith, here d)) _ (omega arith))
