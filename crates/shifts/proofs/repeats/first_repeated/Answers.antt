use Rattle.std.proofs.Common.{rules, tests, take, sym, ◌∙◌}
use Rattle.std.proofs.lemmas.Bool.{cond-true, cond-false}
use Rattle.std.proofs.lemmas.Iterator.{YieldsList-from_slice}
use Rattle.std.proofs.lemmas.Iterator.Search.{any_from_yields_List}
use Rattle.calls.specs.Limits.{blank_line}
use Rattle.shifts.proofs.Firsts.{repeated_more}
use Rattle.shifts.proofs.repeats.first_repeated.Goals as goal

pub returns-then-any : goal.returns-then-any
returns-then-any c =
    let earlier = take c.loop-i.i c.args.named.now in
    let more = repeated_more c.args.named.now c.loop-i.i blank_line c.loop-i-test.true c.any.result
    (any_from_yields_List _ _ _ c.any.result c.any.ensures.ran (YieldsList-from_slice earlier cc) (λ x b q k. search (rules, tests))) in
    sym (more ∙ cond-true _ _ _ c.if-any.true) ∙ c.loop-i.invariant

pub loop-i-preserved : goal.loop-i-preserved
loop-i-preserved c =
    let earlier = take c.loop-i.i c.args.named.now in
    let more = repeated_more c.args.named.now c.loop-i.i blank_line c.loop-i-test.true c.any.result
    (any_from_yields_List _ _ _ c.any.result c.any.ensures.ran (YieldsList-from_slice earlier cc) (λ x b q k. search (rules, tests))) in
    sym (more ∙ cond-false _ _ _ c.if-any.false) ∙ c.loop-i.invariant
