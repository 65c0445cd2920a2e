use Rattle.std.proofs.Common.{◌+◌, [], ◌∷◌, ◌++◌, Some, None, sym, ap, ◌∙◌, append-nil, arith, rules, ◌≡◌, string_bytes, append_assoc, codes}
use Rattle.feed.specs.Cuts.{feed_fault}
use Rattle.listing.proofs.CutSteps.{nothing_behind, one_more, stopped, ended}
use Rattle.listing.specs.Listing.{mark_of, figures_of, figures_text, calls_text, call_text, ending_text}
use Rattle.listing.proofs.Joins.{calls_push, listed}
use Rattle.listing.proofs.listing.Goals as goal

pub loop-offset-init : goal.loop-offset-init
loop-offset-init c = (omega arith, omega arith, ([], c.new-out.ensures.bytes, nothing_behind c.args.feed.now))

pub loop-offset-preserved : goal.loop-offset-preserved
loop-offset-preserved c =
    let done = c.loop-offset.invariant.2 in
    let bound = c.in-Ok.ensures.bound in
    let call = c.in-Ok.call in
    let e : string_bytes c.writeln.new.self ≡ string_bytes c.loop-offset.out ++ call_text call =
    c.in_ok-writeln-in-Ok.ensures.bytes ∙ ap (λ x. string_bytes c.loop-offset.out ++ x) (append_assoc (mark_of call) (figures_text (figures_of call)) (codes "\n")) in (
      search rules,
      search rules,
      (
        done.0 ++ (call ∷ []),
        e ∙ ap (λ x. x ++ call_text call) done.1 ∙ sym (calls_push done.0 call),
        one_more c.args.feed.now (c.loop-offset.count + 1) c.loop-offset.offset done.0 done.2 call c.in-Ok.length c.loop-offset-test.true c.in-Ok.ensures.value,
      ),
    )

pub returns-in-Err : goal.returns-in-Err
returns-in-Err c =
    let done = c.loop-offset.invariant.2 in
    let fault = feed_fault (c.loop-offset.count + 1) c.loop-offset.offset c.in-Err.cause in
    listed c.args.feed.now _ done.0 (Some fault)
    (stopped c.args.feed.now (c.loop-offset.count + 1) c.loop-offset.offset done.0 done.2 c.in-Err.cause c.loop-offset-test.true c.in-Err.ensures.value)
    (c.in_ok-writeln-in-Err.ensures.bytes ∙ ap (λ x. x ++ ending_text (Some fault)) done.1)

pub returns : goal.returns
returns c =
    let done = c.loop-offset.invariant.2 in
    listed c.args.feed.now _ done.0 None
    (ended c.args.feed.now (c.loop-offset.count + 1) c.loop-offset.offset done.0 done.2 c.loop-offset-test.false)
    (done.1 ∙ sym (append-nil (calls_text done.0)))
