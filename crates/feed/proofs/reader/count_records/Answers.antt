use Rattle.std.proofs.Common.{◌≡◌, ℕ, ◌+◌, [], ◌∷◌, ◌++◌, Some, None, Ok, Err, Result, sym, refl, ap, ◌∙◌, subst, arith, rules}
use Rattle.std.proofs.lemmas.List.{length-append}
use Rattle.calls.specs.declared.fields.Call.{Call}
use Rattle.feed.specs.declared.fault.Fault.{Fault}
use Rattle.feed.specs.Cuts.{Counted}
use Rattle.feed.specs.Walks.{TakesCall, StopsAt, Gives}
use Rattle.feed.proofs.CutSteps.{nothing_behind, one_more, stopped, ended, counted}
use Rattle.feed.proofs.reader.count_records.Goals as goal

pub loop-record-init : goal.loop-record-init
loop-record-init c =
    let it = c.into_iter-record-iterator.result in
    let n = c.new-record-items.ensures in
    let same = c.into_iter-record-iterator.ensures.into_iter_gives in (
      search rules,
      ([], refl, nothing_behind c.args.feed.now it (search rules) (search rules) (search rules)),
    )

pub returns-in_err-record : goal.returns-in_err-record
returns-in_err-record c =
    let s = c.loop-record.record-iterator in
    let t = c.next.new.self in
    let f = c.in_err-record.field-0.0 in
    let done = c.loop-record.invariant.1 in
    let gives : Result Call Fault → Type 0 = λ r. Gives s (Some r) t in
    let g : StopsAt s f t = subst gives c.in_err-record.was c.in-Some.ensures.steps in
    let e : c.from_residual.result ≡ Err f = search rules in
    let as-counted : Result ℕ Fault → Type 0 = λ r. Counted c.args.feed.now r in
    subst as-counted (sym e) (counted c.args.feed.now done.0 (Some f) (stopped c.args.feed.now done.0 s t done.2 f g))

pub loop-record-preserved : goal.loop-record-preserved
loop-record-preserved c =
    let s = c.loop-record.record-iterator in
    let t = c.next.new.self in
    let call = c.in_ok-record.field-0 in
    let done = c.loop-record.invariant.1 in
    let gives : Result Call Fault → Type 0 = λ r. Gives s (Some r) t in
    let g : TakesCall s call t = subst gives c.in_ok-record.was c.in-Some.ensures.steps in (
      ap (λ n. n + 1) c.loop-record.invariant.0 ∙ sym g.ordinal,
      (
        done.0 ++ (call ∷ []),
        length-append done.0 (call ∷ []) ∙ omega (arith, done.1),
        one_more c.args.feed.now done.0 s t done.2 call g,
      ),
    )

pub returns : goal.returns
returns c =
    let done = c.loop-record.invariant.1 in
    let as-counted : ℕ → Type 0 = λ n. Counted c.args.feed.now (Ok n) in
    subst as-counted done.1
    (counted c.args.feed.now done.0 None (ended c.args.feed.now done.0 c.loop-record.record-iterator c.next.new.self done.2 c.in-None.ensures.steps.0))
