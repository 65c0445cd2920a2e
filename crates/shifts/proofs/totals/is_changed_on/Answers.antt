use Rattle.std.proofs.Common.{not, eqb, sym, refl, ap, ap₂, ◌∙◌, rules, tests}
use Rattle.std.specs.List.{filter}
use Rattle.std.proofs.lemmas.Iterator.{YieldsList-from_map, YieldsList-from_slice}
use Rattle.std.proofs.lemmas.Iterator.Consumers.{YieldsList-at, YieldsList-from_filter, sum_by_from_yields_List}
use Rattle.calls.specs.declared.fields.Line.{Line}
use Rattle.register.specs.Views.{held}
use Rattle.ledger.specs.State.{therms_at, picked, on_pipeline}
use Rattle.ledger.specs.Table.{as_it_stands}
use Rattle.ledger.proofs.Totals.{added_map}
use Rattle.shifts.proofs.Sums.{added_is_sum}
use Rattle.shifts.proofs.totals.is_changed_on.Goals as goal

pub returns : goal.returns
returns c =
    let xs = c.args.named.now in
    let ls = held c.args.lines.now.shelf in
    let here = λ (l : Line). eqb l.pipeline c.args.pipeline in
    let therms = λ (l : Line). l.therms in
    let stood = λ (l : Line). therms_at l.account l.pipeline ls in
    let test = on_pipeline c.args.pipeline in
    let new = sum_by_from_yields_List therms (filter here xs) c.map.result c.sum-new.result c.sum-new.ensures.ran
    (YieldsList-from_map _ therms
    (YieldsList-at c.map.ensures.source
    (YieldsList-from_filter _ here (YieldsList-from_slice xs cc) c.filter.ensures.closure (λ x b q k. search (rules, tests))))
    c.map.ensures.closure (λ x r q k. search (rules, tests))) in
    let was = sum_by_from_yields_List stood (filter here xs) c.map-2.result c.sum-was.result c.sum-was.ensures.ran
    (YieldsList-from_map _ stood
    (YieldsList-at c.map-2.ensures.source
    (YieldsList-from_filter _ here (YieldsList-from_slice xs cc) c.filter-2.ensures.closure (λ x b q k. search (rules, tests))))
    c.map-2.ensures.closure (λ x r q k. search (rules, tests))) in
    ap not
    (ap₂ eqb (new ∙ sym (added_is_sum (picked test) here therms (λ l. refl) xs))
    (was ∙ sym (added_map (picked test) (as_it_stands ls) xs ∙ added_is_sum _ here stood (λ l. refl) xs)))
