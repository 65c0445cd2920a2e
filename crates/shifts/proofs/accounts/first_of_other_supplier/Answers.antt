use Rattle.std.proofs.Common.{not, eqb, sym, ap, ◌∙◌, rules, tests, arith}
use Rattle.std.specs.Option.{option_map}
use Rattle.std.proofs.lemmas.Iterator.{YieldsList-from_slice}
use Rattle.std.proofs.lemmas.Iterator.Search.{find_from_yields_List}
use Rattle.calls.specs.declared.fields.Line.{Line}
use Rattle.register.specs.Views.{held}
use Rattle.ledger.specs.State.{supplier_of}
use Rattle.shifts.proofs.accounts.first_of_other_supplier.Goals as goal

pub returns-in_err-line : goal.returns-in_err-line
returns-in_err-line c =
    let other = λ (l : Line). not (eqb (supplier_of l.account (held c.args.accounts.now.shelf)) c.args.supplier) in
    let found = find_from_yields_List other _ _ c.find.result c.find.ensures.ran (YieldsList-from_slice c.args.named.now cc) (λ x b q k. search (rules, tests)) in
    c.from_residual.ensures ∙ sym (sym found ∙ ap (option_map (λ x. x.now)) c.in_err-line.was)

pub returns : goal.returns
returns c =
    let other = λ (l : Line). not (eqb (supplier_of l.account (held c.args.accounts.now.shelf)) c.args.supplier) in
    let found = find_from_yields_List other _ _ c.find.result c.find.ensures.ran (YieldsList-from_slice c.args.named.now cc) (λ x b q k. search (rules, tests)) in
    let first = sym (sym found ∙ ap (option_map (λ x. x.now)) c.in_ok-line.was) in
    grind (arith, first, rules)
