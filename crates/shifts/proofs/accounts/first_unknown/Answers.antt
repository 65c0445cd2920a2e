use Rattle.std.proofs.Common.{ℕ, not, sym, ap, ◌∙◌, rules, tests, arith}
use Rattle.std.specs.Option.{option_map}
use Rattle.std.proofs.lemmas.Iterator.{YieldsList-from_slice}
use Rattle.std.proofs.lemmas.Iterator.Search.{find_from_yields_List}
use Rattle.calls.specs.declared.fields.Line.{Line}
use Rattle.register.specs.Views.{held}
use Rattle.ledger.specs.State.{known}
use Rattle.shifts.proofs.Firsts.{find_figure}
use Rattle.shifts.proofs.accounts.first_unknown.Goals as goal

pub returns-in_err-line : goal.returns-in_err-line
returns-in_err-line c =
    let unknown = λ (n : ℕ). not (known n (held c.args.accounts.now.shelf)) in
    let found = find_from_yields_List (λ (l : Line). unknown l.account) _ _ c.find.result c.find.ensures.ran (YieldsList-from_slice c.args.named.now cc) (λ x b q k. search (rules, tests)) in
    c.from_residual.ensures ∙ sym (find_figure (λ l. l.account) unknown c.args.named.now ∙ ap (option_map (λ l. l.account)) (sym found ∙ ap (option_map (λ x. x.now)) c.in_err-line.was))

pub returns : goal.returns
returns c =
    let unknown = λ (n : ℕ). not (known n (held c.args.accounts.now.shelf)) in
    let found = find_from_yields_List (λ (l : Line). unknown l.account) _ _ c.find.result c.find.ensures.ran (YieldsList-from_slice c.args.named.now cc) (λ x b q k. search (rules, tests)) in
    let first = sym (find_figure (λ l. l.account) unknown c.args.named.now ∙ ap (option_map (λ l. l.account)) (sym found ∙ ap (option_map (λ x. x.now)) c.in_ok-line.was)) in
    grind (arith, first, rules)
