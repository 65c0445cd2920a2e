use Rattle.std.proofs.Common.{not, sym, ap, ◌∙◌, rules, tests, arith}
use Rattle.std.specs.Option.{option_map}
use Rattle.std.proofs.lemmas.Iterator.{YieldsList-from_slice}
use Rattle.std.proofs.lemmas.Iterator.Search.{find_from_yields_List}
use Rattle.ledger.specs.declared.records.Account.{Account}
use Rattle.ledger.specs.Table.{has_reading}
use Rattle.settling.proofs.readings.first_unread.Goals as goal

pub returns-in_err-account : goal.returns-in_err-account
returns-in_err-account c =
    let found = find_from_yields_List (λ (a : Account). not (has_reading a)) _ _ c.find.result c.find.ensures.ran (YieldsList-from_slice c.args.accounts.now cc) (λ x b q k. search (rules, tests)) in
    c.from_residual.ensures ∙ sym (sym found ∙ ap (option_map (λ x. x.now)) c.in_err-account.was)

pub returns : goal.returns
returns c =
    let found = find_from_yields_List (λ (a : Account). not (has_reading a)) _ _ c.find.result c.find.ensures.ran (YieldsList-from_slice c.args.accounts.now cc) (λ x b q k. search (rules, tests)) in
    let unread = sym (sym found ∙ ap (option_map (λ x. x.now)) c.in_ok-account.was) in
    grind (arith, unread, rules)
