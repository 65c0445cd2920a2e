use Rattle.std.proofs.Common.{◌≡◌, Bool, true, ◌&&◌, leb, sym, subst}
use Rattle.tariff.specs.Each.{each}
use Rattle.register.specs.Views.{held}
use Rattle.ledger.specs.declared.records.Account.{Account}
use Rattle.ledger.specs.State.{standing, of_account}
use Rattle.ledger.specs.Table.{has_reading}
use Rattle.ledger.specs.Safety.{account_within}
use Rattle.settling.proofs.Passing.{each_both}
use Rattle.settling.proofs.day.settle_all.Goals as goal

pub walk_all-requires-clause-ready : goal.walk_all-requires-clause-ready
walk_all-requires-clause-ready g c =
    let accounts = held c.args.accounts.now.shelf in
    let few : Account → Bool = λ a. leb (standing (of_account a.number) c.args.lines.now) 8000000 in
    subst (λ ls. each (λ a. leb (standing (of_account a.number) ls) 8000000 && account_within a && has_reading a) accounts ≡ true) (sym c.over.ensures)
    (each_both (λ a. few a && account_within a) has_reading accounts (each_both few account_within accounts c.requires.deliverable c.requires.accounts_within) c.requires.read)
