use Rattle.std.proofs.Common.{◌≡◌, true, leb, refl, sym, subst}
use Rattle.tariff.specs.Each.{each}
use Rattle.register.specs.Views.{held}
use Rattle.ledger.specs.State.{standing, of_account}
use Rattle.ledger.proofs.Led.{each_always}
use Rattle.settling.proofs.close.close_all.Goals as goal

pub walk_all-requires-clause-deliverable : goal.walk_all-requires-clause-deliverable
walk_all-requires-clause-deliverable c =
    let accounts = held c.args.accounts.now.shelf in
    subst (λ ls. each (λ a. leb (standing (of_account a.number) ls) 8000000) accounts ≡ true) (sym c.none.ensures) (each_always _ (λ _. refl) accounts)
