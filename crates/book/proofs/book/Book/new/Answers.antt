use Rattle.std.proofs.Common.{[], sym, subst}
use Rattle.ledger.specs.Runs.{Leads, fresh}
use Rattle.ledger.proofs.Led.{upheld}
use Rattle.tables.specs.States.{state_of}
use Rattle.book.proofs.book.Book.new.Goals as goal

pub invariant_of-result : goal.invariant_of-result
invariant_of-result c =
    let led = subst (Leads []) (sym c.new-tables.ensures) (fresh _ _ _ _) in
    record { led = ∣ ([], led) ∣₁ }

pub returns : goal.returns
returns c =
    let led : Leads [] (state_of c.new-tables.result) = subst (Leads []) (sym c.new-tables.ensures) (fresh _ _ _ _) in
    record { state = c.new-tables.ensures; law = upheld [] (state_of c.new-tables.result) led }
