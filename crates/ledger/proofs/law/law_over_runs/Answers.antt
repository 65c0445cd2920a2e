use Rattle.ledger.proofs.Balance.{law_over_runs, suppliers_below}
use Rattle.ledger.proofs.Safety.{safe_over_runs}
use Rattle.ledger.proofs.law.law_over_runs.Goals as goal

pub returns : goal.returns
returns c = record { suppliers = suppliers_below; law = law_over_runs; safe = safe_over_runs }
