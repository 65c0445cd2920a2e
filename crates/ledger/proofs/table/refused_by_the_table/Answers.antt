use Rattle.std.proofs.Common.{refl}
use Rattle.ledger.proofs.Refusing.{by_the_table}
use Rattle.ledger.proofs.table.refused_by_the_table.Goals as goal

pub returns : goal.returns
returns c = record { count = λ s c. refl; refused = by_the_table }
