use Rattle.std.proofs.Common.{refl}
use Rattle.tariff.specs.Cents.{rounded}
use Rattle.ledger.proofs.example.example_day.Goals as goal

-- the definitions compute it
pub returns : goal.returns
unfolding rounded
returns c = record { owed = refl; day = record { rows = refl; too_early = refl; total_moved = refl; unread = refl } }
