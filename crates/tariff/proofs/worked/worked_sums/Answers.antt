use Rattle.std.proofs.Common.{refl}
use Rattle.tariff.specs.Cents.{rounded}
use Rattle.tariff.proofs.worked.worked_sums.Goals as goal

-- the definitions compute each sum
pub returns : goal.returns
unfolding rounded
returns c = record {
  count = refl;
  worked = record {
    given_of_7001 = refl;
    given_of_7002 = refl;
    row_of_7001 = refl;
    row_of_7002 = refl;
    supplier_total = refl;
    half_cent = refl;
    critical_shortage = refl;
    authorized_use = refl;
    unauthorized_use = refl;
    no_capacity = refl;
    level_ordinary = refl;
    level_critical = refl;
    one_therm = refl;
    june_close = refl;
  };
}
