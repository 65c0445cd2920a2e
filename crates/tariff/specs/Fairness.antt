-- The limits of fair figures, one by one.
use Rattle.std.specs.Prelude.{◌≡◌, ◌≤◌, true}
use Rattle.std.proofs.Common.{arith}
use Rattle.std.proofs.lemmas.Bool.Decides.{nat_tests}
use Rattle.tariff.specs.declared.question.Figures.{Figures}
use Rattle.tariff.specs.Figures.{fair}

pub record Limits (f : Figures) : Type 0 where
  pub day_low : 1 ≤ f.day
  pub day_high : f.day ≤ 31
  pub delivered_high : f.delivered ≤ 8000000
  pub used_high : f.used ≤ 8000000
  pub capacity_high : f.capacity ≤ 100000000
  pub storage_high : f.storage ≤ f.capacity
  pub injection_high : f.max_injection ≤ f.capacity
  pub withdrawal_high : f.max_withdrawal ≤ f.capacity

pub limits : (f : Figures) → fair f ≡ true → Limits f
limits f h = record {
  day_low = grind (arith, nat_tests);
  day_high = grind (arith, nat_tests);
  delivered_high = grind (arith, nat_tests);
  used_high = grind (arith, nat_tests);
  capacity_high = grind (arith, nat_tests);
  storage_high = grind (arith, nat_tests);
  injection_high = grind (arith, nat_tests);
  withdrawal_high = grind (arith, nat_tests);
}

pub fair_from : (f : Figures) → Limits f → fair f ≡ true
fair_from f l = grind (arith, nat_tests)
