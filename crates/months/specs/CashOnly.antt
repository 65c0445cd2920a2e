-- A rule that leaves storage alone: a surplus is sold, a shortage bought, all in the third tier.
use Rattle.std.specs.Prelude.{◌-◌}
use Rattle.tariff.specs.declared.question.Figures.{Figures}
use Rattle.tariff.specs.declared.answer.Answer.{Answer}
use Rattle.tariff.specs.Tiers.{tiers}

abbrev pub cash_only : Figures → Answer
cash_only f = record {
  injected = 0;
  withdrawn = 0;
  bought = tiers 0 0 (f.used - f.delivered);
  sold = tiers 0 0 (f.delivered - f.used);
  authorized = 0;
  unauthorized = 0;
}
