-- The rule for Critical Days.
use Rattle.std.specs.Prelude.{ℕ, ◌-◌, ◌*◌, ◌/◌, min}
use Rattle.tariff.specs.declared.question.Figures.{Figures}
use Rattle.tariff.specs.declared.answer.Answer.{Answer}
use Rattle.tariff.specs.Tiers.{first_tier}
use Rattle.tariff.specs.Ordinary.{surplus, shortage, free}

-- the right of the day: 0.017 of capacity
abbrev pub right : Figures → ℕ
right f = 17 * f.capacity / 1000

-- the least of the shortage, storage and the right
abbrev pub taken : Figures → ℕ
taken f = min (min (shortage f) f.storage) (right f)

-- up to what is left of the right
abbrev pub authorized_use : Figures → ℕ
authorized_use f = min (shortage f - taken f) (right f - taken f)

abbrev pub put_away : Figures → ℕ
put_away f = min (surplus f) (free f)

-- the daily maxima play no part, nor do the second and third tier
abbrev pub critical : Figures → Answer
critical f = record {
  injected = put_away f;
  withdrawn = taken f;
  bought = first_tier 0;
  sold = first_tier (surplus f - put_away f);
  authorized = authorized_use f;
  unauthorized = (shortage f - taken f) - authorized_use f;
}
