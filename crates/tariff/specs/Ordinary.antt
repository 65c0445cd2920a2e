-- The rule for ordinary days.
use Rattle.std.specs.Prelude.{ℕ, ◌-◌, min}
use Rattle.tariff.specs.declared.question.Figures.{Figures}
use Rattle.tariff.specs.declared.answer.Answer.{Answer}
use Rattle.tariff.specs.Tiers.{daily_tiers}

abbrev pub surplus : Figures → ℕ
surplus f = f.delivered - f.used

abbrev pub shortage : Figures → ℕ
shortage f = f.used - f.delivered

abbrev pub free : Figures → ℕ
free f = f.capacity - f.storage

-- the least of the surplus, the maximum and free capacity
abbrev pub injects : Figures → ℕ
injects f = min (min (surplus f) f.max_injection) (free f)

-- the least of the shortage, the maximum and storage
abbrev pub withdraws : Figures → ℕ
withdraws f = min (min (shortage f) f.max_withdrawal) f.storage

-- what storage does not take is sold, and what it does not give is bought
abbrev pub ordinary : Figures → Answer
ordinary f = record {
  injected = injects f;
  withdrawn = withdraws f;
  bought = daily_tiers f.max_withdrawal (shortage f - withdraws f);
  sold = daily_tiers f.max_injection (surplus f - injects f);
  authorized = 0;
  unauthorized = 0;
}
