-- The loss between pipeline and meter, in hundredths of a percent.
use Rattle.std.specs.Prelude.{ℕ, ◌-◌}
use Rattle.tariff.specs.Published.{share}

abbrev pub most_loss : ℕ
most_loss = 2000

-- what an account's lines, added up, deliver: rounded down once
abbrev pub after_loss : ℕ → ℕ → ℕ
after_loss loss therms = share therms (10000 - loss)
