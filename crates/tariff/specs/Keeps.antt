-- The law of day rules.
use Rattle.std.specs.Prelude.{◌≡◌, ◌+◌, ◌-◌, ◌≤◌}
use Rattle.tariff.specs.declared.question.Figures.{Figures}
use Rattle.tariff.specs.declared.answer.Answer.{Answer}
use Rattle.tariff.specs.Tiers.{total}

pub record Keeps (f : Figures) (a : Answer) : Type 0 where
  -- every therm comes from somewhere and goes somewhere
  pub balance : f.delivered + a.withdrawn + total a.bought + a.authorized + a.unauthorized ≡ f.used + a.injected + total a.sold
  -- storage takes no more than it has room for, and gives no more than it holds
  pub room : a.injected ≤ f.capacity - f.storage
  pub held : a.withdrawn ≤ f.storage
  -- nothing is put away without a surplus
  pub no_surplus : f.delivered ≤ f.used → (a.injected ≡ 0) × (total a.sold ≡ 0)
  -- nothing is taken without a shortage
  pub no_shortage : f.used ≤ f.delivered → (a.withdrawn ≡ 0) × (total a.bought ≡ 0) × (a.authorized ≡ 0) × (a.unauthorized ≡ 0)
