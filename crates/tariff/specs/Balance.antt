-- What the law of day rules says of one day's therms.
use Rattle.std.specs.Prelude.{◌≡◌, ℕ, ◌+◌, ◌-◌, ◌≤◌, true}
use Rattle.std.proofs.Common.{arith}
use Rattle.tariff.specs.declared.question.Figures.{Figures}
use Rattle.tariff.specs.declared.answer.Answer.{Answer}
use Rattle.tariff.specs.Figures.{fair}
use Rattle.tariff.specs.Keeps.{Keeps}
use Rattle.tariff.specs.Fairness.{limits}

-- a surplus and a shortage, each met by storage and a rest, balance the day
pub level : (delivered used injected withdrawn sold bought : ℕ) → injected ≤ delivered - used → withdrawn ≤ used - delivered
    → bought ≡ (used - delivered) - withdrawn → sold ≡ (delivered - used) - injected
    → delivered + withdrawn + bought + 0 + 0 ≡ used + injected + sold
level delivered used injected withdrawn sold bought hi hw eb es = omega arith

-- storage stays within capacity
pub stored_high : (f : Figures) (a : Answer) → fair f ≡ true → Keeps f a → f.storage + a.injected ≤ f.capacity
stored_high f a h k = let l = limits f h in omega arith
