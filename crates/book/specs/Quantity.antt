-- How much to nominate: which requests are answered, and which deliveries serve.
use Rattle.std.specs.Prelude.{◌≡◌, ℕ, ◌+◌, ◌-◌, ◌≤◌, min, Bool, not, ◌&&◌, ◌⊎◌, Some, None, Ok, Err, Option, Result, nat_le}
use Rattle.tariff.specs.declared.question.Figures.{Figures}
use Rattle.tariff.specs.Loss.{after_loss}
use Rattle.tariff.specs.Ordinary.{ordinary}
use Rattle.tariff.specs.Published.{share}
use Rattle.tariff.specs.Tiers.{total}
use Rattle.calls.specs.Limits.{is_account}
use Rattle.calls.specs.declared.refusal.Refusal.{Refusal}
use Rattle.calls.specs.declared.refusal.Refusal.TheVariants.{OutsideLimits, WrongStage, NoAccount}
use Rattle.ledger.specs.declared.records.Account.{Account}
use Rattle.ledger.specs.State.{State, account_at, known}
use Rattle.ledger.specs.Table.{refuse_if, or_else, is_unopened}
use Rattle.book.specs.declared.request.DeliveryRequest.{DeliveryRequest}

abbrev pub request_within : DeliveryRequest → Bool
request_within q = is_account q.account && nat_le q.used 8000000 && nat_le q.max_injection 10000 && nat_le q.max_withdrawal 10000

-- refused outside its limits, before the first month, and for an account that is not open
abbrev pub quantity_verdict : State → DeliveryRequest → Option Refusal
quantity_verdict s q =
    or_else (refuse_if (not (request_within q)) OutsideLimits)
    (or_else (refuse_if (is_unopened s.stage) WrongStage) (refuse_if (not (known q.account s.accounts)) (NoAccount q.account)))

-- the day that the request speaks of, if so many therms are delivered before loss
abbrev pub day_asked : ℕ → DeliveryRequest → Account → ℕ → ℕ → Figures
day_asked loss q a day therms = record {
  day = day;
  delivered = after_loss loss therms;
  used = q.used;
  storage = a.storage;
  capacity = a.capacity;
  max_injection = share a.capacity q.max_injection;
  max_withdrawal = share a.capacity q.max_withdrawal;
}

-- what storage can take on that day
abbrev pub can_take : DeliveryRequest → Account → ℕ
can_take q a = min (share a.capacity q.max_injection) (a.capacity - a.storage)

-- a delivery before loss that serves: nothing of it is sold by the ordinary rule, on whatever day, and it leaves at most one therm of what
-- storage can take unfilled, unless it is the most that can be delivered
pub record Serves (loss : ℕ) (q : DeliveryRequest) (a : Account) (therms : ℕ) : Type 0 where
  pub low : q.used ≤ therms
  pub high : therms ≤ 8000000
  pub sells_nothing : (day : ℕ) → total (ordinary (day_asked loss q a day therms)).sold ≡ 0
  pub fills : q.used + can_take q a ≤ after_loss loss therms + 1 ⊎ therms ≡ 8000000

abbrev pub QuantityAnswers : State → DeliveryRequest → Result ℕ Refusal → Type 0
QuantityAnswers s q (Ok therms) = (quantity_verdict s q ≡ None) × ((a : Account) → account_at q.account s.accounts ≡ Some a → Serves s.loss q a therms)
QuantityAnswers s q (Err refusal) = quantity_verdict s q ≡ Some refusal
