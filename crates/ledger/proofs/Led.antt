-- A book that calls alone have led to: what its calls may lean on, and that one call more leads on.
use Rattle.std.proofs.Common.{◌≡◌, ℕ, zero, suc, ◌<◌, Bool, true, false, ◌||◌, eqb, ltb, List, [], ◌∷◌, pos, neg_ℤ, is_some, Some, None, Option, refl, arith}
use mathlib.Core.Bool.{Bool-set}
use mathlib.Core.Logic.{∥∥₁_elim, ∥∥₁_map}
use lib.Signed.{le_z}
use Rattle.std.specs.List.{AllByRecursion}
use Rattle.std.proofs.lemmas.Int.{ints}
use Rattle.std.proofs.lemmas.Bool.Decides.{nat_tests}
use Rattle.std.proofs.lemmas.Bool.{and_from, le-leb, lt-ltb}
use Rattle.tariff.specs.Calendar.{in_calendar, days_in}
use Rattle.tariff.specs.Cents.{RowBound}
use Rattle.tariff.specs.Each.{each}
use Rattle.calls.specs.declared.fields.Call.{Call}
use Rattle.calls.specs.declared.refusal.Refusal.{Refusal}
use Rattle.calls.specs.Limits.{line_within}
use Rattle.ledger.specs.declared.records.Row.{Row}
use Rattle.ledger.specs.declared.records.Stage.{Stage}
use Rattle.ledger.specs.declared.records.Stage.TheVariants.{Unopened, Between, Nominating, Ended, Closed}
use Rattle.ledger.specs.State.{State, days_of}
use Rattle.ledger.specs.Table.{verdict, is_unopened}
use Rattle.ledger.specs.Rows.{Rules}
use Rattle.ledger.specs.Effects.{done}
use Rattle.ledger.specs.Runs.{History, Leads, Lawful, met, refused, accepted, answered, answer_by, after, after_by, count_of}
use Rattle.ledger.specs.Safety.{CalendarSafe, account_within}
use Rattle.ledger.specs.Law.{Upheld}
use Rattle.ledger.specs.Ready.{Led, Ready, no_day, price_of_month, cents_bounded, deliverable}
use Rattle.ledger.proofs.Lines.{whole_limit}
use Rattle.ledger.proofs.Balance.{holds, balanced, straight_all_along}
use Rattle.ledger.proofs.Safety.{safe, close_priced}

each_of : {X : Type 0} (P : X → Type 0) (test : X → Bool) → ((x : X) → P x → test x ≡ true) → (xs : List X) → AllByRecursion P xs → each test xs ≡ true
each_of P test f [] a = refl
each_of P test f (x ∷ xs) a = and_from _ _ (f x a.0) (each_of P test f xs a.1)

pub each_always : {X : Type 0} (test : X → Bool) → ((x : X) → test x ≡ true) → (xs : List X) → each test xs ≡ true
each_always test f [] = refl
each_always test f (x ∷ xs) = and_from _ _ (f x) (each_always test f xs)

bounded : (r : Row) → RowBound r.cents → cents_bounded r ≡ true
bounded r b =
    let low : le_z (neg_ℤ (pos 1157500000000)) r.cents ≡ true = let h = b.0 in grind (arith, ints) in
    let high : le_z r.cents (pos 1157500000000) ≡ true = let h = b.1 in grind (arith, ints) in
    and_from _ _ low high

opened : (t : Stage) (year month : ℕ) → (is_unopened t ≡ false → in_calendar year month ≡ true) → (is_unopened t || in_calendar year month) ≡ true
opened Unopened year month h = refl
opened Between year month h = h refl
opened (Nominating k) year month h = h refl
opened (Ended k) year month h = h refl
opened Closed year month h = h refl

day_of_month : (t : Stage) (year month settled : ℕ) → CalendarSafe t year month settled → (no_day t || ltb settled (days_in year month)) ≡ true
day_of_month Unopened year month settled x = refl
day_of_month Between year month settled x = refl
day_of_month (Nominating k) year month settled x = lt-ltb _ _ (x.today refl)
day_of_month (Ended k) year month settled x = lt-ltb _ _ (x.today refl)
day_of_month Closed year month settled x = refl

costed : (settled : ℕ) (there : Bool) → (0 < settled → there ≡ true) → (eqb settled 0 || there) ≡ true
costed zero there h = refl
costed (suc n) there h = let there = h (omega arith) in grind (arith, nat_tests)

-- the truncation comes off, since a test's answer has one proof
module _ {s : State} (led : Led s) where
  sure : (b : Bool) → ((h : History) → Leads h s → b ≡ true) → b ≡ true
  sure b f = ∥∥₁_elim led (Bool-set b true) (λ x. f x.0 x.1)

  pub ready : Ready s
  ready = record {
    accounts_rise = sure _ (λ h l. (safe l).accounts.rise);
    lines_rise = sure _ (λ h l. (safe l).lines.rise);
    prices_rise = sure _ (λ h l. (safe l).prices.rise);
    accounts_within = sure _ (λ h l. each_of (λ a. account_within a ≡ true) account_within (λ a e. e) s.accounts (safe l).accounts.each);
    lines_within = sure _ (λ h l. each_of (λ x. line_within x ≡ true) line_within (λ x e. e) s.lines (safe l).lines.each);
    accounts_deliverable = sure _ (λ h l. each_always (deliverable s) (λ a. le-leb _ _ (whole_limit (holds l).lines a.number)) s.accounts);
    prices_within = sure _ (λ h l. each_of (λ p. price_of_month (days_of s) p ≡ true) (price_of_month (days_of s)) (λ p e. e) s.prices (safe l).prices.each);
    rows_few = sure _ (λ h l. le-leb _ _ (safe l).rows.fit);
    rows_bounded = sure _ (λ h l. each_of (λ r. RowBound r.cents) cents_bounded bounded s.rows (safe l).rows.each);
    month_known = sure _ (λ h l. opened s.stage s.year s.month (safe l).calendar.month_known);
    day_known = sure _ (λ h l. day_of_month s.stage s.year s.month s.settled (safe l).calendar);
    settled_few = sure _ (λ h l. le-leb _ _ (safe l).calendar.within_month);
    loss_within = sure _ (λ h l. le-leb _ _ (safe l).loss);
    gas_cost_there = sure _ (λ h l. costed s.settled (is_some s.gas_cost) (safe l).priced.gas_cost_there);
    gas_cost_within = sure _ (λ h l. le-leb _ _ (safe l).gas_cost);
  }

-- the law holds of every run
pub upheld : (h : History) (s : State) → Leads h s → Upheld h s
upheld h s l = record { run = l; balanced = balanced h s (holds l); straight = λ l. straight_all_along l; safe = safe l; close_priced = close_priced s (safe l) }

module _ (rules : Rules) (lo : Lawful rules.ordinary) (lc : Lawful rules.critical) where
  next : (h : History) (s : State) (c : Call) (o : Option Refusal) → verdict s c ≡ o → Leads h s → Leads (met c rules (answer_by o (count_of s c)) ∷ h) (after_by o (done rules s c) s)
  next h s c None e l = accepted c rules l lo lc e
  next h s c (Some r) e l = refused c rules r l e

  -- one call more leads on
  pub leads_on : (h : History) (s : State) (c : Call) → Leads h s → Leads (met c rules (answered s c) ∷ h) (after rules s c)
  leads_on h s c l = next h s c (verdict s c) refl l

  pub led_on : (s : State) (c : Call) → Led s → Led (after rules s c)
  led_on s c led = ∥∥₁_map led (λ x. (met c rules (answered s c) ∷ x.0, leads_on x.0 s c x.1))
