-- One account's day and one account's close, in the count's terms.
use Rattle.std.proofs.Common.{◌≡◌, ℕ, ◌+◌, ◌-◌, ◌/◌, ◌≤◌, true, cond, is_some, Some, None, Option, sym, refl, ap, ◌∙◌, ap₂, arith}
use Rattle.std.proofs.lemmas.Bool.Decides.{nat_tests}
use Rattle.tariff.specs.Figures.{fair}
use Rattle.tariff.specs.Loss.{after_loss}
use Rattle.tariff.specs.Published.{maxima, daily_maxima, maxima_in, maxima_bounded, maxima_of, band_in}
use Rattle.tariff.specs.Closing.{close_buys, close_sells}
use Rattle.tariff.specs.EachLemmas.{each_getD}
use Rattle.tariff.specs.Fairness.{fair_from}
use Rattle.tariff.specs.Shares.{share_le, percent_le, percent_whole}
use Rattle.tariff.proofs.Tables.{band_bounds}
use Rattle.tariff.specs.Wholes.{total_split}
use Rattle.tariff.specs.Balance.{stored_high}
use Rattle.ledger.specs.declared.records.Account.{Account}
use Rattle.ledger.specs.declared.records.DayKind.{DayKind}
use Rattle.ledger.specs.declared.records.DayKind.TheVariants.{Ordinary, Critical}
use Rattle.ledger.specs.Sums.{below}
use Rattle.ledger.specs.State.{State, shown, amount, number, account_at, standing, of_account}
use Rattle.ledger.specs.Rows.{Rules, rule_for, day_figures, settled_account, settled_row, closed_account, closed_row}
use Rattle.ledger.specs.Effects.{begun_kind}
use Rattle.ledger.specs.Runs.{Lawful}
use Rattle.ledger.specs.Count.{Count, delivered}
use Rattle.ledger.specs.Claim.{came, went, Answered, InBand}
use Rattle.ledger.proofs.Found.{at_key, all_at}
use Rattle.ledger.proofs.Lines.{whole_limit}
use Rattle.ledger.proofs.Accounts.{Sound}
use Rattle.ledger.proofs.Invariant.{Holds}
use Rattle.ledger.proofs.Written.{Written}

pub lawful_for : (kind : DayKind) (rules : Rules) → Lawful rules.ordinary → Lawful rules.critical → Lawful (rule_for kind rules)
lawful_for Ordinary rules o c = o
lawful_for Critical rules o c = c

pub maxima_high : (month capacity : ℕ) → ((maxima_of month capacity).injection ≤ capacity) × ((maxima_of month capacity).withdrawal ≤ capacity)
maxima_high month capacity =
    let passed = each_getD maxima_bounded daily_maxima (month - 1) (maxima 0 0) refl refl in
    let i : (maxima_in month).injection ≤ 10000 = grind (arith, nat_tests) in
    let w : (maxima_in month).withdrawal ≤ 10000 = grind (arith, nat_tests) in
    (share_le capacity _ i, share_le capacity _ w)

module _ (k : Count) (s : State) (i : Holds k s) (today : s.settled + 1 ≤ 31) where
  -- the question that settling puts of an account can be made
  pub fair_figures : (a : Account) → Sound a → fair (day_figures s a) ≡ true
  fair_figures a x =
      let lines = standing (of_account a.number) s.lines in
      let whole : lines ≤ 8000000 = whole_limit i.lines a.number in
      let less : after_loss s.loss lines ≤ lines = share_le lines (10000 - s.loss) (omega arith) in
      let (injection, withdrawal) = maxima_high s.month a.capacity in
      fair_from (day_figures s a) (record {
        day_low = omega arith;
        day_high = today;
        delivered_high = omega arith;
        used_high = x.read;
        capacity_high = x.limit;
        storage_high = x.within;
        injection_high = injection;
        withdrawal_high = withdrawal;
      })

  -- the question is put of what the gas count has
  pub question_counted : (a : Account) (n : ℕ) → account_at n s.accounts ≡ Some a → ((day_figures s a).delivered ≡ delivered k n) × ((day_figures s a).used ≡ k.reading n)
  question_counted a n e =
      let at_n = at_key number n s.accounts a e in
      let whole : standing (of_account a.number) s.lines ≡ below 9 (k.lines n) = ap (λ m. standing (of_account m) s.lines) at_n ∙ i.lines.whole n in
      (ap₂ after_loss i.loss whole, sym (ap (shown (λ a. amount a.reading)) e) ∙ i.accounts.readings n)

  pub answered_row : (rules : Rules) (a : Account) → Sound a → account_at a.number s.accounts ≡ Some a → Answered k s rules a (settled_row rules (begun_kind s.stage) s a)
  answered_row rules a x e =
      let counted = question_counted a a.number e in
      record {
        question = day_figures s a;
        possible = fair_figures a x;
        day = refl;
        brought = counted.0;
        used = counted.1;
        storage = refl;
        capacity = refl;
        injection = refl;
        withdrawal = refl;
        columns = refl;
      }

  -- one account's day, under any rule that keeps the law
  module _ (rules : Rules) (kind : DayKind) (law : Lawful (rule_for kind rules)) where
    pub one_day : (n : ℕ) (o : Option Account) → account_at n s.accounts ≡ o
        → cond (is_some o) (delivered k n) 0 + shown (λ a. came (settled_row rules kind s a)) o + shown (λ a. a.storage) o
        ≡ cond (is_some o) (k.reading n) 0 + shown (λ a. went (settled_row rules kind s a)) o + shown (λ a. (settled_account rules kind s a).storage) o
    one_day n None e = refl
    one_day n (Some a) e =
        let f = day_figures s a in
        let sound = all_at number Sound n s.accounts a i.accounts.sound e in
        let keeps = law f (fair_figures a sound) in
        let balance = keeps.balance in
        let held = keeps.held in
        let (brought, read) = question_counted a n e in
        omega arith

    pub sound_after : (a : Account) → Sound a → Sound (settled_account rules kind s a)
    sound_after a x =
        let f = day_figures s a in
        let fits = stored_high f (rule_for kind rules f) (fair_figures a x) (law f (fair_figures a x)) in
        record { within = omega arith; limit = x.limit; read = omega arith; from_one = x.from_one; to_limit = x.to_limit }

pub settled_rows : (rules : Rules) (kind : DayKind) (s : State) → Written (settled_account rules kind s) (settled_row rules kind s)
settled_rows rules kind s = record { same_number = λ _. refl; same_supplier = λ _. refl; row_number = λ _. refl; row_supplier = λ _. refl }

pub closed_rows : (s : State) → Written (closed_account s) (closed_row s)
closed_rows s = record { same_number = λ _. refl; same_supplier = λ _. refl; row_number = λ _. refl; row_supplier = λ _. refl }

-- one account's close
pub one_close : (s : State) (o : Option Account) → 0 + shown (λ a. came (closed_row s a)) o + shown (λ a. a.storage) o ≡ 0 + shown (λ a. went (closed_row s a)) o + shown (λ a. (closed_account s a).storage) o
one_close s None = refl
one_close s (Some a) =
    let bought = total_split (a.capacity / 20) (a.capacity / 10) (close_buys s.month a.capacity a.storage) in
    let sold = total_split (a.capacity / 20) (a.capacity / 10) (close_sells s.month a.capacity a.storage) in
    omega arith

pub sound_closed : (s : State) (a : Account) → Sound a → Sound (closed_account s a)
sound_closed s a x =
    let band = band_bounds s.month in
    let low = percent_whole a.capacity (band_in s.month).lowest (omega (arith, band.lowest_high)) in
    let within = x.within in
    record { within = omega arith; limit = x.limit; read = x.read; from_one = x.from_one; to_limit = x.to_limit }

pub in_band : (s : State) (a : Account) → InBand s.month (closed_account s a)
in_band s a =
    let bounds = band_bounds s.month in
    let ordered = percent_le a.capacity (band_in s.month).lowest (band_in s.month).highest bounds.ordered in
    (omega arith, omega arith)
