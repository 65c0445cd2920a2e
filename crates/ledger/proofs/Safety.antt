-- Each accepted call leaves the book safe.
use Rattle.std.proofs.Common.{◌≡◌, ℕ, ◌+◌, ◌<◌, ◌≤◌, true, false, ◌&&◌, leb, List, [], ◌∷◌, ◌++◌, map, length, is_some, Some, None, Option, sym, refl, ap, ◌∙◌, subst, ⊎_elim, arith}
use Rattle.std.specs.List.{AllByRecursion}
use Rattle.std.proofs.lemmas.Bool.Decides.{nat_tests}
use Rattle.std.proofs.lemmas.Bool.{and_parts, and_from, false≢true, not-false, eqb-true, leb-true, cases_eq}
use Rattle.std.proofs.ByRecursion.{All-weaker, All-append, All-map}
use Rattle.std.proofs.lemmas.List.{length-append, length-map}
use Rattle.tariff.specs.Calendar.{days_in}
use Rattle.tariff.specs.Prices.{average}
use Rattle.tariff.specs.Cents.{RowBound}
use Rattle.tariff.proofs.Averages.{average_high}
use Rattle.tariff.proofs.RowBounds.{day_bounded, close_bounded}
use Rattle.register.specs.Keys.{at, put, rising}
use Rattle.register.proofs.AtKeys.{rising_put}
use Rattle.calls.specs.declared.fields.Line.{Line}
use Rattle.calls.specs.declared.fields.MonthBegin.{MonthBegin}
use Rattle.calls.specs.declared.fields.AccountOpening.{AccountOpening}
use Rattle.calls.specs.declared.fields.AccountMove.{AccountMove}
use Rattle.calls.specs.declared.fields.GasCost.{GasCost}
use Rattle.calls.specs.declared.fields.PriceQuote.{PriceQuote}
use Rattle.calls.specs.declared.fields.DayBegin.{DayBegin}
use Rattle.calls.specs.declared.fields.Nomination.{Nomination}
use Rattle.calls.specs.declared.fields.DayEnd.{DayEnd}
use Rattle.calls.specs.declared.fields.Reallocation.{Reallocation}
use Rattle.calls.specs.declared.fields.MeterReading.{MeterReading}
use Rattle.calls.specs.declared.fields.DaySettle.{DaySettle}
use Rattle.calls.specs.declared.fields.MonthClosing.{MonthClosing}
use Rattle.calls.specs.declared.fields.Call.{Call}
use Rattle.calls.specs.declared.fields.Call.TheVariants.{BeginMonth, OpenAccount, MoveAccount, SetGasCost, SetPrice, BeginDay, Nominate, EndDay, Reallocate, Read, Settle, Close, Post}
use Rattle.calls.specs.Limits.{named_lines, line_within, price_within}
use Rattle.ledger.specs.declared.records.Account.{Account}
use Rattle.ledger.specs.declared.records.Row.{Row}
use Rattle.ledger.specs.declared.records.Stage.{Stage}
use Rattle.ledger.specs.declared.records.Stage.TheVariants.{Unopened, Between, Nominating, Ended, Closed}
use Rattle.ledger.specs.State.{State, number, line_key, price_day, shown, amount, account_at, price_on, days_of}
use Rattle.ledger.specs.Table.{is_unopened, is_between, is_nominating, is_ended, first_repeated, count_absent}
use Rattle.ledger.specs.Rows.{Rules, rule_for, day_figures, index_total, index_on, market_on, settled_account, settled_row, closed_account, closed_row}
use Rattle.ledger.specs.Effects.{done, opened, moved, read, put_changed, put_line, put_lines, begun_kind}
use Rattle.ledger.specs.Runs.{History, Leads, fresh, refused, accepted, Lawful, fresh_book}
use Rattle.ledger.specs.Count.{Count, count}
use Rattle.ledger.specs.Safety.{account_within, AccountsSafe, LinesSafe, PricesSafe, RowsSafe, PricedTo, Safe, ClosePriced, SafeOverRuns}
use Rattle.ledger.proofs.Found.{at_put, at_key, all_put, all_at, rising_map}
use Rattle.ledger.proofs.Accounts.{Sound}
use Rattle.ledger.proofs.Rooms.{roomy, length_put, length_puts, rising_count, index_total_high}
use Rattle.ledger.proofs.Invariant.{Holds, in_day}
use Rattle.ledger.proofs.Days.{lawful_for, fair_figures, sound_after, sound_closed}
use Rattle.ledger.proofs.Accepted.{Accepted, facts}
use Rattle.ledger.proofs.Reallocation.{distinct}
use Rattle.ledger.proofs.Steps.{ended_in, each_all, named_within, unnamed}
use Rattle.ledger.proofs.Balance.{holds}

-- tables

module _ {room : ℕ} {accounts : List Account} (x : AccountsSafe room accounts) where
  pub account_more : (a : Account) → account_within a ≡ true → length accounts + 1 ≤ room → AccountsSafe room (put number a accounts)
  account_more a ok fits = record {
    rise = rising_put number a accounts x.rise;
    fit = let l = length_put number a accounts in grind (arith, nat_tests);
    each = all_put number (λ a. account_within a ≡ true) a accounts ok x.each;
  }

  pub account_changed : (f : Account → Account) (n : ℕ) → ((a : Account) → (f a).number ≡ a.number) → ((a : Account) → account_within a ≡ true → account_within (f a) ≡ true)
      → (o : Option Account) → account_at n accounts ≡ o → AccountsSafe room (put_changed f o accounts)
  account_changed f n same ok None e = x
  account_changed f n same ok (Some a) e =
      let at_n = at_key number n accounts a e in
      let there : at number (number (f a)) accounts ≡ Some a = ap (λ m. at number m accounts) (same a ∙ at_n) ∙ e in
      record {
        rise = rising_put number (f a) accounts x.rise;
        fit = let l = length_put number (f a) accounts in let h = x.fit in let t = ap is_some there in grind (arith, nat_tests);
        each = all_put number (λ a. account_within a ≡ true) (f a) accounts (ok a (all_at number (λ a. account_within a ≡ true) n accounts a x.each e)) x.each;
      }

  pub accounts_anew : (f : Account → Account) → ((a : Account) → (f a).number ≡ a.number) → ((a : Account) → account_within a ≡ true → account_within (f a) ≡ true)
      → AccountsSafe room (map f accounts)
  accounts_anew f same ok = record {
    rise = rising_map number f same accounts x.rise;
    fit = let l = length-map accounts f in omega (arith, x.fit);
    each = All-map (λ a. account_within a ≡ true) f accounts (All-weaker (λ a. account_within a ≡ true) (λ a. account_within (f a) ≡ true) ok accounts x.each);
  }

no_lines : (room : ℕ) → LinesSafe room []
no_lines room = record { rise = refl; fit = omega arith; each = tt }

no_prices : (room days : ℕ) → PricesSafe room days []
no_prices room days = record { rise = refl; fit = omega arith; each = tt }

lines_put : {room : ℕ} {lines : List Line} (l : Line) → line_within l ≡ true → length lines + (count_absent lines (l ∷ [])) ≤ room → LinesSafe room lines → LinesSafe room (put_line l lines)
lines_put {room} {lines} l ok fits x = record {
  rise = rising_put line_key l lines x.rise;
  fit = let n = length_put line_key l lines in omega arith;
  each = all_put line_key (λ l. line_within l ≡ true) l lines ok x.each;
}

rise_puts : (xs lines : List Line) → rising line_key lines ≡ true → rising line_key (put_lines xs lines) ≡ true
rise_puts [] lines r = r
rise_puts (x ∷ xs) lines r = rise_puts xs (put_line x lines) (rising_put line_key x lines r)

within_puts : (xs lines : List Line) → AllByRecursion (λ l. line_within l ≡ true) xs → AllByRecursion (λ l. line_within l ≡ true) lines → AllByRecursion (λ l. line_within l ≡ true) (put_lines xs lines)
within_puts [] lines a b = b
within_puts (x ∷ xs) lines a b = within_puts xs (put_line x lines) a.1 (all_put line_key (λ l. line_within l ≡ true) x lines a.0 b)

-- rows

rows_more : {room : ℕ} {rows : List Row} (row : Account → Row) (accounts : List Account) → length rows + length accounts ≤ room → RowsSafe room rows
    → AllByRecursion (λ a. RowBound (row a).cents) accounts → RowsSafe room (rows ++ map row accounts)
rows_more {room} {rows} row accounts fits x bounded = record {
  fit = let a = length-append rows (map row accounts) in let b = length-map accounts row in omega arith;
  each = All-append (λ r. RowBound r.cents) rows (map row accounts) x.each (All-map (λ r. RowBound r.cents) row accounts bounded);
}

-- an account's storage after a day or a close stays within the limits

within_of : (a b : Account) → account_within a ≡ true → Sound b → b.number ≡ a.number → account_within b ≡ true
within_of a b h x same =
    let within = x.within in
    let limit = x.limit in
    let read = x.read in
    let low = x.from_one in
    let high = x.to_limit in
    grind (arith, nat_tests)

pub sound_of : (a : Account) → account_within a ≡ true → Sound a
sound_of a h = record { within = grind (arith, nat_tests); limit = grind (arith, nat_tests); read = grind (arith, nat_tests); from_one = grind (arith, nat_tests); to_limit = grind (arith, nat_tests) }

-- prices

module _ {room days : ℕ} {prices : List PriceQuote} (x : PricesSafe room days prices) where
  pub index_high : (d : ℕ) (o : Option PriceQuote) → price_on d prices ≡ o → (shown (λ p. p.index) o ≤ 1000000) × (shown (λ p. p.market) o ≤ 1000000)
  index_high d None e = (omega arith, omega arith)
  index_high d (Some p) e =
      let ok = all_at price_day (λ p. (price_within p && leb p.day days) ≡ true) d prices p x.each e in
      (grind (arith, nat_tests), grind (arith, nat_tests))

  -- no more prices than days, so their average is a price
  pub average_index_high : 1 ≤ days → average (index_total prices) days ≤ 1000000
  average_index_high some =
      let one = All-weaker (λ p. (price_within p && leb p.day days) ≡ true) (λ p. 0 < price_day p) (λ p h. grind (arith, nat_tests)) prices x.each in
      let last = All-weaker (λ p. (price_within p && leb p.day days) ≡ true) (λ p. price_day p ≤ days) (λ p h. grind (arith, nat_tests)) prices x.each in
      let index = All-weaker (λ p. (price_within p && leb p.day days) ≡ true) (λ p. p.index ≤ 1000000) (λ p h. grind (arith, nat_tests)) prices x.each in
      let many = rising_count price_day 0 days prices x.rise one last in
      let total = index_total_high prices index in
      let few : length prices ≤ days = grind (arith, nat_tests) in
      average_high (index_total prices) days some (omega arith)

some_put : (p : PriceQuote) (prices : List PriceQuote) (d : ℕ) → is_some (price_on d prices) ≡ true → is_some (price_on d (put price_day p prices)) ≡ true
some_put p prices d h = let e = at_put price_day d p prices in grind (arith, nat_tests)

pub days_some : (year month : ℕ) → 1 ≤ days_in year month
days_some year month = grind (arith, nat_tests)

opened_stage : (t : Stage) → is_between t ≡ true → is_unopened t ≡ false
opened_stage Unopened e = absurd (false≢true e)
opened_stage Between e = refl
opened_stage (Nominating k) e = refl
opened_stage (Ended k) e = refl
opened_stage Closed e = refl

nominating_stage : (t : Stage) → is_nominating t ≡ true → (is_unopened t ≡ false) × (in_day t ≡ true)
nominating_stage Unopened e = absurd (false≢true e)
nominating_stage Between e = absurd (false≢true e)
nominating_stage (Nominating k) e = (refl, refl)
nominating_stage (Ended k) e = absurd (false≢true e)
nominating_stage Closed e = absurd (false≢true e)

ended_stage : (t : Stage) → is_ended t ≡ true → is_unopened t ≡ false
ended_stage Unopened e = absurd (false≢true e)
ended_stage Between e = absurd (false≢true e)
ended_stage (Nominating k) e = absurd (false≢true e)
ended_stage (Ended k) e = refl
ended_stage Closed e = absurd (false≢true e)

safe_fresh : (a l p r : ℕ) → Safe (fresh_book a l p r)
safe_fresh a l p r = record {
  accounts = record { rise = refl; fit = omega arith; each = tt };
  lines = no_lines l;
  prices = no_prices p 31;
  rows = record { fit = omega arith; each = tt };
  calendar = record { month_known = λ e. absurd (false≢true (sym e)); within_month = omega arith; today = λ e. absurd (false≢true e) };
  loss = omega arith;
  gas_cost = omega arith;
  priced = record { prices_there = λ d low high. absurd (omega arith); gas_cost_there = λ low. absurd (omega arith) };
}

module _ (s : State) (x : Safe s) where
  keeps_month : (c : MonthBegin) (rules : Rules) → Accepted s (BeginMonth c) → Safe (done rules s (BeginMonth c))
  keeps_month c rules ok =
      let limits = ok.fields in
      record {
        accounts = x.accounts;
        lines = x.lines;
        prices = no_prices s.price_room (days_in c.year c.month);
        rows = x.rows;
        calendar = record { month_known = λ _. (and_parts _ _ limits).0; within_month = omega arith; today = λ e. absurd (false≢true e) };
        loss = leb-true _ _ (and_parts _ _ limits).1;
        gas_cost = omega arith;
        priced = record { prices_there = λ d low high. absurd (omega arith); gas_cost_there = λ low. absurd (omega arith) };
      }

  keeps_opening : (c : AccountOpening) (rules : Rules) → Accepted s (OpenAccount c) → Safe (done rules s (OpenAccount c))
  keeps_opening c rules ok =
      let limits = ok.fields in
      record {
        accounts = account_more x.accounts (opened c) (grind (arith, nat_tests)) (roomy _ 1 _ ok.space x.accounts.fit);
        lines = x.lines;
        prices = x.prices;
        rows = x.rows;
        calendar = x.calendar;
        loss = x.loss;
        gas_cost = x.gas_cost;
        priced = x.priced;
      }

  keeps_move : (c : AccountMove) (rules : Rules) → Accepted s (MoveAccount c) → Safe (done rules s (MoveAccount c))
  keeps_move c rules ok =
      let limits = ok.fields in
      record {
        accounts = account_changed x.accounts (moved c.supplier) c.account (λ a. refl) (λ a h. grind (arith, nat_tests)) (account_at c.account s.accounts) refl;
        lines = x.lines;
        prices = x.prices;
        rows = x.rows;
        calendar = x.calendar;
        loss = x.loss;
        gas_cost = x.gas_cost;
        priced = x.priced;
      }

  keeps_reading : (c : MeterReading) (rules : Rules) → Accepted s (Read c) → Safe (done rules s (Read c))
  keeps_reading c rules ok =
      let limits = ok.fields in
      record {
        accounts = account_changed x.accounts (read c.therms) c.account (λ a. refl) (λ a h. grind (arith, nat_tests)) (account_at c.account s.accounts) refl;
        lines = x.lines;
        prices = x.prices;
        rows = x.rows;
        calendar = x.calendar;
        loss = x.loss;
        gas_cost = x.gas_cost;
        priced = x.priced;
      }

  keeps_gas_cost : (c : GasCost) (rules : Rules) → Accepted s (SetGasCost c) → Safe (done rules s (SetGasCost c))
  keeps_gas_cost c rules ok = record {
    accounts = x.accounts;
    lines = x.lines;
    prices = x.prices;
    rows = x.rows;
    calendar = x.calendar;
    loss = x.loss;
    gas_cost = leb-true _ _ ok.fields;
    priced = record { prices_there = x.priced.prices_there; gas_cost_there = λ _. refl };
  }

  keeps_price : (c : PriceQuote) (rules : Rules) → Accepted s (SetPrice c) → Safe (done rules s (SetPrice c))
  keeps_price c rules ok = record {
    accounts = x.accounts;
    lines = x.lines;
    prices = record {
      rise = rising_put price_day c s.prices x.prices.rise;
      fit = let more = length_put price_day c s.prices in let room = roomy _ 1 _ ok.space x.prices.fit in grind (arith, nat_tests);
      each = all_put price_day (λ p. (price_within p && leb p.day (days_of s)) ≡ true) c s.prices (and_from _ _ ok.fields ok.due) x.prices.each;
    };
    rows = x.rows;
    calendar = x.calendar;
    loss = x.loss;
    gas_cost = x.gas_cost;
    priced = record { prices_there = λ d low high. some_put c s.prices d (x.priced.prices_there d low high); gas_cost_there = x.priced.gas_cost_there };
  }

  keeps_day_begin : (c : DayBegin) (rules : Rules) → Accepted s (BeginDay c) → Safe (done rules s (BeginDay c))
  keeps_day_begin c rules ok =
      let due = ok.due in
      record {
        accounts = x.accounts;
        lines = x.lines;
        prices = x.prices;
        rows = x.rows;
        calendar = record {
          month_known = λ _. x.calendar.month_known (opened_stage s.stage ok.stage);
          within_month = x.calendar.within_month;
          today = λ _. grind (arith, nat_tests);
        };
        loss = x.loss;
        gas_cost = x.gas_cost;
        priced = x.priced;
      }

  keeps_day_end : (c : DayEnd) (rules : Rules) → Accepted s (EndDay c) → Safe (done rules s (EndDay c))
  keeps_day_end c rules ok =
      let stage = nominating_stage s.stage ok.stage in
      record {
        accounts = x.accounts;
        lines = x.lines;
        prices = x.prices;
        rows = x.rows;
        calendar = record { month_known = λ _. x.calendar.month_known stage.0; within_month = x.calendar.within_month; today = λ _. x.calendar.today stage.1 };
        loss = x.loss;
        gas_cost = x.gas_cost;
        priced = x.priced;
      }

  keeps_nomination : (c : Nomination) (rules : Rules) → Accepted s (Nominate c) → Safe (done rules s (Nominate c))
  keeps_nomination c rules ok = record {
    accounts = x.accounts;
    lines = lines_put c.line (and_parts _ _ ok.fields).0 (roomy _ (count_absent s.lines (c.line ∷ [])) _ ok.space x.lines.fit) x.lines;
    prices = x.prices;
    rows = x.rows;
    calendar = x.calendar;
    loss = x.loss;
    gas_cost = x.gas_cost;
    priced = x.priced;
  }

  keeps_reallocation : (c : Reallocation) (rules : Rules) → Accepted s (Reallocate c) → Safe (done rules s (Reallocate c))
  keeps_reallocation c rules ok =
      let once = distinct [] (named_lines c) (unnamed (first_repeated [] (named_lines c)) ok.not_given) in
      let long = length_puts (named_lines c) s.lines once in
      let room = roomy _ (count_absent s.lines (named_lines c)) _ ok.space x.lines.fit in
      record {
        accounts = x.accounts;
        lines = record {
          rise = rise_puts (named_lines c) s.lines x.lines.rise;
          fit = omega arith;
          each = within_puts (named_lines c) s.lines (each_all line_within (named_lines c) (named_within c ok.fields)) x.lines.each;
        };
        prices = x.prices;
        rows = x.rows;
        calendar = x.calendar;
        loss = x.loss;
        gas_cost = x.gas_cost;
        priced = x.priced;
      }

  -- the day that is settled has its price
  priced_today : (c : DaySettle) → Accepted s (Settle c) → PricedTo (s.settled + 1) s.gas_cost s.prices
  priced_today c ok =
      let both = and_parts (is_some s.gas_cost) (is_some (price_on (s.settled + 1) s.prices)) (not-false _ ok.priced) in
      record {
        prices_there = λ d low high.
            ⊎_elim (λ (e : d ≡ s.settled + 1). ap (λ n. is_some (price_on n s.prices)) e ∙ both.1)
            (λ (e : d ≡ s.settled + 1 → ⊥). x.priced.prices_there d low (omega (arith, e)))
            (cases_eq d (s.settled + 1));
        gas_cost_there = λ _. both.0;
      }

  keeps_settling : (k : Count) → Holds k s → (c : DaySettle) (rules : Rules) → Accepted s (Settle c) → Lawful rules.ordinary → Lawful rules.critical → Safe (done rules s (Settle c))
  keeps_settling k i c rules ok lo lc =
      let kind = begun_kind s.stage in
      let law = lawful_for kind rules lo lc in
      let today = i.day (ended_in s.stage ok.stage) in
      let day = s.settled + 1 in
      let (index, market) = index_high x.prices day (price_on day s.prices) refl in
      let bounded = All-weaker (λ a. account_within a ≡ true) (λ a. RowBound (settled_row rules kind s a).cents)
      (λ a h.
      let f = day_figures s a in
      let fair = fair_figures k s i today a (sound_of a h) in
      day_bounded f (rule_for kind rules f) (amount s.gas_cost) (index_on s day) (market_on s day) fair (law f fair) x.gas_cost index market)
      s.accounts x.accounts.each in
      record {
        accounts = accounts_anew x.accounts (settled_account rules kind s) (λ a. refl)
            (λ a h. within_of a (settled_account rules kind s a) h (sound_after k s i today rules kind law a (sound_of a h)) refl);
        lines = no_lines s.line_room;
        prices = x.prices;
        rows = rows_more (settled_row rules kind s) s.accounts (roomy _ (length s.accounts) _ ok.space x.rows.fit) x.rows bounded;
        calendar = record {
          month_known = λ _. x.calendar.month_known (ended_stage s.stage ok.stage);
          within_month = let more = x.calendar.today (ended_in s.stage ok.stage) in omega arith;
          today = λ e. absurd (false≢true e);
        };
        loss = x.loss;
        gas_cost = x.gas_cost;
        priced = priced_today c ok;
      }

  keeps_close : (c : MonthClosing) (rules : Rules) → Accepted s (Close c) → Safe (done rules s (Close c))
  keeps_close c rules ok =
      let average_index = average_index_high x.prices (days_some s.year s.month) in
      let bounded = All-weaker (λ a. account_within a ≡ true) (λ a. RowBound (closed_row s a).cents)
      (λ a h.
      let sound = sound_of a h in
      close_bounded (amount s.gas_cost) (average (index_total s.prices) (days_of s)) s.month a.capacity a.storage sound.limit sound.within x.gas_cost average_index)
      s.accounts x.accounts.each in
      record {
        accounts = accounts_anew x.accounts (closed_account s) (λ a. refl) (λ a h. within_of a (closed_account s a) h (sound_closed s a (sound_of a h)) refl);
        lines = x.lines;
        prices = x.prices;
        rows = rows_more (closed_row s) s.accounts (roomy _ (length s.accounts) _ ok.space x.rows.fit) x.rows bounded;
        calendar = record {
          month_known = λ _. x.calendar.month_known (opened_stage s.stage ok.stage);
          within_month = x.calendar.within_month;
          today = λ e. absurd (false≢true e);
        };
        loss = x.loss;
        gas_cost = x.gas_cost;
        priced = x.priced;
      }

keeps : (k : Count) (s : State) (c : Call) (rules : Rules) → Holds k s → Safe s → Lawful rules.ordinary → Lawful rules.critical → Accepted s c → Safe (done rules s c)
keeps k s (BeginMonth c) rules i x lo lc ok = keeps_month s x c rules ok
keeps k s (OpenAccount c) rules i x lo lc ok = keeps_opening s x c rules ok
keeps k s (MoveAccount c) rules i x lo lc ok = keeps_move s x c rules ok
keeps k s (SetGasCost c) rules i x lo lc ok = keeps_gas_cost s x c rules ok
keeps k s (SetPrice c) rules i x lo lc ok = keeps_price s x c rules ok
keeps k s (BeginDay c) rules i x lo lc ok = keeps_day_begin s x c rules ok
keeps k s (Nominate c) rules i x lo lc ok = keeps_nomination s x c rules ok
keeps k s (EndDay c) rules i x lo lc ok = keeps_day_end s x c rules ok
keeps k s (Reallocate c) rules i x lo lc ok = keeps_reallocation s x c rules ok
keeps k s (Read c) rules i x lo lc ok = keeps_reading s x c rules ok
keeps k s (Settle c) rules i x lo lc ok = keeps_settling s x k i c rules ok lo lc
keeps k s (Close c) rules i x lo lc ok = keeps_close s x c rules ok
keeps k s (Post c) rules i x lo lc ok = x

pub safe : {h : History} {s : State} → Leads h s → Safe s
safe (fresh a l p r) = safe_fresh a l p r
safe (refused c rules r l v) = safe l
safe (accepted {h = h} {s = s} c rules l lo lc v) = keeps (count h) s c rules (holds l) (safe l) lo lc (facts s c v)

-- all days are settled at a close
pub close_priced : (s : State) → Safe s → ClosePriced s
close_priced s x c v = subst (λ d. PricedTo d s.gas_cost s.prices) (eqb-true _ _ (facts s (Close c) v).due) x.priced

pub safe_over_runs : SafeOverRuns
safe_over_runs h s l = (safe l, close_priced s (safe l))
