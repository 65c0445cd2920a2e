-- Each accepted call keeps the invariant.
use Rattle.std.proofs.Common.{◌≡◌, ℕ, zero, suc, ◌+◌, ◌<◌, Bool, true, false, cond, ◌||◌, List, [], ◌∷◌, map, is_some, Some, None, Option, sym, refl, ap, ◌∙◌, subst, subst₂, arith}
use Rattle.std.specs.List.{AllByRecursion}
use Rattle.std.proofs.lemmas.Bool.Decides.{nat_tests}
use Rattle.std.proofs.lemmas.Bool.{and_parts, both_ways, false≢true, not-false, eqb-true}
use Rattle.std.proofs.ByRecursion.{All-weaker, All-append}
use Rattle.register.specs.Keys.{put}
use Rattle.tariff.specs.Each.{each}
use Rattle.calls.specs.declared.fields.Line.{Line}
use Rattle.calls.specs.declared.fields.MonthBegin.{MonthBegin}
use Rattle.calls.specs.declared.fields.AccountOpening.{AccountOpening}
use Rattle.calls.specs.declared.fields.AccountMove.{AccountMove}
use Rattle.calls.specs.declared.fields.GasCost.{GasCost}
use Rattle.calls.specs.declared.fields.PriceQuote.{PriceQuote}
use Rattle.calls.specs.declared.fields.DayBegin.{DayBegin}
use Rattle.calls.specs.declared.fields.Nomination.{Nomination}
use Rattle.calls.specs.declared.fields.DayEnd.{DayEnd}
use Rattle.calls.specs.declared.fields.Reallocation.{Reallocation}
use Rattle.calls.specs.declared.fields.MeterReading.{MeterReading}
use Rattle.calls.specs.declared.fields.DaySettle.{DaySettle}
use Rattle.calls.specs.declared.fields.MonthClosing.{MonthClosing}
use Rattle.calls.specs.declared.fields.Call.{Call}
use Rattle.calls.specs.declared.fields.Call.TheVariants.{BeginMonth, OpenAccount, MoveAccount, SetGasCost, SetPrice, BeginDay, Nominate, EndDay, Reallocate, Read, Settle, Close, Post}
use Rattle.calls.specs.declared.refusal.Refusal.TheVariants.{AlreadyOpen, LineRepeated}
use Rattle.calls.specs.Limits.{within, named_lines, line_within, is_blank, places_past}
use Rattle.ledger.specs.declared.records.Account.{Account}
use Rattle.ledger.specs.declared.records.Stage.{Stage}
use Rattle.ledger.specs.declared.records.Stage.TheVariants.{Unopened, Between, Nominating, Ended, Closed}
use Rattle.ledger.specs.State.{State, number, shown, amount, account_at, known, supplier_of, standing, on_pipeline}
use Rattle.ledger.specs.Table.{is_unopened, is_between, is_nominating, is_ended, is_closed, refuse_if, refuse_naming, first_repeated, changes, pipelines, as_it_stands}
use Rattle.ledger.specs.Rows.{Rules, settled_account, settled_row, closed_row}
use Rattle.ledger.specs.Effects.{done, opened, moved, read, put_changed, with_accounts, begun_kind}
use Rattle.ledger.specs.Runs.{Lawful}
use Rattle.ledger.specs.Count.{Count, fed, set, delivered}
use Rattle.ledger.specs.Claim.{Even, came, went}
use Rattle.ledger.proofs.Found.{at_key, all_at}
use Rattle.ledger.proofs.Lines.{Small, lines_put, lines_puts, lines_none, lines_idle}
use Rattle.ledger.proofs.Accounts.{Sound, AccountsAgree, accounts_put, storage_put, set_same}
use Rattle.ledger.proofs.Reallocation.{distinct, totals_kept}
use Rattle.ledger.proofs.Written.{accounts_map, even_more, rows_in_range}
use Rattle.ledger.proofs.Invariant.{Holds, InRange, in_day}
use Rattle.ledger.proofs.Days.{lawful_for, one_day, sound_after, settled_rows, closed_rows, one_close, sound_closed}
use Rattle.ledger.proofs.Accepted.{Accepted}

between_out : (t : Stage) → is_between t ≡ true → (in_day t ≡ false) × (is_ended t ≡ false)
between_out Unopened e = absurd (false≢true e)
between_out Between e = (refl, refl)
between_out (Nominating k) e = absurd (false≢true e)
between_out (Ended k) e = absurd (false≢true e)
between_out Closed e = absurd (false≢true e)

shut_out : (t : Stage) → (is_unopened t || is_closed t) ≡ true → (in_day t ≡ false) × (is_ended t ≡ false)
shut_out Unopened e = (refl, refl)
shut_out Between e = absurd (false≢true e)
shut_out (Nominating k) e = absurd (false≢true e)
shut_out (Ended k) e = absurd (false≢true e)
shut_out Closed e = (refl, refl)

nominating_in : (t : Stage) → is_nominating t ≡ true → (in_day t ≡ true) × (is_ended t ≡ false)
nominating_in Unopened e = absurd (false≢true e)
nominating_in Between e = absurd (false≢true e)
nominating_in (Nominating k) e = (refl, refl)
nominating_in (Ended k) e = absurd (false≢true e)
nominating_in Closed e = absurd (false≢true e)

pub ended_in : (t : Stage) → is_ended t ≡ true → in_day t ≡ true
ended_in Unopened e = absurd (false≢true e)
ended_in Between e = absurd (false≢true e)
ended_in (Nominating k) e = refl
ended_in (Ended k) e = refl
ended_in Closed e = absurd (false≢true e)

zeros : (o : Option Account) → shown (λ _. 0) o ≡ 0
zeros None = refl
zeros (Some a) = refl

absent_zero : (f : Account → ℕ) (o : Option Account) → is_some o ≡ false → shown f o ≡ 0
absent_zero f None e = refl
absent_zero f (Some a) e = absurd (false≢true (sym e))

-- a condition that does not hold
unmet : (b : Bool) (n : ℕ) → refuse_if b (AlreadyOpen n) ≡ None → b ≡ false
unmet true n h = absurd (let bad : ◌≡◌ {A = ℕ} 0 1 = cc in omega arith)
unmet false n h = refl

pub unnamed : (o : Option Line) → refuse_naming (λ l. LineRepeated l.account) o ≡ None → o ≡ None
unnamed None h = refl
unnamed (Some l) h = absurd (let bad : ◌≡◌ {A = ℕ} 0 1 = cc in omega arith)

pub each_all : {X : Type 0} (f : X → Bool) (xs : List X) → each f xs ≡ true → AllByRecursion (λ x. f x ≡ true) xs
each_all f [] h = tt
each_all f (x ∷ xs) h = let both = and_parts (f x) (each f xs) h in (both.0, each_all f xs both.1)

pub named_within : (c : Reallocation) → within (Reallocate c) ≡ true → each line_within (named_lines c) ≡ true
named_within c h = (and_parts _ (each line_within (named_lines c)) (and_parts _ (each is_blank (places_past c)) h).0).1

-- no line lies on pipeline 0
none_on_zero : (xs : List Line) → AllByRecursion Small xs → standing (on_pipeline 0) xs ≡ 0
none_on_zero [] a = refl
none_on_zero (x ∷ xs) a = let ih = none_on_zero xs a.1 in let h = a.0.0 in grind (arith, nat_tests)

none_stood_on_zero : (ls xs : List Line) → AllByRecursion Small xs → standing (on_pipeline 0) (map (as_it_stands ls) xs) ≡ 0
none_stood_on_zero ls [] a = refl
none_stood_on_zero ls (x ∷ xs) a = let ih = none_stood_on_zero ls xs a.1 in let h = a.0.0 in grind (arith, nat_tests)

in_pipelines : (P : ℕ → Type 0) → AllByRecursion P pipelines → (p : ℕ) → p < 8 → P (suc p)
in_pipelines P a zero h = a.0
in_pipelines P a (suc zero) h = a.1.0
in_pipelines P a (suc (suc zero)) h = a.1.1.0
in_pipelines P a (suc (suc (suc zero))) h = a.1.1.1.0
in_pipelines P a (suc (suc (suc (suc zero)))) h = a.1.1.1.1.0
in_pipelines P a (suc (suc (suc (suc (suc zero))))) h = a.1.1.1.1.1.0
in_pipelines P a (suc (suc (suc (suc (suc (suc zero)))))) h = a.1.1.1.1.1.1.0
in_pipelines P a (suc (suc (suc (suc (suc (suc (suc zero))))))) h = a.1.1.1.1.1.1.1.0
in_pipelines P a (suc (suc (suc (suc (suc (suc (suc (suc p)))))))) h = absurd (omega arith)

-- on every pipeline the named lines come to what stood in their places
level_on : (s : State) (xs : List Line) → AllByRecursion Small xs → AllByRecursion (λ p. changes s xs p ≡ false) pipelines → (p : ℕ) → p < 9
    → standing (on_pipeline p) xs ≡ standing (on_pipeline p) (map (as_it_stands s.lines) xs)
level_on s xs small a zero h = none_on_zero xs small ∙ sym (none_stood_on_zero s.lines xs small)
level_on s xs small a (suc p) h = eqb-true _ _ (not-false _ (in_pipelines (λ q. changes s xs q ≡ false) a p (omega arith)))

module _ (k : Count) (s : State) (i : Holds k s) where
  agree : AccountsAgree k.opened k.supplier k.reading s.accounts
  agree = i.accounts

  -- an account that is known
  found : (n : ℕ) → known n s.accounts ≡ true → (a : Account) × (account_at n s.accounts ≡ Some a) × (a.number ≡ n) × Sound a
  found n h = go (account_at n s.accounts) refl
    where
      go : (o : Option Account) → account_at n s.accounts ≡ o → (a : Account) × (account_at n s.accounts ≡ Some a) × (a.number ≡ n) × Sound a
      go None e = absurd (false≢true (ap is_some (sym e) ∙ h))
      go (Some a) e = (a, e, at_key number n s.accounts a e, all_at number Sound n s.accounts a i.accounts.sound e)

  step_month : (c : MonthBegin) (rules : Rules) → Accepted s (BeginMonth c) → Holds (fed (BeginMonth c) k) (done rules s (BeginMonth c))
  step_month c rules ok =
      let stage = shut_out s.stage ok.stage in
      record {
        loss = refl;
        accounts = i.accounts;
        lines = i.lines;
        empty = λ _. i.empty stage.0;
        noted = λ e. absurd (false≢true e);
        day = λ e. absurd (false≢true e);
        unopened = i.unopened;
        even = i.even;
        rows = i.rows;
      }

  step_opens : (c : AccountOpening) (rules : Rules) → Accepted s (OpenAccount c) → Holds (fed (OpenAccount c) k) (done rules s (OpenAccount c))
  step_opens c rules ok =
      let n = c.account in
      let stage = between_out s.stage ok.stage in
      let limits = ok.fields in
      let absent = unmet (known n s.accounts) n ok.not_given in
      let a = opened c in
      let sound : Sound a = record { within = grind (arith, nat_tests); limit = grind (arith, nat_tests); read = omega arith; from_one = grind (arith, nat_tests); to_limit = grind (arith, nat_tests) } in
      let none = absent_zero (λ a. a.storage) (account_at n s.accounts) absent in
      let unread = sym (agree.readings n) ∙ absent_zero (λ a. amount a.reading) (account_at n s.accounts) absent in
      let zero = i.unopened n (sym (agree.known_if n) ∙ absent) in
      record {
        loss = i.loss;
        accounts = subst (λ r. AccountsAgree (set k.opened n true) (set k.supplier n c.supplier) r (put number a s.accounts)) (set_same k.reading n 0 unread)
            (accounts_put agree n a refl sound);
        lines = lines_idle (i.empty stage.0) i.lines (set k.supplier n c.supplier);
        empty = i.empty;
        noted = λ e. absurd (both_ways _ stage.1 e);
        day = i.day;
        unopened = λ m e. let u = i.unopened m in grind (arith, nat_tests);
        even = λ m.
            let was = i.even m in
            let now = storage_put agree n a refl m in
            grind (arith, nat_tests);
        rows = i.rows;
      }

  -- an account put anew with the storage that it had
  even_put : (n : ℕ) (a b : Account) → account_at n s.accounts ≡ Some a → b.number ≡ n → b.storage ≡ a.storage → (m : ℕ) → Even k (put number b s.accounts) s.rows m
  even_put n a b e at_n same m =
      let was = i.even m in
      let now = storage_put agree n b at_n m in
      let here = ap (shown (λ a. a.storage)) e in
      grind (arith, nat_tests)

  step_moves : (c : AccountMove) (rules : Rules) → Accepted s (MoveAccount c) → Holds (fed (MoveAccount c) k) (done rules s (MoveAccount c))
  step_moves c rules ok =
      let n = c.account in
      let sup = c.supplier in
      let limits = ok.fields in
      let stage = between_out s.stage ok.stage in
      let there = ok.meant.0 in
      let (a, e, at_n, sound) = found n there in
      let b = moved sup a in
      let sound' : Sound b = record { within = sound.within; limit = sound.limit; read = sound.read; from_one = grind (arith, nat_tests); to_limit = grind (arith, nat_tests) } in
      let read = sym (agree.readings n) ∙ ap (shown (λ a. amount a.reading)) e in
      subst (λ accs. Holds (fed (MoveAccount c) k) (with_accounts accs s)) (sym (ap (λ o. put_changed (moved sup) o s.accounts) e))
      (record {
        loss = i.loss;
        accounts = subst₂ (λ o r. AccountsAgree o (set k.supplier n sup) r (put number b s.accounts))
            (set_same k.opened n true (sym (agree.known_if n) ∙ there)) (set_same k.reading n (amount a.reading) read)
            (accounts_put agree n b at_n sound');
        lines = lines_idle (i.empty stage.0) i.lines (set k.supplier n sup);
        empty = i.empty;
        noted = λ x. absurd (both_ways _ stage.1 x);
        day = i.day;
        unopened = i.unopened;
        even = even_put n a b e at_n refl;
        rows = i.rows;
      })

  step_reads : (c : MeterReading) (rules : Rules) → Accepted s (Read c) → Holds (fed (Read c) k) (done rules s (Read c))
  step_reads c rules ok =
      let n = c.account in
      let limits = ok.fields in
      let there = ok.meant.0 in
      let (a, e, at_n, sound) = found n there in
      let b = read c.therms a in
      let supplied = sym (agree.suppliers n) ∙ ap (shown (λ a. a.supplier)) e in
      subst (λ accs. Holds (fed (Read c) k) (with_accounts accs s)) (sym (ap (λ o. put_changed (read c.therms) o s.accounts) e))
      (record {
        loss = i.loss;
        accounts = subst₂ (λ o u. AccountsAgree o u (set k.reading n c.therms) (put number b s.accounts))
            (set_same k.opened n true (sym (agree.known_if n) ∙ there)) (set_same k.supplier n a.supplier supplied)
            (accounts_put agree n b at_n (record { within = sound.within; limit = sound.limit; read = grind (arith, nat_tests); from_one = sound.from_one; to_limit = sound.to_limit }));
        lines = i.lines;
        empty = i.empty;
        noted = i.noted;
        day = i.day;
        unopened = i.unopened;
        even = even_put n a b e at_n refl;
        rows = i.rows;
      })

  -- what touches neither therms nor stage
  step_gas_cost : (c : GasCost) (rules : Rules) → Holds (fed (SetGasCost c) k) (done rules s (SetGasCost c))
  step_gas_cost c rules = record {
    loss = i.loss;
    accounts = i.accounts;
    lines = i.lines;
    empty = i.empty;
    noted = i.noted;
    day = i.day;
    unopened = i.unopened;
    even = i.even;
    rows = i.rows;
  }

  step_price : (c : PriceQuote) (rules : Rules) → Holds (fed (SetPrice c) k) (done rules s (SetPrice c))
  step_price c rules = record {
    loss = i.loss;
    accounts = i.accounts;
    lines = i.lines;
    empty = i.empty;
    noted = i.noted;
    day = i.day;
    unopened = i.unopened;
    even = i.even;
    rows = i.rows;
  }

  step_begins : (c : DayBegin) (rules : Rules) → Accepted s (BeginDay c) → Holds (fed (BeginDay c) k) (done rules s (BeginDay c))
  step_begins c rules ok =
      let limits = ok.fields in
      let due = ok.due in
      record {
        loss = i.loss;
        accounts = i.accounts;
        lines = i.lines;
        empty = λ e. absurd (false≢true (sym e));
        noted = λ e. absurd (false≢true e);
        day = λ _. grind (arith, nat_tests);
        unopened = i.unopened;
        even = i.even;
        rows = i.rows;
      }

  step_ends : (c : DayEnd) (rules : Rules) → Accepted s (EndDay c) → Holds (fed (EndDay c) k) (done rules s (EndDay c))
  step_ends c rules ok = record {
    loss = i.loss;
    accounts = i.accounts;
    lines = i.lines;
    empty = λ e. absurd (false≢true (sym e));
    noted = λ e sup p h. refl;
    day = λ _. i.day (nominating_in s.stage ok.stage).0;
    unopened = i.unopened;
    even = i.even;
    rows = i.rows;
  }

  step_nominates : (c : Nomination) (rules : Rules) → Accepted s (Nominate c) → Holds (fed (Nominate c) k) (done rules s (Nominate c))
  step_nominates c rules ok =
      let limits = ok.fields in
      let stage = nominating_in s.stage ok.stage in
      record {
        loss = i.loss;
        accounts = i.accounts;
        lines = lines_put k.supplier k.lines s.lines c.line (grind (arith, nat_tests)) (grind (arith, nat_tests), grind (arith, nat_tests), grind (arith, nat_tests)) i.lines;
        empty = λ e. absurd (both_ways _ e stage.0);
        noted = λ e. absurd (both_ways _ stage.1 e);
        day = i.day;
        unopened = i.unopened;
        even = i.even;
        rows = i.rows;
      }

  step_reallocates : (c : Reallocation) (rules : Rules) → Accepted s (Reallocate c) → Holds (fed (Reallocate c) k) (done rules s (Reallocate c))
  step_reallocates c rules ok =
      let xs = named_lines c in
      let fields = each_all line_within xs (named_within c ok.fields) in
      let small : AllByRecursion (λ x. (x.account < 1000000000) × Small x) xs = All-weaker (λ x. line_within x ≡ true) _ (λ x h. (grind (arith, nat_tests), (grind (arith, nat_tests), grind (arith, nat_tests), grind (arith, nat_tests)))) xs fields in
      let theirs : AllByRecursion (λ x. k.supplier x.account ≡ c.supplier) xs = All-weaker (λ x. supplier_of x.account s.accounts ≡ c.supplier) _ (λ x h. sym (agree.suppliers x.account) ∙ h) xs ok.own in
      let once = distinct [] xs (unnamed (first_repeated [] xs) ok.not_given) in
      let after = lines_puts xs small i.lines in
      record {
        loss = i.loss;
        accounts = i.accounts;
        lines = after;
        empty = λ e. absurd (both_ways _ e (ended_in s.stage ok.stage));
        noted = λ e u q h.
            sym (after.totals u q h)
            ∙ totals_kept k.supplier c.supplier u q xs s.lines i.lines.small (All-weaker (λ x. (x.account < 1000000000) × Small x) Small (λ x w. w.1) xs small) once theirs
            (level_on s xs (All-weaker (λ x. (x.account < 1000000000) × Small x) Small (λ x w. w.1) xs small) ok.level q h)
            ∙ i.lines.totals u q h ∙ i.noted ok.stage u q h;
        day = i.day;
        unopened = i.unopened;
        even = i.even;
        rows = i.rows;
      }

  step_settles : (c : DaySettle) (rules : Rules) → Accepted s (Settle c) → Lawful rules.ordinary → Lawful rules.critical → Holds (fed (Settle c) k) (done rules s (Settle c))
  step_settles c rules ok lo lc =
      let kind = begun_kind s.stage in
      let today = i.day (ended_in s.stage ok.stage) in
      let law = lawful_for kind rules lo lc in
      let rows = settled_rows rules kind s in
      let new = settled_account rules kind s in
      let row = settled_row rules kind s in
      record {
        loss = i.loss;
        accounts = accounts_map agree rows (λ _. 0) (λ n. zeros (account_at n s.accounts)) (sound_after k s i today rules kind law);
        lines = lines_none k.supplier;
        empty = λ _. refl;
        noted = λ e. absurd (false≢true e);
        day = λ e. absurd (false≢true e);
        unopened = i.unopened;
        even = λ n.
            let day = λ (b : Option Account) (e : account_at n s.accounts ≡ b).
            subst (λ t. cond t (delivered k n) 0 + shown (λ a. came (row a)) b + shown (λ a. a.storage) b ≡ cond t (k.reading n) 0 + shown (λ a. went (row a)) b + shown (λ a. (new a).storage) b)
            (sym (ap is_some e) ∙ agree.known_if n) (one_day k s i today rules kind law n b e) in
            even_more agree rows s.rows n (k.opening n) (k.pipeline n) (k.used n)
            (cond (k.opened n) (delivered k n) 0) (cond (k.opened n) (k.reading n) 0) (i.even n) day;
        rows = All-append InRange s.rows (map row s.accounts) i.rows (rows_in_range agree rows);
      }

  step_closes : (c : MonthClosing) (rules : Rules) → Accepted s (Close c) → Holds (fed (Close c) k) (done rules s (Close c))
  step_closes c rules ok =
      let stage = between_out s.stage ok.stage in
      let rows = closed_rows s in
      record {
        loss = i.loss;
        accounts = accounts_map agree rows k.reading agree.readings (sound_closed s);
        lines = i.lines;
        empty = λ _. i.empty stage.0;
        noted = λ e. absurd (false≢true e);
        day = λ e. absurd (false≢true e);
        unopened = i.unopened;
        even = λ n.
            let more = even_more agree rows s.rows n (k.opening n) (k.pipeline n) (k.used n) 0 0 (i.even n) (λ o e. one_close s o) in
            omega arith;
        rows = All-append InRange s.rows (map (closed_row s) s.accounts) i.rows (rows_in_range agree rows);
      }

pub step : (k : Count) (s : State) (c : Call) (rules : Rules) → Holds k s → Lawful rules.ordinary → Lawful rules.critical → Accepted s c → Holds (fed c k) (done rules s c)
step k s (BeginMonth c) rules i lo lc ok = step_month k s i c rules ok
step k s (OpenAccount c) rules i lo lc ok = step_opens k s i c rules ok
step k s (MoveAccount c) rules i lo lc ok = step_moves k s i c rules ok
step k s (SetGasCost c) rules i lo lc ok = step_gas_cost k s i c rules
step k s (SetPrice c) rules i lo lc ok = step_price k s i c rules
step k s (BeginDay c) rules i lo lc ok = step_begins k s i c rules ok
step k s (Nominate c) rules i lo lc ok = step_nominates k s i c rules ok
step k s (EndDay c) rules i lo lc ok = step_ends k s i c rules ok
step k s (Reallocate c) rules i lo lc ok = step_reallocates k s i c rules ok
step k s (Read c) rules i lo lc ok = step_reads k s i c rules ok
step k s (Settle c) rules i lo lc ok = step_settles k s i c rules ok lo lc
step k s (Close c) rules i lo lc ok = step_closes k s i c rules ok
step k s (Post c) rules i lo lc ok = i
