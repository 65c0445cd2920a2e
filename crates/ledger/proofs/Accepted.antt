-- What an accepted call tells: no number's condition holds.
use Rattle.std.proofs.Common.{◌≡◌, ℕ, Bool, true, false, cond, not, ◌&&◌, eqb, List, [], ◌∷◌, Some, None, refl, arith}
use Rattle.std.specs.List.{AllByRecursion}
use Rattle.std.proofs.ByRecursion.{All-weaker}
use Rattle.std.proofs.lemmas.Bool.{not-false, eqb-true}
use Rattle.calls.specs.declared.fields.Call.{Call}
use Rattle.calls.specs.declared.refusal.Refusal.{Refusal}
use Rattle.calls.specs.Limits.{within}
use Rattle.ledger.specs.State.{State, known, supplier_of}
use Rattle.std.specs.List.{find}
use Rattle.ledger.specs.Table.{Condition, refuse_if, refuse_naming, Entry, table, first, or_else, verdict, taken_in, accounts_meant, given_already, no_space, is_due, shifted, shifted_by, changes, pipelines, settles, unpriced}

pub record Accepted (s : State) (c : Call) : Type 0 where
  pub fields : within c ≡ true
  pub stage : taken_in s.stage c ≡ true
  pub meant : AllByRecursion (λ n. known n s.accounts ≡ true) (accounts_meant c)
  pub not_given : given_already s c ≡ None
  pub space : no_space s c ≡ false
  pub due : is_due s c ≡ true
  pub own : AllByRecursion (λ l. supplier_of l.account s.accounts ≡ shifted_by c) (shifted c)
  pub level : AllByRecursion (λ p. changes s (shifted c) p ≡ false) pipelines
  pub priced : (settles c && unpriced s) ≡ false

passed_on : (e : Entry) (es : List Entry) → (first es ≡ None → AllByRecursion (λ d. d.condition ≡ None) es) → (o : Condition) → e.condition ≡ o → or_else o (first es) ≡ None
    → AllByRecursion (λ d. d.condition ≡ None) (e ∷ es)
passed_on e es later None q g = (q, later g)
passed_on e es later (Some r) q g = absurd (let bad : ◌≡◌ {A = ℕ} 0 1 = cc in omega arith)

passed : (es : List Entry) → first es ≡ None → AllByRecursion (λ e. e.condition ≡ None) es
passed [] h = tt
passed (e ∷ es) h = passed_on e es (passed es) e.condition refl h

pub off : (b : Bool) (r : Refusal) → refuse_if b r ≡ None → b ≡ false
off true r h = absurd (let bad : ◌≡◌ {A = ℕ} 0 1 = cc in omega arith)
off false r h = refl

none_on : {X : Type 0} (name : X → Refusal) (test : X → Bool) (x : X) (xs : List X) → (refuse_naming name (find test xs) ≡ None → AllByRecursion (λ y. test y ≡ false) xs)
    → (b : Bool) → test x ≡ b → refuse_naming name (cond b (Some x) (find test xs)) ≡ None → AllByRecursion (λ y. test y ≡ false) (x ∷ xs)
none_on name test x xs later true e g = absurd (let bad : ◌≡◌ {A = ℕ} 0 1 = cc in omega arith)
none_on name test x xs later false e g = (e, later g)

none_such : {X : Type 0} (name : X → Refusal) (test : X → Bool) (xs : List X) → refuse_naming name (find test xs) ≡ None → AllByRecursion (λ x. test x ≡ false) xs
none_such name test [] h = tt
none_such name test (x ∷ xs) h = none_on name test x xs (none_such name test xs) (test x) refl h

pub facts : (s : State) (c : Call) → verdict s c ≡ None → Accepted s c
facts s c v =
    let p = passed (table s c) v in
    let q = p.1.1.1.1 in
    let r = q.1.1.1.1 in
    record {
      fields = not-false _ (off _ _ p.0);
      stage = not-false _ (off _ _ p.1.0);
      meant = All-weaker _ _ (λ n h. not-false _ h) (accounts_meant c) (none_such _ (λ n. not (known n s.accounts)) (accounts_meant c) p.1.1.0);
      not_given = p.1.1.1.0;
      space = off _ _ q.0;
      due = not-false _ (off _ _ q.1.1.0);
      own = All-weaker _ _ (λ l h. eqb-true _ _ (not-false _ h)) (shifted c) (none_such _ (λ l. not (eqb (supplier_of l.account s.accounts) (shifted_by c))) (shifted c) r.0);
      level = none_such _ (changes s (shifted c)) pipelines r.1.0;
      priced = off _ _ r.1.1.0;
    }
