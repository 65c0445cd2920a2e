-- The first condition that holds is that of the smallest number.
use Rattle.std.proofs.Common.{◌≡◌, ℕ, zero, suc, ◌<◌, Bool, true, false, cond, List, [], ◌∷◌, length, Some, None, Option, refl, ap, ◌∙◌, arith, lit<}
use Rattle.std.specs.List.{HoldsAt, AllByRecursion}
use Rattle.std.proofs.ByRecursion.{All-weaker}
use Rattle.calls.specs.declared.fields.Call.{Call}
use Rattle.calls.specs.declared.fields.Call.TheVariants.{BeginMonth, OpenAccount, MoveAccount, SetGasCost, SetPrice, BeginDay, Nominate, EndDay, Reallocate, Read, Settle, Close, Post}
use Rattle.calls.specs.declared.refusal.Refusal.{Refusal}
use Rattle.calls.specs.Refusals.{number_of}
use Rattle.ledger.specs.State.{State}
use Rattle.ledger.specs.Table.{Condition, refuse_if, refuse_naming, Entry, table, first, or_else, Holding, Own, Smallest, RefusedByTheTable, given_already, settles, unread}

-- the numbers rise
abbrev Rises : ℕ → List Entry → Type 0
Rises n [] = Unit {0}
Rises n (e ∷ es) = (n < e.number) × Rises e.number es

above : (n : ℕ) (es : List Entry) → Rises n es → AllByRecursion (λ e. n < e.number) es
above n [] r = tt
above n (e ∷ es) r = (r.0, All-weaker (λ d. e.number < d.number) (λ d. n < d.number) (λ d h. omega (arith, r.0)) es (above e.number es r.1))

sooner : (x : Refusal) (e : Entry) (es : List Entry) → e.condition ≡ None → Smallest es x → Smallest (e ∷ es) x
sooner x e es none s = record {
  by = s.by;
  there = (suc s.there.0, omega (arith, s.there.1), s.there.2);
  holds = s.holds;
  none_before = ((λ h. none), s.none_before);
}

at_head : (x : Refusal) (e : Entry) (es : List Entry) → AllByRecursion (λ d. e.number < d.number) es → (first es ≡ Some x → Smallest es x)
    → (o : Condition) → e.condition ≡ o → or_else o (first es) ≡ Some x → Smallest (e ∷ es) x
at_head x e es up later None q g = sooner x e es q (later g)
at_head x e es up later (Some y) q g = record {
  by = e;
  there = (0, omega arith, (λ d. refl));
  holds = q ∙ g;
  none_before = ((λ l. absurd (omega arith)), All-weaker (λ d. e.number < d.number) (λ d. d.number < e.number → d.condition ≡ None) (λ d h low. absurd (omega arith)) es up);
}

found : (n : ℕ) (es : List Entry) (x : Refusal) → Rises n es → first es ≡ Some x → Smallest es x
found n [] x r h = let bad : ◌≡◌ {A = ℕ} 0 1 = cc in absurd (omega arith)
found n (e ∷ es) x r h = at_head x e es (above e.number es r.1) (found e.number es x r.1) e.condition refl h

-- an entry of the tail has a greater number
later_number : (n : ℕ) (es : List Entry) (d : Entry) (k : ℕ) → AllByRecursion (λ e. n < e.number) es → k < length es → HoldsAt (λ e. e ≡ d) es k → n < d.number
later_number n [] d k a lt at = absurd (omega arith)
later_number n (e ∷ es) d zero a lt at = let q = ap (λ x. x.number) (at d) in omega (arith, a.0)
later_number n (e ∷ es) d (suc k) a lt at = later_number n es d k a.1 (omega arith) at

holding : (n : ℕ) (es : List Entry) (x : Refusal) (d : Entry) (k : ℕ) → Rises n es → k < length es → HoldsAt (λ e. e ≡ d) es k → d.condition ≡ Some x
    → AllByRecursion (λ e. e.number < d.number → e.condition ≡ None) es → first es ≡ Some x
holding n [] x d k r lt at h none = absurd (omega arith)
holding n (e ∷ es) x d zero r lt at h none = ap (λ o. or_else o (first es)) (ap (λ y. y.condition) (at d) ∙ h)
holding n (e ∷ es) x d (suc k) r lt at h none =
    let low : e.number < d.number = later_number e.number es d k (above e.number es r.1) (omega arith) at in
    ap (λ o. or_else o (first es)) (none.0 low) ∙ holding e.number es x d k r.1 (omega arith) at h none.1

refuse_own : (n : ℕ) (b : Bool) (r : Refusal) → number_of r ≡ n → Holding n (refuse_if b r)
refuse_own n true r e = e
refuse_own n false r e = tt

naming_own : {X : Type 0} (n : ℕ) (name : X → Refusal) → ((x : X) → number_of (name x) ≡ n) → (o : Option X) → Holding n (refuse_naming name o)
naming_own n name e None = tt
naming_own n name e (Some x) = e x

given_own : (s : State) (c : Call) → Holding 6 (given_already s c)
given_own s (BeginMonth c) = tt
given_own s (OpenAccount c) = refuse_own 6 _ _ refl
given_own s (MoveAccount c) = tt
given_own s (SetGasCost c) = refuse_own 6 _ _ refl
given_own s (SetPrice c) = refuse_own 6 _ _ refl
given_own s (BeginDay c) = tt
given_own s (Nominate c) = tt
given_own s (EndDay c) = tt
given_own s (Reallocate c) = naming_own 6 _ (λ l. refl) _
given_own s (Read c) = refuse_own 6 _ _ refl
given_own s (Settle c) = tt
given_own s (Close c) = tt
given_own s (Post c) = tt

either_own : (n : ℕ) (b : Bool) (o : Condition) → Holding n o → Holding n (cond b o None)
either_own n true o h = h
either_own n false o h = tt

owns : (s : State) (c : Call) → AllByRecursion Own (table s c)
owns s c = (
  refuse_own 3 _ _ refl,
  (
    refuse_own 4 _ _ refl,
    (
      naming_own 5 _ (λ n. refl) _,
      (
        given_own s c,
        (
          refuse_own 7 _ _ refl,
          (
            refuse_own 8 _ _ refl,
            (
              refuse_own 9 _ _ refl,
              (
                refuse_own 10 _ _ refl,
                (
                  naming_own 11 _ (λ l. refl) _,
                  (
                    naming_own 12 _ (λ p. refl) _,
                    (
                      refuse_own 13 _ _ refl,
                      (either_own 14 (settles c) _ (naming_own 14 _ (λ a. refl) (unread s.accounts)), tt),
                    ),
                  ),
                ),
              ),
            ),
          ),
        ),
      ),
    ),
  ),
)

rises : (s : State) (c : Call) → Rises 0 (table s c)
rises s c = (lit< tt, (lit< tt, (lit< tt, (lit< tt, (lit< tt, (lit< tt, (lit< tt, (lit< tt, (lit< tt, (lit< tt, (lit< tt, (lit< tt, tt))))))))))))

pub by_the_table : RefusedByTheTable
by_the_table s c = record {
  own = owns s c;
  refused = λ r h. found 0 (table s c) r (rises s c) h;
  refuses = λ r m. holding 0 (table s c) r m.by m.there.0 (rises s c) m.there.1 m.there.2 m.holds m.none_before;
}
