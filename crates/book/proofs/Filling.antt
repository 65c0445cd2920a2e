-- The delivery that fills storage, in plain numbers: `wanted` is what it should come to after loss.
use Rattle.std.proofs.Common.{◌≡◌, ℕ, ◌+◌, ◌-◌, ◌*◌, ◌/◌, ◌<◌, ◌≤◌, min, true, inl, inr, ⊎_elim, mul-le-mul_right, mul-le-mul_left, le-div_iff_mul-le, div-mul-le_self, arith}
use native.Mathlib.Nat.{lt-div-mul-add}
use Rattle.std.proofs.lemmas.Bool.{cases_lt}
use Rattle.std.proofs.lemmas.Bool.Decides.{nat_tests}
use Rattle.tariff.specs.Loss.{after_loss}
use Rattle.tariff.specs.Ordinary.{ordinary, surplus, injects}
use Rattle.tariff.specs.Published.{share}
use Rattle.tariff.specs.Tiers.{total}
use Rattle.tariff.specs.Wholes.{total_split}
use Rattle.ledger.specs.declared.records.Account.{Account}
use Rattle.book.specs.declared.request.DeliveryRequest.{DeliveryRequest}
use Rattle.book.specs.Quantity.{request_within, day_asked, can_take, Serves}

module _ (wanted kept : ℕ) (low : 8000 ≤ kept) (high : kept ≤ 10000) where
  -- no more comes of it than is wanted
  pub no_more : (therms : ℕ) → therms ≤ wanted * 10000 / kept → therms * kept / 10000 ≤ wanted
  no_more therms h =
      let a : therms * kept ≤ wanted * 10000 / kept * kept = mul-le-mul_right kept h in
      let b : wanted * 10000 / kept * kept ≤ wanted * 10000 = div-mul-le_self (wanted * 10000) kept in
      omega arith

  -- at least what is wanted is brought
  pub no_less : wanted ≤ wanted * 10000 / kept
  no_less =
      let a : wanted * kept ≤ wanted * 10000 = mul-le-mul_left wanted high in
      (le-div_iff_mul-le {k = kept} {x = wanted} {y = wanted * 10000} (omega arith)).1 a

  pub within_one : wanted ≤ wanted * 10000 / kept * kept / 10000 + 1
  within_one =
      let a : wanted * 10000 < wanted * 10000 / kept * kept + kept = lt-div-mul-add (omega arith) in
      let b : wanted * 10000 / kept * kept ≤ wanted * 10000 = div-mul-le_self (wanted * 10000) kept in
      omega arith

module _ (loss : ℕ) (q : DeliveryRequest) (a : Account) (lost : loss ≤ 2000) (within : request_within q ≡ true) where
  -- what is delivered past the use finds its place in storage
  sells_none : (therms : ℕ) → after_loss loss therms ≤ q.used + can_take q a → (day : ℕ) → total (ordinary (day_asked loss q a day therms)).sold ≡ 0
  sells_none therms h day =
      let f = day_asked loss q a day therms in
      let whole = total_split (share a.capacity q.max_injection / 10) (2 * share a.capacity q.max_injection / 10) (surplus f - injects f) in
      omega arith

  pub serves : (therms : ℕ) → therms ≡ min ((q.used + can_take q a) * 10000 / (10000 - loss)) 8000000 → Serves loss q a therms
  serves therms e =
      let wanted = q.used + can_take q a in
      let kept = 10000 - loss in
      let used : q.used ≤ 8000000 = grind (arith, nat_tests) in
      let less = no_less wanted kept (omega arith) (omega arith) in
      record {
        low = omega arith;
        high = omega arith;
        sells_nothing = sells_none therms (no_more wanted kept (omega arith) (omega arith) therms (omega arith));
        fills = ⊎_elim
            (λ (l : wanted * 10000 / kept < 8000000). inl (let one = within_one wanted kept (omega arith) (omega arith) in let same : therms ≡ wanted * 10000 / kept = omega arith in rw same one))
            (λ (l : 8000000 ≤ wanted * 10000 / kept). inr (omega arith))
            (cases_lt (wanted * 10000 / kept) 8000000);
      }
