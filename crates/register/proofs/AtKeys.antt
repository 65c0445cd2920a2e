-- What `at` and `put` come to where a key stands, and where it is missing.
use Rattle.std.proofs.Common.{◌≡◌, ℕ, zero, suc, ◌<◌, ◌≤◌, true, eqb, ltb, List, [], ◌∷◌, length, get_or, take, drop, set, is_some, Some, None, Ok, Err, Result, ◌||◌, sym, refl, ap, subst, ◌∙◌, arith}
use Rattle.std.specs.List.{insert, AllByRecursion}
use Rattle.std.proofs.ByRecursion.{All-weaker}
use Rattle.std.proofs.lemmas.Bool.{and_from, and_parts, eq-eqb, ne_eqb, lt-ltb, le-ltb, eqb-true, eqb-false, ltb-true, ltb-false, cond-true, cond-false, cond_both}
use Rattle.std.specs.Result.{result_ok}
use Rattle.register.specs.Keys.{at, put, fits, all_above, rising}
use Rattle.register.specs.Places.{Sought}
use Rattle.register.proofs.Rising.{above_all, all_above_from}

module _ {X : Type 0} (key : X → ℕ) where
  -- a key of the tail is above the head's
  past : (x : X) (xs : List X) (m : ℕ) (d : X) → rising key (x ∷ xs) ≡ true → m < length xs → key x < key (get_or xs m d)
  past x xs m d r lt = above_at xs m d (above_all key (key x) xs (and_parts (all_above key (key x) xs) (rising key xs) r).0) lt
    where
      above_at : (ys : List X) (m : ℕ) (d : X) → AllByRecursion (λ y. key x < key y) ys → m < length ys → key x < key (get_or ys m d)
      above_at [] m d a lt = absurd (omega arith)
      above_at (y ∷ ys) zero d a lt = a.0
      above_at (y ∷ ys) (suc m) d a lt = above_at ys m d a.1 (omega arith)

  pub at_found : (xs : List X) (m : ℕ) (d : X) → rising key xs ≡ true → m < length xs → at key (key (get_or xs m d)) xs ≡ Some (get_or xs m d)
  at_found [] m d r lt = absurd (omega arith)
  at_found (x ∷ xs) zero d r lt = cond-true _ _ _ (eq-eqb (key x) (key x) refl)
  at_found (x ∷ xs) (suc m) d r lt =
      let up = past x xs m d r (omega arith) in
      cond-false _ _ _ (ne_eqb (key (get_or xs m d)) (key x) (λ e. omega arith)) ∙ cond-false _ _ _ (le-ltb (key (get_or xs m d)) (key x) (omega arith))
      ∙ at_found xs m d (and_parts (all_above key (key x) xs) (rising key xs) r).1 (omega arith)

  pub at_missing : (k : ℕ) (xs : List X) (m : ℕ) → AllByRecursion (λ x. key x < k) (take m xs) → AllByRecursion (λ x. k < key x) (drop m xs) → at key k xs ≡ None
  at_missing k [] m a b = refl
  at_missing k (x ∷ xs) zero a b =
      let up = b.0 in cond-false _ _ _ (ne_eqb k (key x) (λ e. omega arith)) ∙ cond-true _ _ _ (lt-ltb k (key x) up)
  at_missing k (x ∷ xs) (suc m) a b =
      let down = a.0 in
      cond-false _ _ _ (ne_eqb k (key x) (λ e. omega arith)) ∙ cond-false _ _ _ (le-ltb k (key x) (omega arith)) ∙ at_missing k xs m a.1 b

  pub put_found : (x : X) (xs : List X) (m : ℕ) → rising key xs ≡ true → m < length xs → key (get_or xs m x) ≡ key x → put key x xs ≡ set xs m x
  put_found x [] m r lt e = absurd (omega arith)
  put_found x (y ∷ ys) zero r lt e = cond-true _ _ _ (eq-eqb (key x) (key y) (sym e))
  put_found x (y ∷ ys) (suc m) r lt e =
      let up = past y ys m x r (omega arith) in
      cond-false _ _ _ (ne_eqb (key x) (key y) (λ q. omega arith)) ∙ cond-false _ _ _ (le-ltb (key x) (key y) (omega arith))
      ∙ ap (λ l. y ∷ l) (put_found x ys m (and_parts (all_above key (key y) ys) (rising key ys) r).1 (omega arith) e)

  pub put_missing : (x : X) (xs : List X) (m : ℕ) → m ≤ length xs → AllByRecursion (λ y. key y < key x) (take m xs) → AllByRecursion (λ y. key x < key y) (drop m xs) → put key x xs ≡ insert xs m x
  put_missing x [] zero le a b = refl
  put_missing x [] (suc m) le a b = absurd (omega arith)
  put_missing x (y ∷ ys) zero le a b =
      let up = b.0 in cond-false _ _ _ (ne_eqb (key x) (key y) (λ e. omega arith)) ∙ cond-true _ _ _ (lt-ltb (key x) (key y) up)
  put_missing x (y ∷ ys) (suc m) le a b =
      let down = a.0 in
      cond-false _ _ _ (ne_eqb (key x) (key y) (λ e. omega arith)) ∙ cond-false _ _ _ (le-ltb (key x) (key y) (omega arith))
      ∙ ap (λ l. y ∷ l) (put_missing x ys m (omega arith) a.1 b)

  above_put : (k : ℕ) (x : X) (xs : List X) → k < key x → all_above key k xs ≡ true → all_above key k (put key x xs) ≡ true
  above_put k x [] lt h = and_from _ _ (lt-ltb k (key x) lt) refl
  above_put k x (y ∷ ys) lt h =
      let p = and_parts (ltb k (key y)) (all_above key k ys) h in
      cond_both (eqb (key x) (key y)) _ _ (λ l. all_above key k l ≡ true) (λ e. and_from _ _ (lt-ltb k (key x) lt) p.1)
      (λ e. cond_both (ltb (key x) (key y)) _ _ (λ l. all_above key k l ≡ true) (λ l. and_from _ _ (lt-ltb k (key x) lt) h) (λ l. and_from _ _ p.0 (above_put k x ys lt p.1)))

  weaker : (k m : ℕ) (xs : List X) → k ≤ m → all_above key m xs ≡ true → all_above key k xs ≡ true
  weaker k m xs le h = all_above_from key k xs (All-weaker (λ y. m < key y) (λ y. k < key y) (λ y q. omega arith) xs (above_all key m xs h))

  -- a record more or changed leaves the keys rising
  pub rising_put : (x : X) (xs : List X) → rising key xs ≡ true → rising key (put key x xs) ≡ true
  rising_put x [] r = refl
  rising_put x (y ∷ ys) r =
      let p = and_parts (all_above key (key y) ys) (rising key ys) r in
      cond_both (eqb (key x) (key y)) _ _ (λ l. rising key l ≡ true)
      (λ e. let same = eqb-true (key x) (key y) e in and_from _ _ (weaker (key x) (key y) ys (omega arith) p.0) p.1)
      (λ e. cond_both (ltb (key x) (key y)) _ _ (λ l. rising key l ≡ true)
      (λ l. let less = ltb-true (key x) (key y) l in and_from _ _ (and_from _ _ (lt-ltb (key x) (key y) less) (weaker (key x) (key y) ys (omega arith) p.0)) r)
      (λ l. let apart = eqb-false (key x) (key y) e in let more = ltb-false (key x) (key y) l in and_from _ _ (above_put (key y) x ys (omega arith) p.0) (rising_put x ys p.1)))

  -- so does one in the place of another with its key
  pub rising_set : (x : X) (xs : List X) (m : ℕ) → rising key xs ≡ true → m < length xs → key (get_or xs m x) ≡ key x → rising key (set xs m x) ≡ true
  rising_set x xs m r lt e = ap (rising key) (sym (put_found x xs m r lt e)) ∙ rising_put x xs r

  -- where the key is sought in vain, the record fits if there is room, and goes before the place
  pub fits_missing : (k room i : ℕ) (x : X) (xs : List X) → k ≡ key x → Sought key k xs (Err i) → fits key room xs x ≡ ltb (length xs) room
  fits_missing k room i x xs e s = ap (λ o. is_some o || ltb (length xs) room) (ap (λ n. at key n xs) (sym e) ∙ at_missing k xs i s.1 s.2)

  pub put_sought : (k i n : ℕ) (x : X) (xs : List X) → k ≡ key x → Sought key k xs (Err i) → n ≡ i → put key x xs ≡ insert xs n x
  put_sought k i n x xs e s there = let t = subst (λ m. Sought key m xs (Err i)) e s in put_missing x xs i t.0 t.1 t.2 ∙ ap (λ m. insert xs m x) (sym there)

  pub fits_found : (room : ℕ) (x : X) (xs : List X) (m : ℕ) → rising key xs ≡ true → m < length xs → key (get_or xs m x) ≡ key x → fits key room xs x ≡ true
  fits_found room x xs m r lt e = ap (λ o. is_some o || ltb (length xs) room) (ap (λ n. at key n xs) (sym e) ∙ at_found xs m x r lt)

  -- what a search finds is the record with that key, if there is one
  pub looked : (k : ℕ) (xs : List X) (r : Result ℕ ℕ) (i n : ℕ) (x : X) → rising key xs ≡ true → Sought key k xs r → result_ok r ≡ Some i → n ≡ i → x ≡ get_or xs n x → Some x ≡ at key k xs
  looked k xs (Ok j) i n x up s e one is =
      let same : j ≡ n = cc in
      let there : x ≡ get_or xs j x = is ∙ ap (λ n. get_or xs n x) (sym same) in
      ap (λ y. Some y) there ∙ sym (at_found xs j x up s.0) ∙ ap (λ n. at key n xs) (s.1 x)
  looked k xs (Err j) i n x up s e one is = absurd (cc)

  pub looked_in_vain : (k : ℕ) (xs : List X) (r : Result ℕ ℕ) → Sought key k xs r → result_ok r ≡ None → at key k xs ≡ None
  looked_in_vain k xs (Ok j) s e = absurd (cc)
  looked_in_vain k xs (Err j) s e = at_missing k xs j s.1 s.2
