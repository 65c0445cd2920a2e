-- A record's own bytes are that record and nothing more.
use Rattle.std.proofs.Common.{◌≡◌, ℕ, ◌+◌, ◌-◌, ◌≤◌, cond, ltb, List, [], ◌∷◌, length, get_or, take, drop, Some, None, Ok, Err, Option, Result, sym, ap, ◌∙◌, ⊎_elim, arith}
use Rattle.std.proofs.lemmas.List.{length-take, length-drop, take-take, drop-take, get_or-take}
use Rattle.std.proofs.lemmas.Bool.{cases_Bool, cond-true, cond-false, ltb-false, le-ltb}
use Rattle.calls.specs.declared.fields.Call.{Call}
use Rattle.feed.specs.declared.fault.FeedRefusal.{FeedRefusal}
use Rattle.feed.specs.declared.fault.FeedRefusal.TheVariants.{Cut}
use Rattle.feed.specs.Records.{Form, size, told, read_form, forms, marked, read_by, first_record}

-- what reads as a record reads so from its own bytes alone, and lies within what was given
pub record Stable (reads : List ℕ → Result (Call × ℕ) FeedRefusal) (bs : List ℕ) (c : Call) (n : ℕ) : Type 0 where
  pub low : 2 ≤ n
  pub high : n ≤ length bs + 2
  pub again : reads (take (n - 2) bs) ≡ Ok (c, n)

-- a record of its own size
own : (f : Form) (bs : List ℕ) → size f bs ≤ length bs → read_form f (take (size f bs) bs) ≡ told (size f bs) (f.says (take (size f bs) bs))
own f bs s =
    let n = size f bs in
    let xs = take n bs in
    let long : length xs ≡ n = length-take n bs ∙ omega arith in
    let front : take f.head xs ≡ take f.head bs = take-take f.head n bs (omega arith) in
    let same : size f xs ≡ n = ap (λ h. f.head + f.tail h) front in
    let all : take n xs ≡ xs = take-take n n bs (omega arith) in
    cond-false (ltb (length xs) f.head) _ _ (le-ltb (length xs) f.head (omega arith))
    ∙ cond-false (ltb (length xs) (size f xs)) _ _ (le-ltb (length xs) (size f xs) (omega arith))
    ∙ ap (λ k. told k (f.says (take k xs))) same
    ∙ ap (λ ys. told n (f.says ys)) all

told_size : (n m : ℕ) (o : Option Call) (c : Call) → told n o ≡ Ok (c, m) → n + 2 ≡ m
told_size n m None c e = let bad : ◌≡◌ {A = ℕ} 0 1 = cc in absurd (omega arith)
told_size n m (Some d) c e = let pair : Call × ℕ = (d, n + 2) in let p : pair ≡ (c, m) = cc in ap (λ q. q.1) p

stable_form : (f : Form) (bs : List ℕ) (c : Call) (n : ℕ) → read_form f bs ≡ Ok (c, n) → Stable (read_form f) bs c n
stable_form f bs c n e =
    let inner = told (size f bs) (f.says (take (size f bs) bs)) in
    let middle : Result (Call × ℕ) FeedRefusal = cond (ltb (length bs) (size f bs)) (Err Cut) inner in
    ⊎_elim
    (λ short. let z : read_form f bs ≡ Err Cut = cond-true (ltb (length bs) f.head) (Err Cut) middle short in
    let bad : ◌≡◌ {A = ℕ} 0 1 = cc in absurd (omega arith))
    (λ h. let y : read_form f bs ≡ middle = cond-false (ltb (length bs) f.head) (Err Cut) middle h in
    ⊎_elim
    (λ short. let z : middle ≡ Err Cut = cond-true (ltb (length bs) (size f bs)) (Err Cut) inner short in
    let bad : ◌≡◌ {A = ℕ} 0 1 = cc in absurd (omega arith))
    (λ s. let x : middle ≡ inner = cond-false (ltb (length bs) (size f bs)) (Err Cut) inner s in
    let said : inner ≡ Ok (c, n) = sym x ∙ sym y ∙ e in
    let k : size f bs + 2 ≡ n = told_size (size f bs) n (f.says (take (size f bs) bs)) c said in
    let fits : size f bs ≤ length bs = ltb-false (length bs) (size f bs) s in
    let back : n - 2 ≡ size f bs = omega arith in
    record {
      low = omega arith;
      high = omega arith;
      again = ap (λ m. read_form f (take m bs)) back ∙ own f bs fits ∙ said;
    })
    (cases_Bool (ltb (length bs) (size f bs))))
    (cases_Bool (ltb (length bs) f.head))

stable_by : (fs : List Form) (a b : ℕ) (bs : List ℕ) (c : Call) (n : ℕ) → read_by fs a b bs ≡ Ok (c, n) → Stable (read_by fs a b) bs c n
stable_by [] a b bs c n e = let bad : ◌≡◌ {A = ℕ} 0 1 = cc in absurd (omega arith)
stable_by (f ∷ fs) a b bs c n e = ⊎_elim
    (λ yes_it_is.
    let is : (xs : List ℕ) → read_by (f ∷ fs) a b xs ≡ read_form f xs = λ xs. cond-true (marked a b f.mark) (read_form f xs) (read_by fs a b xs) yes_it_is in
    let s = stable_form f bs c n (sym (is bs) ∙ e) in
    record { low = s.low; high = s.high; again = is (take (n - 2) bs) ∙ s.again })
    (λ it_is_not.
    let is : (xs : List ℕ) → read_by (f ∷ fs) a b xs ≡ read_by fs a b xs = λ xs. cond-false (marked a b f.mark) (read_form f xs) (read_by fs a b xs) it_is_not in
    let s = stable_by fs a b bs c n (sym (is bs) ∙ e) in
    record { low = s.low; high = s.high; again = is (take (n - 2) bs) ∙ s.again })
    (cases_Bool (marked a b f.mark))

-- so for the first record of a feed
pub record First (bs : List ℕ) (c : Call) (n : ℕ) : Type 0 where
  pub low : 2 ≤ n
  pub high : n ≤ length bs
  pub again : first_record (take n bs) ≡ Ok (c, n)

pub first_stable : (bs : List ℕ) (c : Call) (n : ℕ) → first_record bs ≡ Ok (c, n) → First bs c n
first_stable bs c n e =
    let by : ℕ → ℕ → List ℕ → Result (Call × ℕ) FeedRefusal = read_by forms in
    let a = get_or bs 0 0 in
    let b = get_or bs 1 0 in
    ⊎_elim
    (λ short. let z : first_record bs ≡ Err Cut = cond-true (ltb (length bs) 2) (Err Cut) (by a b (drop 2 bs)) short in
    let bad : ◌≡◌ {A = ℕ} 0 1 = cc in absurd (omega arith))
    (λ long.
    let s = stable_by forms a b (drop 2 bs) c n (sym (cond-false (ltb (length bs) 2) (Err Cut) (by a b (drop 2 bs)) long) ∙ e) in
    let two_bytes : 2 ≤ length bs = ltb-false (length bs) 2 long in
    let low = s.low in
    let high = s.high in
    let left : length (drop 2 bs) ≡ length bs - 2 = length-drop 2 bs in
    let xs = take n bs in
    let size_is : length xs ≡ n = length-take n bs ∙ omega arith in
    let first : get_or xs 0 0 ≡ a = get_or-take n bs 0 0 (omega arith) in
    let second : get_or xs 1 0 ≡ b = get_or-take n bs 1 0 (omega arith) in
    let split : 2 + (n - 2) ≡ n = omega arith in
    let rest : drop 2 xs ≡ take (n - 2) (drop 2 bs) = ap (λ k. drop 2 (take k bs)) (sym split) ∙ drop-take 2 (n - 2) bs in
    record {
      low = low;
      high = omega arith;
      again =
          cond-false (ltb (length xs) 2) (Err Cut) (by (get_or xs 0 0) (get_or xs 1 0) (drop 2 xs)) (le-ltb (length xs) 2 (omega arith))
          ∙ ap (λ x. by x (get_or xs 1 0) (drop 2 xs)) first ∙ ap (λ y. by a y (drop 2 xs)) second ∙ ap (by a b) rest ∙ s.again;
    })
    (cases_Bool (ltb (length bs) 2))
