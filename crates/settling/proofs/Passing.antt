-- Tests that all elements pass, and values that are there because a test holds.
use Rattle.std.proofs.Common.{◌≡◌, ℕ, zero, suc, ◌<◌, Bool, true, ◌&&◌, List, [], ◌∷◌, length, drop, get_or, is_some, Some, None, Option, sym, refl, ap, ◌∙◌}
use Rattle.std.specs.Option.{option_map}
use Rattle.std.proofs.lemmas.Bool.{and_parts, and_from}
use Rattle.std.proofs.ByRecursion.{All-get_or}
use Rattle.tariff.specs.Each.{each}
use Rattle.tariff.specs.Options.{when}
use Rattle.ledger.proofs.Steps.{each_all}

module _ {X : Type 0} where
  -- what stands at a place passes the test that all pass
  pub each_at : (test : X → Bool) (xs : List X) (i : ℕ) (x d : X) → i < length xs → x ≡ get_or xs i d → each test xs ≡ true → test x ≡ true
  each_at test xs i x d h stood passed = ap test stood ∙ All-get_or (λ y. test y ≡ true) xs i d h (each_all test xs passed)

  pub each_both : (f g : X → Bool) (xs : List X) → each f xs ≡ true → each g xs ≡ true → each (λ x. f x && g x) xs ≡ true
  each_both f g [] hf hg = refl
  each_both f g (x ∷ xs) hf hg =
      let p = and_parts (f x) (each f xs) hf in
      let q = and_parts (g x) (each g xs) hg in
      and_from _ _ (and_from _ _ p.0 q.0) (each_both f g xs p.1 q.1)

  pub each_drop : (test : X → Bool) (n : ℕ) (xs : List X) → each test xs ≡ true → each test (drop n xs) ≡ true
  each_drop test zero xs h = h
  each_drop test (suc n) [] h = refl
  each_drop test (suc n) (x ∷ xs) h = each_drop test n xs (and_parts (test x) (each test xs) h).1

module _ {X Y : Type 0} (f : X → Y) (o : Option X) (b : Bool) (y : Y) (e : option_map f o ≡ when b y) (holds : b ≡ true) where
  made : option_map f o ≡ Some y
  made = e ∙ ap (λ t. when t y) holds

  some_mapped : (p : Option X) → option_map f p ≡ Some y → is_some p ≡ true
  some_mapped None h = cc
  some_mapped (Some x) h = refl

  pub there : is_some o ≡ true
  there = some_mapped o made

  pub value : (x : X) → o ≡ Some x → f x ≡ y
  value x is = let h : option_map f (Some x) ≡ Some y = sym (ap (option_map f) is) ∙ made in cc
