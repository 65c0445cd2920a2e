-- A loop that makes each element anew in its place, and adds what it gives to a journal. Assumes nothing.
use Rattle.std.proofs.Common.{◌≡◌, ℕ, ◌+◌, ◌<◌, ◌≤◌, List, [], ◌∷◌, ◌++◌, map, length, get_or, take, drop, set, sym, refl, ap, ◌∙◌, append_assoc, append-nil, arith}
use Rattle.std.proofs.lemmas.List.{take_more_set, map_more, drop-set-lt, drop-drop, get_or-drop, take_all, length-set}

pub record Done {X Y : Type 0} (f : X → X) (g : X → Y) (i : ℕ) (start now : List X) (old out : List Y) : Type 0 where
  pub made : take i now ≡ map f (take i start)
  pub left : drop i now ≡ drop i start
  pub wrote : out ≡ old ++ map g (take i start)
  pub long : length now ≡ length start
  pub longer : length out ≡ length old + i

-- nothing is done yet
pub begun : {X Y : Type 0} (f : X → X) (g : X → Y) (start : List X) (old : List Y) → Done f g 0 start start old old
begun f g start old = record { made = refl; left = refl; wrote = sym (append-nil old); long = refl; longer = omega arith }

module _ {X Y : Type 0} {f : X → X} {g : X → Y} {i : ℕ} {start now : List X} {old out : List Y} (d : Done f g i start now old out) where
  -- what stands at the place is what stood there
  pub here : (x : X) → get_or now i x ≡ get_or start i x
  here x =
      let a = get_or-drop i now 0 x in
      let b = get_or-drop i start 0 x in
      let c = ap (λ xs. get_or xs 0 x) d.left in
      ap (λ n. get_or now n x) (omega arith) ∙ sym a ∙ c ∙ b ∙ ap (λ n. get_or start n x) (omega arith)

  pub more : (x e : X) (y : Y) (now' : List X) (out' : List Y) → i < length start → x ≡ f (get_or start i e) → y ≡ g (get_or start i e) → now' ≡ set now i x → out' ≡ out ++ (y ∷ []) → length out' ≡ length out + 1 → Done f g (i + 1) start now' old out'
  more x e y now' out' h xe ye n o l =
      let hn : i < length now = omega (arith, d.long) in
      record {
        made = ap (take (i + 1)) n ∙ take_more_set now i x hn ∙ (let m = map_more f start i e h in let p = d.made in cc);
        left = ap (drop (i + 1)) n ∙ drop-set-lt (i + 1) now i x (omega arith) ∙ sym (drop-drop 1 i now) ∙ ap (drop 1) d.left ∙ drop-drop 1 i start;
        wrote = o ∙ ap (λ ys. ys ++ (y ∷ [])) d.wrote ∙ append_assoc old (map g (take i start)) (y ∷ []) ∙ ap (λ ys. old ++ ys) (ap (λ z. map g (take i start) ++ (z ∷ [])) ye ∙ sym (map_more g start i e h));
        long = ap length n ∙ length-set now i x ∙ d.long;
        longer = omega (arith, d.longer);
      }

  pub all_wrote : length start ≤ i → out ≡ old ++ map g start
  all_wrote hs = d.wrote ∙ ap (λ xs. old ++ map g xs) (take_all i start hs)
