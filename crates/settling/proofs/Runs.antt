-- An account's lines among lines that are sorted by account.
use Rattle.std.proofs.Common.{◌≡◌, ◌≢◌, ℕ, zero, suc, ◌+◌, ◌*◌, ◌<◌, true, List, [], ◌∷◌, length, get_or, drop, sym, refl, ap, ◌∙◌, subst, suc-add, arith}
use Rattle.std.specs.List.{AllByRecursion}
use Rattle.std.specs.List.Sorted.{IsNonDecreasingBy}
use Rattle.std.proofs.lemmas.Bool.{cond-false, ne_eqb}
use Rattle.std.proofs.lemmas.Bool.Decides.{nat_tests}
use Rattle.std.proofs.lemmas.List.{drop_more, get_or-drop, length-drop}
use Rattle.tariff.specs.Each.{each}
use Rattle.register.specs.Keys.{rising}
use Rattle.register.proofs.Rising.{never_falls}
use Rattle.calls.specs.declared.fields.Line.{Line}
use Rattle.calls.specs.Limits.{line_within}
use Rattle.ledger.specs.declared.records.Account.{Account}
use Rattle.ledger.proofs.Found.{rising_parts}
use Rattle.ledger.specs.State.{number, line_key, standing, of_account, picked}
use Rattle.ledger.proofs.Steps.{each_all}
use Rattle.std.proofs.ByRecursion.{All-get_or}

-- past a place, all keys are above the one that stands there
above_past : {X : Type 0} (key : X → ℕ) (xs : List X) (i : ℕ) (d : X) → rising key xs ≡ true → i < length xs → AllByRecursion (λ x. key (get_or xs i d) < key x) (drop (i + 1) xs)
above_past key [] i d r h = absurd (omega arith)
above_past key (x ∷ xs) zero d r h = (rising_parts key x xs r).0
above_past key (x ∷ xs) (suc i) d r h = rw (suc-add i 1) (above_past key xs i d (rising_parts key x xs r).1 (omega arith))

none_of : (n : ℕ) (ls : List Line) (d : Line) → ((i : ℕ) → i < length ls → (get_or ls i d).account ≢ n) → standing (of_account n) ls ≡ 0
none_of n [] d h = refl
none_of n (l ∷ ls) d h =
    let rest = none_of n ls d (λ i lt. h (suc i) (omega arith)) in
    let other : picked (of_account n) l ≡ 0 = cond-false _ _ _ (ne_eqb l.account n (h zero (omega arith))) in
    omega arith

-- lines by rising key are in the order of their accounts
pub by_account : (ls : List Line) → rising line_key ls ≡ true → each line_within ls ≡ true → IsNonDecreasingBy (λ l. l.account) ls
by_account ls rise within i j d le lt =
    let order = never_falls line_key ls rise i j d le lt in
    let first = All-get_or (λ l. line_within l ≡ true) ls i d (omega arith) (each_all line_within ls within) in
    let second = All-get_or (λ l. line_within l ≡ true) ls j d lt (each_all line_within ls within) in
    let low : line_key (get_or ls i d) ≡ (get_or ls i d).account * 16 + (get_or ls i d).pipeline = refl in
    let high : line_key (get_or ls j d) ≡ (get_or ls j d).account * 16 + (get_or ls j d).pipeline = refl in
    grind (arith, nat_tests)

-- from a line of a later account on, none is the account's
pub none_past : (n : ℕ) (ls : List Line) (i : ℕ) (d : Line) → rising line_key ls ≡ true → each line_within ls ≡ true
    → i < length ls → n < (get_or ls i d).account → standing (of_account n) (drop i ls) ≡ 0
none_past n ls i d rise within lt later = none_of n (drop i ls) d (λ j below same.
    let there : i + j < length ls = omega (arith, length-drop i ls) in
    let order = by_account ls rise within i (i + j) d (omega arith) there in
    let behind = ap (λ l. l.account) (get_or-drop i ls j d) in
    omega (arith, order, behind))

-- the lines of these accounts are all among those that are left
abbrev pub Left : List Line → List Line → List Account → Type 0
Left rest ls accounts = AllByRecursion (λ a. standing (of_account a.number) rest ≡ standing (of_account a.number) ls) accounts

pub all_left : (ls : List Line) (accounts : List Account) → Left ls ls accounts
all_left ls [] = tt
all_left ls (b ∷ bs) = (refl, all_left ls bs)

-- those of the account that stands at the place
pub left_here : (rest ls : List Line) (accounts : List Account) (i : ℕ) (x d : Account) → i < length accounts → x ≡ get_or accounts i d → Left rest ls (drop i accounts)
    → standing (of_account x.number) rest ≡ standing (of_account x.number) ls
left_here rest ls accounts i x d h stood left =
    let whole : Account → Type 0 = λ a. standing (of_account a.number) rest ≡ standing (of_account a.number) ls in
    subst whole (sym stood) (subst (Left rest ls) (drop_more accounts i d h) left).0

-- past its lines, those of the later accounts are still left
pub left_more : (rest rest' ls : List Line) (accounts : List Account) (i : ℕ) (x d : Account) → i < length accounts → x ≡ get_or accounts i d → rising number accounts ≡ true
    → ((m : ℕ) → x.number < m → standing (of_account m) rest' ≡ standing (of_account m) rest)
    → Left rest ls (drop i accounts) → Left rest' ls (drop (i + 1) accounts)
left_more rest rest' ls accounts i x d h stood rise later left =
    let above : Account → Type 0 = λ a. AllByRecursion (λ b. a.number < b.number) (drop (i + 1) accounts) in
    on (drop (i + 1) accounts) (subst above (sym stood) (above_past number accounts i d rise h)) (subst (Left rest ls) (drop_more accounts i d h) left).1
  where
    on : (bs : List Account) → AllByRecursion (λ b. x.number < b.number) bs → Left rest ls bs → Left rest' ls bs
    on [] up left = tt
    on (b ∷ bs) up left = (later b.number up.0 ∙ left.0, on bs up.1 left.1)
