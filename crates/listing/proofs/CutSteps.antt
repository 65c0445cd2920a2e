-- A feed cut record after record, at the offsets that a loop over it passes.
use Rattle.std.proofs.Common.{◌≡◌, ℕ, ◌+◌, ◌-◌, ◌<◌, ◌≤◌, List, [], ◌∷◌, ◌++◌, length, take, drop, Some, None, Ok, Err, Option, sym, ap, ◌∙◌, subst, append_assoc, arith}
use Rattle.std.proofs.lemmas.List.{drop-drop, length-drop, drop_all, append-nil}
use Rattle.std.proofs.lemmas.Slice.{between_to_end}
use Rattle.calls.specs.declared.fields.Call.{Call}
use Rattle.feed.specs.declared.fault.FeedRefusal.{FeedRefusal}
use Rattle.feed.specs.declared.fault.Fault.{Fault}
use Rattle.feed.specs.Records.{first_record}
use Rattle.feed.specs.Cuts.{Cuts, ends, stops, takes, feed_fault}

-- what the rest is cut into, behind these calls, the whole is cut into
abbrev pub Behind : List ℕ → ℕ → ℕ → List Call → Type 0
Behind feed k i done = (cs : List Call) (f : Option Fault) → Cuts k i (drop i feed) cs f → Cuts 1 0 feed (done ++ cs) f

pub nothing_behind : (feed : List ℕ) → Behind feed 1 0 []
nothing_behind feed cs f cut = cut

module _ (feed : List ℕ) (k i : ℕ) (done : List Call) (behind : Behind feed k i done) where
  left : i < length feed → 0 < length (drop i feed)
  left h = let e : length (drop i feed) ≡ length feed - i = length-drop i feed in omega arith

  part : take (length feed - i) (drop i feed) ≡ drop i feed
  part = between_to_end feed i (length feed) (omega arith)

  pub one_more : (c : Call) (n : ℕ) → i < length feed → Ok (c, n) ≡ first_record (take (length feed - i) (drop i feed)) → Behind feed (k + 1) (i + n) (done ++ (c ∷ []))
  one_more c n h r cs f cut =
      let rest : List ℕ → Type 0 = λ bs. Cuts (k + 1) (i + n) bs cs f in
      let whole : List Call → Type 0 = λ xs. Cuts 1 0 feed xs f in
      subst whole (sym (append_assoc done (c ∷ []) cs))
      (behind (c ∷ cs) f (takes k i (drop i feed) c n cs f (left h) (sym (r ∙ ap first_record part)) (subst rest (sym (drop-drop n i feed)) cut)))

  whole : (f : Option Fault) → Cuts k i (drop i feed) [] f → Cuts 1 0 feed done f
  whole f cut = let family : List Call → Type 0 = λ xs. Cuts 1 0 feed xs f in subst family (append-nil done) (behind [] f cut)

  pub stopped : (e : FeedRefusal) → i < length feed → Err e ≡ first_record (take (length feed - i) (drop i feed)) → Cuts 1 0 feed done (Some (feed_fault k i e))
  stopped e h r = whole (Some (feed_fault k i e)) (stops k i (drop i feed) e (left h) (sym (r ∙ ap first_record part)))

  pub ended : length feed ≤ i → Cuts 1 0 feed done None
  ended h = let rest : List ℕ → Type 0 = λ bs. Cuts k i bs [] None in whole None (subst rest (sym (drop_all i feed h)) (ends k i))
