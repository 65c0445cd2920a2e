-- A feed gone through from record to record.
use Rattle.std.proofs.Common.{◌≡◌, ℕ, ◌+◌, List, [], ◌∷◌, ◌++◌, drop, Some, None, Option, sym, refl, subst, append_assoc}
use Rattle.std.proofs.lemmas.List.{append-nil}
use Rattle.calls.specs.declared.fields.Call.{Call}
use Rattle.feed.specs.declared.fault.Fault.{Fault}
use Rattle.feed.specs.declared.records.Records.{Records}
use Rattle.feed.specs.Cuts.{Cuts, ends, stops, takes, feed_fault, outcome, Counted}
use Rattle.feed.specs.Walks.{TakesCall, StopsAt}
use Rattle.feed.proofs.Divisions.{divided}

-- what the records left are cut into, behind these calls, the whole is cut into
abbrev pub Behind : List ℕ → List Call → Records → Type 0
Behind feed done s = (cs : List Call) (f : Option Fault) → Cuts s.ordinal s.offset s.rest.now cs f → Cuts 1 0 feed (done ++ cs) f

pub nothing_behind : (feed : List ℕ) (s : Records) → s.rest.now ≡ feed → s.ordinal ≡ 1 → s.offset ≡ 0 → Behind feed [] s
nothing_behind feed s r k i cs f cut =
    let by_rest : List ℕ → Type 0 = λ bs. Cuts s.ordinal s.offset bs cs f in
    let by_ordinal : ℕ → Type 0 = λ n. Cuts n s.offset feed cs f in
    let by_offset : ℕ → Type 0 = λ n. Cuts 1 n feed cs f in
    subst by_offset i (subst by_ordinal k (subst by_rest r cut))

module _ (feed : List ℕ) (done : List Call) (s t : Records) (behind : Behind feed done s) where
  pub one_more : (c : Call) → TakesCall s c t → Behind feed (done ++ (c ∷ [])) t
  one_more c g cs f cut =
      let by_rest : List ℕ → Type 0 = λ bs. Cuts t.ordinal t.offset bs cs f in
      let by_ordinal : ℕ → Type 0 = λ n. Cuts n t.offset (drop g.size s.rest.now) cs f in
      let by_offset : ℕ → Type 0 = λ n. Cuts (s.ordinal + 1) n (drop g.size s.rest.now) cs f in
      let whole : List Call → Type 0 = λ xs. Cuts 1 0 feed xs f in
      let left = subst by_offset g.offset (subst by_ordinal g.ordinal (subst by_rest g.rest cut)) in
      subst whole (sym (append_assoc done (c ∷ []) cs))
      (behind (c ∷ cs) f (takes s.ordinal s.offset s.rest.now c g.size cs f g.some_left g.reads left))

  last : (f : Option Fault) → Cuts s.ordinal s.offset s.rest.now [] f → Cuts 1 0 feed done f
  last f cut = let whole : List Call → Type 0 = λ xs. Cuts 1 0 feed xs f in subst whole (append-nil done) (behind [] f cut)

  pub stopped : (f : Fault) → StopsAt s f t → Cuts 1 0 feed done (Some f)
  stopped f g =
      let by_fault : Fault → Type 0 = λ x. Cuts 1 0 feed done (Some x) in
      subst by_fault (sym g.fault) (last (Some (feed_fault s.ordinal s.offset g.cause)) (stops s.ordinal s.offset s.rest.now g.cause g.some_left g.reads))

  pub ended : s.rest.now ≡ [] → Cuts 1 0 feed done None
  ended e = let by_rest : List ℕ → Type 0 = λ bs. Cuts s.ordinal s.offset bs [] None in last None (subst by_rest (sym e) (ends s.ordinal s.offset))

pub counted : (feed : List ℕ) (done : List Call) (f : Option Fault) → Cuts 1 0 feed done f → Counted feed (outcome done f)
counted feed done f cut = record { calls = done; fault = f; cut = cut; divided = divided cut; count = refl }
