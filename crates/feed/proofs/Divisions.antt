-- A feed that is cut into records is those records one after another.
use Rattle.std.proofs.Common.{◌≡◌, ℕ, suc, ◌+◌, List, [], ◌∷◌, ◌++◌, length, take, Ok, Option, sym, refl, ap, ◌∙◌, subst, append_assoc, arith, take-append-drop}
use Rattle.std.proofs.lemmas.List.{length-take, length-append}
use Rattle.calls.specs.declared.fields.Call.{Call}
use Rattle.feed.specs.declared.fault.Fault.{Fault}
use Rattle.feed.specs.Records.{first_record}
use Rattle.feed.specs.Cuts.{Cuts, ends, stops, takes, Piece, joined, Ending, Divided}
use Rattle.feed.proofs.Alone.{first_stable}

ending_at : (k k' i i' : ℕ) (rest : List ℕ) (f : Option Fault) → k ≡ k' → i ≡ i' → Ending k i rest f → Ending k' i' rest f
ending_at k k' i i' rest f ek ei e =
    let by_ordinal : ℕ → Type 0 = λ n. Ending n i rest f in
    let by_offset : ℕ → Type 0 = λ n. Ending k' n rest f in
    subst by_offset ei (subst by_ordinal ek e)

pub divided : {k i : ℕ} {bs : List ℕ} {cs : List Call} {f : Option Fault} → Cuts k i bs cs f → Divided k i bs cs f
divided (ends k i) = record { pieces = []; rest = []; whole = refl; calls = refl; alone = tt; ending = refl }
divided (stops k i bs e h r) =
    let ko : k ≡ k + 0 = omega arith in
    let io : i ≡ i + 0 = omega arith in
    record { pieces = []; rest = bs; whole = refl; calls = refl; alone = tt; ending = (e, h, r, cc) }
divided (takes k i bs c n cs f h r more) =
    let d = divided more in
    let s = first_stable bs c n r in
    let front : length (take n bs) ≡ n = length-take n bs ∙ omega (arith, s.high) in
    let piece : Piece = record { bytes = take n bs; call = c } in
    let answer : ℕ → Type 0 = λ m. first_record (take n bs) ≡ Ok (c, m) in
    let all = length-append (take n bs) (joined d.pieces) in
    record {
      pieces = piece ∷ d.pieces;
      rest = d.rest;
      whole = sym (take-append-drop n bs) ∙ ap (λ xs. take n bs ++ xs) d.whole ∙ sym (append_assoc (take n bs) (joined d.pieces) d.rest);
      calls = ap (λ xs. c ∷ xs) d.calls;
      alone = (subst answer (sym front) s.again, d.alone);
      ending = ending_at (k + 1 + length d.pieces) (k + suc (length d.pieces)) (i + n + length (joined d.pieces)) (i + length (take n bs ++ joined d.pieces)) d.rest f (omega arith) (omega arith) d.ending;
    }
