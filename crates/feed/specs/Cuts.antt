-- A whole feed, cut into its records.
use Rattle.std.specs.Prelude.{◌≡◌, ℕ, ◌+◌, ◌<◌, List, [], ◌∷◌, ◌++◌, map, length, drop, Some, None, Ok, Err, Option, Result}
use Rattle.std.specs.List.{AllByRecursion}
use Rattle.calls.specs.declared.fields.Call.{Call}
use Rattle.feed.specs.declared.fault.FeedRefusal.{FeedRefusal}
use Rattle.feed.specs.declared.fault.Layer.TheVariants.{Feed}
use Rattle.feed.specs.declared.fault.Fault.{Fault}
use Rattle.feed.specs.Records.{first_record}

abbrev pub feed_fault : ℕ → ℕ → FeedRefusal → Fault
feed_fault ordinal offset cause = record { ordinal = ordinal; offset = offset; layer = Feed cause }

-- from the record of this ordinal, at this offset, the bytes make these calls and end there or in this fault
pub data Cuts : ℕ → ℕ → List ℕ → List Call → Option Fault → Type 0 where
  ends : (k i : ℕ) → Cuts k i [] [] None
  stops : (k i : ℕ) (bs : List ℕ) (e : FeedRefusal) → 0 < length bs → first_record bs ≡ Err e → Cuts k i bs [] (Some (feed_fault k i e))
  takes : (k i : ℕ) (bs : List ℕ) (c : Call) (n : ℕ) (cs : List Call) (f : Option Fault) → 0 < length bs → first_record bs ≡ Ok (c, n)
      → Cuts (k + 1) (i + n) (drop n bs) cs f → Cuts k i bs (c ∷ cs) f

-- a record's own bytes, and the call that they make
pub record Piece : Type 0 where
  pub bytes : List ℕ
  pub call : Call

abbrev pub joined : List Piece → List ℕ
joined [] = []
joined (p ∷ ps) = p.bytes ++ joined ps

-- alone, a record's bytes are that record and nothing more
abbrev pub Alone : Piece → Type 0
Alone p = first_record p.bytes ≡ Ok (p.call, length p.bytes)

-- all was read, or what is left is refused, at its ordinal and offset
abbrev pub Ending : ℕ → ℕ → List ℕ → Option Fault → Type 0
Ending ordinal offset rest None = rest ≡ []
Ending ordinal offset rest (Some f) = (e : FeedRefusal) × (0 < length rest) × (first_record rest ≡ Err e) × (f ≡ feed_fault ordinal offset e)

-- the bytes are those of records one after another, with nothing skipped and nothing read twice, and then the ending
pub record Divided (k i : ℕ) (bs : List ℕ) (cs : List Call) (f : Option Fault) : Type 0 where
  pub pieces : List Piece
  pub rest : List ℕ
  pub whole : bs ≡ joined pieces ++ rest
  pub calls : map (λ p. p.call) pieces ≡ cs
  pub alone : AllByRecursion Alone pieces
  pub ending : Ending (k + length pieces) (i + length (joined pieces)) rest f

-- what was counted, or the fault
abbrev pub outcome : List Call → Option Fault → Result ℕ Fault
outcome cs None = Ok (length cs)
outcome cs (Some f) = Err f

-- how many records a whole feed has, or where it stops
pub record Counted (feed : List ℕ) (r : Result ℕ Fault) : Type 0 where
  pub calls : List Call
  pub fault : Option Fault
  pub cut : Cuts 1 0 feed calls fault
  pub divided : Divided 1 0 feed calls fault
  pub count : r ≡ outcome calls fault
