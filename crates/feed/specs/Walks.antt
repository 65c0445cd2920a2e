-- Going through a feed from record to record.
use Rattle.std.specs.Prelude.{◌≡◌, ℕ, ◌+◌, ◌<◌, [], length, drop, Some, None, Ok, Err, Option, Result}
use Rattle.calls.specs.declared.fields.Call.{Call}
use Rattle.feed.specs.declared.fault.FeedRefusal.{FeedRefusal}
use Rattle.feed.specs.declared.fault.Fault.{Fault}
use Rattle.feed.specs.declared.records.Records.{Records}
use Rattle.feed.specs.Records.{first_record}
use Rattle.feed.specs.Cuts.{feed_fault}

-- the first record's call came, and the others are left
pub record TakesCall (s : Records) (c : Call) (t : Records) : Type 0 where
  pub size : ℕ
  pub some_left : 0 < length s.rest.now
  pub reads : first_record s.rest.now ≡ Ok (c, size)
  pub rest : t.rest.now ≡ drop size s.rest.now
  pub ordinal : t.ordinal ≡ s.ordinal + 1
  pub offset : t.offset ≡ s.offset + size

-- the first record was refused, and nothing is left
pub record StopsAt (s : Records) (f : Fault) (t : Records) : Type 0 where
  pub cause : FeedRefusal
  pub some_left : 0 < length s.rest.now
  pub reads : first_record s.rest.now ≡ Err cause
  pub fault : f ≡ feed_fault s.ordinal s.offset cause
  pub rest : t.rest.now ≡ []

-- what `next` gave
abbrev pub Gives : Records → Option (Result Call Fault) → Records → Type 0
Gives s None t = (s.rest.now ≡ []) × (t.rest.now ≡ [])
Gives s (Some (Ok c)) t = TakesCall s c t
Gives s (Some (Err f)) t = StopsAt s f t
