use Rattle.std.proofs.Common.{◌≡◌, ◌+◌, ◌-◌, ◌≤◌, List, ◌++◌, length, drop, string_bytes, Option}
use Rattle.calls.specs.declared.fields.Call.{Call}
use Rattle.feed.specs.declared.fault.Fault.{Fault}
use Rattle.feed.specs.Cuts.{Cuts}
use Rattle.listing.specs.Listing.{calls_text}
use Rattle.listing.proofs.listing.Given as goal

-- the text is that of the calls so far, and what the rest is cut into, behind them, the whole is cut into
abbrev pub invariant-loop-offset : goal.invariant-loop-offset
invariant-loop-offset l =
    (l.offset ≤ length l.feed) × (l.count ≤ l.offset)
    × ((done : List Call) × (string_bytes l.out ≡ calls_text done)
    × ((cs : List Call) (f : Option Fault) → Cuts (l.count + 1) l.offset (drop l.offset l.feed) cs f → Cuts 1 0 l.feed (done ++ cs) f))

abbrev pub decreases-loop-offset : goal.decreases-loop-offset
decreases-loop-offset l = length l.feed - l.offset
