-- Every fault's layer, number and named value.
use Rattle.std.specs.Prelude.{ℕ, List, ◌++◌, codes, decimal}
use Rattle.calls.specs.Refusals.{number_of, named_of, posting_number}
use Rattle.feed.specs.declared.fault.FeedRefusal.{FeedRefusal}
use Rattle.feed.specs.declared.fault.FeedRefusal.TheVariants.{Cut, UnknownMark, OutsideLimits}
use Rattle.feed.specs.declared.fault.Fault.{Fault}
use Rattle.feed.specs.declared.fault.Layer.{Layer}
use Rattle.feed.specs.declared.fault.Layer.TheVariants.{Feed, Posting, Book}

abbrev pub feed_number : FeedRefusal → ℕ
feed_number Cut = 1
feed_number UnknownMark = 2
feed_number OutsideLimits = 3

abbrev pub layer_name : Layer → List ℕ
layer_name (Feed cause) = codes "feed"
layer_name (Posting cause) = codes "posting"
layer_name (Book cause) = codes "book"

abbrev pub layer_number : Layer → ℕ
layer_number (Feed cause) = feed_number cause
layer_number (Posting cause) = posting_number cause
layer_number (Book cause) = number_of cause

-- only the book names anything
abbrev pub layer_named : Layer → ℕ
layer_named (Feed cause) = 0
layer_named (Posting cause) = 0
layer_named (Book cause) = named_of cause

-- a fault's line, without its newline
abbrev pub fault_text : Fault → List ℕ
fault_text f =
    codes "F " ++ (layer_name f.layer ++ (codes " " ++ (decimal (layer_number f.layer) ++ (codes " " ++ (decimal (layer_named f.layer)
    ++ (codes " " ++ (decimal f.ordinal ++ (codes " " ++ decimal f.offset))))))))
