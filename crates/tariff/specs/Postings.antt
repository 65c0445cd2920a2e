-- Posted maxima: what takes the place of the published ones on a posted day.
use Rattle.std.specs.Prelude.{ℕ, ◌-◌, Bool, true, cond, ◌&&◌, List, Option, Some, None, replicate, nat_le, slice_index_or, slice_set}
use Rattle.tariff.specs.declared.question.Figures.{Figures}
use Rattle.tariff.specs.declared.posting.Posting.{Posting}
use Rattle.tariff.specs.Published.{maxima, share}
use Rattle.tariff.specs.Figures.{with_maxima}

abbrev pub unposted : Option Posting
unposted = None

abbrev pub posting : ℕ → ℕ → Option Posting
posting injection withdrawal = Some (record { maxima = maxima injection withdrawal })

-- one posting, or none, for each day number
abbrev pub no_postings : List (Option Posting)
no_postings = replicate 31 unposted

-- a posting is at most all of capacity
abbrev pub in_capacity : Option Posting → Bool
in_capacity None = true
in_capacity (Some p) = nat_le p.maxima.injection 10000 && nat_le p.maxima.withdrawal 10000

abbrev pub postable : ℕ → ℕ → ℕ → Bool
postable day injection withdrawal = nat_le 1 day && nat_le day 31 && in_capacity (posting injection withdrawal)

-- a later posting of a day takes the place of an earlier one
abbrev pub post_on : ℕ → ℕ → ℕ → List (Option Posting) → List (Option Posting)
post_on day injection withdrawal table = cond (postable day injection withdrawal) (slice_set table (day - 1) (posting injection withdrawal)) table

abbrev pub posting_on : ℕ → List (Option Posting) → Option Posting
posting_on day table = slice_index_or table (day - 1) unposted

-- the figures under a posting: its shares of capacity are the maxima
abbrev pub under : Option Posting → Figures → Figures
under None f = f
under (Some p) f = with_maxima (share f.capacity p.maxima.injection) (share f.capacity p.maxima.withdrawal) f

-- what the rule below is given
abbrev pub as_posted : List (Option Posting) → Figures → Figures
as_posted table f = under (posting_on f.day table) f
