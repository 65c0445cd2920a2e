-- Figures under a posting are fair, and what balances them balances the figures handed in.
use Rattle.std.specs.Prelude.{◌≡◌, ℕ, Bool, ◌-◌, ◌≤◌, cond, true, false, List, Option, Some, None, refl}
use Rattle.std.proofs.Common.{arith, rules}
use Rattle.std.proofs.lemmas.Bool.Decides.{nat_tests}
use Rattle.tariff.specs.declared.question.Figures.{Figures}
use Rattle.tariff.specs.declared.answer.Answer.{Answer}
use Rattle.tariff.specs.declared.posting.Posting.{Posting}
use Rattle.tariff.specs.Each.{each}
use Rattle.tariff.specs.Figures.{fair}
use Rattle.tariff.specs.Keeps.{Keeps}
use Rattle.tariff.specs.Postings.{unposted, in_capacity, posting_on, under}
use Rattle.tariff.specs.EachLemmas.{each_getD}
use Rattle.tariff.specs.Shares.{share_le}

pub posting_high : (day : ℕ) (table : List (Option Posting)) → each in_capacity table ≡ true → in_capacity (posting_on day table) ≡ true
posting_high day table h = each_getD in_capacity table (day - 1) unposted refl h

-- the greater or the lesser of two amounts within a most is within it
either_high : (b : Bool) (x y most : ℕ) → x ≤ most → y ≤ most → cond b x y ≤ most
either_high true x y most hx hy = hx
either_high false x y most hx hy = hy

pub under_fair : (p : Option Posting) (f : Figures) → in_capacity p ≡ true → fair f ≡ true → fair (under p f) ≡ true
under_fair None f hp h = h
under_fair (Some p) f hp h = grind (arith, nat_tests, share_le f.capacity p.maxima.injection, share_le f.capacity p.maxima.withdrawal)

-- the law of day rules does not speak of the maxima
pub keeps_under : (p : Option Posting) (f : Figures) (a : Answer) → Keeps (under p f) a → Keeps f a
keeps_under None f a k = k
keeps_under (Some p) f a k = search rules
