-- Every refusal's number, and what it names.
use Rattle.std.specs.Prelude.{ℕ}
use Rattle.calls.specs.declared.refusal.Refusal.{Refusal}
use Rattle.calls.specs.declared.refusal.Refusal.TheVariants.{OutsideLimits, WrongStage, NoAccount, AlreadyOpen, GasCostGiven, PriceGiven, ReadingGiven, LineRepeated, NoSpace, OutsideWindow, NotDue, OutOfSeason, OtherSupplier, TotalChanged, PriceMissing, ReadingMissing}
use Rattle.calls.specs.declared.refusal.PostingRefusal.{PostingRefusal}
use Rattle.calls.specs.declared.refusal.PostingRefusal.TheVariants as Postings

abbrev pub number_of : Refusal → ℕ
number_of OutsideLimits = 3
number_of WrongStage = 4
number_of (NoAccount account) = 5
number_of (AlreadyOpen account) = 6
number_of GasCostGiven = 6
number_of (PriceGiven day) = 6
number_of (ReadingGiven account) = 6
number_of (LineRepeated account) = 6
number_of NoSpace = 7
number_of OutsideWindow = 8
number_of NotDue = 9
number_of OutOfSeason = 10
number_of (OtherSupplier account) = 11
number_of (TotalChanged pipeline) = 12
number_of PriceMissing = 13
number_of (ReadingMissing account) = 14

-- an account, a day or a pipeline; 0 is none
abbrev pub named_of : Refusal → ℕ
named_of OutsideLimits = 0
named_of WrongStage = 0
named_of (NoAccount account) = account
named_of (AlreadyOpen account) = account
named_of GasCostGiven = 0
named_of (PriceGiven day) = day
named_of (ReadingGiven account) = account
named_of (LineRepeated account) = account
named_of NoSpace = 0
named_of OutsideWindow = 0
named_of NotDue = 0
named_of OutOfSeason = 0
named_of (OtherSupplier account) = account
named_of (TotalChanged pipeline) = pipeline
named_of PriceMissing = 0
named_of (ReadingMissing account) = account

abbrev pub posting_number : PostingRefusal → ℕ
posting_number Postings.WrongStage = 4
posting_number Postings.NotDue = 9
