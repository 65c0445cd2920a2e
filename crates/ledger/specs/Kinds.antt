-- The numbers of the kinds of a gas day.
use Rattle.std.specs.Prelude.{◌≡◌, ℕ, ◌<◌, Result, MatchResult}
use Rattle.ledger.specs.declared.records.DayKind.{DayKind}
use Rattle.ledger.specs.declared.records.DayKind.TheVariants.{Ordinary, Critical}
use Rattle.ledger.specs.declared.records.UnknownKind.{UnknownKind}

abbrev pub kind_number : DayKind → ℕ
kind_number Ordinary = 0
kind_number Critical = 1

-- the kind with this number, or the number that no kind has
abbrev pub Numbers : ℕ → Result DayKind UnknownKind → Type 0
Numbers n r = MatchResult r (λ kind. kind_number kind ≡ n) (λ e. (e.0 ≡ n) × (1 < n))
