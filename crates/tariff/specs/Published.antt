-- The published tables: daily maxima and month-end bands, January to December.
use Rattle.std.specs.Prelude.{ℕ, ◌-◌, ◌*◌, ◌/◌, Bool, ◌&&◌, List, [], ◌∷◌, nat_le, slice_index_or}
use Rattle.tariff.specs.declared.published.Maxima.{Maxima}
use Rattle.tariff.specs.declared.published.Band.{Band}

abbrev pub maxima : ℕ → ℕ → Maxima ℕ
maxima injection withdrawal = record { injection = injection; withdrawal = withdrawal }

-- most that may be injected and withdrawn in a day, in hundredths of a percent of capacity
abbrev pub daily_maxima : List (Maxima ℕ)
daily_maxima =
    maxima 30 100 ∷ maxima 30 85 ∷ maxima 30 60 ∷ maxima 30 30 ∷ maxima 45 30 ∷ maxima 50 30
    ∷ maxima 45 30 ∷ maxima 70 30 ∷ maxima 70 30 ∷ maxima 70 30 ∷ maxima 30 40 ∷ maxima 30 85 ∷ []

abbrev pub band : ℕ → ℕ → Band ℕ
band lowest highest = record { lowest = lowest; highest = highest }

-- least and most storage at month's end, in percent of capacity
abbrev pub month_end_bands : List (Band ℕ)
month_end_bands =
    band 35 45 ∷ band 10 25 ∷ band 0 10 ∷ band 0 10 ∷ band 10 20 ∷ band 20 30
    ∷ band 30 40 ∷ band 50 60 ∷ band 70 80 ∷ band 85 100 ∷ band 75 90 ∷ band 55 70 ∷ []

abbrev pub maxima_in : ℕ → Maxima ℕ
maxima_in month = slice_index_or daily_maxima (month - 1) (maxima 0 0)

abbrev pub band_in : ℕ → Band ℕ
band_in month = slice_index_or month_end_bands (month - 1) (band 0 0)

-- the bounds of the tables' rows
abbrev pub maxima_bounded : Maxima ℕ → Bool
maxima_bounded row = nat_le row.injection 70 && nat_le row.withdrawal 100

abbrev pub band_bounded : Band ℕ → Bool
band_bounded row = nat_le row.lowest row.highest && nat_le row.lowest 85 && nat_le row.highest 100

-- hundredths of a percent of therms, rounded down
abbrev pub share : ℕ → ℕ → ℕ
share therms hundredths = therms * hundredths / 10000

abbrev pub percent : ℕ → ℕ → ℕ
percent capacity points = capacity * points / 100

abbrev pub maxima_of : ℕ → ℕ → Maxima ℕ
maxima_of month capacity = record {
  injection = share capacity (maxima_in month).injection;
  withdrawal = share capacity (maxima_in month).withdrawal;
}

abbrev pub band_of : ℕ → ℕ → Band ℕ
band_of month capacity = record {
  lowest = percent capacity (band_in month).lowest;
  highest = percent capacity (band_in month).highest;
}
