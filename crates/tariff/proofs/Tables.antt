-- The bounds of the published tables hold of every month's row.
use Rattle.std.proofs.Common.{ℕ, ◌-◌, ◌≤◌, refl, arith}
use Rattle.std.proofs.lemmas.Bool.Decides.{nat_tests}
use Rattle.tariff.specs.Published.{band, month_end_bands, band_in, band_bounded}
use Rattle.tariff.specs.EachLemmas.{each_getD}

pub record BandBounds (month : ℕ) : Type 0 where
  pub ordered : (band_in month).lowest ≤ (band_in month).highest
  pub lowest_high : (band_in month).lowest ≤ 85
  pub highest_high : (band_in month).highest ≤ 100

pub band_bounds : (month : ℕ) → BandBounds month
band_bounds month =
    let passed = each_getD band_bounded month_end_bands (month - 1) (band 0 0) refl refl in
    record { ordered = grind (arith, nat_tests); lowest_high = grind (arith, nat_tests); highest_high = grind (arith, nat_tests) }
