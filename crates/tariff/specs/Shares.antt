-- A part of capacity is at most capacity, and a greater part is no less.
use Rattle.std.specs.Prelude.{ℕ, ◌*◌, ◌≤◌}
use Rattle.std.proofs.Common.{arith, mul-le-mul_left}
use Rattle.tariff.specs.Published.{share, percent}

pub share_le : (capacity hundredths : ℕ) → hundredths ≤ 10000 → share capacity hundredths ≤ capacity
share_le capacity hundredths h = let m : capacity * hundredths ≤ capacity * 10000 = mul-le-mul_left capacity h in omega arith

pub percent_le : (capacity points most : ℕ) → points ≤ most → percent capacity points ≤ percent capacity most
percent_le capacity points most h = let m : capacity * points ≤ capacity * most = mul-le-mul_left capacity h in omega arith

pub percent_whole : (capacity points : ℕ) → points ≤ 100 → percent capacity points ≤ capacity
percent_whole capacity points h = let m : capacity * points ≤ capacity * 100 = mul-le-mul_left capacity h in omega arith
