-- The figures that a day rule is given, and their limits.
use Rattle.std.specs.Prelude.{ℕ, Bool, ◌&&◌, Option, nat_le}
use Rattle.tariff.specs.Options.{when}
use Rattle.tariff.specs.declared.question.Figures.{Figures}

-- no other question can be made
abbrev pub fair : Figures → Bool
fair f =
    nat_le 1 f.day && nat_le f.day 31 && nat_le f.delivered 8000000 && nat_le f.used 8000000 && nat_le f.capacity 100000000
    && nat_le f.storage f.capacity && nat_le f.max_injection f.capacity && nat_le f.max_withdrawal f.capacity

abbrev pub fairly : Figures → Option Figures
fairly f = when (fair f) f

abbrev pub with_maxima : ℕ → ℕ → Figures → Figures
with_maxima injection withdrawal f = record {
  day = f.day;
  delivered = f.delivered;
  used = f.used;
  storage = f.storage;
  capacity = f.capacity;
  max_injection = injection;
  max_withdrawal = withdrawal;
}
