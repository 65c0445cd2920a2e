-- The calendar of gas months, from January 2024 to December 2099.
use Rattle.std.specs.Prelude.{ℕ, ◌+◌, ◌%◌, Bool, cond, ◌&&◌, ◌||◌, Some, Option, ◌==◌, nat_le, nat_lt}
use Rattle.tariff.specs.declared.calendar.Date.{Date}
use Rattle.tariff.specs.Options.{when}

-- the months that there are
abbrev pub in_calendar : ℕ → ℕ → Bool
in_calendar year month = nat_le 2024 year && nat_le year 2099 && nat_le 1 month && nat_le month 12

abbrev pub leap : ℕ → Bool
leap year = year % 4 == 0

-- thirty days have April, June, September and November
abbrev pub of_thirty : ℕ → Bool
of_thirty month = month == 4 || month == 6 || month == 9 || month == 11

-- the number of days of a month, which is also the number of its last day
abbrev pub days_in : ℕ → ℕ → ℕ
days_in year month = cond (month == 2) (cond (leap year) 29 28) (cond (of_thirty month) 30 31)

-- from November to April the Company may declare Critical Days
abbrev pub critical_season : ℕ → Bool
critical_season month = nat_le month 4 || nat_le 11 month

-- the month that follows, as year and month; none follows the last
abbrev pub following : ℕ → ℕ → Option (ℕ × ℕ)
following year month = cond (nat_lt month 12) (Some (year, month + 1)) (when (nat_lt year 2099) (year + 1, 1))

abbrev pub date : ℕ → ℕ → ℕ → Date
date year month day = record { year = year; month = month; day = day }

-- the date of a day number of a month; none past the month's end
abbrev pub date_in : ℕ → ℕ → ℕ → Option Date
date_in year month day = when (nat_le 1 day && nat_le day (days_in year month)) (date year month day)
