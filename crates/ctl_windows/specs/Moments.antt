-- Meaning. Moments in UTC, in milliseconds since the beginning of 1970.
use Rattle.std.specs.Prelude.{ℕ, ◌+◌, ◌*◌, ◌-◌, ◌/◌, ◌%◌, ◌==◌, ◌&&◌, ◌||◌, Bool, not, nat_le, if◌then◌else◌, List, length, slice_index, slice_range, Option, Some, None, option_and_then}
use Rattle.ctl_windows.specs.Numbers.{number_of, within}

infixl 10 ◌>>=◌
abbrev pub ◌>>=◌ : {A B : Type 0} → Option A → (A → Option B) → Option B
o >>= f = option_and_then f o

-- the signs between the numbers stand where `0000-00-00T00:00:00Z` has them
abbrev pub has_form : List ℕ → Bool
has_form word = (length word == 20)
    && (((slice_index word 4 == 45) && (slice_index word 7 == 45))
    && (((slice_index word 10 == 84) && (slice_index word 13 == 58)) && ((slice_index word 16 == 58) && (slice_index word 19 == 90))))

-- a year of the Gregorian calendar has 366 days
abbrev pub is_leap : ℕ → Bool
is_leap year = (year % 4 == 0) && (not (year % 100 == 0) || (year % 400 == 0))

-- how many days a month has
abbrev pub days_in : ℕ → ℕ → ℕ
days_in year month = if month == 2 then (if is_leap year then 29 else 28)
    else if ((month == 4) || (month == 6)) || ((month == 9) || (month == 11)) then 30
    else 31

-- the days from the beginning of 1970 to that of a year: 477 leap years were before
abbrev pub days_before_year : ℕ → ℕ
days_before_year year = (year - 1970) * 365 + ((year - 1) / 4 + (year - 1) / 400 - (year - 1) / 100 - 477)

-- 1 in a leap year
abbrev pub leap_day : ℕ → ℕ
leap_day year = if is_leap year then 1 else 0

-- the days from the beginning of a year to that of a month
abbrev pub days_before_month : ℕ → ℕ → ℕ
days_before_month year month =
    if nat_le month 1 then 0
    else if month == 2 then 31
    else if month == 3 then 59 + leap_day year
    else if month == 4 then 90 + leap_day year
    else if month == 5 then 120 + leap_day year
    else if month == 6 then 151 + leap_day year
    else if month == 7 then 181 + leap_day year
    else if month == 8 then 212 + leap_day year
    else if month == 9 then 243 + leap_day year
    else if month == 10 then 273 + leap_day year
    else if month == 11 then 304 + leap_day year
    else 334 + leap_day year

-- the days since the beginning of 1970 of a date that exists
abbrev pub days_of : List ℕ → Option ℕ
days_of word = do
  year ← within 1970 9999 (number_of (slice_range word 0 4))
  month ← within 1 12 (number_of (slice_range word 5 7))
  day ← within 1 (days_in year month) (number_of (slice_range word 8 10))
  Some (days_before_year year + days_before_month year month + day - 1)

-- the seconds since midnight
abbrev pub clock_of : List ℕ → Option ℕ
clock_of word = do
  hour ← within 0 23 (number_of (slice_range word 11 13))
  minute ← within 0 59 (number_of (slice_range word 14 16))
  second ← within 0 59 (number_of (slice_range word 17 19))
  Some (hour * 3600 + minute * 60 + second)

-- a day and the seconds in it
abbrev pub seconds_of : ℕ → ℕ → ℕ
seconds_of day second = day * 86400 + second

-- the moment that a word writes
abbrev pub moment_of : List ℕ → Option ℕ
moment_of word = if has_form word then (do
  day ← days_of word
  second ← clock_of word
  Some (seconds_of day second * 1000)) else None
