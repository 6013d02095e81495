-- Meaning. Moments as text, in UTC.
use Rattle.std.specs.Prelude.{ℕ, ◌+◌, ◌-◌, ◌*◌, ◌/◌, ◌%◌, ◌^◌, nat_lt, if◌then◌else◌, List, ◌++◌, codes}
use Rattle.std.specs.Fmt.{styled_decimal, format_spec}
use Rattle.station_lines.specs.declared.moment.Date.{Date}
use Rattle.station_lines.specs.declared.moment.Moment.{Moment}

-- a number, with zeros before it if it has fewer digits
abbrev pub padded : ℕ → ℕ → List ℕ
padded digits number = styled_decimal (format_spec 32 0 4 digits (2 ^ 64 - 1)) number

-- a day in quarters of a day, counted from the first of March of the year 0, plus three quarters
abbrev pub quarters_of : ℕ → ℕ
quarters_of day = 4 * (day + 719_468) + 3

-- the same within the day's century
abbrev pub quarters_in_century : ℕ → ℕ
quarters_in_century day = quarters_of day % 146_097 / 4 * 4 + 3

-- the year of a day, where years begin in March
abbrev pub march_year : ℕ → ℕ
march_year day = 100 * (quarters_of day / 146_097) + quarters_in_century day / 1461

-- a day of such a year in fifths of a day, counted so that each month has 153 of them
abbrev pub fifths_of : ℕ → ℕ
fifths_of day = 5 * (quarters_in_century day % 1461 / 4) + 461

-- the month of a day, where January and February are 13 and 14
abbrev pub march_month : ℕ → ℕ
march_month day = fifths_of day / 153

-- the day of a month
abbrev pub day_of_month : ℕ → ℕ
day_of_month day = fifths_of day % 153 / 5 + 1

-- the date of a day of the Gregorian calendar, counted from the first of 1970
abbrev pub date_of : ℕ → Date
date_of day =
    if nat_lt 12 (march_month day) then record { year = march_year day + 1; month = march_month day - 12; day = day_of_month day }
    else record { year = march_year day; month = march_month day; day = day_of_month day }

-- a date, such as 2026-11-26
abbrev pub date_text : Date → List ℕ
date_text date = padded 4 date.year ++ (codes "-" ++ (padded 2 date.month ++ (codes "-" ++ padded 2 date.day)))

-- a time of day by its milliseconds, such as T12:00:05.250Z
abbrev pub time_text : ℕ → List ℕ
time_text ms =
    codes "T" ++ (padded 2 (ms / 3_600_000) ++ (codes ":" ++ (padded 2 (ms % 3_600_000 / 60_000) ++ (codes ":" ++
    (padded 2 (ms % 60_000 / 1000) ++ (codes "." ++ (padded 3 (ms % 1000) ++ codes "Z")))))))

-- a moment, by its milliseconds since the start of 1970
abbrev pub moment_text : Moment → List ℕ
moment_text moment = date_text (date_of (moment.0 / 86_400_000)) ++ time_text (moment.0 % 86_400_000)
