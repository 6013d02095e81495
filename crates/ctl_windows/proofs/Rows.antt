-- Worked rows: moments, numbers, lines of a plan, overlaps, and what is done to a link when.
use Rattle.std.proofs.Common.{◌≡◌, ◌∷◌, [], true, false, Some, None, Ok, List, codes, map, refl, ℕ, ◌+◌, ◌-◌}
use Rattle.std.specs.Fmt.{digits}
use Rattle.ctl_windows.specs.Acts.{act_at, given_after, is_left_of, is_open, is_past, look_again, seconds_left, window_at}
use Rattle.ctl_windows.specs.Clashes.{clashes_of}
use Rattle.ctl_windows.specs.Commands.{hold_octets, rate_octets, release_octets}
use Rattle.ctl_windows.specs.Moments.{days_before_month, days_before_year, days_in, is_leap, moment_of}
use Rattle.ctl_windows.specs.Numbers.{number_of, within}
use Rattle.ctl_windows.specs.Windows.{rate_of, window_of, wrong}
use Rattle.ctl_windows.specs.declared.acts.Act.TheVariants as acts
use Rattle.ctl_windows.specs.declared.acts.Given.{Given}
use Rattle.ctl_windows.specs.declared.acts.Given.TheVariants as givens
use Rattle.ctl_windows.specs.declared.window.Rate.TheVariants as rates
use Rattle.ctl_windows.specs.declared.window.Why.TheVariants as whys
use Rattle.ctl_windows.specs.declared.window.Window.{Window}

numbers : map number_of (codes "0" ∷ codes "18446744073709551615" ∷ codes "18446744073709551616" ∷ codes "+1" ∷ codes "" ∷ codes "007" ∷ [])
    ≡ Some 0 ∷ Some 18446744073709551615 ∷ None ∷ None ∷ None ∷ Some 7 ∷ []
numbers = refl

ranges : map (within 1 12) (Some 0 ∷ Some 1 ∷ Some 12 ∷ Some 13 ∷ None ∷ []) ≡ None ∷ Some 1 ∷ Some 12 ∷ None ∷ None ∷ []
ranges = refl

-- a year that ends in 00 is a leap year each 400 years
leaps : map is_leap (1970 ∷ 2024 ∷ 2100 ∷ 2000 ∷ []) ≡ false ∷ true ∷ false ∷ true ∷ []
leaps = refl

-- a year begins where the one before ends
years : map days_before_year (1970 ∷ 1971 ∷ 1972 ∷ 1973 ∷ 2000 ∷ 2001 ∷ 2100 ∷ 2101 ∷ [])
    ≡ 0 ∷ 365 ∷ 730 ∷ 1096 ∷ 10957 ∷ 11323 ∷ 47482 ∷ 47847 ∷ []
years = refl

-- a month begins where the one before ends: the days from each to the next, in a plain year and in a leap year
months : ℕ → ℕ → ℕ
months year month = days_before_month year (month + 1) - days_before_month year month

plain_year : map (months 2023) (1 ∷ 2 ∷ 3 ∷ 4 ∷ 5 ∷ 6 ∷ 7 ∷ 8 ∷ 9 ∷ 10 ∷ 11 ∷ [])
    ≡ map (days_in 2023) (1 ∷ 2 ∷ 3 ∷ 4 ∷ 5 ∷ 6 ∷ 7 ∷ 8 ∷ 9 ∷ 10 ∷ 11 ∷ [])
unfolding months
plain_year = refl

leap_year : map (months 2024) (1 ∷ 2 ∷ 3 ∷ 4 ∷ 5 ∷ 6 ∷ 7 ∷ 8 ∷ 9 ∷ 10 ∷ 11 ∷ [])
    ≡ map (days_in 2024) (1 ∷ 2 ∷ 3 ∷ 4 ∷ 5 ∷ 6 ∷ 7 ∷ 8 ∷ 9 ∷ 10 ∷ 11 ∷ [])
unfolding months
leap_year = refl

year_ends : days_before_month 2023 12 + days_in 2023 12 ≡ 365
year_ends = refl

-- moments that `date -u` knows: the first one, a leap day, and one with each number at work
moments : map moment_of (codes "1970-01-01T00:00:00Z" ∷ codes "2024-02-29T23:59:59Z" ∷ codes "2026-12-01T10:08:09Z" ∷ codes "9999-12-31T23:59:59Z" ∷ [])
    ≡ Some 0 ∷ Some 1709251199000 ∷ Some 1796119689000 ∷ Some 253402300799000 ∷ []
moments = refl

-- a day that doesn't exist, an hour, a minute, a second, a year, and another form
no_moments : map moment_of (codes "2026-02-29T00:00:00Z" ∷ codes "2026-04-31T00:00:00Z" ∷ codes "2026-13-01T00:00:00Z" ∷ codes "2026-00-01T00:00:00Z"
    ∷ codes "2026-01-01T24:00:00Z" ∷ codes "2026-01-01T00:60:00Z" ∷ codes "2026-01-01T00:00:60Z" ∷ codes "1969-12-31T23:59:59Z"
    ∷ codes "2026-01-01 00:00:00Z" ∷ codes "2026-01-01T00:00:00" ∷ codes "2026-01-01T00:00:00.5Z" ∷ codes "2026-01-01T0a:00:00Z" ∷ codes "" ∷ [])
    ≡ None ∷ None ∷ None ∷ None ∷ None ∷ None ∷ None ∷ None ∷ None ∷ None ∷ None ∷ None ∷ None ∷ []
no_moments = refl

rate_words : map rate_of (codes "off" ∷ codes "1" ∷ codes "1000000000" ∷ codes "0" ∷ codes "1000000001" ∷ codes "8k" ∷ [])
    ≡ Some rates.Off ∷ Some (rates.Octets 1) ∷ Some (rates.Octets 1000000000) ∷ None ∷ None ∷ None ∷ []
rate_words = refl

-- a window by its line, its entity, and when it begins and ends
abbrev of : ℕ → ℕ → ℕ → ℕ → Window
of line remote from until = record { line = line; remote = remote; from = from; until = until; rate = rates.Same }

abbrev ten : List ℕ
ten = codes "2026-12-01T10:00:00Z"

abbrev eleven : List ℕ
eleven = codes "2026-12-01T11:00:00Z"

a_window : window_of 3 (ten ∷ eleven ∷ codes "7" ∷ []) ≡ Ok (of 3 7 1796119200000 1796122800000)
a_window = refl

with_a_rate : window_of 3 (ten ∷ eleven ∷ codes "7" ∷ codes "8000" ∷ [])
    ≡ Ok (record { line = 3; remote = 7; from = 1796119200000; until = 1796122800000; rate = rates.Octets 8000 })
with_a_rate = refl

-- the first word that is wrong is blamed, and a window of no length is none
wrong_words : map (window_of 3) ((ten ∷ []) ∷ (ten ∷ eleven ∷ []) ∷ (codes "x" ∷ codes "y" ∷ codes "z" ∷ []) ∷ (ten ∷ codes "y" ∷ codes "z" ∷ [])
    ∷ (ten ∷ eleven ∷ codes "z" ∷ codes "w" ∷ []) ∷ (ten ∷ eleven ∷ codes "7" ∷ codes "w" ∷ []) ∷ (ten ∷ ten ∷ codes "7" ∷ [])
    ∷ (eleven ∷ ten ∷ codes "7" ∷ []) ∷ (ten ∷ eleven ∷ codes "7" ∷ codes "off" ∷ codes "v" ∷ []) ∷ [])
    ≡ wrong 0 whys.Short ∷ wrong 0 whys.Short ∷ wrong 0 whys.Moment ∷ wrong 1 whys.Moment ∷ wrong 2 whys.Remote ∷ wrong 3 whys.Rate
    ∷ wrong 1 whys.Order ∷ wrong 1 whys.Order ∷ wrong 4 whys.Long ∷ []
wrong_words = refl

-- windows that touch don't overlap; the same times of two entities don't either
apart : clashes_of None (of 1 5 10 20 ∷ of 2 5 20 30 ∷ of 3 7 10 30 ∷ []) ≡ []
apart = refl

-- the line of the one that ends last is told, also behind a short one
overlap : clashes_of None (of 1 5 10 40 ∷ of 2 5 15 20 ∷ of 3 5 30 50 ∷ of 4 5 45 60 ∷ [])
    ≡ record { window = of 2 5 15 20; line = 1 } ∷ record { window = of 3 5 30 50; line = 1 } ∷ record { window = of 4 5 45 60; line = 3 } ∷ []
overlap = refl

-- a window from second 100 to second 200, and a long one
abbrev short : Window
short = of 1 7 100000 200000

abbrev long : Window
long = of 2 7 0 200000000

abbrev to : ℕ → ℕ → Given
to from until = givens.Open (record { from = from; until = until })

-- it begins at its first millisecond, and is over at its last
open_when : map (λ now. is_open now short) (99999 ∷ 100000 ∷ 199999 ∷ 200000 ∷ []) ≡ false ∷ true ∷ true ∷ false ∷ []
open_when = refl

past_when : map (λ now. is_past now short) (199999 ∷ 200000 ∷ []) ≡ false ∷ true ∷ []
past_when = refl

left_of : map (is_left_of 7 150000) (short ∷ of 1 8 100000 200000 ∷ of 1 7 100000 150000 ∷ []) ≡ true ∷ false ∷ false ∷ []
left_of = refl

which_is_open : map (λ now. window_at now (short ∷ of 2 7 200000 300000 ∷ [])) (50000 ∷ 150000 ∷ 200000 ∷ 300000 ∷ [])
    ≡ None ∷ Some short ∷ Some (of 2 7 200000 300000) ∷ None ∷ []
which_is_open = refl

-- a second that has begun counts, and a day is the most
seconds : map (seconds_left short) (100000 ∷ 100001 ∷ 199000 ∷ 199001 ∷ 199999 ∷ []) ≡ 100 ∷ 100 ∷ 1 ∷ 1 ∷ 1 ∷ []
seconds = refl

a_day : map (seconds_left long) (0 ∷ 113600000 ∷ 113600001 ∷ []) ≡ 86400 ∷ 86400 ∷ 86400 ∷ []
a_day = refl

-- outside its windows a link is held once
outside : map (λ given. act_at None given 50) (givens.Nothing ∷ givens.Held ∷ to 0 100 ∷ []) ≡ acts.Hold ∷ acts.Nothing ∷ acts.Nothing ∷ []
outside = refl

-- in a window it is opened, unless it was opened for this one
inside : map (λ given. act_at (Some short) given 150000) (givens.Nothing ∷ givens.Held ∷ to 0 100000 ∷ to 100000 200000 ∷ [])
    ≡ acts.Open rates.Same 50 ∷ acts.Open rates.Same 50 ∷ acts.Open rates.Same 50 ∷ acts.Nothing ∷ []
inside = refl

-- a long window is opened anew half a day before the opening ends
anew : map (λ now. act_at (Some long) (to 0 86400000) now) (43199999 ∷ 43200000 ∷ []) ≡ acts.Nothing ∷ acts.Open rates.Same 86400 ∷ []
anew = refl

after : map (λ given. given_after (Some short) given 150000) (givens.Held ∷ to 100000 200000 ∷ []) ≡ to 100000 200000 ∷ to 100000 200000 ∷ []
after = refl

after_outside : map (λ given. given_after None given 50) (givens.Nothing ∷ givens.Held ∷ to 0 100 ∷ []) ≡ givens.Held ∷ givens.Held ∷ to 0 100 ∷ []
after_outside = refl

-- the next begin or end of a window, and of a long one the moment to open it anew
looks : map (look_again (short ∷ of 2 7 300000 400000 ∷ []) givens.Held) (0 ∷ 100000 ∷ 200000 ∷ 399999 ∷ 400000 ∷ [])
    ≡ Some 100000 ∷ Some 200000 ∷ Some 300000 ∷ Some 400000 ∷ None ∷ []
looks = refl

look_at_a_long_one : map (look_again (long ∷ []) (to 0 86400000)) (0 ∷ 43200000 ∷ []) ≡ Some 43200000 ∷ Some 200000000 ∷ []
look_at_a_long_one = refl

commands : hold_octets 7 ∷ release_octets 7 480 ∷ [] ≡ codes "hold 7" ∷ codes "release 7 480" ∷ []
unfolding digits
commands = refl

rate_commands : map (rate_octets 7) (rates.Same ∷ rates.Off ∷ rates.Octets 8000 ∷ []) ≡ None ∷ Some (codes "rate 7 off") ∷ Some (codes "rate 7 8000") ∷ []
unfolding digits
rate_commands = refl
