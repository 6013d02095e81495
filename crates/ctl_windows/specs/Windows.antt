-- Meaning. The window that a line of a plan gives.
use Rattle.std.specs.Prelude.{ℕ, nat_lt, if◌then◌else◌, List, [], ◌∷◌, Option, Some, None, Result, Ok, Err, codes}
use Rattle.std.specs.Option.{option_map}
use Rattle.std.specs.Str.{bytes_eq}
use Rattle.ctl_windows.specs.Moments.{moment_of}
use Rattle.ctl_windows.specs.Numbers.{number_of, within}
use Rattle.ctl_windows.specs.declared.window.Blame.{Blame}
use Rattle.ctl_windows.specs.declared.window.Rate.{Rate}
use Rattle.ctl_windows.specs.declared.window.Rate.TheVariants as rates
use Rattle.ctl_windows.specs.declared.window.Why.{Why}
use Rattle.ctl_windows.specs.declared.window.Why.TheVariants as whys
use Rattle.ctl_windows.specs.declared.window.Window.{Window}

-- a rate: `off`, or 1 to 1,000,000,000 octets a second
abbrev pub rate_of : List ℕ → Option Rate
rate_of word = if bytes_eq word (codes "off") then Some rates.Off
    else option_map (λ octets. rates.Octets octets) (within 1 1000000000 (number_of word))

-- a word of a line is wrong
abbrev pub wrong : ℕ → Why → Result Window Blame
wrong place why = Err (record { place = place; why = why })

-- a window, which ends after it begins
abbrev pub window_at : ℕ → ℕ → ℕ → ℕ → Rate → Result Window Blame
window_at line from until remote rate =
    if nat_lt from until then Ok (record { line = line; remote = remote; from = from; until = until; rate = rate })
    else wrong 1 whys.Order

-- the window of a line, by what its words are; the first word that is wrong is blamed
abbrev pub window_from : ℕ → Option ℕ → Option ℕ → Option ℕ → Option Rate → Result Window Blame
window_from line None until remote rate = wrong 0 whys.Moment
window_from line (Some from) None remote rate = wrong 1 whys.Moment
window_from line (Some from) (Some until) None rate = wrong 2 whys.Remote
window_from line (Some from) (Some until) (Some remote) None = wrong 3 whys.Rate
window_from line (Some from) (Some until) (Some remote) (Some rate) = window_at line from until remote rate

-- the window that the words of a line give: from, until, the entity, and a rate if there is one
abbrev pub window_of : ℕ → List (List ℕ) → Result Window Blame
window_of line [] = wrong 0 whys.Short
window_of line (one ∷ []) = wrong 0 whys.Short
window_of line (one ∷ two ∷ []) = wrong 0 whys.Short
window_of line (from ∷ until ∷ remote ∷ []) =
    window_from line (moment_of from) (moment_of until) (number_of remote) (Some rates.Same)
window_of line (from ∷ until ∷ remote ∷ rate ∷ []) =
    window_from line (moment_of from) (moment_of until) (number_of remote) (rate_of rate)
window_of line (one ∷ two ∷ three ∷ four ∷ five ∷ others) = wrong 4 whys.Long
