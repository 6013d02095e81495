-- Meaning. Limits on how fast octets leave.
use Rattle.std.specs.Prelude.{ℕ, ◌+◌, ◌-◌, ◌*◌, ◌/◌, min, max, Bool, nat_le, Option, Some, None}
use Rattle.std.specs.Int.{div_ceil}
use Rattle.program_agenda.specs.declared.pace.Pace.{Pace}

-- a number, or the greatest of 64 bits if that is less
abbrev pub told : ℕ → ℕ
told number = min number 18446744073709551615

-- octets may leave at this moment, in milliseconds: the time of all that left is over
abbrev pub is_free : ℕ → Pace → Bool
is_free now pace = nat_le pace.over_at (told (now * 1000000))

-- the first such moment
abbrev pub free_moment : Pace → ℕ
free_moment pace = told (pace.over_at + 999999) / 1000000

-- how long octets take at a limit in octets a second, in nanoseconds, rounded up
abbrev pub time_of : ℕ → ℕ → ℕ
time_of octets limit = div_ceil (told (octets * 1000000000)) (max limit 1)

-- octets that leave take up their time after that of all that left before, or after the moment ten milliseconds ago
abbrev pub spent_by : Option ℕ → ℕ → ℕ → Pace → Pace
spent_by None octets now pace = pace
spent_by (Some limit) octets now pace =
    record pace { over_at = told (max pace.over_at (told ((now - 10) * 1000000)) + time_of octets limit) }

abbrev pub spent : ℕ → ℕ → Pace → Pace
spent octets now pace = spent_by pace.limit octets now pace

-- octets that leave by no pace take up their time after what left before, wherever that ended, up to a second from now
abbrev pub charged_by : Option ℕ → ℕ → ℕ → Pace → Pace
charged_by None octets now pace = pace
charged_by (Some limit) octets now pace =
    record pace { over_at = max pace.over_at (min (told (pace.over_at + time_of octets limit)) (told (told (now * 1000000) + 1000000000))) }

abbrev pub charged : ℕ → ℕ → Pace → Pace
charged octets now pace = charged_by pace.limit octets now pace

-- with another limit from a moment on: what left before holds back others for a second at most, and not at all without
-- one
abbrev pub limited : Option ℕ → ℕ → Pace → Pace
limited None now pace = record { limit = None; over_at = 0 }
limited (Some limit) now pace = record { limit = Some limit; over_at = min pace.over_at (told (told (now * 1000000) + 1000000000)) }
