-- Meaning. What waits for the log's thread, and how a log shows itself.
use Rattle.std.specs.Prelude.{ℕ, ◌+◌, ◌-◌, ◌||◌, ◌&&◌, Bool, true, false, nat_le, Option, Some, None}

-- so many octets may be added to those that wait: 8 MiB in all
abbrev pub has_room : ℕ → ℕ → Bool
has_room waiting more = nat_le (waiting + more) 8388608

-- the log's thread ends: the log is closed, and nothing waits any more or the moment has come after which nothing is written
abbrev pub is_over : Option ℕ → Bool → ℕ → Bool
is_over None waits now = false
is_over (Some until) false now = true
is_over (Some until) true now = nat_le until now

-- the file can't be written: the last try failed, or the one that began at a moment has taken a second
abbrev pub is_failing : Bool → Option ℕ → ℕ → Bool
is_failing failed None now = failed
is_failing failed (Some since) now = failed || nat_le 1000 (now - since)
