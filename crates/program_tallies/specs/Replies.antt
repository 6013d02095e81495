-- Meaning. How many replies leave in a second that a peer may ask for at will.
use Rattle.std.specs.Prelude.{ℕ, ◌+◌, Bool, true, false, ◌&&◌, ◌||◌, ◌==◌, nat_le, if◌then◌else◌, Option, Some, None}
use Rattle.program_tallies.specs.declared.replies.Window.{Window}

-- what left in a second: in another one than the window's, nothing so far
abbrev pub used_in : ℕ → Window → ℕ
used_in second window = if window.second == second then window.used else 0

-- one more of this cost may leave in a second: the first always, and others up to the most
abbrev pub may_leave : ℕ → ℕ → ℕ → Window → Bool
may_leave second cost most window = used_in second window == 0 || nat_le (used_in second window + cost) most

-- the window once it left, if it may
abbrev pub after_one : ℕ → ℕ → ℕ → Window → Option Window
after_one second cost most window =
    if may_leave second cost most window then Some (record { second = second; used = used_in second window + cost }) else None
