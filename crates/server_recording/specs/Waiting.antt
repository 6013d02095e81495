-- Meaning. How much may wait to be recorded, and for how long at the end.
use Rattle.std.specs.Prelude.{ℕ, ◌==◌, ◌||◌, ◌&&◌, Bool, false, nat_le, nat_lt, Option, Some, None}

-- one more transaction may wait beside so many, where the events of all take up so many octets then: 256 transactions, and
-- 48 MiB of octets, but one always may
abbrev pub has_room : ℕ → ℕ → Bool
has_room waiting octets = (waiting == 0) || (nat_lt waiting 256 && nat_le octets 50331648)

-- the moment up to which those that wait are recorded, if there is one, has passed
abbrev pub is_over : Option ℕ → ℕ → Bool
is_over None now = false
is_over (Some until) now = nat_le until now
