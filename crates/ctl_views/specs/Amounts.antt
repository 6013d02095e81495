-- Meaning. How much of a file is there.
use Rattle.std.specs.Prelude.{ℕ, ◌*◌, ◌/◌, min, nat_le, if◌then◌else◌}

-- how much of a file is there, in whole percent: 100 of an empty file, and never more
abbrev pub percent : ℕ → ℕ → ℕ
percent octets size = if nat_le size octets then 100 else min 100 (octets * 100 / size)
