-- Meaning. The numbers that words of a plan write.
use Rattle.std.specs.Prelude.{ℕ, ◌+◌, ◌*◌, ◌-◌, ◌^◌, ◌==◌, ◌&&◌, nat_le, nat_lt, if◌then◌else◌, List, length, Option, Some, None}
use Rattle.std.specs.Char.{is_ascii_digit}
use Rattle.std.specs.List.{fold}

-- a number with one more digit, if it still has at most 64 bits
abbrev pub with_digit : Option ℕ → ℕ → Option ℕ
with_digit None octet = None
with_digit (Some number) octet =
    if is_ascii_digit octet && nat_lt (number * 10 + (octet - 48)) (2 ^ 64) then Some (number * 10 + (octet - 48)) else None

-- the number of at most 64 bits that one decimal digit or more write
abbrev pub number_of : List ℕ → Option ℕ
number_of word = if length word == 0 then None else fold with_digit (Some 0) word

-- a number in a range
abbrev pub within : ℕ → ℕ → Option ℕ → Option ℕ
within least most None = None
within least most (Some number) = if nat_le least number && nat_le number most then Some number else None
