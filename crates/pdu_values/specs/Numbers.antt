-- Meaning. Numbers as octets, the most significant first.
use Rattle.std.specs.Prelude.{ℕ, zero, suc, ◌+◌, ◌*◌, ◌/◌, ◌%◌, ◌^◌, List, [], ◌∷◌, length}

-- the number that octets stand for
unfoldable pub number_of : List ℕ → ℕ
number_of [] = 0
number_of (octet ∷ octets) = octet * 256 ^ length octets + number_of octets

-- the octets of a number, in a width
unfoldable pub digits : ℕ → ℕ → List ℕ
digits zero n = []
digits (suc width) n = (n / 256 ^ width) ∷ digits width (n % 256 ^ width)
