-- Meaning. The modular checksum: a file's octets as big-endian words of four, added modulo 2^32.
use Rattle.std.specs.Prelude.{◌≡◌, ℕ, ◌+◌, ◌-◌, ◌*◌, ◌%◌, ◌^◌, List, [], ◌∷◌, refl}

-- the weight of an octet at an offset: of each four octets the first counts the most
abbrev pub weight_of : ℕ → ℕ
weight_of offset = 256 ^ (3 - offset % 4)

-- what consecutive octets add, the first of which is at `offset`
abbrev pub total_from : ℕ → List ℕ → ℕ
total_from offset [] = 0
total_from offset (octet ∷ octets) = octet * weight_of offset + total_from (offset + 1) octets

-- the checksum of a whole file
abbrev pub sum : List ℕ → ℕ
sum octets = total_from 0 octets % 2 ^ 32

-- an empty file
pub sum-empty : sum [] ≡ 0
sum-empty = refl

-- a last word that isn't full is padded with zeros
pub sum_of_five : sum (1 ∷ 2 ∷ 3 ∷ 4 ∷ 5 ∷ []) ≡ 0x0602_0304
sum_of_five = refl

-- a carry beyond 32 bits is lost
pub sum_past_a_word : sum (0xff ∷ 0xff ∷ 0xff ∷ 0xff ∷ 0 ∷ 0 ∷ 0 ∷ 2 ∷ []) ≡ 1
sum_past_a_word = refl

-- the octets of "abc"
pub sum_of_three : sum (0x61 ∷ 0x62 ∷ 0x63 ∷ []) ≡ 0x6162_6300
sum_of_three = refl

-- pieces at their offsets, in any order, add up to the sum of the whole
pub sum_of_pieces : (total_from 4 (5 ∷ []) + total_from 0 (1 ∷ 2 ∷ 3 ∷ 4 ∷ [])) % 2 ^ 32 ≡ 0x0602_0304
sum_of_pieces = refl
