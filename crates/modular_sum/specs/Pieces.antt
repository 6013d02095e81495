-- Meaning. Octets at some offsets of a file, and what they add to its checksum.
use Rattle.std.specs.Prelude.{◌≡◌, ℕ, zero, suc, ◌+◌, ◌-◌, ◌*◌, ◌%◌, ◌^◌, ◌≤◌, ◌⊎◌, nat_le, if◌then◌else◌, List, [], ◌∷◌, slice_get, Option, None, Some, refl}
use Rattle.modular_sum.specs.Sum.{weight_of, total_from, sum}

-- consecutive octets, and the offset of the first
pub record Piece : Type 0 where
  pub offset : ℕ
  pub octets : List ℕ

-- the octet at offset i, where the first octet of a list is at `offset`
abbrev pub octet_from : ℕ → List ℕ → ℕ → Option ℕ
octet_from offset octets i = if nat_le offset i then slice_get octets (i - offset) else None

-- what an octet at an offset adds; 0 where there is no octet
abbrev pub term_of : ℕ → Option ℕ → ℕ
term_of offset None = 0
term_of offset (Some octet) = octet * weight_of offset

-- the sum of what the octets below a limit add
unfoldable pub total_below : (ℕ → Option ℕ) → ℕ → ℕ
total_below octets zero = 0
total_below octets (suc limit) = total_below octets limit + term_of limit (octets limit)

-- the sum of octets at some offsets: the total below any limit that is above all of them
abbrev pub IsSumOf : (ℕ → Option ℕ) → ℕ → Type 0
IsSumOf octets word = (limit : ℕ) → ((i : ℕ) → limit ≤ i → octets i ≡ None) → word ≡ total_below octets limit % 2 ^ 32

-- `both` has the octets of `old` and of `new`, which share no offset
abbrev pub Adds : (ℕ → Option ℕ) → (ℕ → Option ℕ) → (ℕ → Option ℕ) → Type 0
Adds old new both = (i : ℕ) → ((new i ≡ None) × (both i ≡ old i)) ⊎ ((old i ≡ None) × (both i ≡ new i))

-- a sum after octets are added at an offset
abbrev pub sum_with : ℕ → ℕ → List ℕ → ℕ
sum_with word offset octets = (word + total_from offset octets) % 2 ^ 32

-- a sum after pieces are added one by one
abbrev pub sum_after : ℕ → List Piece → ℕ
sum_after word [] = word
sum_after word (piece ∷ pieces) = sum_after (sum_with word piece.offset piece.octets) pieces

-- the pieces are all of a file's octets, and no two of them share an offset
abbrev pub ArePiecesOf : (ℕ → Option ℕ) → List Piece → Type 0
ArePiecesOf file [] = (i : ℕ) → file i ≡ None
ArePiecesOf file (piece ∷ pieces) = (rest : ℕ → Option ℕ) × Adds rest (octet_from piece.offset piece.octets) file × ArePiecesOf rest pieces

-- pieces that don't overlap add up to the sum of the whole file, in any order
abbrev pub PiecesAddUp : Type 0
PiecesAddUp = (file : List ℕ) (pieces : List Piece) → ArePiecesOf (slice_get file) pieces → sum_after 0 pieces ≡ sum file

-- the fifth octet first, then the four before it
sum_of_last_first : sum_after 0 (record { offset = 4; octets = 5 ∷ [] } ∷ record { offset = 0; octets = 1 ∷ 2 ∷ 3 ∷ 4 ∷ [] } ∷ []) ≡ 0x0602_0304
sum_of_last_first = refl

-- a carry beyond 32 bits is lost
sum_of_words : sum_after 0 (record { offset = 4; octets = 0 ∷ 0 ∷ 0 ∷ 2 ∷ [] } ∷ record { offset = 0; octets = 0xff ∷ 0xff ∷ 0xff ∷ 0xff ∷ [] } ∷ []) ≡ 1
sum_of_words = refl

-- no pieces
sum_of_none : sum_after 0 [] ≡ 0
sum_of_none = refl

-- an octet at its offset, none elsewhere
octet_at_six : octet_from 5 (1 ∷ 2 ∷ []) 6 ≡ Some 2
octet_at_six = refl

no_octet_at_four : octet_from 5 (1 ∷ 2 ∷ []) 4 ≡ None
no_octet_at_four = refl

no_octet_at_seven : octet_from 5 (1 ∷ 2 ∷ []) 7 ≡ None
no_octet_at_seven = refl

-- octets after a hole
total_with_hole : total_below (octet_from 3 (7 ∷ 1 ∷ [])) 5 ≡ 7 + 0x0100_0000
unfolding total_below
total_with_hole = refl
