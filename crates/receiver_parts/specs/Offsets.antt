-- Of the code. Offsets of a file, and the octets there.
use Rattle.std.specs.Prelude.{◌≡◌, ℕ, ◌-◌, ◌<◌, Bool, true, List, [], ◌∷◌, take, drop, Option, None, Some, refl}
use Rattle.cfdp_types.specs.Steps.{newer_or}
use Rattle.gap_list.specs.declared.run.Run.{Run}
use Rattle.modular_sum.specs.Pieces.{Piece, octet_from}
use Rattle.receiver_parts.specs.declared.pieces.Piece as kept

-- all offsets in the set are below a limit
abbrev pub IsInside : ℕ → (ℕ → Bool) → Type 0
IsInside limit set = (i : ℕ) → set i ≡ true → i < limit

-- the octet that pieces have at an offset, that of the last piece where several have one
abbrev pub octet_in : List kept.Piece → ℕ → Option ℕ
octet_in [] i = None
octet_in (piece ∷ pieces) i = newer_or (octet_in pieces i) (octet_from piece.offset piece.octets i)

-- the octets of a segment at the offsets of a run, where the segment's first octet is at `offset`
abbrev pub piece_of : ℕ → List ℕ → Run → Piece
piece_of offset octets run = record { offset = run.start; octets = take (run.end - run.start) (drop (run.start - offset) octets) }

-- the same octets, as they are kept
abbrev pub part_of : ℕ → List ℕ → Run → kept.Piece
part_of offset octets run = record { offset = run.start; octets = take (run.end - run.start) (drop (run.start - offset) octets) }

-- two pieces, in the order in which they came
abbrev two : List kept.Piece
two = record { offset = 4; octets = 5 ∷ 6 ∷ [] } ∷ record { offset = 0; octets = 1 ∷ [] } ∷ []

octet_of_first : octet_in two 5 ≡ Some 6
octet_of_first = refl

octet_of_last : octet_in two 0 ≡ Some 1
octet_of_last = refl

no_octet_between : octet_in two 1 ≡ None
no_octet_between = refl

octet_twice : octet_in (record { offset = 3; octets = 7 ∷ 8 ∷ [] } ∷ record { offset = 4; octets = 9 ∷ [] } ∷ []) 4 ≡ Some 9
octet_twice = refl

part_of_four : part_of 10 (1 ∷ 2 ∷ 3 ∷ 4 ∷ []) (record { start = 11; end = 13 }) ≡ record { offset = 11; octets = 2 ∷ 3 ∷ [] }
part_of_four = refl
