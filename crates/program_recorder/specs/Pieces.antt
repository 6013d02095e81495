-- Meaning. A text in pieces of whole lines.
use Rattle.std.specs.Prelude.{◌≡◌, ◌≤◌, ◌<◌, ◌-◌, ◌⊎◌, ℕ, List, length, slice_index}

-- a piece has something of the rest, if there is any, and ends with the rest or with a line feed
abbrev pub IsPiece : List ℕ → ℕ → Type 0
IsPiece rest count =
    (count ≤ length rest) × (0 < length rest → 0 < count) × ((count ≡ length rest) ⊎ (slice_index rest (count - 1) ≡ 10))
