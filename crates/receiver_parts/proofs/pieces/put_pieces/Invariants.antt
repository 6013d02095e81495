use Rattle.std.proofs.Common.{◌≡◌, ℕ, take}
use Rattle.std.specs.Prelude.{slice_index, unwrap_or}
use Rattle.receiver_parts.specs.Offsets.{octet_in}
use Rattle.receiver_parts.proofs.pieces.put_pieces.Given as goal

abbrev pub invariant-loop-piece : goal.invariant-loop-piece
invariant-loop-piece l = (i : ℕ) → slice_index l.kept.items i ≡ unwrap_or (octet_in (take l.piece-index l.pieces) i) 0
