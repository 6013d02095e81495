use Rattle.std.proofs.Common.{◌≡◌, ◌≤◌, ◌+◌, ◌++◌, length, vec_len, vec_capacity}
use Rattle.receiver_parts.proofs.pieces.append.Given as goal

-- the pieces appended so far and those that are left are all, and there is room for those that are left
abbrev pub invariant-loop-piece : goal.invariant-loop-piece
invariant-loop-piece l =
    (goal.iterator-loop-piece).can_next l.piece-iterator
    × (goal.iterator-loop-piece).is_finite l.piece-iterator
    × (l.pieces.items ++ l.piece-iterator ≡ l.initial.pieces.items ++ l.initial.piece-iterator)
    × (vec_len l.pieces + length l.piece-iterator ≤ vec_capacity l.pieces)
