use Rattle.std.proofs.Common.{◌≡◌, drop, map}
use Rattle.modular_sum.specs.Pieces.{sum_after}
use Rattle.receiver_parts.specs.Offsets.{piece_of}
use Rattle.receiver_parts.proofs.pieces.sum_with_runs.Given as goal

abbrev pub invariant-loop-run : goal.invariant-loop-run
invariant-loop-run l = sum_after l.sum (map (piece_of l.offset l.octets) (drop l.run-index l.runs))
    ≡ sum_after l.initial.sum (map (piece_of l.offset l.octets) l.runs)
