use Rattle.std.proofs.Common.{◌≡◌, map, take}
use Rattle.receiver_parts.specs.Offsets.{part_of}
use Rattle.receiver_parts.proofs.pieces.parts_of.Given as goal

abbrev pub invariant-loop-run : goal.invariant-loop-run
invariant-loop-run l = l.pieces.items ≡ map (part_of l.offset l.octets) (take l.run-index l.runs)
