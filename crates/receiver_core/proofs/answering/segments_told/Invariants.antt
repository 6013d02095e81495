use Rattle.std.proofs.Common.{◌≡◌, take}
use Rattle.std.specs.Prelude.{map}
use Rattle.receiver_table.specs.Answers.{segment_told}
use Rattle.receiver_core.proofs.answering.segments_told.Given as goal

abbrev pub invariant-loop-run : goal.invariant-loop-run
invariant-loop-run l = l.inds ≡ map segment_told (take l.run-index l.runs)
