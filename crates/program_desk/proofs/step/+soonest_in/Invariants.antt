use Rattle.std.proofs.Common.{length}
use Rattle.program_desk.proofs.step.+soonest_in.Given as goal

abbrev pub decreases-soonest_in : goal.decreases-soonest_in
decreases-soonest_in l = length l.operations.now
