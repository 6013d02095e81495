use Rattle.std.proofs.Common.{length}
use Rattle.cfdp_send.proofs.ended.+status_in.Given as goal

abbrev pub decreases-status_in : goal.decreases-status_in
decreases-status_in l = length l.told.now
