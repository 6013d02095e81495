use Rattle.std.proofs.Common.{length}
use Rattle.program_udp.proofs.reach.+reach_in.Given as goal

abbrev pub decreases-reach_in : goal.decreases-reach_in
decreases-reach_in l = length l.pdus.now
