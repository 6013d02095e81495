use Rattle.std.proofs.Common.{length}
use Rattle.program_udp.proofs.addresses.+place_of_address.Given as goal

abbrev pub decreases-place_of_address : goal.decreases-place_of_address
decreases-place_of_address l = length l.peers.now
