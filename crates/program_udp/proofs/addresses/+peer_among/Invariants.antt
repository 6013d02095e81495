use Rattle.std.proofs.Common.{length}
use Rattle.program_udp.proofs.addresses.+peer_among.Given as goal

abbrev pub decreases-peer_among : goal.decreases-peer_among
decreases-peer_among l = length l.peers.now
