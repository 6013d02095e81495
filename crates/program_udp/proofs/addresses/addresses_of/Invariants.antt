use Rattle.std.proofs.Common.{All}
use Rattle.program_udp.specs.Peers.{ListensAt, StandsAt}
use Rattle.program_udp.proofs.addresses.addresses_of.Given as goal

-- all that were found so far listen where the configuration says, and stand where it has them
abbrev pub invariant-loop-place : goal.invariant-loop-place
invariant-loop-place l =
    All (λ peer. ListensAt l.config peer.id peer.address) l.peers.items × All (λ peer. StandsAt l.config peer) l.peers.items
