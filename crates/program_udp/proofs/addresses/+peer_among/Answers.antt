use Rattle.std.proofs.Common.{◌-◌, length, drop}
use Rattle.std.proofs.lemmas.List.Elements.{All-drop, All-take}
use Rattle.program_udp.specs.Peers.{ListensAt}
use Rattle.program_udp.proofs.addresses.+peer_among.Goals as goal

pub returns-else-eq-clause-listens : goal.returns-else-eq-clause-listens
returns-else-eq-clause-listens t c config all =
    c.peer_among.ensures.listens config
    (All-take (λ peer. ListensAt config peer.id peer.address) (length c.args.peers.now - 1) (drop 1 c.args.peers.now)
    (All-drop (λ peer. ListensAt config peer.id peer.address) 1 c.args.peers.now all))
