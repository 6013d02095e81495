use Rattle.std.proofs.Common.{All, sym, subst}
use Rattle.std.proofs.lemmas.List.Elements.{All-push}
use Rattle.program_udp.specs.Peers.{ListensAt, StandsAt}
use Rattle.program_udp.specs.declared.addresses.PeerAddress.{PeerAddress}
use Rattle.program_udp.proofs.addresses.addresses_of.Goals.{in-Some+in_ok-push, in_default}
use Rattle.program_udp.proofs.addresses.addresses_of.Goals as goal

pub loop-place-preserved : goal.loop-place-preserved
loop-place-preserved c = elim c.match-peer_at.branch [
  | in-Some+in_ok-push w ↦ (
    subst (λ v. All (λ (peer : PeerAddress). ListensAt c.args.config.now peer.id peer.address) v.items) (sym w.peers-is)
        (subst (λ items. All (λ (peer : PeerAddress). ListensAt c.args.config.now peer.id peer.address) items) (sym w.in_ok-push.ensures.items)
        (All-push (λ (peer : PeerAddress). ListensAt c.args.config.now peer.id peer.address) c.loop-place.peers.items w.in-Some.peer c.loop-place.invariant.0 w.in-Some.ensures.listens)),
    subst (λ v. All (λ (peer : PeerAddress). StandsAt c.args.config.now peer) v.items) (sym w.peers-is)
        (subst (λ items. All (λ (peer : PeerAddress). StandsAt c.args.config.now peer) items) (sym w.in_ok-push.ensures.items)
        (All-push (λ (peer : PeerAddress). StandsAt c.args.config.now peer) c.loop-place.peers.items w.in-Some.peer c.loop-place.invariant.1 w.in-Some.ensures.stands)),
  )
  | in_default w ↦ (
    subst (λ v. All (λ (peer : PeerAddress). ListensAt c.args.config.now peer.id peer.address) v.items) (sym w.peers-is) c.loop-place.invariant.0,
    subst (λ v. All (λ (peer : PeerAddress). StandsAt c.args.config.now peer) v.items) (sym w.peers-is) c.loop-place.invariant.1,
  )
]
