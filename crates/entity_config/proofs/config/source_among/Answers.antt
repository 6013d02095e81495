use Rattle.std.proofs.Common.{add-one, arith, sym, ◌∙◌}
use Rattle.config_reading.specs.Shown.{peer_shown}
use Rattle.config_reading.specs.Values.{goes_to, route_of}
use Rattle.entity_config.proofs.Sources.{left_out, passed}
use Rattle.entity_config.proofs.config.source_among.Goals as goal
use Rattle.entity_config.proofs.config.source_among.Goals.{then-is_source+else-left-eq0, else-is_source}

pub loop-peer-preserved : goal.loop-peer-preserved
loop-peer-preserved c =
    rw add-one (elim c.if-is_source.branch [
      | then-is_source+else-left-eq0 w ↦
          passed (λ peer. goes_to c.args.user (route_of (peer_shown peer))) c.args.peers.now c.loop-peer.peer-index c.peer-item.result c.loop-peer.left c.if-is_source.left
          (omega arith) c.peer-item.is (sym c.is_source.ensures ∙ w.if-is_source.true) (omega (arith, w.left-is)) ∙ c.loop-peer.invariant
      | else-is_source w ↦
          rw w.left-is (left_out (λ peer. goes_to c.args.user (route_of (peer_shown peer))) c.args.peers.now c.loop-peer.peer-index c.peer-item.result c.loop-peer.left
          (omega arith) c.peer-item.is (sym c.is_source.ensures ∙ w.if-is_source.false) ∙ c.loop-peer.invariant)
    ])
