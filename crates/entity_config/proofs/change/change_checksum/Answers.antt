use Rattle.std.proofs.Common.{add-one, arith, rules}
use Rattle.entity_config.specs.Settings.{with_checksum, with_params}
use Rattle.config_reading.specs.Shown.{peer_shown}
use Rattle.entity_config.proofs.Lists.{changed_step}
use Rattle.entity_config.proofs.change.change_checksum.Goals as goal

pub loop-peer-preserved : goal.loop-peer-preserved
loop-peer-preserved c =
    rw add-one (changed_step peer_shown (with_params (with_checksum c.args.checksum)) c.loop-peer.peer-index c.loop-peer.peer-items c.args.peers.now.items _ c.peer-item.result
    (omega arith) c.loop-peer.invariant (search rules))
