use Rattle.entity_config.specs.Settings.{with_checksum, with_params}
use Rattle.config_reading.specs.Shown.{peer_shown}
use Rattle.entity_config.proofs.Lists.{AreChanged}
use Rattle.entity_config.proofs.change.change_checksum.Given as goal

abbrev pub invariant-loop-peer : goal.invariant-loop-peer
invariant-loop-peer l = AreChanged peer_shown (with_params (with_checksum l.checksum)) l.peer-index l.peer-items l.fn.peers.items
