use Rattle.std.proofs.Common.{◌≡◌, drop, slice_get}
use Rattle.std.specs.List.{filter}
use Rattle.config_reading.specs.Shown.{peer_shown}
use Rattle.config_reading.specs.Values.{goes_to, route_of}
use Rattle.entity_config.proofs.config.source_among.Given as goal

abbrev pub invariant-loop-peer : goal.invariant-loop-peer
invariant-loop-peer l =
    slice_get (filter (λ peer. goes_to l.user (route_of (peer_shown peer))) (drop l.peer-index l.peers)) l.left
    ≡ slice_get (filter (λ peer. goes_to l.user (route_of (peer_shown peer))) l.peers) l.place
