use Rattle.std.proofs.Common.{ap, option_map, sym, ◌∙◌}
use Rattle.config_reading.specs.Shown.{peer_shown}
use Rattle.entity_config.proofs.Lists.{peer_found, shown_of_found}
use Rattle.entity_config.proofs.config.Config.find_peer.Goals as goal

pub returns : goal.returns
returns c =
    rw (← c.self.view_is)
    (shown_of_found c.peer_of.result ∙ ap (option_map peer_shown) c.peer_of.ensures
    ∙ rw c.deref.ensures.value (sym (peer_found c.args.id c.self.inside.peers.items)))
