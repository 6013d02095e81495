use Rattle.std.proofs.Common.{◌≡◌, ℕ, ◌<◌, position, Option, IfSome, subst, sym, ◌∙◌}
use Rattle.std.specs.List.{filter}
use Rattle.cfdp_types.specs.declared.limits.TheConstants.{REMOTES}
use Rattle.config_reading.specs.Shown.{shown}
use Rattle.config_reading.specs.Values.{goes_to, has_id, route_of}
use Rattle.entity_config.proofs.Limits.{places_within}
use Rattle.entity_config.proofs.Sources.{source_placed}
use Rattle.entity_config.proofs.config.Config.source_place.Goals as goal

pub returns-clause-place : goal.returns-clause-place
returns-clause-place c = rw (← c.self.view_is) (c.source_place_among.ensures ∙ rw c.deref.ensures.value (sym (source_placed c.args.user c.args.id c.self.inside.peers.items)))

pub returns-clause-range : goal.returns-clause-range
returns-clause-range c =
    let config = shown c.self.inside.entity c.self.inside.users c.self.inside.peers in
    let place : c.source_place_among.result ≡ position (has_id c.args.id) (filter (λ peer. goes_to c.args.user (route_of peer)) config.peers) =
    c.source_place_among.ensures ∙ rw c.deref.ensures.value (sym (source_placed c.args.user c.args.id c.self.inside.peers.items)) in
    subst (λ (found : Option ℕ). IfSome found (λ place. place < REMOTES)) (sym place)
    (places_within config (λ peer. goes_to c.args.user (route_of peer)) (has_id c.args.id) c.self.invariant)
