use Rattle.std.proofs.Common.{◌≡◌, ℕ, ◌≤◌, length, subst, sym, ◌∙◌}
use Rattle.std.specs.List.{filter}
use Rattle.cfdp_types.specs.declared.limits.TheConstants.{REMOTES}
use Rattle.config_reading.specs.Shown.{shown}
use Rattle.config_reading.specs.Values.{goes_to, route_of}
use Rattle.entity_config.proofs.Limits.{few_pass}
use Rattle.entity_config.proofs.Sources.{sources_counted}
use Rattle.entity_config.proofs.config.Config.sources.Goals as goal

pub returns-clause-number : goal.returns-clause-number
returns-clause-number c = rw (← c.self.view_is) (c.sources_among.ensures ∙ rw c.deref.ensures.value (sym (sources_counted c.args.user c.self.inside.peers.items)))

pub returns-clause-range : goal.returns-clause-range
returns-clause-range c =
    let config = shown c.self.inside.entity c.self.inside.users c.self.inside.peers in
    let number : c.sources_among.result ≡ length (filter (λ peer. goes_to c.args.user (route_of peer)) config.peers) =
    c.sources_among.ensures ∙ rw c.deref.ensures.value (sym (sources_counted c.args.user c.self.inside.peers.items)) in
    subst (λ (n : ℕ). n ≤ REMOTES) (sym number) (few_pass config (λ peer. goes_to c.args.user (route_of peer)) c.self.invariant)
