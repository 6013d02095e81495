use Rattle.std.proofs.Common.{sym, ◌∙◌, subst}
use Rattle.txn_events.specs.declared.event.Event.TheVariants.{On}
use Rattle.world_core.specs.Routed.{IsRoutedTo}
use Rattle.world_core.specs.Worlds.{WorldValue}
use Rattle.world_core.proofs.WorldFacts.{routed_by_key}
use Rattle.world_core.proofs.world.World.inside.Goals as goal

pub tell-requires-clause-routed : goal.tell-requires-clause-routed
tell-requires-clause-routed c =
    subst (λ (w : WorldValue). IsRoutedTo w.config c.in_ok-place.place.user c.in_ok-place.place.lane (On c.args.key c.args.what)) c.self.view_is
    (routed_by_key c.self.inside.config c.args.key c.args.what c.in_ok-place.place (sym c.place_of_key.ensures ∙ c.in_ok-place.was))
