use Rattle.std.proofs.Common.{sym, ◌∙◌, subst}
use Rattle.txn_events.specs.declared.event.Event.TheVariants.{On}
use Rattle.txn_events.specs.declared.event.What.TheVariants.{Pdu}
use Rattle.world_core.specs.Routed.{IsRoutedTo}
use Rattle.world_core.specs.Worlds.{WorldValue}
use Rattle.world_core.proofs.WorldFacts.{routed_by_pdu}
use Rattle.world_core.proofs.world.World.deliver.Goals as goal

pub tell-requires-clause-routed : goal.tell-requires-clause-routed
tell-requires-clause-routed c =
    subst (λ (w : WorldValue). IsRoutedTo w.config c.in_ok-place.place.user c.in_ok-place.place.lane (On c.key_of_pdu-key.result (Pdu c.in_ok-pdu.pdu)))
    c.self.view_is
    (subst (λ key. IsRoutedTo c.self.inside.config c.in_ok-place.place.user c.in_ok-place.place.lane (On key (Pdu c.in_ok-pdu.pdu)))
    (sym c.key_of_pdu-key.ensures)
    (routed_by_pdu c.self.inside.config c.in_ok-pdu.pdu (Pdu c.in_ok-pdu.pdu) c.in_ok-place.place (sym c.place_of_pdu.ensures ∙ c.in_ok-place.was)))
