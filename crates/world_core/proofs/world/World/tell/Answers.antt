use Rattle.std.proofs.Common.{List, Ok, Err, refl, sym, subst}
use Rattle.world_table.specs.Histories.{Happening}
use Rattle.world_core.proofs.StandFacts.{ok_then}
use Rattle.entity_parts.specs.declared.refusal.EntityRefusal.TheVariants.{Lane}
use Rattle.world_core.specs.Answering.{AnswersAt}
use Rattle.world_core.specs.Opening.{layout_of}
use Rattle.world_core.specs.Routed.{IsRoutedTo}
use Rattle.world_core.specs.Worlds.{WorldValue, StandsAfter}
use Rattle.world_core.proofs.WorldFacts.{lane_at, taken_in, still_told}
use Rattle.world_core.proofs.world.World.tell.Goals as goal

pub step-requires-clause-stands : goal.step-requires-clause-stands
step-requires-clause-stands c =
    let config = c.self.inside.config in
    let routed = subst (λ (w : WorldValue). IsRoutedTo w.config c.args.place.user c.args.place.lane c.args.event) (sym c.self.view_is) c.requires.routed in record {
      layout = layout_of config;
      history = c.self.invariant.history;
      stand = c.self.invariant.stands.stand;
      lane_is = lane_at config c.args.place c.args.event c.self.invariant.kept routed;
    }

pub returns-in-Ok-clause-answered : goal.returns-in-Ok-clause-answered
returns-in-Ok-clause-answered c =
    let config = c.self.inside.config in
    let routed = subst (λ (w : WorldValue). IsRoutedTo w.config c.args.place.user c.args.place.lane c.args.event) (sym c.self.view_is) c.requires.routed in
    subst (λ (w : WorldValue). (history : List Happening) → StandsAfter w history
    → AnswersAt w.config history (record { place = c.args.place; event = c.args.event }) c.step.new.self (Ok c.in-Ok.done)) c.self.view_is
    (λ history stands. record {
      taken = taken_in config history c.args.place c.args.event c.self.inside.users c.step.new.self c.in-Ok.done stands routed
          (c.in-Ok.ensures.taken (layout_of config) history stands.stand (lane_at config c.args.place c.args.event c.self.invariant.kept routed));
      refused = tt;
    })

pub returns-clause-answered : goal.returns-clause-answered
returns-clause-answered c =
    let config = c.self.inside.config in
    let routed = subst (λ (w : WorldValue). IsRoutedTo w.config c.args.place.user c.args.place.lane c.args.event) (sym c.self.view_is) c.requires.routed in
    subst (λ (w : WorldValue). (history : List Happening) → StandsAfter w history
    → AnswersAt w.config history (record { place = c.args.place; event = c.args.event }) c.step.new.self (Err (Lane c.in-Err.refused))) c.self.view_is
    (λ history stands. record {
      taken = tt;
      refused = (
        c.in-Err.refused,
        refl,
        c.in-Err.ensures.refused (layout_of config) history stands.stand (lane_at config c.args.place c.args.event c.self.invariant.kept routed),
      );
    })

pub invariant_of-self : goal.invariant_of-self
invariant_of-self c =
    let config = c.self.inside.config in
    let routed = subst (λ (w : WorldValue). IsRoutedTo w.config c.args.place.user c.args.place.lane c.args.event) (sym c.self.view_is) c.requires.routed in
    still_told config c.self.inside.users c.step.new.self (record { place = c.args.place; event = c.args.event }) c.step.result c.self.invariant
    (λ history stands.
    ok_then c.step.result
    (c.step.ensures.taken (layout_of config) history stands.stand (lane_at config c.args.place c.args.event c.self.invariant.kept routed))
    (λ done taken. taken_in config history c.args.place c.args.event c.self.inside.users c.step.new.self done stands routed taken))
    c.step.ensures.same
