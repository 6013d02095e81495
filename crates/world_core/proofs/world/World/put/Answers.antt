use Rattle.std.proofs.Common.{◌<◌, List, Err, ap, length, sym, ◌∙◌, subst}
use Rattle.txn_events.specs.declared.event.Event.TheVariants.{Put}
use Rattle.world_table.specs.Histories.{Happening}
use Rattle.entity_routing.specs.Routes.{put_params, routed_put}
use Rattle.entity_parts.specs.declared.refusal.EntityRefusal.TheVariants.{Lane}
use Rattle.world_core.specs.Answering.{Answers}
use Rattle.world_core.specs.Opening.{layout_of}
use Rattle.world_core.specs.Worlds.{WorldValue, StandsAfter}
use Rattle.world_core.proofs.WorldFacts.{lane_at, put_refused}
use Rattle.world_core.proofs.world.World.put.Goals as goal

pub returns-in-Err-clause-answered : goal.returns-in-Err-clause-answered
returns-in-Err-clause-answered c =
    let config = c.self.inside.config in
    let user = subst (λ (w : WorldValue). c.args.user < length w.config.users) (sym c.self.view_is) c.requires.user in
    let lane = subst (λ (w : WorldValue). c.args.lane < w.config.entity.put_lanes) (sym c.self.view_is) c.requires.lane in
    subst (λ (w : WorldValue). (history : List Happening) → StandsAfter w history
    → Answers w.config history (routed_put (record { user = c.args.user; lane = c.args.lane }) c.args.put.now (put_params w.config c.args.put.now.destination))
    w.posts (Err (Lane c.why_put_refused.result))) c.self.view_is
    (λ history stands.
    put_refused config history c.args.user c.args.lane c.args.put.now c.in_ok-params.params c.self.inside.users c.why_put_refused.result
    (ap (put_params config) (sym c.destination.ensures) ∙ sym c.params_of_put.ensures ∙ c.in_ok-params.was)
    (c.why_put_refused.ensures (layout_of config) history c.in_ok-params.params stands.stand
    (lane_at config (record { user = c.args.user; lane = c.args.lane }) (Put c.args.put.now c.in_ok-params.params) c.self.invariant.kept (user, lane))))

pub why_put_refused-requires : goal.why_put_refused-requires
why_put_refused-requires c =
    let config = c.self.inside.config in
    let user = subst (λ (w : WorldValue). c.args.user < length w.config.users) (sym c.self.view_is) c.requires.user in
    let lane = subst (λ (w : WorldValue). c.args.lane < w.config.entity.put_lanes) (sym c.self.view_is) c.requires.lane in record {
      layout = layout_of config;
      history = c.self.invariant.history;
      stand = c.self.invariant.stands.stand;
      lane_is = lane_at config (record { user = c.args.user; lane = c.args.lane }) (Put c.args.put.now c.in_ok-params.params) c.self.invariant.kept (user, lane);
    }
