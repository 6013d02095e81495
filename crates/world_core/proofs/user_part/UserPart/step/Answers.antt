use Rattle.std.proofs.Common.{◌≡◌, Some, IfErr, slice_get, slice_set, sym, subst}
use Rattle.world_core.specs.Posts.{Post, IsNoStepOf}
use Rattle.world_core.proofs.PostFacts.{not_stepped}
use Rattle.world_core.proofs.user_part.UserPart.step.Goals as goal

pub returns-clause-refused : goal.returns-clause-refused
returns-clause-refused c =
    let inside : Post = record { queue = c.self.inside.queue; lanes = c.self.inside.lanes.items } in
    subst (λ p. IfErr c.step_lane.result (λ refused. IsNoStepOf p c.args.lane c.args.event.now
    (record { queue = c.step_lane.new.queue; lanes = slice_set c.self.inside.lanes.items c.args.lane c.step_lane.new.lane }) refused)) c.self.view_is
    (not_stepped inside c.args.lane c.args.event.now c.requires.lane.state c.index_mut.result.now c.step_lane.new.lane c.step_lane.new.queue
    c.step_lane.result (subst (λ (p : Post). slice_get p.lanes c.args.lane ≡ Some c.requires.lane.state) (sym c.self.view_is) c.requires.lane.is)
    c.index_mut.ensures.value c.step_lane.ensures.refused c.step_lane.ensures.same)
