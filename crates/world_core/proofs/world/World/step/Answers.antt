use Rattle.std.proofs.Common.{⊎_elim, inl, inr}
use Rattle.entity_routing.specs.Routes.{route}
use Rattle.world_core.specs.Answering.{Answers}
use Rattle.world_core.specs.Worlds.{IsUnread}
use Rattle.world_core.proofs.WorldFacts.{answered_by, stands_then}
use Rattle.world_core.proofs.world.World.step.Goals as goal

pub returns-clause-answered : goal.returns-clause-answered
returns-clause-answered c = λ history stands.
    let config = c.args.self.now.config in
    let found = route config c.args.event.now in
    ⊎_elim
    (λ (is : Answers config history found c.answer.new.self.posts c.answer.result).
    inl (answered_by config history found c.answer.new.self.posts c.answer.result is))
    (λ (unread : IsUnread c.args.event.now c.answer.result). inr unread)
    (c.answer.ensures.answered history stands)

pub returns-clause-stands : goal.returns-clause-stands
returns-clause-stands c = λ history stands.
    stands_then c.args.self.now c.answer.new.self c.args.event.now c.answer.result history stands
    (c.answer.ensures.answered history stands) c.answer.ensures.config c.answer.ensures.same
