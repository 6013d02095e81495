use Rattle.std.proofs.Common.{Ok, inl, refl, sym}
use Rattle.lane_table.specs.Lane.{State}
use Rattle.lane_table.specs.Steps.{image_of}
use Rattle.lane_table.proofs.ImageFacts.{gives_own_files}
use Rattle.shared_entity.specs.Answering.{IsAt}
use Rattle.shared_entity.proofs.ReadFacts.{read_elsewhere, read_there, refused_there}
use Rattle.shared_entity.proofs.entity.image_at.Goals as goal

pub returns-in-Ok-clause-may : goal.returns-in-Ok-clause-may
returns-in-Ok-clause-may g c =
    let there : IsAt g.N.Names.queue c.args.place c.args.held.now = c.if-not-is_at.ensures.there refl in (
      record {
        held = c.args.held.now;
        there = there;
        is_given = c.in-Ok.ensures.image;
        is_own = gives_own_files c.args.held.now.lane c.args.key c.args.stamp c.in-Ok.image there.behind.sound c.in-Ok.ensures.image;
      },
      tt,
    )

pub returns-in-Ok-clause-exact : goal.returns-in-Ok-clause-exact
returns-in-Ok-clause-exact g c =
    inl (read_there c.args.place (λ (lane : State). image_of lane c.args.key c.args.stamp) c.args.held.now (Ok c.in-Ok.image)
    (sym c.if-not-is_at.ensures.exact) c.in-Ok.ensures.image)

pub returns-in-Err-clause-exact : goal.returns-in-Err-clause-exact
returns-in-Err-clause-exact g c =
    refused_there c.args.place (λ (lane : State). image_of lane c.args.key c.args.stamp) c.args.held.now c.in-Err.why
    (sym c.if-not-is_at.ensures.exact) c.in-Err.ensures.refused

pub returns-then-not-is_at-clause-exact : goal.returns-then-not-is_at-clause-exact
returns-then-not-is_at-clause-exact g c =
    inl (read_elsewhere c.args.place (λ (lane : State). image_of lane c.args.key c.args.stamp) c.args.held.now (sym c.if-not-is_at.ensures.exact))
