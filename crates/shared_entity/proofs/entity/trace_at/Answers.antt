use Rattle.std.proofs.Common.{◌≡◌, Ok, Err, refl, sym, ◌∙◌}
use Rattle.lane_table.specs.Lane.{State}
use Rattle.lane_traces.specs.Traces.{how_far, how_far_by}
use Rattle.lane_traces.proofs.TraceFacts.{tells_how_far}
use Rattle.shared_entity.specs.Answering.{IsAt}
use Rattle.shared_entity.proofs.ReadFacts.{read_there}
use Rattle.shared_entity.proofs.entity.trace_at.Goals as goal

pub returns-in-Ok-clause-may : goal.returns-in-Ok-clause-may
returns-in-Ok-clause-may g c =
    let there : IsAt g.N.Names.queue c.args.place c.args.held.now = c.if-not-is_at.ensures.there refl in
    let told : how_far c.args.held.now.lane c.args.key ≡ Ok c.in-Ok.traced =
    sym (c.in-Ok.ensures ∙ (λ i. how_far_by (c.key.ensures i) (c.journal.ensures.events i) (c.trace.ensures i) c.args.key)) in (
      record {
        held = c.args.held.now;
        there = there;
        is_given = told;
        is_own = tells_how_far c.args.held.now.lane c.args.key c.in-Ok.traced there.behind.sound told;
      },
      tt,
    )

pub returns-in-Ok-clause-exact : goal.returns-in-Ok-clause-exact
returns-in-Ok-clause-exact g c =
    read_there c.args.place (λ (lane : State). how_far lane c.args.key) c.args.held.now (Ok c.in-Ok.traced) (sym c.if-not-is_at.ensures.exact)
    (sym (c.in-Ok.ensures ∙ (λ i. how_far_by (c.key.ensures i) (c.journal.ensures.events i) (c.trace.ensures i) c.args.key)))

pub returns-in-Err-clause-exact : goal.returns-in-Err-clause-exact
returns-in-Err-clause-exact g c =
    read_there c.args.place (λ (lane : State). how_far lane c.args.key) c.args.held.now (Err c.in-Err.why) (sym c.if-not-is_at.ensures.exact)
    (sym (c.in-Err.ensures ∙ (λ i. how_far_by (c.key.ensures i) (c.journal.ensures.events i) (c.trace.ensures i) c.args.key)))
