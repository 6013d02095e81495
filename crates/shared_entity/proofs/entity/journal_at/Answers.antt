use Rattle.std.proofs.Common.{◌≡◌, ◌∙◌, Ok, inl, inr, refl, sym, subst}
use Rattle.txn_events.specs.Logs.{IsWhy}
use Rattle.lane_table.specs.Lane.{State}
use Rattle.lane_traces.specs.Traces.{events_by, events_of}
use Rattle.lane_traces.proofs.TraceFacts.{given_of_last}
use Rattle.shared_entity.specs.Answering.{IsAt}
use Rattle.shared_entity.proofs.ReadFacts.{read_elsewhere, read_there, refused_there}
use Rattle.shared_entity.proofs.entity.journal_at.Goals as goal

pub returns-in-Ok-clause-given : goal.returns-in-Ok-clause-given
returns-in-Ok-clause-given g c =
    let there : IsAt g.N.Names.queue c.args.place c.args.held.now = c.if-not-is_at.ensures.there refl in
    let given : events_of c.args.held.now.lane c.args.key ≡ Ok c.in-Ok.events.items =
    (λ i. events_by (sym c.key.ensures i) (sym c.journal.ensures.events i) c.args.key) ∙ c.in-Ok.ensures.events in
    let its = given_of_last _ _ c.args.key c.in-Ok.events.items given in
    record { held = c.args.held.now; there = there; key_is = its.0; is_given = its.1 }

pub returns-in-Ok-clause-exact : goal.returns-in-Ok-clause-exact
returns-in-Ok-clause-exact g c =
    sym (read_there c.args.place (λ (lane : State). events_of lane c.args.key) c.args.held.now (Ok c.in-Ok.events.items) (sym c.if-not-is_at.ensures.exact)
    ((λ i. events_by (sym c.key.ensures i) (sym c.journal.ensures.events i) c.args.key) ∙ c.in-Ok.ensures.events))

pub returns-in-Err-clause-refused : goal.returns-in-Err-clause-refused
returns-in-Err-clause-refused g c =
    let there : IsAt g.N.Names.queue c.args.place c.args.held.now = c.if-not-is_at.ensures.there refl in
    let why : IsWhy (events_of c.args.held.now.lane c.args.key) c.in-Err.why =
    subst (λ due. IsWhy due c.in-Err.why) (λ i. events_by (c.key.ensures i) (c.journal.ensures.events i) c.args.key) c.in-Err.ensures.refused in
    inr (record { held = c.args.held.now; there = there; refused = c.in-Err.why; is_refused = refl; is_why = why })

pub returns-in-Err-clause-due : goal.returns-in-Err-clause-due
returns-in-Err-clause-due g c =
    let why : IsWhy (events_of c.args.held.now.lane c.args.key) c.in-Err.why =
    subst (λ due. IsWhy due c.in-Err.why) (λ i. events_by (c.key.ensures i) (c.journal.ensures.events i) c.args.key) c.in-Err.ensures.refused in
    refused_there c.args.place (λ (lane : State). events_of lane c.args.key) c.args.held.now c.in-Err.why
    (sym c.if-not-is_at.ensures.exact) why

pub returns-then-not-is_at-clause-due : goal.returns-then-not-is_at-clause-due
returns-then-not-is_at-clause-due g c =
    inl (read_elsewhere c.args.place (λ (lane : State). events_of lane c.args.key) c.args.held.now (sym c.if-not-is_at.ensures.exact))
