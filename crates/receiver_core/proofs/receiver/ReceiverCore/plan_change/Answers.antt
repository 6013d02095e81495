use Rattle.txn_events.specs.Events.{body_of_event}
use Rattle.receiver_parts.specs.FileChange.{adds}
use Rattle.receiver_parts.specs.Steps.{IsWithEvent}
use Rattle.receiver_core.proofs.ChangeLemmas.{runs_filled, ready}
use Rattle.receiver_core.proofs.PlanLemmas.{small_now, is_plan_if}
use Rattle.receiver_core.proofs.receiver.ReceiverCore.plan_change.Goals as goal

pub response_to-requires-clause-filled : goal.response_to-requires-clause-filled
response_to-requires-clause-filled c =
    rw (c.deref-2.ensures, c.in_ok-step.ensures) (runs_filled c.args.self.now (body_of_event c.args.event.now) c.args.change c.requires.change)

pub response_to-requires-clause-ready : goal.response_to-requires-clause-ready
response_to-requires-clause-ready c =
    rw (c.deref.ensures, c.deref-2.ensures, c.in_ok-step.ensures)
    (ready c.args.self.now c.args.event.now (adds c.args.change) c.with_event-current.result c.args.change (rw c.adds.ensures at c.with_event-current.ensures) c.requires.change
    (small_now c.args.self.now c.args.event.now (adds c.args.change) c.with_event-current.result c.requires.taken (rw c.adds.ensures at c.with_event-current.ensures)))

pub plan_response-requires : goal.plan_response-requires
plan_response-requires c =
    rw c.in_ok-step.ensures
    (ready c.args.self.now c.args.event.now (adds c.args.change) c.with_event-current.result c.args.change (rw c.adds.ensures at c.with_event-current.ensures) c.requires.change
    (small_now c.args.self.now c.args.event.now (adds c.args.change) c.with_event-current.result c.requires.taken (rw c.adds.ensures at c.with_event-current.ensures)))

pub returns : goal.returns
returns c =
    let core = c.args.self.now in
    let with_event : IsWithEvent core.control c.args.event.now (adds c.args.change) c.with_event-current.result = rw c.adds.ensures at c.with_event-current.ensures in
    is_plan_if core c.args.event.now c.with_event-current.result c.in_ok-response.response c.args.change c.plan_response.result c.requires.taken with_event c.requires.change c.requires.room
    (rw (c.deref.ensures, c.deref-2.ensures, c.in_ok-step.ensures) at c.in_ok-response.ensures) (rw c.in_ok-step.ensures at c.plan_response.ensures)
