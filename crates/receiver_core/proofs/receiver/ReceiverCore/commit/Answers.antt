use Rattle.std.proofs.Common.{ap, ◌∙◌}
use Rattle.receiver_table.specs.Reception.{step, state_of}
use Rattle.receiver_parts.specs.ReceivedFile.{received_of}
use Rattle.receiver_core.specs.Core.{plan_answer}
use Rattle.receiver_core.proofs.ChangeLemmas.{committed, reached_after}
use Rattle.receiver_core.proofs.receiver.ReceiverCore.commit.Goals as goal

pub returns-clause-stands : goal.returns-clause-stands
unfolding state_of
returns-clause-stands c event log planned stood =
    rw c.deref_mut-held.ensures.value
    (committed c.args.self.now c.args.plan event c.apply.new.metadata (received_of c.apply.new.file)
    (rw (c.replace-change.ensures.value, c.deref_mut-held.ensures.value) at c.apply.ensures.metadata) (rw (c.replace-change.ensures.value, c.deref_mut-held.ensures.value) at c.apply.ensures.received) planned
    ∙ ap (λ s. step s (record { event = event; answer = plan_answer c.args.plan })) stood)

pub invariant_of-self-clause-reached : goal.invariant_of-self-clause-reached
invariant_of-self-clause-reached c =
    rw c.deref_mut-held.ensures.value
    (reached_after c.args.self.now c.args.plan c.requires.planned.0 c.apply.new.file c.requires.planned.1
    (rw (c.replace-change.ensures.value, c.deref_mut-held.ensures.value) at c.apply.ensures.received))
