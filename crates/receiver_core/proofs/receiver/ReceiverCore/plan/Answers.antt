use Rattle.receiver_table.specs.Reception.{state_of}
use Rattle.receiver_table.specs.Answers.{answer_at}
use Rattle.txn_events.proofs.AnswerLemmas.{accepted_over, refused_over}
use Rattle.receiver_core.specs.Core.{shown, reception_of, plan_answer, IsPlanOf}
use Rattle.receiver_core.proofs.ChangeLemmas.{same_shown, plan_still, accepted_before}
use Rattle.receiver_core.proofs.receiver.ReceiverCore.plan.Goals as goal

pub returns-clause-same : goal.returns-clause-same
returns-clause-same c = same_shown c.args.self.now c.plan_now.new.self c.plan_now.ensures.same

pub returns-clause-others : goal.returns-clause-others
returns-clause-others c plan other is = plan_still c.args.self.now c.plan_now.new.self plan other c.plan_now.ensures.same is

pub returns-clause-accepted : goal.returns-clause-accepted
returns-clause-accepted c log stood =
    let old = c.args.self.now in
    accepted_over state_of (shown old) (λ state. answer_at (reception_of old) state c.args.event.now) plan_answer (λ plan. IsPlanOf c.plan_now.new.self plan c.args.event.now)
    (λ plan is. accepted_before old c.plan_now.new.self plan c.args.event.now c.plan_now.ensures.same is) c.plan_now.result log stood c.plan_now.ensures.planned

pub returns-clause-refused : goal.returns-clause-refused
returns-clause-refused c log stood =
    let old = c.args.self.now in
    refused_over state_of (shown old) (λ state. answer_at (reception_of old) state c.args.event.now) c.plan_now.result log stood c.plan_now.ensures.refused
