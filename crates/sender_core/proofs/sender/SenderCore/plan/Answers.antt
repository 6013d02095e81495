use Rattle.sender_table.specs.Sending.{happens, state_of}
use Rattle.sender_table.specs.Answers.{answer_at}
use Rattle.txn_events.proofs.AnswerLemmas.{accepted_over, refused_over}
use Rattle.sender_core.specs.Core.{shown, sending_of, plan_answer, IsPlanOf}
use Rattle.sender_core.proofs.sender.SenderCore.plan.Goals as goal

pub returns-clause-accepted : goal.returns-clause-accepted
returns-clause-accepted c log stood =
    let core = c.args.self.now in
    accepted_over (state_of (sending_of core)) (shown core) (λ state. answer_at (sending_of core) state (happens c.args.event.now)) plan_answer
    (λ plan. IsPlanOf core plan (happens c.args.event.now)) (λ plan is. is.answered.accepted) c.plan_now.result log stood c.plan_now.ensures.planned

pub returns-clause-refused : goal.returns-clause-refused
returns-clause-refused c log stood =
    let core = c.args.self.now in
    refused_over (state_of (sending_of core)) (shown core) (λ state. answer_at (sending_of core) state (happens c.args.event.now)) c.plan_now.result log stood c.plan_now.ensures.refused
