use Rattle.std.proofs.Common.{inr, subst}
use Rattle.std.proofs.lemmas.Result.{err_from_is_err_and}
use Rattle.txn_lane.specs.Transactions.{StandsAfter}
use Rattle.txn_lane.proofs.PlanFacts.{refused_sent, refused_received, same_received, planned_sent}
use Rattle.txn_lane.proofs.transaction.TransactionCore.plan.Goals as goal

pub returns-in_err-plan-in-Sender-clause-refused : goal.returns-in_err-plan-in-Sender-clause-refused
returns-in_err-plan-in-Sender-clause-refused c key log stood =
    let p = err_from_is_err_and c.from_residual.result c.from_residual.ensures.1 in
    rw (p.1, p.2) (refused_sent c.in-Sender.core log key c.args.what.now c.in_err-plan-in-Sender.field-0.0 c.in_err-plan-in-Sender.ensures.refused
    (subst (λ s. StandsAfter s log) c.in-Sender.is stood))

pub returns-in_err-plan-in-Receiver-clause-same : goal.returns-in_err-plan-in-Receiver-clause-same
returns-in_err-plan-in-Receiver-clause-same c log stood =
    same_received c.in-Receiver.core c.plan-in-Receiver.new.self log c.in_err-plan-in-Receiver.ensures.same c.in_err-plan-in-Receiver.ensures.reception
    (subst (λ s. StandsAfter s log) c.in-Receiver.is stood)

pub returns-in_err-plan-in-Receiver-clause-refused : goal.returns-in_err-plan-in-Receiver-clause-refused
returns-in_err-plan-in-Receiver-clause-refused c key log stood =
    let p = err_from_is_err_and c.from_residual-in_err-plan-in-Receiver.result c.from_residual-in_err-plan-in-Receiver.ensures.1 in
    rw (p.1, p.2) (refused_received c.in-Receiver.core log key c.args.what.now c.in_err-plan-in-Receiver.field-0.0 c.in_err-plan-in-Receiver.ensures.refused
    (subst (λ s. StandsAfter s log) c.in-Receiver.is stood))

pub returns-in_err-new-in-Sender-clause-refused : goal.returns-in_err-new-in-Sender-clause-refused
returns-in_err-new-in-Sender-clause-refused c key log stood =
    let p = err_from_is_err_and c.from_residual-in_err-new-in-Sender.result c.from_residual-in_err-new-in-Sender.ensures.1 in
    let planned = c.in_ok-plan-in-Sender.ensures.planned in
    rw p.1 (inr (
      p.2,
      planned_sent c.in-Sender.core c.in_ok-plan-in-Sender.plan log key c.args.what.now planned
          (subst (λ s. StandsAfter s log) c.in-Sender.is stood),
    ))

pub returns-in_ok-plan-in-Receiver-clause-same : goal.returns-in_ok-plan-in-Receiver-clause-same
returns-in_ok-plan-in-Receiver-clause-same c log stood =
    same_received c.in-Receiver.core c.plan-in-Receiver.new.self log c.in_ok-plan-in-Receiver.ensures.same c.in_ok-plan-in-Receiver.ensures.reception
    (subst (λ s. StandsAfter s log) c.in-Receiver.is stood)
