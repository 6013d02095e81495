use Rattle.std.proofs.Common.{sym, subst}
use Rattle.lane_table.specs.Logs.{extended}
use Rattle.txn_lane.specs.Transactions.{StandsAfter, IsPlanOf, plan_answer}
use Rattle.txn_lane.specs.declared.transaction.TransactionCore.TheVariants as core
use Rattle.txn_lane.specs.declared.transaction.TransactionPlan.TheVariants as plan
use Rattle.txn_lane.proofs.PlanFacts.{carried_sent, carried_received}
use Rattle.txn_lane.proofs.transaction.TransactionCore.commit.Goals.{in-Sender-Sender, in-Receiver-Receiver}
use Rattle.txn_lane.proofs.transaction.TransactionCore.commit.Goals as goal

pub returns-clause-stands : goal.returns-clause-stands
returns-clause-stands c event log planned stood = elim c.match-self.branch [
  | in-Sender-Sender w ↦
      let i = w.in-Sender-Sender in
      subst (λ s. StandsAfter s (extended log event (plan_answer c.args.plan))) (sym w.self-is)
      (subst (λ p. StandsAfter (core.Sender w.commit.new.self) (extended log event (plan_answer p))) (sym i.is-1)
      (carried_sent i.core w.commit.new.self i.plan w.into_inner.result event log w.into_inner.ensures w.commit.ensures.sending w.commit.ensures.stands
      (subst (λ s. IsPlanOf s (plan.Sender i.plan) event) i.is-0 (subst (λ p. IsPlanOf c.args.self.now p event) i.is-1 planned))
      (subst (λ s. StandsAfter s log) i.is-0 stood)))
  | in-Receiver-Receiver w ↦
      let i = w.in-Receiver-Receiver in
      let done = w.commit-in-Receiver-Receiver in
      subst (λ s. StandsAfter s (extended log event (plan_answer c.args.plan))) (sym w.self-is)
      (subst (λ p. StandsAfter (core.Receiver done.new.self) (extended log event (plan_answer p))) (sym i.is-1)
      (carried_received i.core done.new.self i.plan event log done.ensures.reception done.ensures.stands
      (subst (λ s. IsPlanOf s (plan.Receiver i.plan) event) i.is-0 (subst (λ p. IsPlanOf c.args.self.now p event) i.is-1 planned))
      (subst (λ s. StandsAfter s log) i.is-0 stood)))
]
