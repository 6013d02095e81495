use Rattle.std.proofs.Common.{sym, subst}
use Rattle.lane_table.specs.Logs.{extended}
use Rattle.txn_lane.specs.Transactions.{IsPlanOf, plan_answer}
use Rattle.txn_lane.proofs.running.Running.commit.Goals as goal

pub returns-clause-stands : goal.returns-clause-stands
returns-clause-stands c log stood =
    let planned = c.requires.planned.1 in
    c.settle-settled.ensures.stands (extended log c.args.step.event (plan_answer c.args.step.plan))
    (c.commit-inds.ensures.stands c.args.step.event log
    (subst (IsPlanOf c.args.self.now.core c.args.step.plan) (sym planned.event_is) planned.planned) stood)
