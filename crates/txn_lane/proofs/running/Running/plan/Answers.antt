use Rattle.std.proofs.Common.{inr}
use Rattle.std.proofs.lemmas.Result.{err_from_is_err_and}
use Rattle.txn_events.specs.declared.event.Event.TheVariants.{On}
use Rattle.lane_table.specs.Logs.{answered_behind}
use Rattle.txn_lane.specs.Transactions.{plan_answer}
use Rattle.txn_lane.proofs.PlanFacts.{answered_planned}
use Rattle.txn_lane.proofs.CarryFacts.{is_ok_of}
use Rattle.txn_lane.proofs.running.Running.plan.Goals as goal

pub returns-in_err-copies-clause-refused : goal.returns-in_err-copies-clause-refused
returns-in_err-copies-clause-refused c log stood =
    let p = err_from_is_err_and c.from_residual-in_err-copies.result c.from_residual-in_err-copies.ensures.1 in
    let event = On c.args.key c.args.what.now in
    rw p.1 (inr (
      p.2,
      is_ok_of (answered_behind log event) (plan_answer c.in_ok-plan.plan)
          (answered_planned c.plan.new.self c.in_ok-plan.plan log event (c.in_ok-plan.ensures.same log stood) (c.in_ok-plan.ensures.planned c.args.key)),
    ))
