use Rattle.std.proofs.Common.{inr}
use Rattle.std.proofs.lemmas.Result.{err_from_is_err_and}
use Rattle.lane_table.specs.Logs.{opened_by, first_answer}
use Rattle.txn_lane.specs.Transactions.{plan_answer}
use Rattle.txn_lane.proofs.CarryFacts.{is_ok_of, first_planned}
use Rattle.txn_lane.proofs.running.Running.open.Goals as goal

pub returns-in_err-copies-clause-refused : goal.returns-in_err-copies-clause-refused
returns-in_err-copies-clause-refused c =
    let p = err_from_is_err_and c.from_residual-in_err-copies.result c.from_residual-in_err-copies.ensures.1 in
    let opened = c.in_ok-core.ensures.opened in
    rw p.1 (inr (
      p.2,
      is_ok_of (first_answer (opened_by c.args.side.now c.args.key c.args.event.now) c.args.event.now) (plan_answer c.in_ok-core.plan)
          (first_planned c.in_ok-core.core c.in_ok-core.plan (opened_by c.args.side.now c.args.key c.args.event.now) c.args.event.now opened.stands opened.planned),
    ))
