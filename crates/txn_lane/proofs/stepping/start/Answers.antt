use Rattle.std.proofs.Common.{inr, subst, IsSome}
use Rattle.std.proofs.lemmas.Result.{err_from_is_err_and}
use Rattle.lane_table.specs.Logs.{opened_by, extended}
use Rattle.txn_lane.specs.Transactions.{StandsAfter, plan_answer}
use Rattle.txn_lane.proofs.CarryFacts.{first_planned, first_goes, first_stands}
use Rattle.txn_lane.proofs.stepping.start.Goals as goal

pub carry_out-requires-clause-may_commit : goal.carry_out-requires-clause-may_commit
carry_out-requires-clause-may_commit g c =
    let opened = c.in_ok-running.ensures.opened in
    record {
      planned = (c.args.event.now, opened.planned);
      goes = first_goes c.in_ok-running.running (opened_by c.args.side.now c.args.key c.args.event.now) opened.stands;
    }

pub carry_out-requires-clause-may_offer : goal.carry_out-requires-clause-may_offer
carry_out-requires-clause-may_offer g c =
    let opened = c.in_ok-running.ensures.opened in
    let accepted = first_planned c.in_ok-running.running.core c.in_ok-running.step.plan (opened_by c.args.side.now c.args.key c.args.event.now) c.args.event.now opened.stands opened.planned.planned in
    rw c.in_ok-running.ensures.bundle (c.requires.may (plan_answer c.in_ok-running.step.plan) accepted)

pub returns-in_err-done-clause-refused : goal.returns-in_err-done-clause-refused
returns-in_err-done-clause-refused g c =
    let opened = c.in_ok-running.ensures.opened in
    let accepted = first_planned c.in_ok-running.running.core c.in_ok-running.step.plan (opened_by c.args.side.now c.args.key c.args.event.now) c.args.event.now opened.stands opened.planned.planned in
    let p = err_from_is_err_and c.from_residual-in_err-done.result c.from_residual-in_err-done.ensures.1 in
    let full = c.in_err-done.ensures.full in
    rw (p.1, p.2) (inr (full.returned, full.full, (plan_answer c.in_ok-running.step.plan, accepted, subst IsSome c.in_ok-running.ensures.bundle full.some)))

pub returns-clause-begun : goal.returns-clause-begun
returns-clause-begun g c =
    let opened = c.in_ok-running.ensures.opened in
    let answer = plan_answer c.in_ok-running.step.plan in
    let goes = c.in_ok-done.ensures.goes_on in
    let next = c.carry_out.new.running.core in
    let first = opened_by c.args.side.now c.args.key c.args.event.now in
    record {
      answer = answer;
      started = record {
        answered = first_planned c.in_ok-running.running.core c.in_ok-running.step.plan first c.args.event.now opened.stands opened.planned.planned;
        stands =
            first_stands next first c.args.event.now answer c.in_ok-running.running.core opened.stands
            (λ log stood. subst (λ e. StandsAfter next (extended log e answer)) opened.planned.event_is (goes.stands log stood));
        journal = rw (opened.journal, opened.planned.event_is) at goes.journal;
        trace = rw opened.trace at goes.trace;
      };
      done_by = c.in_ok-done.ensures.done;
      offered = rw c.in_ok-running.ensures.bundle at c.in_ok-done.ensures.offered;
    }
