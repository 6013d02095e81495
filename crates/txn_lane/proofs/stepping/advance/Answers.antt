use Rattle.std.proofs.Common.{inl, inr, refl, subst, IsSome}
use Rattle.std.proofs.lemmas.Result.{err_from_is_err_and, IfOk-weaker, IfErr-weaker}
use Rattle.txn_events.specs.declared.event.Event.TheVariants.{On}
use Rattle.txn_lane.specs.Transactions.{plan_answer}
use Rattle.txn_lane.proofs.PlanFacts.{answered_planned}
use Rattle.txn_lane.proofs.CarryFacts.{on_err, goes_from, unmoved_as, still_going, both_ok, ok_always}
use Rattle.txn_lane.proofs.stepping.advance.Goals as goal

pub returns-in_err-step-clause-refused : goal.returns-in_err-step-clause-refused
returns-in_err-step-clause-refused g c log stood =
    let p = err_from_is_err_and c.from_residual.result c.from_residual.ensures.1 in
    rw (p.1, p.2) (inl (refl, c.in_err-step.ensures.refused log stood))

pub carry_out-requires-clause-may_commit : goal.carry_out-requires-clause-may_commit
carry_out-requires-clause-may_commit g c = record {
  planned = (On c.args.key c.args.what.now, c.in_ok-step.ensures.planned);
  goes = still_going c.args.running.now c.plan.new.self c.in_ok-step.ensures.same c.requires.goes;
}

pub carry_out-requires-clause-may_offer : goal.carry_out-requires-clause-may_offer
carry_out-requires-clause-may_offer g c =
    let goes = c.requires.goes in
    let accepted = answered_planned c.plan.new.self.core c.in_ok-step.step.plan goes.log (On c.args.key c.args.what.now)
    (c.in_ok-step.ensures.same.stands goes.log goes.stands) c.in_ok-step.ensures.planned.planned in
    rw c.in_ok-step.ensures.bundle (c.requires.may goes.log (plan_answer c.in_ok-step.step.plan) goes.stands accepted)

pub returns-clause-gone_on : goal.returns-clause-gone_on
returns-clause-gone_on g c =
    let event = On c.args.key c.args.what.now in
    let step = c.in_ok-step.step in
    let planned = c.in_ok-step.ensures.planned in
    let same = c.in_ok-step.ensures.same in
    IfOk-weaker c.carry_out.result _ _
    (λ done all. record {
      answer = plan_answer step.plan;
      advanced = record {
        answered = λ log stood. answered_planned c.plan.new.self.core step.plan log event (same.stands log stood) planned.planned;
        goes_on = goes_from c.args.running.now c.plan.new.self c.carry_out.new.running step.event event (plan_answer step.plan) same planned.event_is all.1.0;
      };
      done_by = all.0;
      offered = rw c.in_ok-step.ensures.bundle at all.1.1;
    })
    (both_ok c.carry_out.result _ _ c.carry_out.ensures.done
    (both_ok c.carry_out.result _ _ (ok_always c.carry_out.result _ c.carry_out.ensures.goes_on) (ok_always c.carry_out.result _ c.carry_out.ensures.offered)))

pub returns-clause-same : goal.returns-clause-same
returns-clause-same g c =
    on_err _ _ c.carry_out.result c.carry_out.ensures.full
    (λ why full. unmoved_as c.args.running.now c.plan.new.self c.carry_out.new.running c.in_ok-step.ensures.same full.same)

pub returns-clause-refused : goal.returns-clause-refused
returns-clause-refused g c log stood =
    let answer = plan_answer c.in_ok-step.step.plan in
    let accepted = answered_planned c.plan.new.self.core c.in_ok-step.step.plan log (On c.args.key c.args.what.now)
    (c.in_ok-step.ensures.same.stands log stood) c.in_ok-step.ensures.planned.planned in
    IfErr-weaker c.carry_out.result _ _
    (λ why full. inr (full.returned, full.full, (answer, accepted, subst IsSome c.in_ok-step.ensures.bundle full.some))) c.carry_out.ensures.full
