use Rattle.std.proofs.Common.{◌≡◌, None, sym, ◌∙◌, inl, inr, rules}
use Rattle.std.proofs.lemmas.Result.{err_from_is_err_and}
use Rattle.receiver_table.specs.Refusals.{refusal_at}
use Rattle.txn_events.specs.Events.{body_of_event}
use Rattle.receiver_core.proofs.ChangeLemmas.{change_still}
use Rattle.receiver_core.specs.Core.{shown, reception_of}
use Rattle.receiver_core.proofs.PlanLemmas.{refused_is, answered_is}
use Rattle.receiver_core.proofs.receiver.ReceiverCore.plan_now.Goals as goal

pub returns-in-Some-clause-refused : goal.returns-in-Some-clause-refused
returns-in-Some-clause-refused c = inl (refused_is _ _ _ _ (sym c.refusal_of.ensures ∙ c.in-Some.is))

pub returns-in_err-change-clause-refused : goal.returns-in_err-change-clause-refused
returns-in_err-change-clause-refused c =
    let p = err_from_is_err_and c.from_residual.result c.from_residual.ensures.1 in
    let taken : refusal_at (reception_of c.args.self.now) (shown c.args.self.now) c.args.event.now ≡ None = sym c.refusal_of.ensures ∙ search rules in
    rw p.1 (inr (p.2, answered_is _ _ _ taken))

pub returns-in_err-prepare-clause-refused : goal.returns-in_err-prepare-clause-refused
returns-in_err-prepare-clause-refused c =
    let p = err_from_is_err_and c.from_residual-in_err-prepare.result c.from_residual-in_err-prepare.ensures.1 in
    let taken : refusal_at (reception_of c.args.self.now) (shown c.args.self.now) c.args.event.now ≡ None = sym c.refusal_of.ensures ∙ search rules in
    rw p.1 (inr (p.2, answered_is _ _ _ taken))

pub returns-in_err-plan-clause-refused : goal.returns-in_err-plan-clause-refused
returns-in_err-plan-clause-refused c =
    let p = err_from_is_err_and c.from_residual-in_err-plan.result c.from_residual-in_err-plan.ensures.1 in
    let taken : refusal_at (reception_of c.args.self.now) (shown c.args.self.now) c.args.event.now ≡ None = sym c.refusal_of.ensures ∙ search rules in
    rw p.1 (inr (p.2, answered_is _ _ _ taken))

pub plan_change-requires-clause-change : goal.plan_change-requires-clause-change
plan_change-requires-clause-change c =
    let is = change_still c.args.self.now c.prepare.new.self (body_of_event c.args.event.now) c.in_ok-change.change c.prepare.ensures.same c.in_ok-change.ensures in
    record {
      metadata = is.metadata;
      received = is.received;
      fits = is.fits;
      runs = is.runs;
      more = is.more;
    }
