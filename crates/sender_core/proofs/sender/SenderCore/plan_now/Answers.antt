use Rattle.std.proofs.Common.{◌≡◌, ◌≤◌, length, None, sym, ◌∙◌, inl, inr, rules, arith}
use Rattle.std.specs.Option.{option_to_list}
use Rattle.std.proofs.lemmas.Result.{err_from_is_err_and}
use Rattle.sender_table.specs.Sending.{extent_of}
use Rattle.sender_table.specs.Refusals.{refusal_of}
use Rattle.sender_core.specs.Core.{shown, sending_of}
use Rattle.sender_core.proofs.ResponseData.{extent_inside}
use Rattle.sender_core.proofs.PlanLemmas.{is_plan, refused_is, answered_is}
use Rattle.sender_core.proofs.sender.SenderCore.plan_now.Goals as goal

pub plan_response-requires : goal.plan_response-requires
plan_response-requires c =
    let core = c.args.self.now in
    rw c.in_ok-response.ensures.pdus (omega (arith, extent_inside (sending_of core) (shown core) c.args.event.now, core.small))

pub returns-in-Some-clause-refused : goal.returns-in-Some-clause-refused
returns-in-Some-clause-refused c = inl (refused_is _ _ _ _ (sym c.refusal_of.ensures ∙ c.in-Some.is))

pub returns-in_err-response-clause-refused : goal.returns-in_err-response-clause-refused
returns-in_err-response-clause-refused c =
    let p = err_from_is_err_and c.from_residual.result c.from_residual.ensures.1 in
    let taken : refusal_of (sending_of c.args.self.now) (shown c.args.self.now) c.args.event.now ≡ None = sym c.refusal_of.ensures ∙ search rules in
    rw p.1 (inr (p.2, answered_is _ _ _ taken))

pub returns-in_err-remainder-clause-refused : goal.returns-in_err-remainder-clause-refused
returns-in_err-remainder-clause-refused c =
    let p = err_from_is_err_and c.from_residual-in_err-remainder.result c.from_residual-in_err-remainder.ensures.1 in
    let taken : refusal_of (sending_of c.args.self.now) (shown c.args.self.now) c.args.event.now ≡ None = sym c.refusal_of.ensures ∙ search rules in
    rw p.1 (inr (p.2, answered_is _ _ _ taken))

pub returns-in_err-plan-clause-refused : goal.returns-in_err-plan-clause-refused
returns-in_err-plan-clause-refused c =
    let p = err_from_is_err_and c.from_residual-in_err-plan.result c.from_residual-in_err-plan.ensures.1 in
    let taken : refusal_of (sending_of c.args.self.now) (shown c.args.self.now) c.args.event.now ≡ None = sym c.refusal_of.ensures ∙ search rules in
    rw p.1 (inr (p.2, answered_is _ _ _ taken))

pub returns-clause-planned : goal.returns-clause-planned
returns-clause-planned c =
    let core = c.args.self.now in
    let event = c.args.event.now in
    let taken : refusal_of (sending_of core) (shown core) event ≡ None = sym c.refusal_of.ensures ∙ search rules in
    let inside : extent_of (option_to_list c.in_ok-response.response.pdu) ≤ length core.request.file = rw c.in_ok-response.ensures.pdus (extent_inside (sending_of core) (shown core) event) in
    is_plan core event c.in_ok-response.response c.in_ok-remainder.remainder c.in_ok-plan.plan taken c.in_ok-response.ensures c.in_ok-plan.ensures c.in_ok-remainder.ensures inside
