use Rattle.std.proofs.Common.{◌≡◌, false, [], sym, ap, ◌∙◌, inl, inr, true}
use Rattle.std.proofs.lemmas.Result.{err_from_is_err_and}
use Rattle.receiver_table.specs.Reception.{State, initial, state_of}
use Rattle.receiver_table.specs.Refusals.{is_body_too_large}
use Rattle.receiver_core.specs.Core.{reception_by}
use Rattle.receiver_core.proofs.FirstLemmas.{first_refused, first_taken}
use Rattle.receiver_core.proofs.receiver.ReceiverCore.open.Goals as goal

pub returns-then-is_body_too_large-clause-refused : goal.returns-then-is_body_too_large-clause-refused
returns-then-is_body_too_large-clause-refused c =
    let large : is_body_too_large c.args.pdu.now.body ≡ true = rw c.body.ensures at (sym c.is_body_too_large.ensures ∙ c.if-is_body_too_large.true) in
    inl (first_refused c.args.key c.args.params c.args.pdu.now c.requires.opens.body large)

pub returns-in_err-clone-clause-refused : goal.returns-in_err-clone-clause-refused
returns-in_err-clone-clause-refused c =
    let p = err_from_is_err_and c.from_residual.result c.from_residual.ensures.1 in
    let small : is_body_too_large c.args.pdu.now.body ≡ false = rw c.body.ensures at (sym c.is_body_too_large.ensures ∙ c.if-is_body_too_large.false) in
    rw p.1 (inr (p.2, first_taken c.args.key c.args.params c.args.pdu.now c.requires.opens.body small))

pub returns-in_err-plan-clause-refused : goal.returns-in_err-plan-clause-refused
unfolding state_of
returns-in_err-plan-clause-refused c =
    let p = err_from_is_err_and c.from_residual-in_err-plan.result c.from_residual-in_err-plan.ensures.1 in
    rw (p.1, p.2) (rw (c.empty-core.ensures.reception, c.parts.ensures.header, c.in_ok-clone.ensures.cases) at (c.in_err-plan.ensures.refused [] c.empty-core.ensures.stands))

pub returns-clause-opened : goal.returns-clause-opened
unfolding state_of initial
returns-clause-opened c = record {
  reception = c.plan.ensures.reception ∙ c.empty-core.ensures.reception ∙ ap (λ h. reception_by c.args.key c.args.params h) c.parts.ensures.header;
  stands = c.plan.ensures.same ∙ c.empty-core.ensures.stands;
  runs = ap (λ (s : State). s.ended) (c.plan.ensures.same ∙ c.empty-core.ensures.stands);
  planned = rw c.in_ok-clone.ensures.cases at c.in_ok-plan.ensures.planned;
}
