use Rattle.cfdp_types.specs.declared.limits.TheConstants.{FILE_OCTETS}
use Rattle.std.proofs.Common.{◌≡◌, ◌<◌, ◌≤◌, length, sym, ap, ◌∙◌, inl, inr, refl, rules}
use Rattle.std.proofs.lemmas.Result.{err_from_is_err_and}
use Rattle.cfdp_types.specs.Put.{PutValue}
use Rattle.sender_core.specs.Core.{sending_by}
use Rattle.sender_core.specs.Remaining.{to_send}
use Rattle.sender_core.proofs.OpenLemmas.{opens, next_is, put_plan, put_refused, put_taken}
use Rattle.sender_core.proofs.sender.SenderCore.open.Goals as goal

pub returns-then-size-clause-refused : goal.returns-then-size-clause-refused
returns-then-size-clause-refused c =
    let large : FILE_OCTETS < length c.args.request.now.file = rw (c.as_slice-size.ensures, c.file.ensures) at c.if-size.true in
    inl (put_refused _ _ large)

pub returns-in_err-remaining-clause-refused : goal.returns-in_err-remaining-clause-refused
returns-in_err-remaining-clause-refused c =
    let p = err_from_is_err_and c.from_residual.result c.from_residual.ensures.1 in
    let small : length c.args.request.now.file ≤ FILE_OCTETS = rw (c.as_slice-size.ensures, c.file.ensures) at c.if-size.false in
    rw p.1 (inr (p.2, put_taken _ _ small))

pub returns-in_err-push-clause-refused : goal.returns-in_err-push-clause-refused
returns-in_err-push-clause-refused c =
    let p = err_from_is_err_and c.from_residual-in_err-push.result c.from_residual-in_err-push.ensures.1 in
    let small : length c.args.request.now.file ≤ FILE_OCTETS = rw (c.as_slice-size.ensures, c.file.ensures) at c.if-size.false in
    rw p.1 (inr (p.2, put_taken _ _ small))

pub returns-in_err-request-clause-refused : goal.returns-in_err-request-clause-refused
returns-in_err-request-clause-refused c =
    let p = err_from_is_err_and c.from_residual-in_err-request.result c.from_residual-in_err-request.ensures.1 in
    let small : length c.args.request.now.file ≤ FILE_OCTETS = rw (c.as_slice-size.ensures, c.file.ensures) at c.if-size.false in
    rw p.1 (inr (p.2, put_taken _ _ small))

pub returns-clause-stands : goal.returns-clause-stands
returns-clause-stands c =
    let size : length c.as_slice-size.result.now ≡ length c.in_ok-request.request.file =
    ap length (c.as_slice-size.ensures ∙ c.file.ensures ∙ ap (λ (r : PutValue). r.file) (sym c.in_ok-request.ensures)) in
    opens (sending_by c.args.key c.args.params c.in_ok-request.request) c.first-first.result (to_send c.in_ok-remaining.remaining) (length c.as_slice-size.result.now)
    c.first-first.ensures c.in_ok-remaining.ensures size

pub returns-clause-planned : goal.returns-clause-planned
returns-clause-planned c =
    put_plan _ _ c.first-first.ensures (next_is c.first-first.result c.first-first.ensures) refl (search rules) c.new.ensures c.new-2.ensures refl
