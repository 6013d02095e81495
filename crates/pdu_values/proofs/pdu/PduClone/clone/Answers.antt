use Rattle.std.proofs.Common.{◌∙◌, ap}
use Rattle.pdu_values.specs.declared.pdu.Body.{Body}
use Rattle.pdu_values.specs.Pdu.{PduValue}
use Rattle.pdu_values.proofs.pdu.PduClone.clone.Goals as goal

pub invariant_of-result : goal.invariant_of-result
invariant_of-result c = rw c.in_ok-body.ensures c.self.invariant

pub returns : goal.returns
returns c =
    let made : Body → PduValue = λ body. record { header = c.self.inside.header; body = body } in
    record { cases = ap made c.in_ok-body.ensures ∙ c.self.view_is }
