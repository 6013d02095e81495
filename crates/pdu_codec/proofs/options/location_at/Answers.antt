use Rattle.std.proofs.Common.{◌∙◌}
use Rattle.pdu_codec.proofs.ItemLaws.{is_more}
use Rattle.pdu_codec.proofs.FieldLaws.{located_step, located_none, located_all}
use Rattle.pdu_codec.proofs.options.location_at.Goals as goal

pub returns-in_err-tlv : goal.returns-in_err-tlv
returns-in_err-tlv c =
    c.from_residual.ensures ∙ located_none c.loop-rest.location c.loop-rest.rest.now _ (is_more c.loop-rest.rest.now c.loop-rest-test.ensures) c.in_err-tlv.ensures.value c.loop-rest.invariant

pub loop-rest-preserved : goal.loop-rest-preserved
loop-rest-preserved c =
    rw c.with_field-location.ensures (located_step c.loop-rest.location c.loop-rest.rest.now c.in_ok-tlv.behind.now _ _ c.in_ok-tlv.ensures.value c.loop-rest.invariant)

pub returns : goal.returns
returns c = located_all c.loop-rest.location c.loop-rest.rest.now _ c.loop-rest-test.ensures c.loop-rest.invariant
