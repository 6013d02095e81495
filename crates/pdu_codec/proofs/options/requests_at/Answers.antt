use Rattle.pdu_codec.proofs.FieldLaws.{asked_step, asked_all}
use Rattle.pdu_codec.proofs.options.requests_at.Goals as goal

pub loop-request-preserved : goal.loop-request-preserved
loop-request-preserved c = rw c.in_ok-push.ensures.ok (asked_step c.args.width c.requires.least c.loop-request.requests c.loop-request.rest.now c.in-Some.behind.now _ _ c.in-Some.ensures.value c.loop-request.invariant)

pub returns : goal.returns
returns c = (asked_all c.args.width c.loop-request.requests c.loop-request.rest.now _ c.in_default.ensures.value c.loop-request.invariant)
