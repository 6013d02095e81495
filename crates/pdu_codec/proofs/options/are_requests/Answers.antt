use Rattle.std.proofs.Common.{sym, ap, ◌∙◌, is_some}
use Rattle.pdu_reading.specs.Reading.{request_at}
use Rattle.pdu_codec.proofs.FieldLaws.{request_shortens}
use Rattle.pdu_laws.proofs.ItemLaws.{items_to_end-none}
use Rattle.pdu_codec.proofs.ItemLaws.{still_some, is_more, none_left}
use Rattle.pdu_codec.proofs.options.are_requests.Goals as goal

pub returns-in_default : goal.returns-in_default
returns-in_default c =
    sym (ap is_some (items_to_end-none (request_at c.args.width) c.loop-rest.rest.now (is_more c.loop-rest.rest.now c.loop-rest-test.ensures) c.in_default.ensures.value)) ∙ c.loop-rest.invariant

pub loop-rest-preserved : goal.loop-rest-preserved
loop-rest-preserved c = still_some (request_at c.args.width) (request_shortens c.args.width c.requires.least) c.loop-rest.rest.now c.in-Some.behind.now _ _ c.in-Some.ensures.value c.loop-rest.invariant

pub returns : goal.returns
returns c = sym (ap is_some (none_left (request_at c.args.width) c.loop-rest.rest.now c.loop-rest-test.ensures)) ∙ c.loop-rest.invariant
