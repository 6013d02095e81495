use Rattle.pdu_codec.proofs.WriteLaws.{location_length}
use Rattle.pdu_codec.proofs.encoding.location_size.Goals as goal

pub returns-in-Some-clause-value : goal.returns-in-Some-clause-value
returns-in-Some-clause-value c = rw c.from.ensures (location_length c.args.entity_octets c.in-Some.id.0 c.octets_for.result c.args.location c.in-Some.is c.octets_for.ensures.value)
