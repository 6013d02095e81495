use Rattle.pdu_laws.proofs.ReadingLaws.{written_is_spelled, written_is_read}
use Rattle.pdu_codec.proofs.laws.round_trip.Goals as goal

pub returns : goal.returns
returns c pdu fits = (written_is_spelled pdu fits, written_is_read pdu fits)
