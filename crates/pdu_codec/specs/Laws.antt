-- Meaning. The laws of encoding and decoding.
use Rattle.std.specs.Prelude.{◌≡◌, Ok}
use Rattle.pdu_values.specs.Pdu.{PduValue}
use Rattle.pdu_values.specs.Spelling.{Fits, Spells, written}
use Rattle.pdu_reading.specs.Reading.{reading}

-- the written octets of a PDU spell it, and are read as that PDU
abbrev pub ReadsWhatIsWritten : Type 0
ReadsWhatIsWritten = (pdu : PduValue) → Fits pdu → Spells (written pdu) pdu × (reading (written pdu) ≡ Ok pdu)
