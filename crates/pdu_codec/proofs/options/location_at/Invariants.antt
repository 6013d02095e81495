use Rattle.std.proofs.Common.{◌≡◌, length}
use Rattle.std.specs.Option.{option_map}
use Rattle.pdu_reading.specs.Items.{items_to_end}
use Rattle.pdu_values.specs.Tlvs.{location_in}
use Rattle.pdu_reading.specs.Reading.{location_tlv_at}
use Rattle.cfdp_types.specs.Steps.{older_or}
use Rattle.pdu_codec.proofs.options.location_at.Given as goal

abbrev pub invariant-loop-rest : goal.invariant-loop-rest
invariant-loop-rest l =
    option_map (λ tlvs. older_or l.location (location_in tlvs)) (items_to_end location_tlv_at l.rest)
    ≡ option_map location_in (items_to_end location_tlv_at l.octets)

abbrev pub decreases-loop-rest : goal.decreases-loop-rest
decreases-loop-rest l = length l.rest
