use Rattle.std.proofs.Common.{refl, sym}
use Rattle.pdu_reading.specs.Reading.{metadata_at, tlv_at}
use Rattle.pdu_laws.proofs.FieldLaws.{tlv_behind}
use Rattle.pdu_codec.proofs.ItemLaws.{all_read}
use Rattle.pdu_codec.proofs.parts.metadata_at.Goals as goal

pub returns : goal.returns
unfolding metadata_at
returns c =
    let options = all_read tlv_at tlv_behind c.in_ok-destination_name.options.now (sym c.if-not-are_options.ensures) in
    let size = rw (c.from.ensures, c.size_octets-width.ensures.value) at c.in_ok-size.ensures.value in
    rw (c.in_ok-flags.ensures.value, size, c.in_ok-source_name.ensures.value, c.in_ok-destination_name.ensures.value, options) refl
