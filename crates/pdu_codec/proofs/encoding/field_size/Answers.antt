use Rattle.pdu_codec.proofs.WriteLaws.{nak_length, eof_length, metadata_length, keep_alive_length, file_data_length}
use Rattle.pdu_codec.proofs.encoding.field_size.Goals as goal

pub returns-in-Nak : goal.returns-in-Nak
returns-in-Nak c = rw (c.in-Nak.is, c.from-wide.ensures, c.as_slice-in-Nak.ensures.value) (nak_length c.args.width c.args.entity_octets c.in-Nak.nak)

pub returns-in-KeepAlive : goal.returns-in-KeepAlive
returns-in-KeepAlive c = rw (c.in-KeepAlive.is, c.from-wide.ensures) (keep_alive_length c.args.width c.args.entity_octets _)

pub returns-in-Eof : goal.returns-in-Eof
returns-in-Eof c = rw (c.in-Eof.is, c.from-wide.ensures, c.location_size.ensures.value) (eof_length c.args.width c.args.entity_octets c.in-Eof.eof)

pub returns-in-Metadata : goal.returns-in-Metadata
returns-in-Metadata c =
    rw (c.in-Metadata.is, c.from-wide.ensures, c.as_slice.ensures, c.as_slice-in-Metadata.ensures, c.messages_size.ensures, c.get-metadata.ensures)
    (metadata_length c.args.width c.args.entity_octets c.in-Metadata.metadata)

pub returns-in-FileData : goal.returns-in-FileData
returns-in-FileData c = rw (c.in-FileData.is, c.from-wide.ensures, c.as_slice-in-FileData.ensures) (file_data_length c.args.width c.args.entity_octets c.in-FileData.segment)
