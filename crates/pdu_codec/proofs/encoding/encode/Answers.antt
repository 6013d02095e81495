use Rattle.pdu_codec.proofs.WriteLaws.{room_for_pdu, encoded}
use Rattle.pdu_codec.proofs.encoding.encode.Goals as goal

pub put_pdu-requires-clause-room : goal.put_pdu-requires-clause-room
put_pdu-requires-clause-room c =
    room_for_pdu c.reserve.new.self c.field_size-size.result c.header_size.result c.field_size-size.result c.parts.result.0.now c.parts.result.1.now c.header_size.ensures.value (rw c.size_octets.ensures.value at c.field_size-size.ensures)
    c.in_ok-reserve.ensures.ok

pub returns-clause-ok : goal.returns-clause-ok
returns-clause-ok c =
    encoded c.args.out.now c.reserve.new.self c.put_pdu.new.out c.args.pdu.now c.parts.result.0.now c.parts.result.1.now c.field_size-size.result
    c.parts.ensures.header c.parts.ensures.body (rw c.size_octets.ensures.value at c.field_size-size.ensures) c.in_ok-reserve.ensures.items c.put_pdu.ensures
