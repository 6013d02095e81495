use Rattle.pdu_values.specs.Numbers.{digits}
use Rattle.std.proofs.Common.{◌++◌}
use Rattle.pdu_codec.proofs.WriteLaws.{room_first, room_rest, writes_then, room_for_location, location_written}
use Rattle.pdu_codec.proofs.writing.put_location.Goals as goal

pub put_octet-requires-in-Some : goal.put_octet-requires-in-Some
put_octet-requires-in-Some c =
    let room = room_for_location c.args.out.now c.args.entity_octets c.in-Some.id.0 c.octets_for-width.result c.args.location c.in-Some.is c.octets_for-width.ensures.value c.requires.room in
    room_first c.put_octet.new.out (digits 1 c.octets_for-width.result) (digits c.octets_for-width.result c.in-Some.id.0) (room_rest c.args.out.now c.put_octet.new.out (digits 1 6) _ room c.put_octet.ensures)

pub put_number-requires-clause-room : goal.put_number-requires-clause-room
put_number-requires-clause-room c =
    let width = c.octets_for-width.result in
    let room = room_for_location c.args.out.now c.args.entity_octets c.in-Some.id.0 width c.args.location c.in-Some.is c.octets_for-width.ensures.value c.requires.room in
    room_rest c.put_octet.new.out c.put_octet-in-Some.new.out (digits 1 width) (digits width c.in-Some.id.0) (room_rest c.args.out.now c.put_octet.new.out (digits 1 6) _ room c.put_octet.ensures)
    c.put_octet-in-Some.ensures

pub returns-in-Some : goal.returns-in-Some
returns-in-Some c =
    let width = c.octets_for-width.result in
    location_written c.args.out.now c.put_number.new.out c.args.entity_octets c.in-Some.id.0 width c.args.location c.in-Some.is c.octets_for-width.ensures.value
    (writes_then c.args.out.now c.put_octet.new.out c.put_number.new.out (digits 1 6) (digits 1 width ++ digits width c.in-Some.id.0) c.put_octet.ensures
    (writes_then c.put_octet.new.out c.put_octet-in-Some.new.out c.put_number.new.out (digits 1 width) (digits width c.in-Some.id.0) c.put_octet-in-Some.ensures c.put_number.ensures))
