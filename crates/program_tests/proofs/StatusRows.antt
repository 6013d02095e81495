-- Each kind of line of a status, octet for octet, as `docs/control-socket.md` has it.
use Rattle.std.proofs.Common.{◌≡◌, ◌++◌, ◌∷◌, [], ℕ, List, Bool, true, false, Option, Some, None, codes, refl}
use Rattle.std.specs.Borrow.{Bor}
use Rattle.std.specs.Char.{encode_utf8}
use Rattle.std.specs.Fmt.{digits, padded_integral, char_count}
use Rattle.std.specs.Str.{chars, is_utf8}
use Rattle.hex.specs.Hex.{encode_with}
use Rattle.json.specs.Print.{print_from, escape_byte}
use Rattle.cfdp_types.specs.declared.names.Class.TheVariants.{One, Two}
use Rattle.cfdp_types.specs.declared.names.Delivery.TheVariants.{Complete}
use Rattle.cfdp_types.specs.declared.names.FileStatus.TheVariants.{Retained}
use Rattle.indications.specs.declared.indication.Phase.TheVariants.{Storing}
use Rattle.indications.specs.declared.side.Side.TheVariants.{Receiver}
use Rattle.lane_table.specs.declared.glance.Glance.{Glance}
use Rattle.lane_table.specs.declared.glance.GlancedFile.{GlancedFile}
use Rattle.station_lines.specs.Members.{text_member, flag_member, number_member, hex_member, octets_member, moment_member, object_member, hexes_member, numbers_member}
use Rattle.station_lines.specs.Letters.{safe_text}
use Rattle.station_lines.specs.Shared.{first_octets}
use Rattle.station_lines.specs.StatusLines.{entity_line, log_line, note_line, parked_line, queued_line, reading_line, refusal_line, remote_line, transaction_line, user_line}
use Rattle.station_lines.specs.declared.members.RefusedCase.{RefusedCase}
use Rattle.station_lines.specs.declared.moment.Moment.{Moment}
use Rattle.station_lines.specs.declared.status.Ending.TheVariants.{Finished, Abandoned}
use Rattle.station_lines.specs.declared.status.Notice.TheVariants.{JournalFull, LastNumbers}
use Rattle.station_lines.specs.declared.status.ParkedStatus.{ParkedStatus}
use Rattle.station_lines.specs.declared.status.RemoteStatus.{RemoteStatus}
use Rattle.station_lines.specs.declared.status.TransactionStatus.{TransactionStatus}

-- noon of 26 November 2026
abbrev noon : Moment
noon = record { 0 = 1795694400000 }

-- a reference to a value
abbrev ref : {T : Type 0} → T → Bor T
ref value = record { ref_ptr = (0, 0); now = value }

-- ---- the entity, the log and a user

the_entity : entity_line (record {
  id = record { 0 = 2 };
  version = ref (codes "0.1");
  started = noon;
  now = record { 0 = 1795694405250 };
  workers = 4;
  clients = 2;
  events = 17;
  counters = record {
    datagrams_in = 12;
    octets_in = 9000;
    datagrams_out = 3;
    octets_out = 90;
    failed_sends = 5;
    failed_reads = 6;
    foreign_datagrams = 7;
    decode_faults = 8;
    refused = 9;
    stored = 10;
    failed_stores = 11;
    dropped_clients = 13;
  };
})
    ≡ codes "{\"kind\":\"entity\",\"id\":2,\"version\":\"0.1\",\"started\":\"2026-11-26T12:00:00.000Z\","
    ++ codes "\"now\":\"2026-11-26T12:00:05.250Z\",\"workers\":4,\"clients\":2,\"events\":17,"
    ++ codes "\"counters\":{\"datagrams_in\":12,\"octets_in\":9000,\"datagrams_out\":3,\"octets_out\":90,"
    ++ codes "\"failed_sends\":5,\"failed_reads\":6,\"foreign_datagrams\":7,\"decode_faults\":8,"
    ++ codes "\"refused\":9,\"stored\":10,\"failed_stores\":11,\"dropped_clients\":13}}\n"
unfolding digits padded_integral char_count encode_utf8 chars is_utf8 encode_with print_from escape_byte text_member flag_member number_member hex_member octets_member moment_member object_member hexes_member first_octets safe_text
the_entity = refl

a_log : log_line (record { failing = true; written = 17; lost = 2 })
    ≡ codes "{\"kind\":\"log\",\"failing\":true,\"written\":17,\"lost\":2}\n"
unfolding digits padded_integral char_count encode_utf8 chars is_utf8 encode_with print_from escape_byte text_member flag_member number_member hex_member octets_member moment_member object_member hexes_member first_octets safe_text
a_log = refl

a_user : user_line (record { name = ref (codes "o\"ps\\"); waiting = 3; capacity = 1024 })
    ≡ codes "{\"kind\":\"user\",\"name\":\"o\\\"ps\\\\\",\"waiting\":3,\"capacity\":1024}\n"
unfolding digits padded_integral char_count encode_utf8 chars is_utf8 encode_with print_from escape_byte text_member flag_member number_member hex_member octets_member moment_member object_member hexes_member first_octets safe_text
a_user = refl

-- ---- transactions

abbrev glance : Option GlancedFile → Bool → Glance
glance file has_ended = record {
  key = record { source = record { 0 = 1 }; seq = 9007199254740993 };
  end = Receiver;
  peer = record { 0 = 1 };
  class = Two;
  phase = Storing;
  progress = 3;
  has_ended = has_ended;
  entries = 17;
  file = file;
}

-- a file of that name
abbrev file : List ℕ → Option GlancedFile
file name = Some (record { size = 9; source_name = name; destination_name = codes "b.bin" })

abbrev transaction : Glance → TransactionStatus
transaction glance =
    record { glance = ref glance; user = ref (codes "ops"); lane = 3; last = None; ending = None; notice = None; missing = None }

abbrev head : List ℕ
head =
    codes "{\"kind\":\"transaction\",\"source\":1,\"seq\":9007199254740993,\"seq_text\":\"9007199254740993\","
    ++ codes "\"user\":\"ops\",\"lane\":3,\"role\":\"receiver\",\"peer\":1,\"class\":2,\"state\":\""

-- one whose file is not known
a_transaction : transaction_line (record (transaction (glance None false)) { notice = Some LastNumbers })
    ≡ head ++ codes "storing\",\"octets\":3,\"events\":17,\"notice\":\"last-numbers\"}\n"
unfolding digits padded_integral char_count encode_utf8 chars is_utf8 encode_with print_from escape_byte text_member flag_member number_member hex_member octets_member moment_member object_member hexes_member first_octets safe_text
a_transaction = refl

-- one that is counted
a_counted_transaction : transaction_line (record (transaction (glance None false)) { notice = Some LastNumbers; missing = Some 7 })
    ≡ head ++ codes "storing\",\"octets\":3,\"events\":17,\"notice\":\"last-numbers\",\"missing\":7}\n"
unfolding digits padded_integral char_count encode_utf8 chars is_utf8 encode_with print_from escape_byte text_member flag_member number_member hex_member octets_member moment_member object_member hexes_member first_octets safe_text
a_counted_transaction = refl

-- a name with control characters, a quote and a letter beyond ASCII
a_finished_transaction : transaction_line (record (transaction (glance (file (97 ∷ 10 ∷ 1 ∷ 34 ∷ 0x7F ∷ 0xC3 ∷ 0xA9 ∷ [])) true)) {
  last = Some noon;
  ending = Some (Finished 0 Complete Retained);
  notice = Some JournalFull;
})
    ≡ head ++ codes "ended\",\"file\":\"a\\n\\u0001\\\"\\u007f" ++ (0xC3 ∷ 0xA9 ∷ [])
    ++ codes "\",\"to\":\"b.bin\",\"size\":9,\"octets\":3,\"events\":17,\"last\":\"2026-11-26T12:00:00.000Z\","
    ++ codes "\"condition\":0,\"delivery\":\"complete\",\"status\":\"retained\",\"notice\":\"journal-full\"}\n"
unfolding digits padded_integral char_count encode_utf8 chars is_utf8 encode_with print_from escape_byte text_member flag_member number_member hex_member octets_member moment_member object_member hexes_member first_octets safe_text
a_finished_transaction = refl

-- a name that is no text
an_abandoned_transaction : transaction_line (record (transaction (glance (file (0xFF ∷ 0 ∷ [])) true)) { ending = Some (Abandoned 15) })
    ≡ head ++ codes "ended\",\"file_hex\":\"ff00\",\"to\":\"b.bin\",\"size\":9,\"octets\":3,\"events\":17,\"condition\":15}\n"
unfolding digits padded_integral char_count encode_utf8 chars is_utf8 encode_with print_from escape_byte text_member flag_member number_member hex_member octets_member moment_member object_member hexes_member first_octets safe_text
an_abandoned_transaction = refl

-- ---- the outbox

-- the end of a day
a_waiting_file : queued_line (record {
  number = 3;
  user = ref (codes "ops");
  class = One;
  destination = record { 0 = 7 };
  file = ref (0xFF ∷ 0 ∷ []);
  to = ref (codes "a b\"");
  since = record { 0 = 86399999 };
})
    ≡ codes "{\"kind\":\"queued\",\"number\":3,\"user\":\"ops\",\"class\":1,\"destination\":7,\"file_hex\":\"ff00\",\"to\":\"a b\\\"\","
    ++ codes "\"since\":\"1970-01-01T23:59:59.999Z\"}\n"
unfolding digits padded_integral char_count encode_utf8 chars is_utf8 encode_with print_from escape_byte text_member flag_member number_member hex_member octets_member moment_member object_member hexes_member first_octets safe_text
a_waiting_file = refl

-- the last moment
a_file_that_is_read : reading_line (record { file = ref (codes "c.bin"); since = record { 0 = 18446744073709551615 } })
    ≡ codes "{\"kind\":\"reading\",\"file\":\"c.bin\",\"since\":\"584556019-04-03T14:25:51.615Z\"}\n"
unfolding digits padded_integral char_count encode_utf8 chars is_utf8 encode_with print_from escape_byte text_member flag_member number_member hex_member octets_member moment_member object_member hexes_member first_octets safe_text
a_file_that_is_read = refl

-- ---- lanes for which datagrams wait

abbrev parked : ParkedStatus
parked = record {
  user = ref (codes "ops");
  lane = 3;
  datagrams = 12;
  transactions = 2;
  octets = 17000;
  dropped = 0;
  since = Some noon;
}

a_parked_lane : parked_line parked
    ≡ codes "{\"kind\":\"parked\",\"user\":\"ops\",\"lane\":3,\"datagrams\":12,\"transactions\":2,\"octets\":17000,\"dropped\":0,"
    ++ codes "\"since\":\"2026-11-26T12:00:00.000Z\"}\n"
unfolding digits padded_integral char_count encode_utf8 chars is_utf8 encode_with print_from escape_byte text_member flag_member number_member hex_member octets_member moment_member object_member hexes_member first_octets safe_text
a_parked_lane = refl

-- nothing waits any more
a_lane_that_dropped : parked_line (record parked { datagrams = 0; transactions = 0; octets = 0; dropped = 5; since = None })
    ≡ codes "{\"kind\":\"parked\",\"user\":\"ops\",\"lane\":3,\"datagrams\":0,\"transactions\":0,\"octets\":0,\"dropped\":5}\n"
unfolding digits padded_integral char_count encode_utf8 chars is_utf8 encode_with print_from escape_byte text_member flag_member number_member hex_member octets_member moment_member object_member hexes_member first_octets safe_text
a_lane_that_dropped = refl

-- ---- remote entities

abbrev remote : RemoteStatus
remote = record {
  id = record { 0 = 1 };
  address = None;
  held_since = Some noon;
  open_until = None;
  rate = None;
  datagrams_in = 1;
  octets_in = 9007199254740992;
  datagrams_out = 2;
  octets_out = 18;
  failed_sends = 3;
  heard = None;
}

a_held_remote : remote_line remote
    ≡ codes "{\"kind\":\"remote\",\"id\":1,\"held\":true,\"held_since\":\"2026-11-26T12:00:00.000Z\","
    ++ codes "\"datagrams_in\":1,\"octets_in\":9007199254740992,\"datagrams_out\":2,\"octets_out\":18,\"failed_sends\":3}\n"
unfolding digits padded_integral char_count encode_utf8 chars is_utf8 encode_with print_from escape_byte text_member flag_member number_member hex_member octets_member moment_member object_member hexes_member first_octets safe_text
a_held_remote = refl

a_heard_remote : remote_line (record remote { heard = Some (record { at = noon; silence = 250 }) })
    ≡ codes "{\"kind\":\"remote\",\"id\":1,\"held\":true,\"held_since\":\"2026-11-26T12:00:00.000Z\","
    ++ codes "\"datagrams_in\":1,\"octets_in\":9007199254740992,\"datagrams_out\":2,\"octets_out\":18,\"failed_sends\":3,"
    ++ codes "\"heard\":\"2026-11-26T12:00:00.000Z\",\"silence\":250}\n"
unfolding digits padded_integral char_count encode_utf8 chars is_utf8 encode_with print_from escape_byte text_member flag_member number_member hex_member octets_member moment_member object_member hexes_member first_octets safe_text
a_heard_remote = refl

a_remote : remote_line (record remote {
  id = record { 0 = 18446744073709551615 };
  address = Some (ref (codes "192.0.2.1:4556"));
  held_since = None;
  open_until = None;
  rate = Some 8000;
})
    ≡ codes "{\"kind\":\"remote\",\"id\":18446744073709551615,\"id_text\":\"18446744073709551615\","
    ++ codes "\"address\":\"192.0.2.1:4556\",\"held\":false,\"rate\":8000,\"datagrams_in\":1,\"octets_in\":9007199254740992,"
    ++ codes "\"datagrams_out\":2,\"octets_out\":18,\"failed_sends\":3}\n"
unfolding digits padded_integral char_count encode_utf8 chars is_utf8 encode_with print_from escape_byte text_member flag_member number_member hex_member octets_member moment_member object_member hexes_member first_octets safe_text
a_remote = refl

-- ---- refusals

abbrev case : RefusedCase
case = record { number = 8; name = ref (codes "WrongState"); fault = None; count = 1; datagram = None }

a_refused_command : refusal_line case noon None
    ≡ codes "{\"kind\":\"refusal\",\"number\":8,\"name\":\"WrongState\",\"count\":1,\"last\":\"2026-11-26T12:00:00.000Z\"}\n"
unfolding digits padded_integral char_count encode_utf8 chars is_utf8 encode_with print_from escape_byte text_member flag_member number_member hex_member octets_member moment_member object_member hexes_member first_octets safe_text
a_refused_command = refl

a_refused_datagram : refusal_line (record {
  number = 20;
  name = ref (codes "DecodeFault");
  fault = Some 3;
  count = 3;
  datagram = Some (record { from = ref (codes "192.0.2.1:4556"); octets = ref (0x24 ∷ 0 ∷ 0x0A ∷ []) });
}) noon None
    ≡ codes "{\"kind\":\"refusal\",\"number\":20,\"name\":\"DecodeFault\",\"fault\":3,\"count\":3,"
    ++ codes "\"last\":\"2026-11-26T12:00:00.000Z\",\"from\":\"192.0.2.1:4556\",\"octets\":\"24000a\"}\n"
unfolding digits padded_integral char_count encode_utf8 chars is_utf8 encode_with print_from escape_byte text_member flag_member number_member hex_member octets_member moment_member object_member hexes_member first_octets safe_text
a_refused_datagram = refl

-- ---- notes

a_note : note_line (record { remote = record { 0 = 7 }; sending_lanes = 6; receiving_lanes = 8; better = ref (1 ∷ 2 ∷ 4 ∷ 8 ∷ []) })
    ≡ codes "{\"kind\":\"note\",\"remote\":7,\"sending_lanes\":6,\"receiving_lanes\":8,\"better\":[1,2,4,8]}\n"
unfolding digits padded_integral char_count encode_utf8 chars is_utf8 encode_with print_from escape_byte text_member flag_member number_member hex_member octets_member moment_member object_member hexes_member numbers_member first_octets safe_text
a_note = refl

-- a long number, and nothing better
a_note_without_advice : note_line (record { remote = record { 0 = 18446744073709551615 }; sending_lanes = 6; receiving_lanes = 8; better = ref [] })
    ≡ codes "{\"kind\":\"note\",\"remote\":18446744073709551615,\"remote_text\":\"18446744073709551615\","
    ++ codes "\"sending_lanes\":6,\"receiving_lanes\":8,\"better\":[]}\n"
unfolding digits padded_integral char_count encode_utf8 chars is_utf8 encode_with print_from escape_byte text_member flag_member number_member hex_member octets_member moment_member object_member hexes_member numbers_member first_octets safe_text
a_note_without_advice = refl

-- what the datagram says of its PDU: a transaction and a kind, or that it is none
a_refused_pdu : refusal_line (record case { datagram = Some (record { from = ref (codes "a"); octets = ref (0x24 ∷ []) }) }) noon
    (Some (record { key = Some (record { source = record { 0 = 1 }; seq = 5 }); kind = ref (codes "EOF") }))
    ≡ codes "{\"kind\":\"refusal\",\"number\":8,\"name\":\"WrongState\",\"count\":1,\"last\":\"2026-11-26T12:00:00.000Z\","
    ++ codes "\"from\":\"a\",\"octets\":\"24\",\"source\":1,\"seq\":5,\"pdu\":\"EOF\"}\n"
unfolding digits padded_integral char_count encode_utf8 chars is_utf8 encode_with print_from escape_byte text_member flag_member number_member hex_member octets_member moment_member object_member hexes_member first_octets safe_text
a_refused_pdu = refl

no_pdu : refusal_line case noon (Some (record { key = None; kind = ref (codes "no PDU") }))
    ≡ codes "{\"kind\":\"refusal\",\"number\":8,\"name\":\"WrongState\",\"count\":1,\"last\":\"2026-11-26T12:00:00.000Z\","
    ++ codes "\"pdu\":\"no PDU\"}\n"
unfolding digits padded_integral char_count encode_utf8 chars is_utf8 encode_with print_from escape_byte text_member flag_member number_member hex_member octets_member moment_member object_member hexes_member first_octets safe_text
no_pdu = refl
