-- Each kind of line of an event, octet for octet, as `docs/control-socket.md` has it.
use Rattle.std.proofs.Common.{◌≡◌, ◌++◌, ◌∷◌, [], ℕ, List, true, false, Some, None, map, replicate, codes, refl}
use Rattle.std.specs.Borrow.{Bor}
use Rattle.std.specs.Char.{encode_utf8}
use Rattle.std.specs.Fmt.{digits, padded_integral, char_count}
use Rattle.std.specs.Str.{chars, is_utf8}
use Rattle.hex.specs.Hex.{encode_with}
use Rattle.json.specs.Print.{print_from, escape_byte}
use Rattle.cfdp_types.specs.declared.key.TxnKey.{TxnKey}
use Rattle.cfdp_types.specs.declared.names.Class.TheVariants.{One}
use Rattle.cfdp_types.specs.declared.names.Delivery.TheVariants.{Incomplete}
use Rattle.cfdp_types.specs.declared.names.FileStatus.TheVariants.{Unreported}
use Rattle.indications.specs.declared.indication.Indication.{Indication}
use Rattle.indications.specs.declared.indication.Indication.TheVariants as told
use Rattle.indications.specs.declared.indication.Phase.TheVariants.{Closing}
use Rattle.station_lines.specs.EventLines.{command_line, end_line, hold_line, indication_line, journal_full_line, put_line, refused_line, release_line, skipped_line, start_line, stored_line, unparked_line, unsent_line}
use Rattle.station_lines.specs.Members.{text_member, flag_member, number_member, hex_member, octets_member, moment_member, object_member, hexes_member}
use Rattle.station_lines.specs.Letters.{safe_text}
use Rattle.station_lines.specs.Shared.{first_octets}
use Rattle.station_lines.specs.declared.event.EventHead.{EventHead}
use Rattle.station_lines.specs.declared.event.PutEvent.{PutEvent}

-- an event at noon of 26 November 2026, with this number
abbrev event : ℕ → EventHead
event number = record { at = record { 0 = 1795694400000 }; number = number }

abbrev key : TxnKey
key = record { source = record { 0 = 1 }; seq = 41 }

-- a reference to a value
abbrev ref : {T : Type 0} → T → Bor T
ref value = record { ref_ptr = (0, 0); now = value }

-- ---- a server

a_start : start_line (event 1) (record { 0 = 2 }) (codes "0.1")
    ≡ codes "{\"at\":\"2026-11-26T12:00:00.000Z\",\"number\":1,\"kind\":\"start\",\"id\":2,\"version\":\"0.1\"}\n"
unfolding digits padded_integral char_count encode_utf8 chars is_utf8 encode_with print_from escape_byte text_member flag_member number_member hex_member octets_member moment_member object_member hexes_member first_octets safe_text
a_start = refl

an_end : end_line (event 5)
    ≡ codes "{\"at\":\"2026-11-26T12:00:00.000Z\",\"number\":5,\"kind\":\"end\"}\n"
unfolding digits padded_integral char_count encode_utf8 chars is_utf8 encode_with print_from escape_byte text_member flag_member number_member hex_member octets_member moment_member object_member hexes_member first_octets safe_text
an_end = refl

a_kept_file : stored_line (event 2) key true None
    ≡ codes "{\"at\":\"2026-11-26T12:00:00.000Z\",\"number\":2,\"kind\":\"stored\",\"source\":1,\"seq\":41,\"status\":\"retained\"}\n"
unfolding digits padded_integral char_count encode_utf8 chars is_utf8 encode_with print_from escape_byte text_member flag_member number_member hex_member octets_member moment_member object_member hexes_member first_octets safe_text
a_kept_file = refl

a_file_that_is_not_kept : stored_line (event 3) key false None
    ≡ codes "{\"at\":\"2026-11-26T12:00:00.000Z\",\"number\":3,\"kind\":\"stored\",\"source\":1,\"seq\":41,\"status\":\"rejected\"}\n"
unfolding digits padded_integral char_count encode_utf8 chars is_utf8 encode_with print_from escape_byte text_member flag_member number_member hex_member octets_member moment_member object_member hexes_member first_octets safe_text
a_file_that_is_not_kept = refl

a_file_with_another_name : stored_line (event 4) key true (Some (codes "a/b.1"))
    ≡ codes "{\"at\":\"2026-11-26T12:00:00.000Z\",\"number\":4,\"kind\":\"stored\",\"source\":1,\"seq\":41,\"status\":\"retained\",\"as\":\"a/b.1\"}\n"
unfolding digits padded_integral char_count encode_utf8 chars is_utf8 encode_with print_from escape_byte text_member flag_member number_member hex_member octets_member moment_member object_member hexes_member first_octets safe_text
a_file_with_another_name = refl

-- ---- Puts, the outbox and holds

abbrev put : PutEvent
put = record {
  user = ref (codes "ops");
  key = key;
  peer = record { 0 = 2 };
  class = One;
  file = ref (codes "a.bin");
  to = ref (0xC3 ∷ 0x28 ∷ []);
  size = 9;
  queued = None;
}

a_put : put_line (event 1) put
    ≡ codes "{\"at\":\"2026-11-26T12:00:00.000Z\",\"number\":1,\"kind\":\"put\",\"user\":\"ops\",\"source\":1,\"seq\":41,"
    ++ codes "\"peer\":2,\"class\":1,\"file\":\"a.bin\",\"to_hex\":\"c328\",\"size\":9}\n"
unfolding digits padded_integral char_count encode_utf8 chars is_utf8 encode_with print_from escape_byte text_member flag_member number_member hex_member octets_member moment_member object_member hexes_member first_octets safe_text
a_put = refl

a_put_that_waited : put_line (event 2) (record put { to = ref (codes "b.bin"); queued = Some 3 })
    ≡ codes "{\"at\":\"2026-11-26T12:00:00.000Z\",\"number\":2,\"kind\":\"put\",\"user\":\"ops\",\"source\":1,\"seq\":41,"
    ++ codes "\"peer\":2,\"class\":1,\"file\":\"a.bin\",\"to\":\"b.bin\",\"size\":9,\"queued\":3}\n"
unfolding digits padded_integral char_count encode_utf8 chars is_utf8 encode_with print_from escape_byte text_member flag_member number_member hex_member octets_member moment_member object_member hexes_member first_octets safe_text
a_put_that_waited = refl

an_unsent_file : unsent_line (event 1) (record {
  queued = 3;
  user = ref (codes "ops");
  destination = record { 0 = 7 };
  file = ref (97 ∷ 0xFF ∷ []);
  why = ref (codes "read fault");
  reason = None;
})
    ≡ codes "{\"at\":\"2026-11-26T12:00:00.000Z\",\"number\":1,\"kind\":\"unsent\",\"queued\":3,\"user\":\"ops\",\"destination\":7,"
    ++ codes "\"file_hex\":\"61ff\",\"why\":\"read fault\"}\n"
unfolding digits padded_integral char_count encode_utf8 chars is_utf8 encode_with print_from escape_byte text_member flag_member number_member hex_member octets_member moment_member object_member hexes_member first_octets safe_text
an_unsent_file = refl

an_unread_file : unsent_line (event 1) (record {
  queued = 3;
  user = ref (codes "ops");
  destination = record { 0 = 7 };
  file = ref (codes "a");
  why = ref (codes "read fault");
  reason = Some (ref (codes "is a folder"));
})
    ≡ codes "{\"at\":\"2026-11-26T12:00:00.000Z\",\"number\":1,\"kind\":\"unsent\",\"queued\":3,\"user\":\"ops\",\"destination\":7,"
    ++ codes "\"file\":\"a\",\"why\":\"read fault\",\"reason\":\"is a folder\"}\n"
unfolding digits padded_integral char_count encode_utf8 chars is_utf8 encode_with print_from escape_byte text_member flag_member number_member hex_member octets_member moment_member object_member hexes_member first_octets safe_text
an_unread_file = refl

a_command : command_line (event 1) (record { words = ref (codes "quit"); answer = ref (codes "ok"); seat = None; reason = None })
    ≡ codes "{\"at\":\"2026-11-26T12:00:00.000Z\",\"number\":1,\"kind\":\"command\",\"words\":\"quit\",\"answer\":\"ok\",\"by\":\"input\"}\n"
unfolding digits padded_integral char_count encode_utf8 chars is_utf8 encode_with print_from escape_byte text_member flag_member number_member hex_member octets_member moment_member object_member hexes_member first_octets safe_text
a_command = refl

an_unread_put : command_line (event 1) (record {
  words = ref (codes "put a");
  answer = ref (codes "read fault");
  seat = Some 3;
  reason = Some (ref (codes "is not there"));
})
    ≡ codes "{\"at\":\"2026-11-26T12:00:00.000Z\",\"number\":1,\"kind\":\"command\",\"words\":\"put a\",\"answer\":\"read fault\","
    ++ codes "\"by\":\"client\",\"seat\":3,\"reason\":\"is not there\"}\n"
unfolding digits padded_integral char_count encode_utf8 chars is_utf8 encode_with print_from escape_byte text_member flag_member number_member hex_member octets_member moment_member object_member hexes_member first_octets safe_text
an_unread_put = refl

a_hold : hold_line (event 2) (record { 0 = 7 })
    ≡ codes "{\"at\":\"2026-11-26T12:00:00.000Z\",\"number\":2,\"kind\":\"hold\",\"id\":7}\n"
unfolding digits padded_integral char_count encode_utf8 chars is_utf8 encode_with print_from escape_byte text_member flag_member number_member hex_member octets_member moment_member object_member hexes_member first_octets safe_text
a_hold = refl

a_release : release_line (event 3) (record { 0 = 18446744073709551615 })
    ≡ codes "{\"at\":\"2026-11-26T12:00:00.000Z\",\"number\":3,\"kind\":\"release\",\"id\":18446744073709551615,"
    ++ codes "\"id_text\":\"18446744073709551615\"}\n"
unfolding digits padded_integral char_count encode_utf8 chars is_utf8 encode_with print_from escape_byte text_member flag_member number_member hex_member octets_member moment_member object_member hexes_member first_octets safe_text
a_release = refl

-- ---- lanes that wait

dropped_datagrams : unparked_line (event 3) 12
    ≡ codes "{\"at\":\"2026-11-26T12:00:00.000Z\",\"number\":3,\"kind\":\"unparked\",\"count\":12}\n"
unfolding digits padded_integral char_count encode_utf8 chars is_utf8 encode_with print_from escape_byte text_member flag_member number_member hex_member octets_member moment_member object_member hexes_member first_octets safe_text
dropped_datagrams = refl

skipped_numbers : skipped_line (event 4) (record {
  user = ref (codes "ops");
  destination = record { 0 = 7 };
  count = 3;
  next = 9007199254740993;
})
    ≡ codes "{\"at\":\"2026-11-26T12:00:00.000Z\",\"number\":4,\"kind\":\"skipped\",\"user\":\"ops\",\"destination\":7,\"count\":3,"
    ++ codes "\"next\":9007199254740993,\"next_text\":\"9007199254740993\"}\n"
unfolding digits padded_integral char_count encode_utf8 chars is_utf8 encode_with print_from escape_byte text_member flag_member number_member hex_member octets_member moment_member object_member hexes_member first_octets safe_text
skipped_numbers = refl

a_full_journal : journal_full_line (event 4) (codes "ops") (record { source = record { 0 = 7 }; seq = 3 })
    ≡ codes "{\"at\":\"2026-11-26T12:00:00.000Z\",\"number\":4,\"kind\":\"journal-full\",\"user\":\"ops\",\"source\":7,\"seq\":3}\n"
unfolding digits padded_integral char_count encode_utf8 chars is_utf8 encode_with print_from escape_byte text_member flag_member number_member hex_member octets_member moment_member object_member hexes_member first_octets safe_text
a_full_journal = refl

-- ---- a refusal

-- of 65 octets 64 are shown
a_refused_datagram : refused_line (event 1) (record {
  number = 2;
  name = ref (codes "OldTransaction");
  fault = None;
  count = 7;
  datagram = Some (record { from = ref (codes "192.0.2.1:4556"); octets = ref (replicate 65 0xAB) });
})
    ≡ codes "{\"at\":\"2026-11-26T12:00:00.000Z\",\"number\":1,\"kind\":\"refused\",\"refusal\":2,\"name\":\"OldTransaction\","
    ++ codes "\"count\":7,\"from\":\"192.0.2.1:4556\",\"octets\":\""
    ++ codes "abababababababababababababababababababababababababababababababab"
    ++ codes "abababababababababababababababababababababababababababababababab"
    ++ codes "\"}\n"
unfolding digits padded_integral char_count encode_utf8 chars is_utf8 encode_with print_from escape_byte text_member flag_member number_member hex_member octets_member moment_member object_member hexes_member first_octets safe_text
a_refused_datagram = refl

-- ---- indications

abbrev said : Indication → List ℕ
said indication = indication_line (event 2) (record { user = ref (codes "ops"); key = key; indication = ref indication })

-- the line with these members after `"name":`
abbrev named : List ℕ → List ℕ
named members =
    codes "{\"at\":\"2026-11-26T12:00:00.000Z\",\"number\":2,\"kind\":\"indication\",\"user\":\"ops\",\"source\":1,\"seq\":41,\"name\":"
    ++ (members ++ codes "}\n")

indications : map said (
    told.Transaction
    ∷ told.EofSent
    ∷ told.EofRecv
    ∷ told.TransactionFinished 0 Incomplete Unreported
    ∷ told.FileSegmentRecv 4 5
    ∷ told.Suspended 6
    ∷ told.Resumed 7
    ∷ told.Report Closing 8
    ∷ told.Fault 6 9
    ∷ told.Abandoned 6 0 ∷ [])
    ≡ map named (
    codes "\"Transaction\""
    ∷ codes "\"EOF-Sent\""
    ∷ codes "\"EOF-Recv\""
    ∷ codes "\"Transaction-Finished\",\"condition\":0,\"delivery\":\"incomplete\",\"status\":\"unreported\""
    ∷ codes "\"File-Segment-Recv\",\"offset\":4,\"length\":5"
    ∷ codes "\"Suspended\",\"condition\":6"
    ∷ codes "\"Resumed\",\"progress\":7"
    ∷ codes "\"Report\",\"phase\":\"closing\",\"progress\":8"
    ∷ codes "\"Fault\",\"condition\":6,\"progress\":9"
    ∷ codes "\"Abandoned\",\"condition\":6,\"progress\":0" ∷ [])
unfolding digits padded_integral char_count encode_utf8 chars is_utf8 encode_with print_from escape_byte text_member flag_member number_member hex_member octets_member moment_member object_member hexes_member first_octets safe_text
indications = refl

metadata : said (told.MetadataRecv (record { source = record { 0 = 1 }; size = 9; source_name = codes "a.bin"; destination_name = 98 ∷ 0x5C ∷ 0x80 ∷ []; messages = (0 ∷ 0xFF ∷ []) ∷ [] ∷ [] }))
    ≡ named (codes "\"Metadata-Recv\",\"origin\":1,\"size\":9,\"file\":\"a.bin\",\"to_hex\":\"625c80\",\"messages\":[\"00ff\",\"\"]")
unfolding digits padded_integral char_count encode_utf8 chars is_utf8 encode_with print_from escape_byte text_member flag_member number_member hex_member octets_member moment_member object_member hexes_member first_octets safe_text
metadata = refl
