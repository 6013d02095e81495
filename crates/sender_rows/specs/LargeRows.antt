-- Rows. Rows on senders that receive offsets of more than four octets, and on files that are sent without a checksum.
use Rattle.std.specs.Prelude.{◌≡◌, true, List, [], ◌∷◌, ◌++◌, Some, Err, refl}
use Rattle.cfdp_types.specs.Reference.{reference}
use Rattle.cfdp_types.specs.declared.names.Checksum.TheVariants.{Null}
use Rattle.cfdp_types.specs.declared.names.Class.TheVariants.{Two}
use Rattle.txn_events.specs.declared.event.What.TheVariants as what
use Rattle.txn_events.specs.declared.refusal.Refusal.TheVariants as refusal
use Rattle.pdu_values.specs.Numbers.{digits}
use Rattle.pdu_values.specs.Spelling.{spelling, written}
use Rattle.pdu_values.specs.Tlvs.{width_from}
use Rattle.pdu_values.specs.declared.pdu.Body.TheVariants as body
use Rattle.pdu_values.specs.declared.pdu.Direction.TheVariants.{TowardSender}
use Rattle.pdu_values.specs.declared.requests.SegmentRequest.{SegmentRequest}
use Rattle.gap_list.specs.Runs.{runs_of, runs_from}
use Rattle.sender_table.specs.Sending.{Sending, Event, put, happens, initial, step, state_of}
use Rattle.sender_table.specs.Answers.{answer_at}
use Rattle.sender_rows.specs.SendingRows.{one, two, pump, last, sends, sent_all}

-- ---- no checksum

abbrev pub plain_one : Sending
plain_one = record one { params = record reference { checksum = Null } }

abbrev pub plain_two : Sending
plain_two = record two { params = record reference { checksum = Null } }

-- the Metadata names checksum type 15
pub type_in_metadata : sends (last plain_one (put ∷ []) pump) ≡ Some (digits 17 0x24000a00020401070f0000000301610162 ∷ [])
unfolding initial step state_of answer_at runs_of runs_from written spelling digits width_from
type_in_metadata = refl

-- the EOF has checksum 0
pub no_sum_in_eof : sends (last plain_one (put ∷ pump ∷ pump ∷ []) pump) ≡ Some (digits 17 0x24000a0002040104000000000000000003 ∷ [])
unfolding initial step state_of answer_at runs_of runs_from written spelling digits width_from
no_sum_in_eof = refl

-- so has the EOF that cancels
pub no_sum_in_cancel : sends (last plain_two (put ∷ pump ∷ pump ∷ []) (happens what.Cancel)) ≡ Some (digits 20 0x20000d0002040104f00000000000000003060102 ∷ [])
unfolding initial step state_of answer_at runs_of runs_from written spelling digits width_from
no_sum_in_cancel = refl

-- ---- requests with the large file flag

-- a NAK with the large file flag
abbrev pub large_asks : List SegmentRequest → Event
large_asks requests = happens (what.Pdu (record {
  header = record {
    direction = TowardSender;
    class = Two;
    large = true;
    entity_octets = 1;
    sequence_octets = 1;
    source = record { 0 = 2 };
    sequence = 4;
    destination = record { 0 = 1 };
  };
  body = body.Nak (record { start = 0; end = 0xffff_ffff_ffff_ffff; requests = requests });
}))

-- what is requested of the file is sent, with a header without the flag
pub asked_to_the_end : sends (last two (sent_all ++ large_asks (record { start = 2; end = 0xffff_ffff_ffff_ffff } ∷ []) ∷ []) pump)
    ≡ Some (digits 12 0x300005000204010000000263 ∷ [])
unfolding initial step state_of answer_at runs_of runs_from written spelling digits width_from
asked_to_the_end = refl

-- offsets after the end of the file request nothing, even if their low four octets are inside it
pub asked_behind_the_file : last two (sent_all ++ large_asks (record { start = 0x1_0000_0000; end = 0x1_0000_0002 } ∷ []) ∷ []) pump ≡ Err refusal.WrongState
unfolding initial step state_of answer_at runs_of runs_from
asked_behind_the_file = refl
