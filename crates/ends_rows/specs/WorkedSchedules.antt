-- Rows. A file put at one entity and received by another: a worked run of both ends, with all octets that are sent.
use Rattle.std.specs.Prelude.{◌≡◌, true, false, List, [], ◌∷◌, ◌++◌, map, None, Err, refl}
use Rattle.std.proofs.Common.{arith}
use Rattle.cfdp_types.specs.Reference.{reference}
use Rattle.cfdp_types.specs.declared.key.TxnKey.{TxnKey}
use Rattle.cfdp_types.specs.declared.names.Class.{Class}
use Rattle.cfdp_types.specs.declared.names.Class.TheVariants.{Two}
use Rattle.cfdp_types.specs.declared.names.Delivery.TheVariants.{Complete}
use Rattle.cfdp_types.specs.declared.names.FileStatus.TheVariants.{Retained}
use Rattle.gap_list.specs.Runs.{runs_of, runs_from}
use Rattle.indications.specs.declared.indication.Indication.TheVariants as told
use Rattle.pdu_values.specs.Numbers.{digits}
use Rattle.pdu_values.specs.Pdu.{PduValue}
use Rattle.pdu_values.specs.Spelling.{spelling, written}
use Rattle.pdu_values.specs.Tlvs.{width_from}
use Rattle.pdu_values.specs.declared.bodies.Acknowledged.TheVariants as acknowledged
use Rattle.pdu_values.specs.declared.bodies.TransactionStatus.TheVariants.{Terminated}
use Rattle.pdu_values.specs.declared.pdu.Body.{Body}
use Rattle.pdu_values.specs.declared.pdu.Body.TheVariants as body
use Rattle.pdu_values.specs.declared.pdu.Direction.TheVariants.{TowardReceiver, TowardSender}
use Rattle.pdu_values.specs.declared.pdu.Header.{Header}
use Rattle.txn_events.specs.Examples.{abc, eof_value, metadata_value, put_value}
use Rattle.txn_events.specs.declared.event.What.{What}
use Rattle.txn_events.specs.declared.event.What.TheVariants as what
use Rattle.txn_events.specs.declared.refusal.Refusal.TheVariants as refusal
use Rattle.sender_table.specs.Sending.{Sending, put, happens}
use Rattle.sender_table.specs.Sending as sender
use Rattle.sender_table.specs.Answers as sender_answers
use Rattle.sender_laws.specs.LegalSendings as sender_logs
use Rattle.receiver_table.specs.Reception.{Reception}
use Rattle.receiver_table.specs.Reception as receiver
use Rattle.receiver_table.specs.Answers as receiver_answers
use Rattle.receiver_laws.specs.LegalReceptions as receiver_logs
use Rattle.ends_schedules.specs.Schedules.{Move, sends, receives, echoes, sender_log, receiver_log, ever_sent, IsSchedule}

-- ---- the transaction

-- the transaction with number 4 of entity 2
abbrev pub key : TxnKey
key = record { source = record { 0 = 2 }; seq = 4 }

-- a Put of "a", to be stored as "b" at entity 1
abbrev pub sending_in : Class → Sending
sending_in class = record { key = key; params = reference; request = put_value class abc }

abbrev pub header_in : Class → Header
header_in class = record {
  direction = TowardReceiver;
  class = class;
  large = false;
  entity_octets = 1;
  sequence_octets = 1;
  source = record { 0 = 2 };
  sequence = 4;
  destination = record { 0 = 1 };
}

-- the reception of it at entity 1
abbrev pub reception_in : Class → Reception
reception_in class = record { key = key; params = record reference { local = record { 0 = 1 } }; header = header_in class }

-- the sending end in class 2
abbrev pub sending : Sending
sending = sending_in Two

abbrev pub reception : Reception
reception = reception_in Two

-- ---- PDUs

abbrev pub to_receiver : Class → Body → PduValue
to_receiver class b = record { header = header_in class; body = b }

abbrev pub to_sender : Body → PduValue
to_sender b = record { header = record (header_in Two) { direction = TowardSender }; body = b }

abbrev pub metadata_in : Class → PduValue
metadata_in class = to_receiver class (body.Metadata (metadata_value 0 3))

abbrev pub part_in : Class → PduValue
part_in class = to_receiver class (body.FileData (record { offset = 0; octets = abc }))

abbrev pub eof_in : Class → PduValue
eof_in class = to_receiver class (body.Eof (eof_value 0 0x6162_6300 3))

-- the NAK for everything but the EOF
abbrev pub nak : PduValue
nak = to_sender (body.Nak (record { start = 0; end = 3; requests = record { start = 0; end = 0 } ∷ record { start = 0; end = 3 } ∷ [] }))

abbrev pub finished : PduValue
finished = to_sender (body.Finished (record { condition = 0; delivery = Complete; status = Retained; location = None }))

abbrev pub finished_acknowledged : PduValue
finished_acknowledged = to_receiver Two (body.Ack (record { of = acknowledged.Finished; condition = 0; status = Terminated }))

-- ---- runs

-- what happens at the ends, without their answers
pub data Step : Type 0 where
  at_sender : sender.Event → Step
  at_receiver : What → Step
  refused : PduValue → Step

abbrev pub came : PduValue → Step
came pdu = at_receiver (what.Pdu pdu)

abbrev pub came_back : PduValue → Step
came_back pdu = at_sender (happens (what.Pdu pdu))

abbrev pub pump : Step
pump = at_sender (happens what.Pump)

-- a step as a move, with the answer of the tables
abbrev pub move_by : Sending → Reception → List Move → Step → Move
move_by s r earlier (at_sender event) = sends (record { event = event; answer = sender_logs.answer_behind s (sender_log earlier) event })
move_by s r earlier (at_receiver event) = receives (record { event = event; answer = receiver_logs.answer_behind r (receiver_log earlier) event })
move_by s r earlier (refused pdu) = echoes pdu

-- the moves of these steps in order
abbrev pub moves_by : Sending → Reception → List Move → List Step → List Move
moves_by s r earlier [] = earlier
moves_by s r earlier (first ∷ later) = moves_by s r (move_by s r earlier first ∷ earlier) later

-- the moves of these steps, in the class 2 transaction
abbrev pub after : List Step → List Move
after steps = moves_by sending reception [] steps

-- ---- the worked run: Metadata and data are lost at first, and requested again

-- everything is sent
abbrev pub all_sent : List Step
all_sent = at_sender put ∷ pump ∷ pump ∷ pump ∷ []

-- the EOF arrives, the Metadata after it, and the NAK
abbrev pub asked_for : List Step
asked_for = all_sent ++ came (eof_in Two) ∷ came (metadata_in Two) ∷ came_back nak ∷ []

-- both are sent again
abbrev pub sent_again : List Step
sent_again = asked_for ++ pump ∷ pump ∷ []

-- the data arrives
abbrev pub deposited : List Step
deposited = sent_again ++ came (part_in Two) ∷ []

-- the file is kept
abbrev pub stored : List Step
stored = deposited ++ at_receiver (what.Stored 2 true) ∷ []

-- the sender receives the Finished
abbrev pub told_kept : List Step
told_kept = stored ++ came_back finished ∷ []

-- the receiver receives its ACK
abbrev pub whole : List Step
whole = told_kept ++ came finished_acknowledged ∷ []

-- all octets that were sent, the last PDU first: of the two PDUs of one step, the ACK comes before the NAK
pub octets_sent : map written (ever_sent (after whole))
    ≡ digits 10 0x20000300020401065102
    ∷ digits 9 0x280002000204010502
    ∷ digits 14 0x3000070002040100000000616263
    ∷ digits 17 0x20000a0002040107000000000301610162
    ∷ digits 10 0x28000300020401064001
    ∷ digits 32 0x2800190002040108000000000000000300000000000000000000000000000003
    ∷ digits 17 0x20000a0002040104006162630000000003
    ∷ digits 14 0x3000070002040100000000616263
    ∷ digits 17 0x20000a0002040107000000000301610162
    ∷ []
unfolding sender.initial sender.step sender.state_of receiver.initial receiver.step receiver.state_of runs_of runs_from written spelling digits width_from
octets_sent = refl

-- after both were sent again, nothing remains to be sent
pub third_pump_refused : sender_answers.answer_at sending (sender.state_of sending (sender_log (after deposited))) (happens what.Pump) ≡ Err refusal.WrongState
unfolding sender.initial sender.step sender.state_of sender_answers.answer_at receiver.initial receiver.step receiver.state_of runs_of runs_from
third_pump_refused = refl

-- the users' indications
pub sender_told : sender.issued (sender_log (after whole)) ≡ told.Transaction ∷ told.EofSent ∷ told.TransactionFinished 0 Complete Retained ∷ []
unfolding sender.initial sender.step sender.state_of receiver.initial receiver.step receiver.state_of runs_of runs_from
sender_told = refl

pub receiver_told : receiver.issued (receiver_log (after whole))
    ≡ told.EofRecv ∷ told.MetadataRecv (record { source = record { 0 = 2 }; size = 3; source_name = 97 ∷ []; destination_name = 98 ∷ []; messages = [] }) ∷ told.FileSegmentRecv 0 3 ∷ told.TransactionFinished 0 Complete Retained ∷ []
unfolding sender.initial sender.step sender.state_of receiver.initial receiver.step receiver.state_of runs_of runs_from
receiver_told = refl

-- it is a schedule
pub whole_schedule : IsSchedule sending reception (after whole)
unfolding sender.initial sender.step sender.state_of sender_answers.answer_at receiver.initial receiver.step receiver.state_of receiver_answers.answer_at runs_of runs_from width_from
whole_schedule = record {
  key = refl;
  sender_legal = (refl, tt, refl, (refl, tt, refl, (refl, tt, refl, (refl, tt, refl, (refl, tt, refl, (refl, tt, refl, (refl, tt, refl, (refl, tt, refl, tt))))))));
  receiver_legal = (refl, tt, refl, (refl, tt, refl, (refl, tt, refl, (refl, tt, refl, (refl, (refl, refl, refl, refl), refl, tt)))));
  unforged = (
    (0, omega (arith), refl),
    ((0, omega (arith), refl), (tt, ((0, omega (arith), refl), (tt, (tt, ((1, omega (arith), refl), ((4, omega (arith), refl), ((0, omega (arith), refl), (tt, (tt, (tt, (tt, tt)))))))))))),
  );
}
