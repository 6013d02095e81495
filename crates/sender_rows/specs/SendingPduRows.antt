-- Rows. Rows on what a sender sends, and on what it indicates.
use Rattle.std.specs.Prelude.{◌≡◌, [], ◌∷◌, ◌++◌, Some, None, Err, refl}
use Rattle.cfdp_types.specs.Reference.{reference}
use Rattle.cfdp_types.specs.declared.names.Class.TheVariants.{One}
use Rattle.cfdp_types.specs.declared.names.Delivery.TheVariants.{Complete, Incomplete}
use Rattle.cfdp_types.specs.declared.names.FileStatus.TheVariants.{Retained, Unreported}
use Rattle.cfdp_types.specs.declared.names.TimerKind.TheVariants.{Ack}
use Rattle.txn_events.specs.declared.event.What.TheVariants as what
use Rattle.txn_events.specs.declared.refusal.Refusal.TheVariants as refusal
use Rattle.pdu_values.specs.Numbers.{digits}
use Rattle.pdu_values.specs.Spelling.{spelling, written}
use Rattle.pdu_values.specs.Tlvs.{width_from}
use Rattle.pdu_values.specs.declared.pdu.Body.TheVariants as body
use Rattle.indications.specs.declared.indication.Indication.TheVariants as told
use Rattle.indications.specs.declared.indication.Phase.TheVariants as phase
use Rattle.gap_list.specs.Runs.{runs_of, runs_from}
use Rattle.sender_table.specs.Sending.{Sending, put, happens, initial, step, state_of}
use Rattle.sender_table.specs.Answers.{answer_at}
use Rattle.sender_rows.specs.SendingRows.{sending, one, two, small_parts, pump, report, pdu, eof_acknowledged, asks, nak, finished, sent_all, last, tells, sends}

-- ---- class 1

-- Metadata, then the file, then the EOF
pub metadata_first : sends (last one (put ∷ []) pump) ≡ Some (digits 17 0x24000a000204010700000000030161_0162 ∷ [])
unfolding initial step state_of answer_at runs_of runs_from written spelling digits width_from
metadata_first = refl

pub file_data_next : sends (last one (put ∷ pump ∷ []) pump) ≡ Some (digits 14 0x3400070002040100000000616263 ∷ [])
unfolding initial step state_of answer_at runs_of runs_from written spelling digits width_from
file_data_next = refl

pub eof_last : sends (last one (put ∷ pump ∷ pump ∷ []) pump) ≡ Some (digits 17 0x24000a0002040104006162630000000003 ∷ [])
unfolding initial step state_of answer_at runs_of runs_from written spelling digits width_from
eof_last = refl

-- the Put is indicated, and nothing is sent
pub put_told : tells (last one [] put) ≡ Some (told.Transaction ∷ [])
unfolding initial step state_of answer_at runs_of runs_from digits
put_told = refl

pub put_sends_nothing : sends (last one [] put) ≡ Some []
unfolding initial step state_of answer_at runs_of runs_from written spelling digits width_from
put_sends_nothing = refl

-- an empty file, cancelled before anything was sent
pub cancelled_at_once : sends (last (sending One 252 []) (put ∷ []) (happens what.Cancel))
    ≡ Some (digits 20 0x24000d0002fc0104f00000000000000000060102 ∷ [])
unfolding initial step state_of answer_at runs_of runs_from written spelling digits width_from
cancelled_at_once = refl

pub cancelled_told : tells (last (sending One 252 []) (put ∷ []) (happens what.Cancel))
    ≡ Some (told.TransactionFinished 15 Incomplete Unreported ∷ [])
unfolding initial step state_of answer_at runs_of runs_from digits
cancelled_told = refl

-- an empty file is sent without File Data
pub empty_eof : sends (last (sending One 4 []) (put ∷ pump ∷ []) pump) ≡ Some (digits 17 0x24000a0002040104000000000000000000 ∷ [])
unfolding initial step state_of answer_at runs_of runs_from written spelling digits width_from
empty_eof = refl

-- ---- class 2

-- the Metadata, the octets and the EOF are sent in turn, and the EOF does not end the transaction
pub metadata_of_two : sends (last two (put ∷ []) pump) ≡ Some (digits 17 0x20000a0002040107000000000301610162 ∷ [])
unfolding initial step state_of answer_at runs_of runs_from written spelling digits width_from
metadata_of_two = refl

pub file_data_of_two : sends (last two (put ∷ pump ∷ []) pump) ≡ Some (digits 14 0x3000070002040100000000616263 ∷ [])
unfolding initial step state_of answer_at runs_of runs_from written spelling digits width_from
file_data_of_two = refl

pub eof_of_two : sends (last two (put ∷ pump ∷ pump ∷ []) pump) ≡ Some (digits 17 0x20000a0002040104006162630000000003 ∷ [])
unfolding initial step state_of answer_at runs_of runs_from written spelling digits width_from
eof_of_two = refl

pub eof_of_two_told : tells (last two (put ∷ pump ∷ pump ∷ []) pump) ≡ Some (told.EofSent ∷ [])
unfolding initial step state_of answer_at runs_of runs_from digits
eof_of_two_told = refl

-- an ACK, a NAK and a Keep Alive are answered with nothing
pub ack_is_quiet : sends (last two sent_all (eof_acknowledged 0)) ≡ Some []
unfolding initial step state_of answer_at runs_of runs_from written spelling digits width_from
ack_is_quiet = refl

pub nak_is_quiet : sends (last two sent_all nak) ≡ Some []
unfolding initial step state_of answer_at runs_of runs_from written spelling digits width_from
nak_is_quiet = refl

pub nak_tells_nothing : tells (last two sent_all nak) ≡ Some []
unfolding initial step state_of answer_at runs_of runs_from digits
nak_tells_nothing = refl

pub keep_alive_is_quiet : sends (last two (put ∷ pump ∷ []) (pdu (body.KeepAlive (record { progress = 1 })))) ≡ Some []
unfolding initial step state_of answer_at runs_of runs_from written spelling digits width_from
keep_alive_is_quiet = refl

-- the Finished PDU is acknowledged with its condition code, and its values are indicated
pub finished_acknowledged : sends (last two (sent_all ++ nak ∷ pump ∷ eof_acknowledged 0 ∷ []) finished)
    ≡ Some (digits 10 0x20000300020401065102 ∷ [])
unfolding initial step state_of answer_at runs_of runs_from written spelling digits width_from
finished_acknowledged = refl

pub other_finished_acknowledged : sends (last two sent_all (pdu (body.Finished (record { condition = 5; delivery = Incomplete; status = Retained; location = None }))))
    ≡ Some (digits 10 0x20000300020401065152 ∷ [])
unfolding initial step state_of answer_at runs_of runs_from written spelling digits width_from
other_finished_acknowledged = refl

pub finished_told : tells (last two sent_all finished) ≡ Some (told.TransactionFinished 0 Complete Retained ∷ [])
unfolding initial step state_of answer_at runs_of runs_from digits
finished_told = refl

-- also while the sender is suspended
pub finished_while_suspended : sends (last two (sent_all ++ happens what.Suspend ∷ []) finished)
    ≡ Some (digits 10 0x20000300020401065102 ∷ [])
unfolding initial step state_of answer_at runs_of runs_from written spelling digits width_from
finished_while_suspended = refl

pub finished_while_suspended_told : tells (last two (sent_all ++ happens what.Suspend ∷ []) finished)
    ≡ Some (told.TransactionFinished 0 Complete Retained ∷ [])
unfolding initial step state_of answer_at runs_of runs_from digits
finished_while_suspended_told = refl

-- once resumed, it sends what remains
pub metadata_after_all : sends (last two (put ∷ happens what.Suspend ∷ happens what.Resume ∷ []) pump)
    ≡ Some (digits 17 0x20000a0002040107000000000301610162 ∷ [])
unfolding initial step state_of answer_at runs_of runs_from written spelling digits width_from
metadata_after_all = refl

-- ---- segments of a file

-- each is as long as a segment may be, the last as long as the rest
pub first_part : sends (last small_parts (put ∷ pump ∷ []) pump) ≡ Some (digits 13 0x30000600020401000000006162 ∷ [])
unfolding initial step state_of answer_at runs_of runs_from written spelling digits width_from
first_part = refl

pub second_part : sends (last small_parts (put ∷ pump ∷ pump ∷ []) pump) ≡ Some (digits 13 0x30000600020401000000026364 ∷ [])
unfolding initial step state_of answer_at runs_of runs_from written spelling digits width_from
second_part = refl

pub last_part : sends (last small_parts sent_all pump) ≡ Some (digits 12 0x300005000204010000000465 ∷ [])
unfolding initial step state_of answer_at runs_of runs_from written spelling digits width_from
last_part = refl

-- the EOF that cancels describes what was sent
pub part_cancelled : sends (last small_parts (put ∷ pump ∷ pump ∷ []) (happens what.Cancel))
    ≡ Some (digits 20 0x20000d0002040104f06162000000000002060102 ∷ [])
unfolding initial step state_of answer_at runs_of runs_from written spelling digits width_from
part_cancelled = refl

pub part_reported : tells (last small_parts (put ∷ pump ∷ pump ∷ []) report) ≡ Some (told.Report phase.Active 2 ∷ [])
unfolding initial step state_of answer_at runs_of runs_from digits
part_reported = refl

-- ---- retransmission

-- the requested octet is sent again
pub sent_again : sends (last two (sent_all ++ nak ∷ []) pump) ≡ Some (digits 12 0x300005000204010000000162 ∷ [])
unfolding initial step state_of answer_at runs_of runs_from written spelling digits width_from
sent_again = refl

-- the progress stays as it was
pub progress_kept : tells (last two (sent_all ++ nak ∷ pump ∷ []) report) ≡ Some (told.Report phase.Active 3 ∷ [])
unfolding initial step state_of answer_at runs_of runs_from digits
progress_kept = refl

-- of two gaps the first is sent
pub two_gaps_sent_again : sends (last two (sent_all ++ asks (record { start = 0; end = 1 } ∷ record { start = 2; end = 3 } ∷ []) ∷ []) pump)
    ≡ Some (digits 12 0x300005000204010000000061 ∷ [])
unfolding initial step state_of answer_at runs_of runs_from written spelling digits width_from
two_gaps_sent_again = refl

pub second_gap_sent_again : sends (last two (sent_all ++ asks (record { start = 0; end = 1 } ∷ record { start = 2; end = 3 } ∷ []) ∷ pump ∷ []) pump)
    ≡ Some (digits 12 0x300005000204010000000263 ∷ [])
unfolding initial step state_of answer_at runs_of runs_from written spelling digits width_from
second_gap_sent_again = refl

-- the Metadata is sent first, and no octet beyond the size
pub metadata_again : sends (last two (put ∷ pump ∷ pump ∷ asks (record { start = 0; end = 0 } ∷ record { start = 2; end = 9 } ∷ []) ∷ []) pump)
    ≡ Some (digits 17 0x20000a0002040107000000000301610162 ∷ [])
unfolding initial step state_of answer_at runs_of runs_from written spelling digits width_from
metadata_again = refl

pub rest_again : sends (last two (put ∷ pump ∷ pump ∷ asks (record { start = 0; end = 0 } ∷ record { start = 2; end = 9 } ∷ []) ∷ pump ∷ []) pump)
    ≡ Some (digits 12 0x300005000204010000000263 ∷ [])
unfolding initial step state_of answer_at runs_of runs_from written spelling digits width_from
rest_again = refl

pub eof_then : sends (last two (put ∷ pump ∷ pump ∷ asks (record { start = 0; end = 0 } ∷ record { start = 2; end = 9 } ∷ []) ∷ pump ∷ pump ∷ []) pump)
    ≡ Some (digits 17 0x20000a0002040104006162630000000003 ∷ [])
unfolding initial step state_of answer_at runs_of runs_from written spelling digits width_from
eof_then = refl

-- the EOF is not sent again after that
pub eof_not_again : last two (sent_all ++ nak ∷ pump ∷ []) pump ≡ Err refusal.WrongState
unfolding initial step state_of answer_at runs_of runs_from digits
eof_not_again = refl

-- ---- cancelled in class 2

-- the EOF describes what was sent, and is sent again until it is acknowledged or the limit is reached
pub cancel_sent : sends (last two (put ∷ pump ∷ pump ∷ []) (happens what.Cancel))
    ≡ Some (digits 20 0x20000d0002040104f06162630000000003060102 ∷ [])
unfolding initial step state_of answer_at runs_of runs_from written spelling digits width_from
cancel_sent = refl

pub cancel_told : tells (last two (put ∷ pump ∷ pump ∷ []) (happens what.Cancel)) ≡ Some []
unfolding initial step state_of answer_at runs_of runs_from digits
cancel_told = refl

pub cancel_sent_again : sends (last two (put ∷ pump ∷ pump ∷ happens what.Cancel ∷ []) (happens (what.Timer Ack 3)))
    ≡ Some (digits 20 0x20000d0002040104f06162630000000003060102 ∷ [])
unfolding initial step state_of answer_at runs_of runs_from written spelling digits width_from
cancel_sent_again = refl

pub cancel_in_vain : tells (last two (put ∷ pump ∷ pump ∷ happens what.Cancel ∷ happens (what.Timer Ack 3) ∷ []) (happens (what.Timer Ack 4)))
    ≡ Some (told.TransactionFinished 15 Incomplete Unreported ∷ [])
unfolding initial step state_of answer_at runs_of runs_from digits
cancel_in_vain = refl

pub cancel_in_vain_sends_nothing : sends (last two (put ∷ pump ∷ pump ∷ happens what.Cancel ∷ happens (what.Timer Ack 3) ∷ []) (happens (what.Timer Ack 4)))
    ≡ Some []
unfolding initial step state_of answer_at runs_of runs_from written spelling digits width_from
cancel_in_vain_sends_nothing = refl

-- its ACK ends the transaction; so does a Finished PDU, with its own values
pub cancel_acknowledged_told : tells (last two (put ∷ pump ∷ happens what.Cancel ∷ []) (eof_acknowledged 15))
    ≡ Some (told.TransactionFinished 15 Incomplete Unreported ∷ [])
unfolding initial step state_of answer_at runs_of runs_from digits
cancel_acknowledged_told = refl

pub cancel_acknowledged_sends_nothing : sends (last two (put ∷ pump ∷ happens what.Cancel ∷ []) (eof_acknowledged 15)) ≡ Some []
unfolding initial step state_of answer_at runs_of runs_from written spelling digits width_from
cancel_acknowledged_sends_nothing = refl

pub cancel_finished_told : tells (last two (put ∷ pump ∷ happens what.Cancel ∷ []) finished)
    ≡ Some (told.TransactionFinished 0 Complete Retained ∷ [])
unfolding initial step state_of answer_at runs_of runs_from digits
cancel_finished_told = refl

pub cancel_finished_acknowledged : sends (last two (put ∷ pump ∷ happens what.Cancel ∷ []) finished)
    ≡ Some (digits 10 0x20000300020401065102 ∷ [])
unfolding initial step state_of answer_at runs_of runs_from written spelling digits width_from
cancel_finished_acknowledged = refl

-- ---- the user's requests

-- Suspend and Resume are indicated, Resume with the progress
pub suspended : tells (last two (put ∷ []) (happens what.Suspend)) ≡ Some (told.Suspended 14 ∷ [])
unfolding initial step state_of answer_at runs_of runs_from digits
suspended = refl

pub suspended_in_one : tells (last one (put ∷ pump ∷ []) (happens what.Suspend)) ≡ Some (told.Suspended 14 ∷ [])
unfolding initial step state_of answer_at runs_of runs_from digits
suspended_in_one = refl

pub resumed : tells (last two (put ∷ happens what.Suspend ∷ []) (happens what.Resume)) ≡ Some (told.Resumed 0 ∷ [])
unfolding initial step state_of answer_at runs_of runs_from digits
resumed = refl

pub resumed_with_progress : tells (last two (put ∷ pump ∷ pump ∷ happens what.Suspend ∷ []) (happens what.Resume))
    ≡ Some (told.Resumed 3 ∷ [])
unfolding initial step state_of answer_at runs_of runs_from digits
resumed_with_progress = refl

-- a report gives the phase of the transaction, and the progress
pub reported : tells (last two (put ∷ pump ∷ pump ∷ []) report) ≡ Some (told.Report phase.Active 3 ∷ [])
unfolding initial step state_of answer_at runs_of runs_from digits
reported = refl

pub reported_while_suspended : tells (last two (put ∷ happens what.Suspend ∷ []) report) ≡ Some (told.Report phase.Suspended 0 ∷ [])
unfolding initial step state_of answer_at runs_of runs_from digits
reported_while_suspended = refl

pub reported_while_closing : tells (last two (put ∷ happens what.Suspend ∷ happens what.Cancel ∷ []) report)
    ≡ Some (told.Report phase.Closing 0 ∷ [])
unfolding initial step state_of answer_at runs_of runs_from digits
reported_while_closing = refl

-- Abandon ends the transaction and sends nothing
pub abandoned : tells (last two (put ∷ pump ∷ pump ∷ []) (happens what.Abandon)) ≡ Some (told.Abandoned 15 3 ∷ [])
unfolding initial step state_of answer_at runs_of runs_from digits
abandoned = refl

pub abandon_sends_nothing : sends (last two (put ∷ pump ∷ pump ∷ []) (happens what.Abandon)) ≡ Some []
unfolding initial step state_of answer_at runs_of runs_from written spelling digits width_from
abandon_sends_nothing = refl

-- ---- headers and Metadata

-- to entity 300, with sequence number 70000
abbrev pub large_numbers : Sending
large_numbers =
    record two { request = record (two.request) { destination = record { 0 = 300 } }; key = record { source = record { 0 = 2 }; seq = 70000 } }

-- each has as many octets as the largest number needs
pub numbers_of_two_and_three_octets : sends (last large_numbers (put ∷ []) pump)
    ≡ Some (digits 21 0x20000a1200020111_70012c07000000000301610162 ∷ [])
unfolding initial step state_of answer_at runs_of runs_from written spelling digits width_from
numbers_of_two_and_three_octets = refl

-- also where the source has the larger ID
pub numbers_of_a_large_source : sends (last (record two { key = record { source = record { 0 = 300 }; seq = 4 } }) (put ∷ []) pump)
    ≡ Some (digits 19 0x20000a10012c04000107000000000301610162 ∷ [])
unfolding initial step state_of answer_at runs_of runs_from written spelling digits width_from
numbers_of_a_large_source = refl

-- and no fewer than configured
pub numbers_as_long_as_is_set : sends (last (record two { params = record reference { lengths = record { entity_octets = 2; sequence_octets = 3 } } }) (put ∷ []) pump)
    ≡ Some (digits 21 0x20000a120002000004_000107000000000301610162 ∷ [])
unfolding initial step state_of answer_at runs_of runs_from written spelling digits width_from
numbers_as_long_as_is_set = refl

-- Metadata holds the messages to the user
pub messages_sent : sends (last (record two { request = record (two.request) { messages = (109 ∷ []) ∷ [] ∷ [] } }) (put ∷ []) pump)
    ≡ Some (digits 22 0x20000f000204010700000000030161016202016d0200 ∷ [])
unfolding initial step state_of answer_at runs_of runs_from written spelling digits width_from
messages_sent = refl
