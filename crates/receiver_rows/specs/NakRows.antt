-- Rows. Rows on what is sent while the file is received: ACK, NAK and Keep Alive, and how NAKs are counted.
use Rattle.std.specs.Prelude.{◌≡◌, ℕ, zero, suc, ◌+◌, true, List, [], ◌∷◌, ◌++◌, Some, refl}
use Rattle.cfdp_types.specs.declared.names.Class.TheVariants.{One, Two}
use Rattle.cfdp_types.specs.declared.names.Delivery.TheVariants.{Complete, Incomplete}
use Rattle.cfdp_types.specs.declared.names.FileStatus.TheVariants.{Discarded, Retained}
use Rattle.cfdp_types.specs.declared.names.Handler.TheVariants.{Ignore}
use Rattle.cfdp_types.specs.declared.names.TimerKind.TheVariants.{Ack, Nak, Inactivity}
use Rattle.txn_events.specs.declared.event.What.TheVariants as what
use Rattle.pdu_values.specs.Numbers.{digits}
use Rattle.pdu_values.specs.Spelling.{spelling, written}
use Rattle.pdu_values.specs.Tlvs.{width_from}
use Rattle.pdu_values.specs.declared.pdu.Body.TheVariants as body
use Rattle.pdu_values.specs.declared.bodies.Prompt.TheVariants as prompt
use Rattle.indications.specs.declared.indication.Indication.TheVariants as told
use Rattle.gap_list.specs.Runs.{runs_of, runs_from}
use Rattle.receiver_table.specs.Reception.{initial, step, state_of}
use Rattle.receiver_table.specs.Answers.{answer_at}
use Rattle.receiver_rows.specs.ReceptionRows.{metadata_value, metadata_of, file_data, eof_value, eof_of, metadata, part, eof, prompted, wide, finished_acknowledged, last, tells, sends, hands_out, echoes, class_one, class_two, two_with, wide_two, every_second}

-- ---- the EOF

-- it is acknowledged, and then the rest is requested: the Metadata, the file, or both, the Metadata first
pub eof_acknowledged : sends (last class_two (metadata Two ∷ part Two ∷ []) (eof Two)) ≡ Some (digits 10 0x28000300010502064001 ∷ [])
unfolding initial step state_of answer_at runs_of runs_from written spelling digits width_from
eof_acknowledged = refl

pub metadata_asked_for : sends (last class_two (part Two ∷ []) (eof Two))
    ≡ Some (digits 10 0x28000300010502064001 ∷ digits 24 0x280011000105020800000000000000030000000000000000 ∷ [])
unfolding initial step state_of answer_at runs_of runs_from written spelling digits width_from
metadata_asked_for = refl

pub file_asked_for : sends (last class_two (metadata Two ∷ []) (eof Two))
    ≡ Some (digits 10 0x28000300010502064001 ∷ digits 24 0x280011000105020800000000000000030000000000000003 ∷ [])
unfolding initial step state_of answer_at runs_of runs_from written spelling digits width_from
file_asked_for = refl

pub all_asked_for : sends (last class_two [] (eof Two))
    ≡ Some (digits 10 0x28000300010502064001 ∷ digits 32 0x2800190001050208000000000000000300000000000000000000000000000003 ∷ [])
unfolding initial step state_of answer_at runs_of runs_from written spelling digits width_from
all_asked_for = refl

-- class 1 sends nothing
pub nothing_sent_in_class_one : sends (last class_one (metadata One ∷ []) (eof One)) ≡ Some []
unfolding initial step state_of answer_at runs_of runs_from written spelling digits width_from
nothing_sent_in_class_one = refl

-- the ACK of an EOF with an error says that the transaction is terminated
pub cancelling_eof_acknowledged : sends (last class_two [] (eof_of Two 15 0 0)) ≡ Some (digits 10 0x280003000105020640f2 ∷ [])
unfolding initial step state_of answer_at runs_of runs_from written spelling digits width_from
cancelling_eof_acknowledged = refl

-- an EOF with an error code other than Cancel's: the ACK and the indication have that code
pub eof_of_inactivity_acknowledged : sends (last class_two (metadata Two ∷ []) (eof_of Two 8 0 0)) ≡ Some (digits 10 0x28000300010502064082 ∷ [])
unfolding initial step state_of answer_at runs_of runs_from written spelling digits width_from
eof_of_inactivity_acknowledged = refl

pub eof_of_inactivity_told : tells (last class_two (metadata Two ∷ []) (eof_of Two 8 0 0))
    ≡ Some (told.TransactionFinished 8 Incomplete Discarded ∷ [])
unfolding initial step state_of answer_at runs_of runs_from digits
eof_of_inactivity_told = refl

-- class 1 sends nothing and issues the same indication
pub eof_of_inactivity_in_class_one : sends (last class_one (metadata One ∷ []) (eof_of One 8 0 0)) ≡ Some []
unfolding initial step state_of answer_at runs_of runs_from written spelling digits width_from
eof_of_inactivity_in_class_one = refl

pub eof_of_inactivity_in_class_one_told : tells (last class_one (metadata One ∷ []) (eof_of One 8 0 0))
    ≡ Some (told.TransactionFinished 8 Incomplete Discarded ∷ [])
unfolding initial step state_of answer_at runs_of runs_from digits
eof_of_inactivity_in_class_one_told = refl

-- for every code, the file is indicated as discarded
pub eof_of_rejection_told : tells (last class_two (metadata Two ∷ []) (eof_of Two 4 0 0))
    ≡ Some (told.TransactionFinished 4 Incomplete Discarded ∷ [])
unfolding initial step state_of answer_at runs_of runs_from digits
eof_of_rejection_told = refl

pub eof_of_rejection_in_class_one_told : tells (last class_one (metadata One ∷ []) (eof_of One 4 0 0))
    ≡ Some (told.TransactionFinished 4 Incomplete Discarded ∷ [])
unfolding initial step state_of answer_at runs_of runs_from digits
eof_of_rejection_in_class_one_told = refl

-- where only the last octet is missing, that octet is requested
pub last_octet_asked_for : sends (last class_two (metadata Two ∷ file_data Two 0 (97 ∷ 98 ∷ []) ∷ []) (eof_of Two 0 0x6162_0000 3))
    ≡ Some (digits 10 0x28000300010502064001 ∷ digits 24 0x280011000105020800000000000000030000000200000003 ∷ [])
unfolding initial step state_of answer_at runs_of runs_from written spelling digits width_from
last_octet_asked_for = refl

-- while Nak runs the rest is not requested again
pub later_part_asks_nothing : sends (last class_two (metadata Two ∷ eof Two ∷ []) (file_data Two 0 (97 ∷ []))) ≡ Some []
unfolding initial step state_of answer_at runs_of runs_from written spelling digits width_from
later_part_asks_nothing = refl

pub later_eof_asks_nothing : sends (last class_two (metadata Two ∷ eof Two ∷ []) (eof Two)) ≡ Some (digits 10 0x28000300010502064001 ∷ [])
unfolding initial step state_of answer_at runs_of runs_from written spelling digits width_from
later_eof_asks_nothing = refl

-- ---- Prompts

-- a NAK up to the progress, where no EOF was received
pub nak_prompted : sends (last class_two (metadata Two ∷ part Two ∷ []) (prompted prompt.Nak))
    ≡ Some (digits 16 0x28000900010502080000000000000003 ∷ [])
unfolding initial step state_of answer_at runs_of runs_from written spelling digits width_from
nak_prompted = refl

pub gap_prompted : sends (last class_two (metadata Two ∷ file_data Two 2 (99 ∷ []) ∷ []) (prompted prompt.Nak))
    ≡ Some (digits 24 0x280011000105020800000000000000030000000000000002 ∷ [])
unfolding initial step state_of answer_at runs_of runs_from written spelling digits width_from
gap_prompted = refl

pub nak_prompted_after_eof : sends (last class_two (metadata Two ∷ eof Two ∷ []) (prompted prompt.Nak))
    ≡ Some (digits 24 0x280011000105020800000000000000030000000000000003 ∷ [])
unfolding initial step state_of answer_at runs_of runs_from written spelling digits width_from
nak_prompted_after_eof = refl

-- no NAK while the reception is suspended
pub nak_prompted_while_suspended : sends (last class_two (metadata Two ∷ part Two ∷ what.Suspend ∷ []) (prompted prompt.Nak)) ≡ Some []
unfolding initial step state_of answer_at runs_of runs_from written spelling digits width_from
nak_prompted_while_suspended = refl

-- a Keep Alive, whether suspended or not
pub keep_alive_prompted : sends (last class_two (metadata Two ∷ part Two ∷ []) (prompted prompt.KeepAlive))
    ≡ Some (digits 12 0x280005000105020c00000003 ∷ [])
unfolding initial step state_of answer_at runs_of runs_from written spelling digits width_from
keep_alive_prompted = refl

pub keep_alive_prompted_while_suspended : sends (last class_two (metadata Two ∷ part Two ∷ what.Suspend ∷ []) (prompted prompt.KeepAlive))
    ≡ Some (digits 12 0x280005000105020c00000003 ∷ [])
unfolding initial step state_of answer_at runs_of runs_from written spelling digits width_from
keep_alive_prompted_while_suspended = refl

-- a Keep Alive gives the progress, even where an EOF gave the size
pub keep_alive_prompted_after_eof : sends (last class_two (part Two ∷ eof_of Two 0 0 9 ∷ []) (prompted prompt.KeepAlive))
    ≡ Some (digits 12 0x280005000105020c00000003 ∷ [])
unfolding initial step state_of answer_at runs_of runs_from written spelling digits width_from
keep_alive_prompted_after_eof = refl

-- ---- while it is suspended

-- what is received is not examined until the reception is resumed
pub quiet_while_suspended : sends (last class_two (metadata Two ∷ eof Two ∷ what.Suspend ∷ []) (part Two)) ≡ Some []
unfolding initial step state_of answer_at runs_of runs_from written spelling digits width_from
quiet_while_suspended = refl

pub not_handed_out_while_suspended : hands_out (last class_two (metadata Two ∷ eof Two ∷ what.Suspend ∷ []) (part Two)) ≡ Some []
unfolding initial step state_of answer_at runs_of runs_from digits
not_handed_out_while_suspended = refl

pub handed_out_on_resume : hands_out (last class_two (metadata Two ∷ eof Two ∷ what.Suspend ∷ part Two ∷ []) what.Resume) ≡ Some (4 ∷ [])
unfolding initial step state_of answer_at runs_of runs_from digits
handed_out_on_resume = refl

pub asked_again_on_resume : sends (last class_two (metadata Two ∷ eof Two ∷ what.Suspend ∷ []) what.Resume)
    ≡ Some (digits 24 0x280011000105020800000000000000030000000000000003 ∷ [])
unfolding initial step state_of answer_at runs_of runs_from written spelling digits width_from
asked_again_on_resume = refl

-- an EOF is still acknowledged, but nothing is requested
pub eof_acknowledged_while_suspended : sends (last class_two (metadata Two ∷ what.Suspend ∷ []) (eof Two))
    ≡ Some (digits 10 0x28000300010502064001 ∷ [])
unfolding initial step state_of answer_at runs_of runs_from written spelling digits width_from
eof_acknowledged_while_suspended = refl

-- an EOF with an error ends the reception even then
pub cancelling_eof_while_suspended : sends (last class_two (metadata Two ∷ what.Suspend ∷ []) (eof_of Two 15 0 0))
    ≡ Some (digits 10 0x280003000105020640f2 ∷ [])
unfolding initial step state_of answer_at runs_of runs_from written spelling digits width_from
cancelling_eof_while_suspended = refl

pub cancelling_eof_while_suspended_told : tells (last class_two (metadata Two ∷ what.Suspend ∷ []) (eof_of Two 15 0 0))
    ≡ Some (told.TransactionFinished 15 Incomplete Discarded ∷ [])
unfolding initial step state_of answer_at runs_of runs_from digits
cancelling_eof_while_suspended_told = refl

-- ---- repeated NAKs

-- the NAK is sent again until the limit
pub nak_again : sends (last class_two (part Two ∷ eof Two ∷ []) (what.Timer Nak 1))
    ≡ Some (digits 24 0x280011000105020800000000000000030000000000000000 ∷ [])
unfolding initial step state_of answer_at runs_of runs_from written spelling digits width_from
nak_again = refl

-- the count begins again with new octets, and with the first Metadata
pub counted_on_with_nothing_new : sends (last class_two (metadata Two ∷ eof Two ∷ what.Timer Nak 1 ∷ file_data Two 0 [] ∷ []) (what.Timer Nak 2))
    ≡ Some (digits 12 0x280005000105020574060102 ∷ [])
unfolding initial step state_of answer_at runs_of runs_from written spelling digits width_from
counted_on_with_nothing_new = refl

pub counted_anew_with_more : sends (last class_two (metadata Two ∷ part Two ∷ eof_of Two 0 0 5 ∷ what.Timer Nak 2 ∷ file_data Two 3 (1 ∷ []) ∷ []) (what.Timer Nak 3))
    ≡ Some (digits 24 0x28001100010502080000000000000005_0000000400000005 ∷ [])
unfolding initial step state_of answer_at runs_of runs_from written spelling digits width_from
counted_anew_with_more = refl

pub counted_anew_with_metadata_told : tells (last class_two (eof Two ∷ what.Timer Nak 0 ∷ metadata Two ∷ []) (what.Timer Nak 1)) ≡ Some []
unfolding initial step state_of answer_at runs_of runs_from digits
counted_anew_with_metadata_told = refl

pub counted_anew_with_metadata : sends (last class_two (eof Two ∷ what.Timer Nak 0 ∷ metadata Two ∷ []) (what.Timer Nak 1))
    ≡ Some (digits 24 0x280011000105020800000000000000030000000000000003 ∷ [])
unfolding initial step state_of answer_at runs_of runs_from written spelling digits width_from
counted_anew_with_metadata = refl

pub counted_on_with_later_metadata : sends (last class_two (metadata Two ∷ eof Two ∷ what.Timer Nak 1 ∷ metadata Two ∷ []) (what.Timer Nak 2))
    ≡ Some (digits 12 0x280005000105020574060102 ∷ [])
unfolding initial step state_of answer_at runs_of runs_from written spelling digits width_from
counted_on_with_later_metadata = refl

pub counted_on_with_octets_again : sends (last class_two (part Two ∷ eof Two ∷ what.Timer Nak 1 ∷ part Two ∷ []) (what.Timer Nak 2))
    ≡ Some (digits 12 0x280005000105020574060102 ∷ [])
unfolding initial step state_of answer_at runs_of runs_from written spelling digits width_from
counted_on_with_octets_again = refl

pub counted_on_with_later_eof : sends (last class_two (metadata Two ∷ eof Two ∷ what.Timer Nak 1 ∷ eof Two ∷ []) (what.Timer Nak 2))
    ≡ Some (digits 12 0x280005000105020574060102 ∷ [])
unfolding initial step state_of answer_at runs_of runs_from written spelling digits width_from
counted_on_with_later_eof = refl

-- it begins again with Resume
pub counted_anew_after_resume : sends (last class_two (metadata Two ∷ eof Two ∷ what.Timer Nak 1 ∷ what.Suspend ∷ what.Resume ∷ []) (what.Timer Nak 4))
    ≡ Some (digits 24 0x280011000105020800000000000000030000000000000003 ∷ [])
unfolding initial step state_of answer_at runs_of runs_from written spelling digits width_from
counted_anew_after_resume = refl

-- it begins again with an ignored fault of this timer, but of no other
pub counted_anew_after_ignored : sends (last (two_with 7 Ignore) (part Two ∷ eof Two ∷ what.Timer Nak 1 ∷ what.Timer Nak 2 ∷ []) (what.Timer Nak 3))
    ≡ Some (digits 24 0x280011000105020800000000000000030000000000000000 ∷ [])
unfolding initial step state_of answer_at runs_of runs_from written spelling digits width_from
counted_anew_after_ignored = refl

pub counted_on_after_another_ignored : sends (last (two_with 8 Ignore) (part Two ∷ eof Two ∷ what.Timer Nak 1 ∷ what.Timer Inactivity 1 ∷ []) (what.Timer Nak 2))
    ≡ Some (digits 12 0x280005000105020574060102 ∷ [])
unfolding initial step state_of answer_at runs_of runs_from written spelling digits width_from
counted_on_after_another_ignored = refl

-- ---- a NAK with only the first requests

-- this many requests of one octet, at every second offset
abbrev pub requested : ℕ → ℕ → List ℕ
requested zero offset = []
requested (suc count) offset = digits 4 offset ++ digits 4 (offset + 1) ++ requested count (offset + 2)

-- of 65 gaps the first 64 are requested, and the scope ends with the last of them
pub nak_is_cut : sends (last class_two (metadata_of Two 0 130 ∷ every_second 65 1) (eof_of Two 0 0 130))
    ≡ Some (digits 10 0x28000300010502064001 ∷ (digits 7 0x28020900010502 ++ digits 9 0x08000000000000007f ++ requested 64 0) ∷ [])
unfolding initial step state_of answer_at runs_of runs_from written spelling digits width_from
nak_is_cut = refl

-- 64 gaps are requested in one NAK
pub nak_is_whole : sends (last class_two (metadata_of Two 0 128 ∷ every_second 64 1) (eof_of Two 0 0 128))
    ≡ Some (digits 10 0x28000300010502064001 ∷ (digits 7 0x28020900010502 ++ digits 9 0x080000000000000080 ++ requested 64 0) ∷ [])
unfolding initial step state_of answer_at runs_of runs_from written spelling digits width_from
nak_is_whole = refl

-- ---- the Finished PDU

-- it is sent once the file is kept, and again until it is acknowledged or the limit is reached
pub stored_so_finished : sends (last class_two (metadata Two ∷ part Two ∷ eof Two ∷ []) (what.Stored 2 true))
    ≡ Some (digits 9 0x280002000105020502 ∷ [])
unfolding initial step state_of answer_at runs_of runs_from written spelling digits width_from
stored_so_finished = refl

pub finished_again : sends (last class_two (metadata Two ∷ part Two ∷ eof Two ∷ what.Stored 2 true ∷ []) (what.Timer Ack 3))
    ≡ Some (digits 9 0x280002000105020502 ∷ [])
unfolding initial step state_of answer_at runs_of runs_from written spelling digits width_from
finished_again = refl

pub finished_at_the_limit : sends (last class_two (metadata Two ∷ part Two ∷ eof Two ∷ what.Stored 2 true ∷ what.Timer Ack 3 ∷ []) (what.Timer Ack 4))
    ≡ Some []
unfolding initial step state_of answer_at runs_of runs_from written spelling digits width_from
finished_at_the_limit = refl

-- an EOF that is received again does not begin the count again
pub ack_counted_on_with_eof : tells (last class_two (metadata Two ∷ part Two ∷ eof Two ∷ what.Stored 2 true ∷ what.Timer Ack 3 ∷ eof Two ∷ []) (what.Timer Ack 4))
    ≡ Some (told.TransactionFinished 0 Complete Retained ∷ [])
unfolding initial step state_of answer_at runs_of runs_from digits
ack_counted_on_with_eof = refl

-- the indication has the values of the Finished PDU, even where the ACK says otherwise
pub finished_acknowledged_told : tells (last class_two (metadata Two ∷ part Two ∷ eof Two ∷ what.Stored 2 true ∷ []) (finished_acknowledged 0))
    ≡ Some (told.TransactionFinished 0 Complete Retained ∷ [])
unfolding initial step state_of answer_at runs_of runs_from digits
finished_acknowledged_told = refl

pub finished_acknowledged_otherwise : tells (last class_two (metadata Two ∷ part Two ∷ eof Two ∷ what.Stored 2 true ∷ []) (finished_acknowledged 5))
    ≡ Some (told.TransactionFinished 0 Complete Retained ∷ [])
unfolding initial step state_of answer_at runs_of runs_from digits
finished_acknowledged_otherwise = refl

pub cancel_acknowledged_told : tells (last class_two (metadata Two ∷ what.Cancel ∷ []) (finished_acknowledged 15))
    ≡ Some (told.TransactionFinished 15 Incomplete Discarded ∷ [])
unfolding initial step state_of answer_at runs_of runs_from digits
cancel_acknowledged_told = refl

-- while its ACK is waited for, an EOF is only acknowledged
pub first_eof_while_closing : sends (last class_two (metadata Two ∷ what.Cancel ∷ []) (eof Two))
    ≡ Some (digits 10 0x28000300010502064001 ∷ [])
unfolding initial step state_of answer_at runs_of runs_from written spelling digits width_from
first_eof_while_closing = refl

pub first_eof_while_closing_told : tells (last class_two (metadata Two ∷ what.Cancel ∷ []) (eof Two)) ≡ Some []
unfolding initial step state_of answer_at runs_of runs_from digits
first_eof_while_closing_told = refl

pub cancelling_eof_while_closing : sends (last class_two (metadata Two ∷ what.Cancel ∷ []) (eof_of Two 15 0 0))
    ≡ Some (digits 10 0x280003000105020640f1 ∷ [])
unfolding initial step state_of answer_at runs_of runs_from written spelling digits width_from
cancelling_eof_while_closing = refl

pub eof_of_inactivity_while_closing : sends (last class_two (metadata Two ∷ what.Cancel ∷ []) (eof_of Two 8 0 0))
    ≡ Some (digits 10 0x28000300010502064081 ∷ [])
unfolding initial step state_of answer_at runs_of runs_from written spelling digits width_from
eof_of_inactivity_while_closing = refl

pub cancelling_eof_while_closing_told : tells (last class_two (metadata Two ∷ what.Cancel ∷ []) (eof_of Two 15 0 0)) ≡ Some []
unfolding initial step state_of answer_at runs_of runs_from digits
cancelling_eof_while_closing_told = refl

-- ---- the lengths of the header

-- ACK, NAK and Keep Alive use the lengths of the PDU that opened the reception
pub wide_eof_answered : sends (last wide_two [] (wide (body.Eof (eof_value 0 0x6162_6300 3))))
    ≡ Some (digits 14 0x2800031200010000050002064001 ∷ digits 36 0x280019120001000005000208000000000000000300000000000000000000000000000003 ∷ [])
unfolding initial step state_of answer_at runs_of runs_from written spelling digits width_from
wide_eof_answered = refl

pub wide_keep_alive : sends (last wide_two (wide (body.Metadata (metadata_value 0 3)) ∷ []) (wide (body.Prompt prompt.KeepAlive)))
    ≡ Some (digits 16 0x28000512000100000500020c00000000 ∷ [])
unfolding initial step state_of answer_at runs_of runs_from written spelling digits width_from
wide_keep_alive = refl

-- so do the Finished PDU and its fault location
pub wide_finished : sends (last wide_two (wide (body.Metadata (metadata_value 0 0)) ∷ wide (body.Eof (eof_value 0 0 0)) ∷ []) (what.Stored 1 true))
    ≡ Some (digits 13 0x28000212000100000500020502 ∷ [])
unfolding initial step state_of answer_at runs_of runs_from written spelling digits width_from
wide_finished = refl

pub wide_cancelled : sends (last wide_two (wide (body.Metadata (metadata_value 0 3)) ∷ []) what.Cancel)
    ≡ Some (digits 17 0x280006120001000005000205f406020002 ∷ [])
unfolding initial step state_of answer_at runs_of runs_from written spelling digits width_from
wide_cancelled = refl

-- the lengths of a later PDU are not used
pub lengths_of_the_opening : sends (last wide_two (wide (body.Metadata (metadata_value 0 0)) ∷ []) (eof_of Two 0 0 0))
    ≡ Some (digits 14 0x2800031200010000050002064001 ∷ [])
unfolding initial step state_of answer_at runs_of runs_from written spelling digits width_from
lengths_of_the_opening = refl

pub lengths_of_the_opening_kept : sends (last class_two (metadata_of Two 0 0 ∷ []) (wide (body.Eof (eof_value 0 0 0))))
    ≡ Some (digits 10 0x28000300010502064001 ∷ [])
unfolding initial step state_of answer_at runs_of runs_from written spelling digits width_from
lengths_of_the_opening_kept = refl

-- ---- after the end an EOF gets only its echo, and in class 1 nothing

pub eof_echoed : echoes (eof Two) ≡ Some (digits 10 0x28000300010502064002 ∷ [])
unfolding written spelling digits
eof_echoed = refl

pub metadata_not_echoed : echoes (metadata Two) ≡ Some []
metadata_not_echoed = refl

pub one_not_echoed : echoes (eof One) ≡ Some []
one_not_echoed = refl
