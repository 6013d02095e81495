-- Rows. Rows on events that are refused, and on similar ones that are accepted.
use Rattle.std.specs.Prelude.{◌≡◌, ℕ, true, List, [], ◌∷◌, Some, None, Err, refl}
use Rattle.cfdp_types.specs.declared.names.Class.TheVariants.{One, Two}
use Rattle.cfdp_types.specs.declared.names.Delivery.TheVariants.{Complete, Incomplete}
use Rattle.cfdp_types.specs.declared.names.FileStatus.TheVariants.{Discarded, Retained}
use Rattle.cfdp_types.specs.declared.names.TimerKind.TheVariants.{Nak}
use Rattle.txn_events.specs.declared.event.What.{What}
use Rattle.txn_events.specs.declared.event.What.TheVariants as what
use Rattle.txn_events.specs.declared.refusal.Refusal.TheVariants as refusal
use Rattle.pdu_values.specs.Numbers.{digits}
use Rattle.pdu_values.specs.declared.pdu.Body.TheVariants as body
use Rattle.pdu_values.specs.declared.bodies.Acknowledged.TheVariants as acknowledged
use Rattle.pdu_values.specs.declared.bodies.TransactionStatus.TheVariants.{Terminated}
use Rattle.pdu_values.specs.declared.bodies.Prompt.TheVariants as prompt
use Rattle.indications.specs.declared.indication.Indication.TheVariants as told
use Rattle.indications.specs.declared.indication.Phase.TheVariants as phase
use Rattle.gap_list.specs.Runs.{runs_of, runs_from}
use Rattle.receiver_table.specs.Reception.{State, initial, step, state_of}
use Rattle.receiver_table.specs.Answers.{answer_at}
use Rattle.receiver_rows.specs.ReceptionRows.{pdu, metadata_of, file_data, eof_of, abc, metadata, part, eof, prompted, finished_acknowledged, after, last, tells, hands_out, class_one, class_two}

-- a reception that the user cancelled
abbrev pub closing : List What
closing = metadata Two ∷ what.Cancel ∷ []

-- ---- another mode, a stale timer, a stale answer of the file store

-- a PDU of the other class
pub other_mode : last class_one (metadata One ∷ []) (part Two) ≡ Err refusal.ModeMismatch
unfolding initial step state_of answer_at runs_of runs_from digits
other_mode = refl

-- a timer that does not run, has another stamp, or was armed again since
pub timer_never_armed : last class_two (metadata Two ∷ []) (what.Timer Nak 0) ≡ Err refusal.StaleTimer
unfolding initial step state_of answer_at runs_of runs_from digits
timer_never_armed = refl

pub timer_of_another_stamp : last class_two (part Two ∷ eof Two ∷ []) (what.Timer Nak 0) ≡ Err refusal.StaleTimer
unfolding initial step state_of answer_at runs_of runs_from digits
timer_of_another_stamp = refl

pub timer_armed_again : last class_two (part Two ∷ eof Two ∷ what.Timer Nak 1 ∷ []) (what.Timer Nak 1) ≡ Err refusal.StaleTimer
unfolding initial step state_of answer_at runs_of runs_from digits
timer_armed_again = refl

pub timer_disarmed : last class_two (metadata Two ∷ eof Two ∷ what.Suspend ∷ []) (what.Timer Nak 1) ≡ Err refusal.StaleTimer
unfolding initial step state_of answer_at runs_of runs_from digits
timer_disarmed = refl

-- an answer to another deposit, or where no deposit is waiting
pub stamp_of_another_deposit : last class_one (metadata One ∷ part One ∷ eof One ∷ []) (what.Stored 1 true) ≡ Err refusal.StaleStored
unfolding initial step state_of answer_at runs_of runs_from digits
stamp_of_another_deposit = refl

pub stored_unasked : last class_one (metadata One ∷ part One ∷ []) (what.Stored 1 true) ≡ Err refusal.StaleStored
unfolding initial step state_of answer_at runs_of runs_from digits
stored_unasked = refl

-- ---- until the file store answers

-- only its answer and Report are accepted
pub pdu_while_storing : last class_one (metadata One ∷ part One ∷ eof One ∷ []) (metadata One) ≡ Err refusal.Storing
unfolding initial step state_of answer_at runs_of runs_from digits
pdu_while_storing = refl

pub eof_while_storing : last class_two (metadata Two ∷ part Two ∷ eof Two ∷ []) (eof Two) ≡ Err refusal.Storing
unfolding initial step state_of answer_at runs_of runs_from digits
eof_while_storing = refl

pub cancel_while_storing : last class_two (metadata Two ∷ part Two ∷ eof Two ∷ []) what.Cancel ≡ Err refusal.Storing
unfolding initial step state_of answer_at runs_of runs_from digits
cancel_while_storing = refl

pub abandon_while_storing : last class_two (metadata Two ∷ part Two ∷ eof Two ∷ []) what.Abandon ≡ Err refusal.Storing
unfolding initial step state_of answer_at runs_of runs_from digits
abandon_while_storing = refl

pub report_while_storing : tells (last class_two (metadata Two ∷ part Two ∷ eof Two ∷ []) what.Report)
    ≡ Some (told.Report phase.Storing 3 ∷ [])
unfolding initial step state_of answer_at runs_of runs_from digits
report_while_storing = refl

-- after Report the deposit is still waiting
pub stored_after_report : tells (last class_one (metadata One ∷ part One ∷ eof One ∷ what.Report ∷ []) (what.Stored 2 true))
    ≡ Some (told.TransactionFinished 0 Complete Retained ∷ [])
unfolding initial step state_of answer_at runs_of runs_from digits
stored_after_report = refl

pub pdu_after_report : last class_one (metadata One ∷ part One ∷ eof One ∷ what.Report ∷ []) (metadata One) ≡ Err refusal.Storing
unfolding initial step state_of answer_at runs_of runs_from digits
pdu_after_report = refl

-- of several reasons the first: Storing comes before WrongState, and after a stale timer and another mode
pub misplaced_while_storing : last class_one (metadata One ∷ part One ∷ eof One ∷ []) what.Suspend ≡ Err refusal.Storing
unfolding initial step state_of answer_at runs_of runs_from digits
misplaced_while_storing = refl

pub timer_while_storing : last class_two (metadata Two ∷ eof Two ∷ part Two ∷ []) (what.Timer Nak 1) ≡ Err refusal.StaleTimer
unfolding initial step state_of answer_at runs_of runs_from digits
timer_while_storing = refl

pub other_mode_while_storing : last class_one (metadata One ∷ part One ∷ eof One ∷ []) (part Two) ≡ Err refusal.ModeMismatch
unfolding initial step state_of answer_at runs_of runs_from digits
other_mode_while_storing = refl

-- ---- in the closing phase

-- everything is refused but EOF, ACK (Finished), Report and Abandon
pub cancel_while_closing : last class_two (metadata Two ∷ what.Cancel ∷ []) what.Cancel ≡ Err refusal.WrongState
unfolding initial step state_of answer_at runs_of runs_from digits
cancel_while_closing = refl

pub suspend_while_closing : last class_two (metadata Two ∷ what.Cancel ∷ []) what.Suspend ≡ Err refusal.WrongState
unfolding initial step state_of answer_at runs_of runs_from digits
suspend_while_closing = refl

pub resume_while_closing : last class_two (metadata Two ∷ what.Cancel ∷ []) what.Resume ≡ Err refusal.WrongState
unfolding initial step state_of answer_at runs_of runs_from digits
resume_while_closing = refl

pub resume_closing_from_suspension : last class_two (metadata Two ∷ what.Suspend ∷ what.Cancel ∷ []) what.Resume ≡ Err refusal.WrongState
unfolding initial step state_of answer_at runs_of runs_from digits
resume_closing_from_suspension = refl

pub metadata_while_closing : last class_two (metadata Two ∷ what.Cancel ∷ []) (metadata Two) ≡ Err refusal.WrongState
unfolding initial step state_of answer_at runs_of runs_from digits
metadata_while_closing = refl

pub part_while_closing : last class_two (metadata Two ∷ what.Cancel ∷ []) (part Two) ≡ Err refusal.WrongState
unfolding initial step state_of answer_at runs_of runs_from digits
part_while_closing = refl

pub prompt_while_closing : last class_two (metadata Two ∷ what.Cancel ∷ []) (prompted prompt.KeepAlive) ≡ Err refusal.WrongState
unfolding initial step state_of answer_at runs_of runs_from digits
prompt_while_closing = refl

pub abandon_while_closing : tells (last class_two (metadata Two ∷ what.Cancel ∷ []) what.Abandon) ≡ Some (told.Abandoned 15 0 ∷ [])
unfolding initial step state_of answer_at runs_of runs_from digits
abandon_while_closing = refl

-- WrongState comes before TooLarge; an EOF, which is possible there, may be too large
pub misplaced_before_too_large : last class_two (metadata Two ∷ what.Cancel ∷ []) (metadata_of Two 0 16777217) ≡ Err refusal.WrongState
unfolding initial step state_of answer_at runs_of runs_from digits
misplaced_before_too_large = refl

pub large_eof_while_closing : last class_two (metadata Two ∷ what.Cancel ∷ []) (eof_of Two 0 0 16777217) ≡ Err refusal.TooLarge
unfolding initial step state_of answer_at runs_of runs_from digits
large_eof_while_closing = refl

-- ---- events that are not possible

-- class 1 refuses Suspend, Prompt and ACK
pub suspend_in_class_one : last class_one (metadata One ∷ part One ∷ []) what.Suspend ≡ Err refusal.WrongState
unfolding initial step state_of answer_at runs_of runs_from digits
suspend_in_class_one = refl

pub prompt_in_class_one : last class_one (metadata One ∷ []) (pdu One (body.Prompt prompt.Nak)) ≡ Err refusal.WrongState
unfolding initial step state_of answer_at runs_of runs_from digits
prompt_in_class_one = refl

pub ack_in_class_one : last class_one (metadata One ∷ []) (pdu One (body.Ack (record { of = acknowledged.Finished; condition = 0; status = Terminated })))
    ≡ Err refusal.WrongState
unfolding initial step state_of answer_at runs_of runs_from digits
ack_in_class_one = refl

-- Suspend is refused while suspended, and Resume is possible only then
pub suspend_twice : last class_two (metadata Two ∷ what.Suspend ∷ []) what.Suspend ≡ Err refusal.WrongState
unfolding initial step state_of answer_at runs_of runs_from digits
suspend_twice = refl

pub resume_unsuspended : last class_two (metadata Two ∷ []) what.Resume ≡ Err refusal.WrongState
unfolding initial step state_of answer_at runs_of runs_from digits
resume_unsuspended = refl

-- an ACK of a Finished PDU that was not sent, and an ACK of an EOF
pub ack_before_finished : last class_two (metadata Two ∷ []) (finished_acknowledged 0) ≡ Err refusal.WrongState
unfolding initial step state_of answer_at runs_of runs_from digits
ack_before_finished = refl

pub ack_of_eof : last class_two (metadata Two ∷ what.Cancel ∷ []) (pdu Two (body.Ack (record { of = acknowledged.Eof; condition = 15; status = Terminated })))
    ≡ Err refusal.WrongState
unfolding initial step state_of answer_at runs_of runs_from digits
ack_of_eof = refl

-- the other PDUs that go toward the sender, and Pump
pub nak_toward_sender : last class_two (metadata Two ∷ []) (pdu Two (body.Nak (record { start = 0; end = 0; requests = [] })))
    ≡ Err refusal.WrongState
unfolding initial step state_of answer_at runs_of runs_from digits
nak_toward_sender = refl

pub keep_alive_toward_sender : last class_two (metadata Two ∷ []) (pdu Two (body.KeepAlive (record { progress = 0 })))
    ≡ Err refusal.WrongState
unfolding initial step state_of answer_at runs_of runs_from digits
keep_alive_toward_sender = refl

pub finished_toward_sender : last class_two (metadata Two ∷ []) (pdu Two (body.Finished (record { condition = 0; delivery = Complete; status = Retained; location = None })))
    ≡ Err refusal.WrongState
unfolding initial step state_of answer_at runs_of runs_from digits
finished_toward_sender = refl

pub pump_at_a_receiver : last class_two (metadata Two ∷ []) what.Pump ≡ Err refusal.WrongState
unfolding initial step state_of answer_at runs_of runs_from digits
pump_at_a_receiver = refl

-- ---- too large

-- a file beyond the limit is refused, and the largest is accepted
pub large_metadata : last class_one [] (metadata_of One 0 16777217) ≡ Err refusal.TooLarge
unfolding initial step state_of answer_at runs_of runs_from digits
large_metadata = refl

pub largest_metadata : tells (last class_one [] (metadata_of One 0 16777216))
    ≡ Some (told.MetadataRecv (record { source = record { 0 = 1 }; size = 16777216; source_name = 97 ∷ []; destination_name = 98 ∷ []; messages = [] }) ∷ [])
unfolding initial step state_of answer_at runs_of runs_from digits
largest_metadata = refl

-- the end of the file data counts
pub large_part : last class_one (metadata One ∷ []) (file_data One 16777214 abc) ≡ Err refusal.TooLarge
unfolding initial step state_of answer_at runs_of runs_from digits
large_part = refl

-- file data may end at the limit
pub largest_part : hands_out (last class_one [] (file_data One 16777213 abc)) ≡ Some []
unfolding initial step state_of answer_at runs_of runs_from digits
largest_part = refl

pub largest_part_and_one_octet : last class_one [] (file_data One 16777213 (97 ∷ 98 ∷ 99 ∷ 100 ∷ [])) ≡ Err refusal.TooLarge
unfolding initial step state_of answer_at runs_of runs_from digits
largest_part_and_one_octet = refl

-- file data without octets ends at its offset
pub empty_part_at_the_limit : hands_out (last class_one [] (file_data One 16777216 [])) ≡ Some []
unfolding initial step state_of answer_at runs_of runs_from digits
empty_part_at_the_limit = refl

pub empty_part_above_the_limit : last class_one [] (file_data One 16777217 []) ≡ Err refusal.TooLarge
unfolding initial step state_of answer_at runs_of runs_from digits
empty_part_above_the_limit = refl

-- the size in an EOF counts if it has no error
pub large_eof : last class_one (metadata One ∷ []) (eof_of One 0 0 16777217) ≡ Err refusal.TooLarge
unfolding initial step state_of answer_at runs_of runs_from digits
large_eof = refl

pub largest_eof : tells (last class_one (part One ∷ []) (eof_of One 0 0 16777216)) ≡ Some (told.EofRecv ∷ [])
unfolding initial step state_of answer_at runs_of runs_from digits
largest_eof = refl

pub large_first_eof_in_class_two : last class_two [] (eof_of Two 0 0 16777217) ≡ Err refusal.TooLarge
unfolding initial step state_of answer_at runs_of runs_from digits
large_first_eof_in_class_two = refl

pub large_eof_with_an_error : tells (last class_two (metadata Two ∷ []) (eof_of Two 15 0 16777217))
    ≡ Some (told.TransactionFinished 15 Incomplete Discarded ∷ [])
unfolding initial step state_of answer_at runs_of runs_from digits
large_eof_with_an_error = refl

-- ---- a journal that is full but for its last places

-- the state after "abc" was received, as if there were this many entries
abbrev pub with_entries : ℕ → State
with_entries n = record (state_of (after class_two (metadata Two ∷ part Two ∷ []))) { entries = n }

-- the last two places are reserved for the file store's answer and for Abandon
pub full_for_report : answer_at class_two (with_entries 262142) what.Report ≡ Err refusal.JournalFull
unfolding initial step state_of answer_at runs_of runs_from digits
full_for_report = refl

pub full_for_eof : answer_at class_two (with_entries 262142) (eof Two) ≡ Err refusal.JournalFull
unfolding initial step state_of answer_at runs_of runs_from digits
full_for_eof = refl

-- all other reasons come before JournalFull
pub large_when_full : answer_at class_two (with_entries 262142) (metadata_of Two 0 16777217) ≡ Err refusal.TooLarge
unfolding initial step state_of answer_at runs_of runs_from digits
large_when_full = refl

pub misplaced_when_full : answer_at class_two (with_entries 262142) what.Resume ≡ Err refusal.WrongState
unfolding initial step state_of answer_at runs_of runs_from digits
misplaced_when_full = refl

pub room_for_report : tells (answer_at class_two (with_entries 262141) what.Report) ≡ Some (told.Report phase.Active 3 ∷ [])
unfolding initial step state_of answer_at runs_of runs_from digits
room_for_report = refl

pub room_for_eof : hands_out (answer_at class_two (with_entries 262141) (eof Two)) ≡ Some (262141 ∷ [])
unfolding initial step state_of answer_at runs_of runs_from digits
room_for_eof = refl

pub room_for_abandon : tells (answer_at class_two (with_entries 262143) what.Abandon) ≡ Some (told.Abandoned 15 3 ∷ [])
unfolding initial step state_of answer_at runs_of runs_from digits
room_for_abandon = refl

-- the state after "abc" was received and then Suspend, as if there were this many entries
abbrev pub suspended_with_entries : ℕ → State
suspended_with_entries n = record (state_of (after class_two (metadata Two ∷ part Two ∷ what.Suspend ∷ []))) { entries = n }

-- while suspended the journal is full at the same number of entries
pub full_for_report_while_suspended : answer_at class_two (suspended_with_entries 262142) what.Report ≡ Err refusal.JournalFull
unfolding initial step state_of answer_at runs_of runs_from digits
full_for_report_while_suspended = refl

pub full_for_resume : answer_at class_two (suspended_with_entries 262142) what.Resume ≡ Err refusal.JournalFull
unfolding initial step state_of answer_at runs_of runs_from digits
full_for_resume = refl

pub full_for_part_while_suspended : answer_at class_two (suspended_with_entries 262142) (part Two) ≡ Err refusal.JournalFull
unfolding initial step state_of answer_at runs_of runs_from digits
full_for_part_while_suspended = refl

-- and not before that number
pub room_for_report_while_suspended : tells (answer_at class_two (suspended_with_entries 262141) what.Report)
    ≡ Some (told.Report phase.Suspended 3 ∷ [])
unfolding initial step state_of answer_at runs_of runs_from digits
room_for_report_while_suspended = refl

pub room_for_resume : tells (answer_at class_two (suspended_with_entries 262141) what.Resume) ≡ Some (told.Resumed 3 ∷ [])
unfolding initial step state_of answer_at runs_of runs_from digits
room_for_resume = refl

pub room_for_part_while_suspended : tells (answer_at class_two (suspended_with_entries 262141) (file_data Two 3 (0 ∷ [])))
    ≡ Some (told.FileSegmentRecv 3 1 ∷ [])
unfolding initial step state_of answer_at runs_of runs_from digits
room_for_part_while_suspended = refl

pub room_for_abandon_while_suspended : tells (answer_at class_two (suspended_with_entries 262142) what.Abandon) ≡ Some (told.Abandoned 15 3 ∷ [])
unfolding initial step state_of answer_at runs_of runs_from digits
room_for_abandon_while_suspended = refl

-- the state while the file store is asked, as if there were this many entries
abbrev pub storing_with_entries : ℕ → State
storing_with_entries n = record (state_of (after class_one (metadata One ∷ part One ∷ eof One ∷ []))) { entries = n }

pub room_for_stored : tells (answer_at class_one (storing_with_entries 262142) (what.Stored 2 true))
    ≡ Some (told.TransactionFinished 0 Complete Retained ∷ [])
unfolding initial step state_of answer_at runs_of runs_from digits
room_for_stored = refl

pub storing_when_full : answer_at class_one (storing_with_entries 262142) (metadata One) ≡ Err refusal.Storing
unfolding initial step state_of answer_at runs_of runs_from digits
storing_when_full = refl
