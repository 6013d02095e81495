-- Rows. Rows on timers, kind by kind; the stamp is the number of the step's entry.
use Rattle.std.specs.Prelude.{◌≡◌, true, [], ◌∷◌, Some, refl}
use Rattle.cfdp_types.specs.declared.names.Class.TheVariants.{One, Two}
use Rattle.cfdp_types.specs.declared.names.Delivery.TheVariants.{Complete, Incomplete}
use Rattle.cfdp_types.specs.declared.names.FileStatus.TheVariants.{Discarded, Retained}
use Rattle.cfdp_types.specs.declared.names.TimerKind.TheVariants.{Ack, Nak, Check, Inactivity}
use Rattle.cfdp_types.specs.declared.timer_op.TimerOp.TheVariants as op
use Rattle.txn_events.specs.declared.event.What.TheVariants as what
use Rattle.pdu_values.specs.Numbers.{digits}
use Rattle.pdu_values.specs.Spelling.{spelling, written}
use Rattle.pdu_values.specs.Tlvs.{width_from}
use Rattle.pdu_values.specs.declared.bodies.Prompt.TheVariants as prompt
use Rattle.indications.specs.declared.indication.Indication.TheVariants as told
use Rattle.gap_list.specs.Runs.{runs_of, runs_from}
use Rattle.receiver_table.specs.Reception.{initial, step, state_of}
use Rattle.receiver_table.specs.Answers.{answer_at}
use Rattle.receiver_rows.specs.ReceptionRows.{metadata, part, eof, prompted, finished_acknowledged, last, tells, sends, operates, class_one, class_two, unequal_one, unequal_two, metadata_of, file_data, eof_of}

-- ---- what arms timers

-- a PDU arms Inactivity, and whatever is awaited arms its own timer
pub metadata_arms : operates (last class_two [] (metadata Two)) ≡ Some (op.Arm class_two.key Inactivity 0 1000 ∷ [])
unfolding initial step state_of answer_at runs_of runs_from digits
metadata_arms = refl

pub nak_arms : operates (last class_two (metadata Two ∷ []) (eof Two))
    ≡ Some (op.Arm class_two.key Nak 1 1000 ∷ op.Arm class_two.key Inactivity 1 1000 ∷ [])
unfolding initial step state_of answer_at runs_of runs_from digits
nak_arms = refl

pub check_arms : operates (last class_one (metadata One ∷ []) (eof One))
    ≡ Some (op.Arm class_one.key Check 1 1000 ∷ op.Arm class_one.key Inactivity 1 1000 ∷ [])
unfolding initial step state_of answer_at runs_of runs_from digits
check_arms = refl

-- also where only the last octet is missing
pub check_arms_for_the_last_octet : operates (last class_one (metadata One ∷ file_data One 0 (97 ∷ 98 ∷ []) ∷ []) (eof_of One 0 0x6162_0000 3))
    ≡ Some (op.Arm class_one.key Check 2 1000 ∷ op.Arm class_one.key Inactivity 2 1000 ∷ [])
unfolding initial step state_of answer_at runs_of runs_from digits
check_arms_for_the_last_octet = refl

-- a timer that keeps running is not armed again
pub nak_goes_on : operates (last class_two (metadata Two ∷ eof Two ∷ []) (eof Two)) ≡ Some (op.Arm class_two.key Inactivity 2 1000 ∷ [])
unfolding initial step state_of answer_at runs_of runs_from digits
nak_goes_on = refl

pub check_goes_on : operates (last class_one (metadata One ∷ eof One ∷ []) (eof One)) ≡ Some (op.Arm class_one.key Inactivity 2 1000 ∷ [])
unfolding initial step state_of answer_at runs_of runs_from digits
check_goes_on = refl

-- an expiration arms its timer again
pub nak_arms_again : operates (last class_two (metadata Two ∷ eof Two ∷ []) (what.Timer Nak 1))
    ≡ Some (op.Arm class_two.key Nak 2 1000 ∷ [])
unfolding initial step state_of answer_at runs_of runs_from digits
nak_arms_again = refl

pub check_arms_again : operates (last class_one (metadata One ∷ eof One ∷ []) (what.Timer Check 1))
    ≡ Some (op.Arm class_one.key Check 2 1000 ∷ [])
unfolding initial step state_of answer_at runs_of runs_from digits
check_arms_again = refl

pub ack_arms_again : operates (last class_two (metadata Two ∷ part Two ∷ eof Two ∷ what.Stored 2 true ∷ []) (what.Timer Ack 3))
    ≡ Some (op.Arm class_two.key Ack 4 1000 ∷ [])
unfolding initial step state_of answer_at runs_of runs_from digits
ack_arms_again = refl

-- a Prompt for a NAK leaves all timers as they are; one for a Keep Alive arms Inactivity
pub prompt_for_nak_arms_nothing : operates (last class_two (metadata Two ∷ eof Two ∷ []) (prompted prompt.Nak)) ≡ Some []
unfolding initial step state_of answer_at runs_of runs_from digits
prompt_for_nak_arms_nothing = refl

pub prompt_for_keep_alive_arms : operates (last class_two (metadata Two ∷ []) (prompted prompt.KeepAlive))
    ≡ Some (op.Arm class_two.key Inactivity 1 1000 ∷ [])
unfolding initial step state_of answer_at runs_of runs_from digits
prompt_for_keep_alive_arms = refl

pub report_arms_nothing : operates (last class_two (metadata Two ∷ []) what.Report) ≡ Some []
unfolding initial step state_of answer_at runs_of runs_from digits
report_arms_nothing = refl

-- ---- what stops timers

-- no timer runs while suspended
pub suspended_disarms : operates (last class_two (metadata Two ∷ eof Two ∷ []) what.Suspend)
    ≡ Some (op.Disarm class_two.key Nak 2 ∷ op.Disarm class_two.key Inactivity 2 ∷ [])
unfolding initial step state_of answer_at runs_of runs_from digits
suspended_disarms = refl

pub suspended_arms_nothing : operates (last class_two (metadata Two ∷ eof Two ∷ what.Suspend ∷ []) (part Two)) ≡ Some []
unfolding initial step state_of answer_at runs_of runs_from digits
suspended_arms_nothing = refl

-- when resumed it sends a NAK again and arms the timers again
pub resumed_arms : operates (last class_two (metadata Two ∷ eof Two ∷ what.Suspend ∷ []) what.Resume)
    ≡ Some (op.Arm class_two.key Nak 3 1000 ∷ op.Arm class_two.key Inactivity 3 1000 ∷ [])
unfolding initial step state_of answer_at runs_of runs_from digits
resumed_arms = refl

-- but not where it then waits for the file store, or is in the closing phase
pub resumed_storing_arms_nothing : operates (last class_two (metadata Two ∷ eof Two ∷ what.Suspend ∷ part Two ∷ []) what.Resume) ≡ Some []
unfolding initial step state_of answer_at runs_of runs_from digits
resumed_storing_arms_nothing = refl

pub resumed_closing_arms_ack : operates (last class_two (part Two ∷ what.Suspend ∷ metadata_of Two 1 3 ∷ []) what.Resume) ≡ Some (op.Arm class_two.key Ack 3 1000 ∷ [])
unfolding initial step state_of answer_at runs_of runs_from digits
resumed_closing_arms_ack = refl

-- no timer runs while it waits for the file store
pub storing_disarms : operates (last class_two (metadata Two ∷ eof Two ∷ []) (part Two))
    ≡ Some (op.Disarm class_two.key Nak 2 ∷ op.Disarm class_two.key Inactivity 2 ∷ [])
unfolding initial step state_of answer_at runs_of runs_from digits
storing_disarms = refl

-- in the closing phase only Ack runs
pub closing_arms : operates (last class_two (metadata Two ∷ part Two ∷ eof Two ∷ []) (what.Stored 2 true))
    ≡ Some (op.Arm class_two.key Ack 3 1000 ∷ [])
unfolding initial step state_of answer_at runs_of runs_from digits
closing_arms = refl

pub cancelling_arms : operates (last class_two (metadata Two ∷ eof Two ∷ []) what.Cancel)
    ≡ Some (op.Arm class_two.key Ack 2 1000 ∷ op.Disarm class_two.key Nak 2 ∷ op.Disarm class_two.key Inactivity 2 ∷ [])
unfolding initial step state_of answer_at runs_of runs_from digits
cancelling_arms = refl

pub cancelling_suspended_arms : operates (last class_two (metadata Two ∷ what.Suspend ∷ []) what.Cancel)
    ≡ Some (op.Arm class_two.key Ack 2 1000 ∷ [])
unfolding initial step state_of answer_at runs_of runs_from digits
cancelling_suspended_arms = refl

pub nak_limit_arms : operates (last class_two (part Two ∷ eof Two ∷ what.Timer Nak 1 ∷ []) (what.Timer Nak 2))
    ≡ Some (op.Arm class_two.key Ack 3 1000 ∷ op.Disarm class_two.key Nak 3 ∷ op.Disarm class_two.key Inactivity 3 ∷ [])
unfolding initial step state_of answer_at runs_of runs_from digits
nak_limit_arms = refl

-- in the closing phase an EOF does not arm Inactivity
pub closing_eof_arms_nothing : operates (last class_two (metadata Two ∷ what.Cancel ∷ []) (eof Two)) ≡ Some []
unfolding initial step state_of answer_at runs_of runs_from digits
closing_eof_arms_nothing = refl

-- after the end no timer runs
pub end_disarms : operates (last class_two (metadata Two ∷ part Two ∷ eof Two ∷ what.Stored 2 true ∷ what.Timer Ack 3 ∷ []) (what.Timer Ack 4))
    ≡ Some (op.Disarm class_two.key Ack 5 ∷ [])
unfolding initial step state_of answer_at runs_of runs_from digits
end_disarms = refl

pub acknowledged_end_disarms : operates (last class_two (metadata Two ∷ part Two ∷ eof Two ∷ what.Stored 2 true ∷ []) (finished_acknowledged 0))
    ≡ Some (op.Disarm class_two.key Ack 4 ∷ [])
unfolding initial step state_of answer_at runs_of runs_from digits
acknowledged_end_disarms = refl

pub cancelling_eof_disarms : operates (last class_two (metadata Two ∷ eof Two ∷ []) (eof_of Two 15 0 0))
    ≡ Some (op.Disarm class_two.key Nak 2 ∷ op.Disarm class_two.key Inactivity 2 ∷ [])
unfolding initial step state_of answer_at runs_of runs_from digits
cancelling_eof_disarms = refl

pub abandon_disarms : operates (last class_two (metadata Two ∷ eof Two ∷ []) what.Abandon)
    ≡ Some (op.Disarm class_two.key Nak 2 ∷ op.Disarm class_two.key Inactivity 2 ∷ [])
unfolding initial step state_of answer_at runs_of runs_from digits
abandon_disarms = refl

pub cancel_in_class_one_disarms : operates (last class_one (metadata One ∷ eof One ∷ []) what.Cancel)
    ≡ Some (op.Disarm class_one.key Check 2 ∷ op.Disarm class_one.key Inactivity 2 ∷ [])
unfolding initial step state_of answer_at runs_of runs_from digits
cancel_in_class_one_disarms = refl

-- ---- the limit and the length of each timer, where all differ

-- how long each runs
pub inactivity_length : operates (last unequal_two [] (metadata Two)) ≡ Some (op.Arm class_two.key Inactivity 0 1003 ∷ [])
unfolding initial step state_of answer_at runs_of runs_from digits
inactivity_length = refl

pub nak_length : operates (last unequal_two (metadata Two ∷ []) (eof Two))
    ≡ Some (op.Arm class_two.key Nak 1 1001 ∷ op.Arm class_two.key Inactivity 1 1003 ∷ [])
unfolding initial step state_of answer_at runs_of runs_from digits
nak_length = refl

pub check_length : operates (last unequal_one (metadata One ∷ []) (eof One))
    ≡ Some (op.Arm class_one.key Check 1 1002 ∷ op.Arm class_one.key Inactivity 1 1003 ∷ [])
unfolding initial step state_of answer_at runs_of runs_from digits
check_length = refl

pub ack_length : operates (last unequal_two (metadata Two ∷ part Two ∷ eof Two ∷ []) (what.Stored 2 true))
    ≡ Some (op.Arm class_two.key Ack 3 1000 ∷ [])
unfolding initial step state_of answer_at runs_of runs_from digits
ack_length = refl

-- Ack ends the reception at the second expiration, Nak at the third, and Check at the fourth
pub ack_below_two : tells (last unequal_two (metadata Two ∷ part Two ∷ eof Two ∷ what.Stored 2 true ∷ []) (what.Timer Ack 3)) ≡ Some []
unfolding initial step state_of answer_at runs_of runs_from digits
ack_below_two = refl

pub ack_at_two : tells (last unequal_two (metadata Two ∷ part Two ∷ eof Two ∷ what.Stored 2 true ∷ what.Timer Ack 3 ∷ []) (what.Timer Ack 4))
    ≡ Some (told.TransactionFinished 0 Complete Retained ∷ [])
unfolding initial step state_of answer_at runs_of runs_from digits
ack_at_two = refl

pub nak_below_three : sends (last unequal_two (part Two ∷ eof Two ∷ what.Timer Nak 1 ∷ []) (what.Timer Nak 2))
    ≡ Some (digits 24 0x280011000105020800000000000000030000000000000000 ∷ [])
unfolding initial step state_of answer_at runs_of runs_from written spelling digits width_from
nak_below_three = refl

pub nak_at_three : sends (last unequal_two (part Two ∷ eof Two ∷ what.Timer Nak 1 ∷ what.Timer Nak 2 ∷ []) (what.Timer Nak 3))
    ≡ Some (digits 12 0x280005000105020574060102 ∷ [])
unfolding initial step state_of answer_at runs_of runs_from written spelling digits width_from
nak_at_three = refl

pub check_below_four : tells (last unequal_one (eof One ∷ what.Timer Check 0 ∷ what.Timer Check 1 ∷ []) (what.Timer Check 2)) ≡ Some []
unfolding initial step state_of answer_at runs_of runs_from digits
check_below_four = refl

pub check_at_four : tells (last unequal_one (eof One ∷ what.Timer Check 0 ∷ what.Timer Check 1 ∷ what.Timer Check 2 ∷ []) (what.Timer Check 3))
    ≡ Some (told.TransactionFinished 10 Incomplete Discarded ∷ [])
unfolding initial step state_of answer_at runs_of runs_from digits
check_at_four = refl
