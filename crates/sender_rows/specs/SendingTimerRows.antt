-- Rows. Rows on a sender's timers, with the number of the step's entry as the stamp, and on the faults they declare.
use Rattle.std.specs.Prelude.{◌≡◌, List, [], ◌∷◌, ◌++◌, Some, refl}
use Rattle.cfdp_types.specs.Handlers.{with_handler}
use Rattle.cfdp_types.specs.Reference.{all_cancel, reference}
use Rattle.cfdp_types.specs.declared.names.Handler.TheVariants.{Suspend, Ignore, Abandon}
use Rattle.cfdp_types.specs.declared.names.Role.TheVariants.{RecvTwo}
use Rattle.cfdp_types.specs.declared.names.TimerKind.TheVariants.{Ack, Inactivity}
use Rattle.cfdp_types.specs.declared.timer_op.TimerOp.TheVariants as op
use Rattle.txn_events.specs.declared.event.What.TheVariants as what
use Rattle.pdu_values.specs.Numbers.{digits}
use Rattle.pdu_values.specs.Spelling.{spelling, written}
use Rattle.pdu_values.specs.Tlvs.{width_from}
use Rattle.indications.specs.declared.indication.Indication.TheVariants as told
use Rattle.gap_list.specs.Runs.{runs_of, runs_from}
use Rattle.sender_table.specs.Sending.{Event, put, happens, initial, step, state_of}
use Rattle.sender_table.specs.Answers.{answer_at}
use Rattle.sender_rows.specs.SendingRows.{one, two, two_with, unequal_two, pump, eof_acknowledged, nak, finished, sent_all, acknowledged_all, last, tells, sends, operates, after}

-- ---- what arms timers

-- Put and Metadata arm no timer
pub put_arms_nothing : operates (last two [] put) ≡ Some []
unfolding initial step state_of answer_at runs_of runs_from digits
put_arms_nothing = refl

pub metadata_arms_nothing : operates (last two (put ∷ []) pump) ≡ Some []
unfolding initial step state_of answer_at runs_of runs_from digits
metadata_arms_nothing = refl

-- the EOF arms Ack, and its ACK arms Inactivity, for the Finished PDU
pub eof_arms : operates (last two (put ∷ pump ∷ pump ∷ []) pump) ≡ Some (op.Arm two.key Ack 3 1000 ∷ [])
unfolding initial step state_of answer_at runs_of runs_from digits
eof_arms = refl

pub eof_in_one_arms_nothing : operates (last one (put ∷ pump ∷ pump ∷ []) pump) ≡ Some []
unfolding initial step state_of answer_at runs_of runs_from digits
eof_in_one_arms_nothing = refl

pub ack_disarms : operates (last two sent_all (eof_acknowledged 0)) ≡ Some (op.Disarm two.key Ack 4 ∷ op.Arm two.key Inactivity 4 1000 ∷ [])
unfolding initial step state_of answer_at runs_of runs_from digits
ack_disarms = refl

-- a NAK before the EOF's ACK arms nothing
pub nak_arms_nothing : operates (last two sent_all nak) ≡ Some []
unfolding initial step state_of answer_at runs_of runs_from digits
nak_arms_nothing = refl

pub nak_arms : operates (last two acknowledged_all nak) ≡ Some (op.Arm two.key Inactivity 5 1000 ∷ [])
unfolding initial step state_of answer_at runs_of runs_from digits
nak_arms = refl

-- an expiration arms Ack again
pub expiration_arms_again : operates (last two sent_all (happens (what.Timer Ack 3))) ≡ Some (op.Arm two.key Ack 4 1000 ∷ [])
unfolding initial step state_of answer_at runs_of runs_from digits
expiration_arms_again = refl

pub expiration_sends_eof : sends (last two sent_all (happens (what.Timer Ack 3)))
    ≡ Some (digits 17 0x20000a0002040104006162630000000003 ∷ [])
unfolding initial step state_of answer_at runs_of runs_from written spelling digits width_from
expiration_sends_eof = refl

pub expiration_tells_nothing : tells (last two sent_all (happens (what.Timer Ack 3))) ≡ Some []
unfolding initial step state_of answer_at runs_of runs_from digits
expiration_tells_nothing = refl

-- ---- what stops timers

-- while suspended no timer runs; after Resume the one that is waited for
pub suspended_disarms : operates (last two sent_all (happens what.Suspend)) ≡ Some (op.Disarm two.key Ack 4 ∷ [])
unfolding initial step state_of answer_at runs_of runs_from digits
suspended_disarms = refl

pub suspended_disarms_inactivity : operates (last two acknowledged_all (happens what.Suspend)) ≡ Some (op.Disarm two.key Inactivity 5 ∷ [])
unfolding initial step state_of answer_at runs_of runs_from digits
suspended_disarms_inactivity = refl

pub nak_while_suspended_arms_nothing : operates (last two (acknowledged_all ++ happens what.Suspend ∷ []) nak) ≡ Some []
unfolding initial step state_of answer_at runs_of runs_from digits
nak_while_suspended_arms_nothing = refl

pub resumed_arms_nothing : operates (last two (put ∷ happens what.Suspend ∷ []) (happens what.Resume)) ≡ Some []
unfolding initial step state_of answer_at runs_of runs_from digits
resumed_arms_nothing = refl

pub resumed_arms_ack : operates (last two (sent_all ++ happens what.Suspend ∷ []) (happens what.Resume))
    ≡ Some (op.Arm two.key Ack 5 1000 ∷ [])
unfolding initial step state_of answer_at runs_of runs_from digits
resumed_arms_ack = refl

pub resumed_arms_inactivity : operates (last two (acknowledged_all ++ happens what.Suspend ∷ []) (happens what.Resume))
    ≡ Some (op.Arm two.key Inactivity 6 1000 ∷ [])
unfolding initial step state_of answer_at runs_of runs_from digits
resumed_arms_inactivity = refl

pub acknowledged_while_suspended : operates (last two (sent_all ++ happens what.Suspend ∷ eof_acknowledged 0 ∷ []) (happens what.Resume))
    ≡ Some (op.Arm two.key Inactivity 6 1000 ∷ [])
unfolding initial step state_of answer_at runs_of runs_from digits
acknowledged_while_suspended = refl

-- while suspended a Finished PDU arms nothing
pub finished_while_suspended_arms_nothing : operates (last two (sent_all ++ happens what.Suspend ∷ []) finished) ≡ Some []
unfolding initial step state_of answer_at runs_of runs_from digits
finished_while_suspended_arms_nothing = refl

-- in the closing phase only Ack runs
pub cancelling_arms : operates (last two acknowledged_all (happens what.Cancel))
    ≡ Some (op.Arm two.key Ack 5 1000 ∷ op.Disarm two.key Inactivity 5 ∷ [])
unfolding initial step state_of answer_at runs_of runs_from digits
cancelling_arms = refl

pub cancelling_suspended_arms : operates (last two (put ∷ happens what.Suspend ∷ []) (happens what.Cancel))
    ≡ Some (op.Arm two.key Ack 2 1000 ∷ [])
unfolding initial step state_of answer_at runs_of runs_from digits
cancelling_suspended_arms = refl

-- after the end no timer runs
pub end_disarms : operates (last two acknowledged_all finished) ≡ Some (op.Disarm two.key Inactivity 5 ∷ [])
unfolding initial step state_of answer_at runs_of runs_from digits
end_disarms = refl

pub acknowledged_cancel_disarms : operates (last two (put ∷ pump ∷ happens what.Cancel ∷ []) (eof_acknowledged 15))
    ≡ Some (op.Disarm two.key Ack 3 ∷ [])
unfolding initial step state_of answer_at runs_of runs_from digits
acknowledged_cancel_disarms = refl

pub abandon_disarms : operates (last two sent_all (happens what.Abandon)) ≡ Some (op.Disarm two.key Ack 4 ∷ [])
unfolding initial step state_of answer_at runs_of runs_from digits
abandon_disarms = refl

-- ---- faults

-- no ACK of the EOF: an EOF that cancels is sent, and its expirations are counted afresh
pub ack_limit_cancels : sends (last two (sent_all ++ happens (what.Timer Ack 3) ∷ []) (happens (what.Timer Ack 4)))
    ≡ Some (digits 20 0x20000d0002040104106162630000000003060102 ∷ [])
unfolding initial step state_of answer_at runs_of runs_from written spelling digits width_from
ack_limit_cancels = refl

pub ack_limit_cancels_again : sends (last two (sent_all ++ happens (what.Timer Ack 3) ∷ happens (what.Timer Ack 4) ∷ []) (happens (what.Timer Ack 5)))
    ≡ Some (digits 20 0x20000d0002040104106162630000000003060102 ∷ [])
unfolding initial step state_of answer_at runs_of runs_from written spelling digits width_from
ack_limit_cancels_again = refl

-- no Finished PDU is received
pub inactivity_cancels : sends (last two acknowledged_all (happens (what.Timer Inactivity 4)))
    ≡ Some (digits 20 0x20000d0002040104806162630000000003060102 ∷ [])
unfolding initial step state_of answer_at runs_of runs_from written spelling digits width_from
inactivity_cancels = refl

pub inactivity_cancels_arms : operates (last two acknowledged_all (happens (what.Timer Inactivity 4)))
    ≡ Some (op.Arm two.key Ack 5 1000 ∷ op.Disarm two.key Inactivity 5 ∷ [])
unfolding initial step state_of answer_at runs_of runs_from digits
inactivity_cancels_arms = refl

-- an ignored fault is indicated with the progress; its timer runs again, and the count begins again
pub ack_limit_ignored : tells (last (two_with 1 Ignore) (sent_all ++ happens (what.Timer Ack 3) ∷ []) (happens (what.Timer Ack 4)))
    ≡ Some (told.Fault 1 3 ∷ [])
unfolding initial step state_of answer_at runs_of runs_from digits
ack_limit_ignored = refl

pub ack_limit_ignored_sends_nothing : sends (last (two_with 1 Ignore) (sent_all ++ happens (what.Timer Ack 3) ∷ []) (happens (what.Timer Ack 4)))
    ≡ Some []
unfolding initial step state_of answer_at runs_of runs_from written spelling digits width_from
ack_limit_ignored_sends_nothing = refl

pub ack_limit_ignored_arms : operates (last (two_with 1 Ignore) (sent_all ++ happens (what.Timer Ack 3) ∷ []) (happens (what.Timer Ack 4)))
    ≡ Some (op.Arm two.key Ack 5 1000 ∷ [])
unfolding initial step state_of answer_at runs_of runs_from digits
ack_limit_ignored_arms = refl

pub counted_again : tells (last (two_with 1 Ignore) (sent_all ++ happens (what.Timer Ack 3) ∷ happens (what.Timer Ack 4) ∷ []) (happens (what.Timer Ack 5)))
    ≡ Some []
unfolding initial step state_of answer_at runs_of runs_from digits
counted_again = refl

pub inactivity_ignored_arms : operates (last (two_with 8 Ignore) acknowledged_all (happens (what.Timer Inactivity 4)))
    ≡ Some (op.Arm two.key Inactivity 5 1000 ∷ [])
unfolding initial step state_of answer_at runs_of runs_from digits
inactivity_ignored_arms = refl

-- it begins again with Resume
pub counted_again_after_resume : sends (last two (sent_all ++ happens (what.Timer Ack 3) ∷ happens what.Suspend ∷ happens what.Resume ∷ []) (happens (what.Timer Ack 6)))
    ≡ Some (digits 17 0x20000a0002040104006162630000000003 ∷ [])
unfolding initial step state_of answer_at runs_of runs_from written spelling digits width_from
counted_again_after_resume = refl

-- Ack expires once, and then the fault of Inactivity is ignored: that leaves the count of Ack as it is
abbrev pub ignored_inactivity : List Event
ignored_inactivity = sent_all ++ happens (what.Timer Ack 3) ∷ eof_acknowledged 0 ∷ happens (what.Timer Inactivity 5) ∷ []

pub counted_on_after_another_ignored : (state_of (two_with 8 Ignore) (after (two_with 8 Ignore) ignored_inactivity)).tries Ack ≡ 1
unfolding initial step state_of runs_of runs_from
counted_on_after_another_ignored = refl

-- the other handlers
pub inactivity_suspends : tells (last (two_with 8 Suspend) acknowledged_all (happens (what.Timer Inactivity 4)))
    ≡ Some (told.Suspended 8 ∷ [])
unfolding initial step state_of answer_at runs_of runs_from digits
inactivity_suspends = refl

pub inactivity_abandons : tells (last (two_with 8 Abandon) acknowledged_all (happens (what.Timer Inactivity 4)))
    ≡ Some (told.Abandoned 8 3 ∷ [])
unfolding initial step state_of answer_at runs_of runs_from digits
inactivity_abandons = refl

-- a sender uses its own table
pub table_of_the_sender : tells (last (record two { params = record reference { tables = record (reference.tables) { receive_two = with_handler (all_cancel RecvTwo) 8 Abandon } } })
    acknowledged_all (happens (what.Timer Inactivity 4))) ≡ Some []
unfolding initial step state_of answer_at runs_of runs_from digits
table_of_the_sender = refl

-- ---- the limit and the length of each timer, where all differ

-- how long each runs
pub ack_length : operates (last unequal_two (put ∷ pump ∷ pump ∷ []) pump) ≡ Some (op.Arm two.key Ack 3 1000 ∷ [])
unfolding initial step state_of answer_at runs_of runs_from digits
ack_length = refl

pub inactivity_length : operates (last unequal_two sent_all (eof_acknowledged 0))
    ≡ Some (op.Disarm two.key Ack 4 ∷ op.Arm two.key Inactivity 4 1003 ∷ [])
unfolding initial step state_of answer_at runs_of runs_from digits
inactivity_length = refl

-- Ack is a fault at the second expiration
pub ack_below_two : sends (last unequal_two sent_all (happens (what.Timer Ack 3)))
    ≡ Some (digits 17 0x20000a0002040104006162630000000003 ∷ [])
unfolding initial step state_of answer_at runs_of runs_from written spelling digits width_from
ack_below_two = refl

pub ack_at_two : sends (last unequal_two (sent_all ++ happens (what.Timer Ack 3) ∷ []) (happens (what.Timer Ack 4)))
    ≡ Some (digits 20 0x20000d0002040104106162630000000003060102 ∷ [])
unfolding initial step state_of answer_at runs_of runs_from written spelling digits width_from
ack_at_two = refl
