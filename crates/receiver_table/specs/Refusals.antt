-- Meaning. Which events a reception refuses, and why: the first reason that applies, in the order of their numbers.
use Rattle.std.specs.Prelude.{◌-◌, Bool, true, false, not, ◌||◌, ◌&&◌, nat_le, if◌then◌else◌, Option, Some, None}
use Rattle.cfdp_types.specs.declared.limits.TheConstants.{JOURNAL_ENTRIES, JOURNAL_ENTRIES_KEPT}
use Rattle.txn_events.specs.declared.event.What.{What}
use Rattle.txn_events.specs.declared.event.What.TheVariants as what
use Rattle.txn_events.specs.declared.refusal.Refusal.{Refusal}
use Rattle.txn_events.specs.declared.refusal.Refusal.TheVariants as refusal
use Rattle.pdu_values.specs.declared.pdu.Body.{Body}
use Rattle.pdu_values.specs.declared.pdu.Body.TheVariants as body
use Rattle.pdu_values.specs.Pdu.{ack_is_toward_sender}
pub use Rattle.txn_events.specs.Events.{is_body_too_large, is_too_large}
use Rattle.txn_events.specs.Events.{is_two, is_of_other_class, is_stale_timer, needs_room}
use Rattle.cfdp_types.specs.Steps.{is_stamp}
use Rattle.receiver_table.specs.Reception.{Reception, State, is_closing, is_storing, is_suspended}

-- StaleStored: no deposit with this stamp is waiting
abbrev pub is_stale_store : State → What → Bool
is_stale_store state (what.Stored stamp kept) = not (is_stamp state.waiting stamp)
is_stale_store state _ = false

-- Storing: until the file store answers, only its answer and Report are accepted
abbrev pub waits_for_store : What → Bool
waits_for_store (what.Stored stamp kept) = false
waits_for_store what.Report = false
waits_for_store _ = true

-- WrongState, for PDUs: those that go toward the sender; in class 1 also Prompt and ACK; an ACK (Finished)
-- before a Finished was sent; and in the closing phase all but EOF and ACK (Finished)
abbrev pub is_pdu_misplaced : Reception → State → Body → Bool
is_pdu_misplaced reception state (body.Metadata m) = is_closing state
is_pdu_misplaced reception state (body.FileData d) = is_closing state
is_pdu_misplaced reception state (body.Eof e) = false
is_pdu_misplaced reception state (body.Prompt p) = not (is_two reception.header.class) || is_closing state
is_pdu_misplaced reception state (body.Ack a) = ack_is_toward_sender a.of || not (is_two reception.header.class) || not (is_closing state)
is_pdu_misplaced reception state (body.Finished f) = true
is_pdu_misplaced reception state (body.Nak n) = true
is_pdu_misplaced reception state (body.KeepAlive k) = true

-- WrongState, for other events: Pump always; Resume unless suspended; Suspend in class 1, while suspended, and in the
-- closing phase; Cancel in the closing phase
abbrev pub is_misplaced : Reception → State → What → Bool
is_misplaced reception state (what.Pdu pdu) = is_pdu_misplaced reception state pdu.body
is_misplaced reception state what.Pump = true
is_misplaced reception state what.Resume = not (is_suspended state)
is_misplaced reception state what.Suspend = not (is_two reception.header.class) || is_suspended state || is_closing state
is_misplaced reception state what.Cancel = is_closing state
is_misplaced reception state _ = false

-- JournalFull: the last places are reserved for the file store's answer and for Abandon
abbrev pub is_full : State → Bool
is_full state = nat_le (JOURNAL_ENTRIES - JOURNAL_ENTRIES_KEPT) state.entries

-- why an event is refused, None where it is accepted
abbrev pub refusal_at : Reception → State → What → Option Refusal
refusal_at reception state event =
    if is_of_other_class reception.header.class event then Some refusal.ModeMismatch
    else if is_stale_timer state.armed event then Some refusal.StaleTimer
    else if is_stale_store state event then Some refusal.StaleStored
    else if is_storing state && waits_for_store event then Some refusal.Storing
    else if is_misplaced reception state event then Some refusal.WrongState
    else if is_too_large event then Some refusal.TooLarge
    else if is_full state && needs_room event then Some refusal.JournalFull
    else None
