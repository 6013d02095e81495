-- Meaning. Which events a sender refuses, and why: the first reason that applies, in the order of their numbers.
use Rattle.std.specs.Prelude.{ℕ, ◌-◌, Bool, true, false, not, ◌||◌, ◌&&◌, nat_le, nat_lt, ◌==◌, is_some, if◌then◌else◌, List, length, Option, Some, None}
use Rattle.cfdp_types.specs.declared.limits.TheConstants.{FILE_OCTETS, JOURNAL_ENTRIES, JOURNAL_ENTRIES_KEPT}
use Rattle.gap_list.specs.Runs.{runs_of}
use Rattle.gap_list.specs.declared.run.Run.{Run}
use Rattle.txn_events.specs.declared.event.What.{What}
use Rattle.txn_events.specs.declared.event.What.TheVariants as what
use Rattle.txn_events.specs.declared.refusal.Refusal.{Refusal}
use Rattle.txn_events.specs.declared.refusal.Refusal.TheVariants as refusal
use Rattle.txn_events.specs.Events.{is_two, is_of_other_class, is_stale_timer, needs_room}
use Rattle.pdu_values.specs.declared.pdu.Body.{Body}
use Rattle.pdu_values.specs.declared.pdu.Body.TheVariants as body
use Rattle.pdu_values.specs.declared.bodies.Eof.{Eof}
use Rattle.pdu_values.specs.Pdu.{is_toward_sender}
use Rattle.sender_table.specs.Sending.{Sending, Event, put, happens, State, is_closing, is_suspended, asks_closure}

-- the maximal runs of the file that remain to be sent, rising
abbrev pub runs_to_send : Sending → State → List Run
runs_to_send sending state = runs_of state.remains (length sending.request.file)

-- StaleStored: a sender has no deposit
abbrev pub is_stale_store : What → Bool
is_stale_store (what.Stored stamp kept) = true
is_stale_store _ = false

-- whether Metadata, octets of the file, or the EOF remain to be sent
abbrev pub has_more_to_send : Sending → State → Bool
has_more_to_send sending state = state.metadata_remains || nat_lt 0 (length (runs_to_send sending state)) || not (is_some state.eof)

-- whether the last EOF has this condition code
abbrev pub is_last_eof : Option Eof → ℕ → Bool
is_last_eof None code = false
is_last_eof (Some e) code = e.condition == code

-- an ACK of an EOF that is not the last one sent; NAK and Keep Alive in the closing phase
abbrev pub has_no_place : State → Body → Bool
has_no_place state (body.Ack a) = not (is_last_eof state.eof a.condition)
has_no_place state (body.Nak n) = is_closing state
has_no_place state (body.KeepAlive k) = is_closing state
has_no_place state _ = false

-- a Finished PDU
abbrev pub is_finished : Body → Bool
is_finished (body.Finished f) = true
is_finished _ = false

-- the class has PDUs of this kind: class 1 only Finished, and that only where it requested closure
abbrev pub has_kind_of : Sending → Body → Bool
has_kind_of sending b = is_two sending.request.class || (asks_closure sending && is_finished b)

-- WrongState, for PDUs: in class 1 all but a requested Finished; those that go toward the receiver; and those above
abbrev pub is_pdu_misplaced : Sending → State → Body → Bool
is_pdu_misplaced sending state b = not (has_kind_of sending b) || not (is_toward_sender b) || has_no_place state b

-- WrongState, for other events: Pump while suspended, in the closing phase, or where nothing remains; Resume unless
-- suspended; Suspend while suspended, or in the closing phase; Cancel in the closing phase
abbrev pub is_misplaced : Sending → State → What → Bool
is_misplaced sending state (what.Pdu pdu) = is_pdu_misplaced sending state pdu.body
is_misplaced sending state what.Pump = is_suspended state || is_closing state || not (has_more_to_send sending state)
is_misplaced sending state what.Resume = not (is_suspended state)
is_misplaced sending state what.Suspend = is_suspended state || is_closing state
is_misplaced sending state what.Cancel = is_closing state
is_misplaced sending state _ = false

-- JournalFull: the last places are reserved, for Abandon
abbrev pub is_full : State → Bool
is_full state = nat_le (JOURNAL_ENTRIES - JOURNAL_ENTRIES_KEPT) state.entries

-- why an event after the Put is refused, None where it is accepted
abbrev pub refusal_of : Sending → State → What → Option Refusal
refusal_of sending state event =
    if is_of_other_class sending.request.class event then Some refusal.ModeMismatch
    else if is_stale_timer state.armed event then Some refusal.StaleTimer
    else if is_stale_store event then Some refusal.StaleStored
    else if is_misplaced sending state event then Some refusal.WrongState
    else if is_full state && needs_room event then Some refusal.JournalFull
    else None

-- why an event is refused, None where it is accepted; a Put is refused where its file is too large
abbrev pub refusal_at : Sending → State → Event → Option Refusal
refusal_at sending state put = if nat_lt FILE_OCTETS (length sending.request.file) then Some refusal.TooLarge else None
refusal_at sending state (happens event) = refusal_of sending state event
