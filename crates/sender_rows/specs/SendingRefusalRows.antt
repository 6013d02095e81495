-- Rows. Rows on events that a sender refuses, and on similar ones that it accepts.
use Rattle.std.specs.Prelude.{◌≡◌, ℕ, zero, suc, ◌+◌, nat_lt, true, false, List, [], ◌∷◌, ◌++◌, length, replicate, Some, None, Err, refl}
use Rattle.std.proofs.Common.{ap, subst, arith}
use Rattle.cfdp_types.specs.declared.limits.TheConstants.{FILE_OCTETS}
use Rattle.cfdp_types.specs.declared.names.Class.TheVariants.{One}
use Rattle.cfdp_types.specs.declared.names.TimerKind.TheVariants.{Ack}
use Rattle.txn_events.specs.declared.event.What.TheVariants as what
use Rattle.txn_events.specs.declared.refusal.Refusal.TheVariants as refusal
use Rattle.pdu_values.specs.Numbers.{digits}
use Rattle.pdu_values.specs.Spelling.{spelling, written}
use Rattle.pdu_values.specs.Tlvs.{width_from}
use Rattle.pdu_values.specs.declared.pdu.Body.TheVariants as body
use Rattle.pdu_values.specs.declared.bodies.Acknowledged.TheVariants as acknowledged
use Rattle.pdu_values.specs.declared.bodies.TransactionStatus.TheVariants.{Active}
use Rattle.indications.specs.declared.indication.Indication.TheVariants as told
use Rattle.indications.specs.declared.indication.Phase.TheVariants as phase
use Rattle.gap_list.specs.Runs.{runs_of, runs_from}
use Rattle.sender_table.specs.Sending.{Event, put, happens, Entry, State, initial, step, state_of}
use Rattle.sender_table.specs.Refusals.{refusal_at}
use Rattle.sender_table.specs.Answers.{accepted_at, answer_at}
use Rattle.txn_events.specs.Logs.{log_after}
use Rattle.sender_laws.specs.LegalSendings.{answer_behind}
use Rattle.sender_rows.specs.SendingRows.{sending, one, two, pump, report, pdu_in, pdu, eof_acknowledged, nak, sent_all, acknowledged_all, after, last, tells, sends}

-- a sender whose user cancelled
abbrev pub closing : List Event
closing = put ∷ pump ∷ happens what.Cancel ∷ []

-- ---- another mode, a stale timer, the file store

-- a PDU of the other class
pub other_mode : last one (put ∷ pump ∷ []) nak ≡ Err refusal.ModeMismatch
unfolding initial step state_of answer_at runs_of runs_from digits
other_mode = refl

-- a timer that does not run, has another stamp, or was armed again since
pub timer_never_armed : last two (put ∷ pump ∷ []) (happens (what.Timer Ack 0)) ≡ Err refusal.StaleTimer
unfolding initial step state_of answer_at runs_of runs_from digits
timer_never_armed = refl

pub timer_of_another_stamp : last two sent_all (happens (what.Timer Ack 2)) ≡ Err refusal.StaleTimer
unfolding initial step state_of answer_at runs_of runs_from digits
timer_of_another_stamp = refl

pub timer_armed_again : last two (sent_all ++ happens (what.Timer Ack 3) ∷ []) (happens (what.Timer Ack 3)) ≡ Err refusal.StaleTimer
unfolding initial step state_of answer_at runs_of runs_from digits
timer_armed_again = refl

pub timer_disarmed : last two acknowledged_all (happens (what.Timer Ack 3)) ≡ Err refusal.StaleTimer
unfolding initial step state_of answer_at runs_of runs_from digits
timer_disarmed = refl

-- a sender has no deposit
pub stored_at_a_sender : last two sent_all (happens (what.Stored 0 true)) ≡ Err refusal.StaleStored
unfolding initial step state_of answer_at runs_of runs_from digits
stored_at_a_sender = refl

-- ---- events that are not possible

-- Pump where nothing remains, or while the sender is suspended or cancelled
pub nothing_remains : last two sent_all pump ≡ Err refusal.WrongState
unfolding initial step state_of answer_at runs_of runs_from digits
nothing_remains = refl

pub pump_while_suspended : last two (put ∷ happens what.Suspend ∷ []) pump ≡ Err refusal.WrongState
unfolding initial step state_of answer_at runs_of runs_from digits
pump_while_suspended = refl

pub pump_while_closing : last two (put ∷ pump ∷ happens what.Cancel ∷ []) pump ≡ Err refusal.WrongState
unfolding initial step state_of answer_at runs_of runs_from digits
pump_while_closing = refl

-- class 1 accepts no PDU
pub pdu_in_class_one : last one (put ∷ pump ∷ []) (pdu_in One (body.KeepAlive (record { progress = 1 }))) ≡ Err refusal.WrongState
unfolding initial step state_of answer_at runs_of runs_from digits
pdu_in_class_one = refl

-- a PDU that goes toward the receiver is refused too
pub pdu_toward_receiver : last two sent_all (pdu (body.Ack (record { of = acknowledged.Finished; condition = 0; status = Active })))
    ≡ Err refusal.WrongState
unfolding initial step state_of answer_at runs_of runs_from digits
pdu_toward_receiver = refl

pub eof_toward_receiver : last two sent_all (pdu (body.Eof (record { condition = 0; checksum = 0; size = 0; location = None })))
    ≡ Err refusal.WrongState
unfolding initial step state_of answer_at runs_of runs_from digits
eof_toward_receiver = refl

-- an ACK of an EOF that is not the last one, or before any was sent
pub ack_before_eof : last two (put ∷ pump ∷ []) (eof_acknowledged 0) ≡ Err refusal.WrongState
unfolding initial step state_of answer_at runs_of runs_from digits
ack_before_eof = refl

pub ack_of_another_eof : last two (sent_all ++ nak ∷ pump ∷ []) (eof_acknowledged 1) ≡ Err refusal.WrongState
unfolding initial step state_of answer_at runs_of runs_from digits
ack_of_another_eof = refl

pub ack_of_the_first_eof : last two (put ∷ pump ∷ happens what.Cancel ∷ []) (eof_acknowledged 0) ≡ Err refusal.WrongState
unfolding initial step state_of answer_at runs_of runs_from digits
ack_of_the_first_eof = refl

pub ack_of_the_whole_eof_while_closing : last two (sent_all ++ happens what.Cancel ∷ []) (eof_acknowledged 0) ≡ Err refusal.WrongState
unfolding initial step state_of answer_at runs_of runs_from digits
ack_of_the_whole_eof_while_closing = refl

-- Suspend is refused while suspended, and Resume is possible only then
pub suspend_twice : last two (put ∷ happens what.Suspend ∷ []) (happens what.Suspend) ≡ Err refusal.WrongState
unfolding initial step state_of answer_at runs_of runs_from digits
suspend_twice = refl

pub resume_unsuspended : last two (put ∷ []) (happens what.Resume) ≡ Err refusal.WrongState
unfolding initial step state_of answer_at runs_of runs_from digits
resume_unsuspended = refl

-- ---- in the closing phase

-- NAK, Keep Alive, Suspend, Resume and a second Cancel are refused
pub nak_while_closing : last two (put ∷ pump ∷ happens what.Cancel ∷ []) nak ≡ Err refusal.WrongState
unfolding initial step state_of answer_at runs_of runs_from digits
nak_while_closing = refl

pub keep_alive_while_closing : last two (put ∷ pump ∷ happens what.Cancel ∷ []) (pdu (body.KeepAlive (record { progress = 1 })))
    ≡ Err refusal.WrongState
unfolding initial step state_of answer_at runs_of runs_from digits
keep_alive_while_closing = refl

pub suspend_while_closing : last two (put ∷ pump ∷ happens what.Cancel ∷ []) (happens what.Suspend) ≡ Err refusal.WrongState
unfolding initial step state_of answer_at runs_of runs_from digits
suspend_while_closing = refl

pub resume_closing_from_suspension : last two (put ∷ happens what.Suspend ∷ happens what.Cancel ∷ []) (happens what.Resume)
    ≡ Err refusal.WrongState
unfolding initial step state_of answer_at runs_of runs_from digits
resume_closing_from_suspension = refl

pub cancel_while_closing : last two (put ∷ pump ∷ happens what.Cancel ∷ []) (happens what.Cancel) ≡ Err refusal.WrongState
unfolding initial step state_of answer_at runs_of runs_from digits
cancel_while_closing = refl

-- Abandon is accepted
pub abandon_while_closing : tells (last two (put ∷ pump ∷ happens what.Cancel ∷ []) (happens what.Abandon))
    ≡ Some (told.Abandoned 15 0 ∷ [])
unfolding initial step state_of answer_at runs_of runs_from digits
abandon_while_closing = refl

-- ---- a Put of a file that is too large

pub large_put : (file : List ℕ) (state : State) (large : nat_lt FILE_OCTETS (length file) ≡ true) → answer_at (sending One 4 file) state put
    ≡ Err refusal.TooLarge
unfolding answer_at
large_put file state large = rw large refl

-- any other Put is accepted
pub small_put : (file : List ℕ) (state : State) (small : nat_lt FILE_OCTETS (length file) ≡ false) → refusal_at (sending One 4 file) state put
    ≡ None
small_put file state small = rw small refl

-- the limit is 16 MiB
pub limit_of_put : FILE_OCTETS ≡ 16777216
limit_of_put = refl

-- ---- a journal that is full but for its last places

-- this many reports change only the number of entries of a sender that has sent nothing
record Waits (state : State) (entries : ℕ) : Type 0 where
  pub entries_are : state.entries ≡ entries
  pub metadata_remains : state.metadata_remains ≡ true
  pub progress : state.progress ≡ 0
  pub no_eof : state.eof ≡ None
  pub runs_on : state.paused ≡ false
  pub not_ended : state.ended ≡ false

waits_longer : (state : State) (entries : ℕ) → Waits state entries
    → Waits (step two state (record { event = report; answer = accepted_at two state report })) (entries + 1)
unfolding step
waits_longer state entries waits = record {
  entries_are = ap (λ n. n + 1) waits.entries_are;
  metadata_remains = rw waits.metadata_remains refl;
  progress = rw waits.progress refl;
  no_eof = waits.no_eof;
  runs_on = waits.runs_on;
  not_ended = rw waits.not_ended refl;
}

waits_on : (count entries : ℕ) (front : List Entry) → Waits (state_of two front) entries
    → Waits (state_of two (log_after (answer_behind two) front (replicate count report))) (entries + count)
unfolding state_of
waits_on zero entries front waits = subst (λ n. Waits (state_of two front) n) (omega arith) waits
waits_on (suc count) entries front waits =
    subst (λ n. Waits (state_of two (log_after (answer_behind two) front (replicate (suc count) report))) n) (omega arith)
    (waits_on count (entries + 1) (record { event = report; answer = accepted_at two (state_of two front) report } ∷ front)
    (waits_longer (state_of two front) entries waits))

-- a Put and this many reports
unfoldable pub reported : ℕ → State
reported count = state_of two (after two (put ∷ replicate count report))

waits_at_first : Waits (state_of two (after two (put ∷ []))) 1
unfolding initial step state_of runs_of runs_from
waits_at_first = record { entries_are = refl; metadata_remains = refl; progress = refl; no_eof = refl; runs_on = refl; not_ended = refl }

-- the state with 262,142 entries
unfoldable pub full : State
full = reported 262141

-- the state with 262,141 entries
unfoldable pub nearly_full : State
nearly_full = reported 262140

full_waits : Waits full 262142
unfolding full reported
full_waits = waits_on 262141 1 (after two (put ∷ [])) waits_at_first

nearly_full_waits : Waits nearly_full 262141
unfolding nearly_full reported
nearly_full_waits = waits_on 262140 1 (after two (put ∷ [])) waits_at_first

-- then Pump and Report are refused, and Abandon is accepted
pump_is_refused : (state : State) → Waits state 262142 → answer_at two state pump ≡ Err refusal.JournalFull
unfolding answer_at
pump_is_refused state waits = rw (waits.runs_on, waits.no_eof, waits.metadata_remains, waits.entries_are) refl

pub full_for_pump : answer_at two full pump ≡ Err refusal.JournalFull
full_for_pump = pump_is_refused full full_waits

report_is_refused : (state : State) → Waits state 262142 → answer_at two state report ≡ Err refusal.JournalFull
unfolding answer_at
report_is_refused state waits = rw waits.entries_are refl

pub full_for_report : answer_at two full report ≡ Err refusal.JournalFull
full_for_report = report_is_refused full full_waits

-- all other reasons come before JournalFull
resume_is_misplaced : (state : State) → Waits state 262142 → answer_at two state (happens what.Resume) ≡ Err refusal.WrongState
unfolding answer_at
resume_is_misplaced state waits = rw waits.runs_on refl

pub misplaced_when_full : answer_at two full (happens what.Resume) ≡ Err refusal.WrongState
misplaced_when_full = resume_is_misplaced full full_waits

abandon_is_taken : (state : State) → Waits state 262142 → tells (answer_at two state (happens what.Abandon)) ≡ Some (told.Abandoned 15 0 ∷ [])
unfolding answer_at step
abandon_is_taken state waits = rw (waits.entries_are, waits.progress) refl

pub room_for_abandon : tells (answer_at two full (happens what.Abandon)) ≡ Some (told.Abandoned 15 0 ∷ [])
room_for_abandon = abandon_is_taken full full_waits

-- with one entry fewer both are accepted
pump_is_taken : (state : State) → Waits state 262141 → sends (answer_at two state pump) ≡ Some (digits 17 0x20000a0002040107000000000301610162 ∷ [])
unfolding answer_at step written spelling digits width_from
pump_is_taken state waits = rw (waits.runs_on, waits.no_eof, waits.metadata_remains, waits.entries_are) refl

pub room_for_pump : sends (answer_at two nearly_full pump) ≡ Some (digits 17 0x20000a0002040107000000000301610162 ∷ [])
room_for_pump = pump_is_taken nearly_full nearly_full_waits

report_is_taken : (state : State) → Waits state 262141 → tells (answer_at two state report) ≡ Some (told.Report phase.Active 0 ∷ [])
unfolding answer_at step
report_is_taken state waits = rw (waits.runs_on, waits.no_eof, waits.progress, waits.entries_are) refl

pub room_for_report : tells (answer_at two nearly_full report) ≡ Some (told.Report phase.Active 0 ∷ [])
room_for_report = report_is_taken nearly_full nearly_full_waits
