-- Meaning. Which events a lane refuses, how it answers the others, and its state after them.
use Rattle.std.specs.Prelude.{◌≡◌, ℕ, Bool, true, false, not, ◌||◌, ◌&&◌, nat_lt, ◌==◌, is_some, if◌then◌else◌, [], ◌∷◌, ◌++◌, Option, Some, None, Result, Err}
use Rattle.std.specs.Option.{option_map, option_or}
use Rattle.cfdp_types.specs.Steps.{is_stamp}
use Rattle.cfdp_types.specs.declared.image.Image.{Image}
use Rattle.cfdp_types.specs.declared.key.TxnKey.{TxnKey}
use Rattle.txn_events.specs.declared.event.What.TheVariants as what
use Rattle.txn_events.specs.declared.refusal.Refusal.{Refusal}
use Rattle.txn_events.specs.declared.refusal.Refusal.TheVariants as refusal
use Rattle.txn_events.specs.Events.{echo_of}
use Rattle.pdu_values.specs.Pdu.{PduValue}
use Rattle.receiver_table.specs.Answers.{empty_answer}
use Rattle.indications.specs.declared.bundle.Bundle.{Bundle}
use Rattle.lane_table.specs.declared.done.Done.{Done}
use Rattle.txn_events.specs.declared.event.Event.{Event}
use Rattle.txn_events.specs.declared.event.Event.TheVariants.{Put, On}
use Rattle.lane_table.specs.declared.lane_side.LaneSide.{LaneSide}
use Rattle.lane_table.specs.declared.lane_side.LaneSide.TheVariants.{Sending, Receiving}
use Rattle.lane_table.specs.declared.refused.Refused.{Refused}
use Rattle.lane_table.specs.Logs.{Transaction, Log, Answer, IsOfKey, opened_by, log_by, refused_behind, last_answer, image_in}
use Rattle.lane_table.specs.Lane.{State, key_at, key_of, is_above, number_after, log_of, is_running}

-- ---- the key of an event

-- an event with a PDU has the PDU's key
abbrev pub IsKeyed : Event → Type 0
IsKeyed (On key event) = IsOfKey (On key event) key
IsKeyed (Put request params) = Unit {0}

-- the number after the last; a receiving lane assigns none
abbrev pub next_in : LaneSide → ℕ → ℕ → Option ℕ → ℕ
next_in (Sending numbers greatest) user lane last = number_after numbers user lane last
next_in (Receiving params) user lane last = 0

-- the number that a Put gets
abbrev pub next_number : State → ℕ
next_number state = next_in state.side state.user state.lane state.last

-- the number of an event's transaction
abbrev pub number_in : State → Event → ℕ
number_in state (Put request params) = next_number state
number_in state (On key event) = key.seq

-- whether the event is of another source
abbrev pub is_foreign : State → Event → Bool
is_foreign state (Put request params) = false
is_foreign state (On key event) = not (key.source.0 == state.source.0)

-- whether the event's number is above all numbers so far: that of a Put always is
abbrev pub is_new : State → Event → Bool
is_new state (Put request params) = true
is_new state (On key event) = is_above key.seq state.last

-- whether a key is that of the last transaction
abbrev pub is_key : State → TxnKey → Bool
is_key state key = key.source.0 == state.source.0 && is_stamp state.last key.seq

-- ---- what opens

-- the transaction that an event opens, if it is accepted
abbrev pub new_transaction : State → Event → Option Transaction
new_transaction state event = if is_new state event then opened_by state.side (key_at state.source (number_in state event)) event else None

-- the log before an event: an empty one where the event opens a transaction
abbrev pub log_before : State → Option Transaction → Option Log
log_before state None = log_of state
log_before state (Some transaction) = Some (log_by transaction [])

-- ---- refusals

-- NoTransaction: the source is another, or the number is above the last and the event opens nothing; never for a Put
abbrev pub is_unknown : State → Event → Bool
is_unknown state (Put request params) = false
is_unknown state (On key event) = is_foreign state (On key event) || (is_new state (On key event) && not (is_some (new_transaction state (On key event))))

-- OldTransaction: the number is at most the last one, and not that of a running transaction
abbrev pub is_old : State → Event → Bool
is_old state event = not (is_new state event) && not (is_stamp state.last (number_in state event) && is_running state)

-- whether an event would open a transaction: each Put would
abbrev pub wants_to_open : State → Event → Bool
wants_to_open state (Put request params) = true
wants_to_open state (On key event) = is_some (new_transaction state (On key event))

-- LaneBusy: a transaction would open while another runs
abbrev pub is_busy : State → Event → Bool
is_busy state event = wants_to_open state event && is_running state

-- why a Put gets no number: WrongState at a lane that receives, SeqExhausted where the sequence length does not
-- hold the next number
abbrev pub refused_number : LaneSide → ℕ → Option Refusal
refused_number (Sending numbers greatest) number = if nat_lt greatest number then Some refusal.SeqExhausted else None
refused_number (Receiving params) number = Some refusal.WrongState

-- why a Put is refused because of its number
abbrev pub refused_by_number : State → Event → Option Refusal
refused_by_number state (Put request params) = refused_number state.side (next_number state)
refused_by_number state (On key event) = None

-- the echo of a PDU
abbrev pub echo_to : Event → Option PduValue
echo_to (On key (what.Pdu pdu)) = echo_of pdu
echo_to event = None

-- a refusal without an echo
abbrev pub plainly : Refusal → Refused
plainly why = record { why = why; echo = None }

-- why the end refuses an event, None where it accepts it
abbrev pub refused_by_end : Option Log → Event → Option Refusal
refused_by_end None event = None
refused_by_end (Some log) event = refused_behind log event

-- the lane's own reasons, the first that applies
abbrev pub refused_by_lane : State → Event → Option Refused
refused_by_lane state event =
    if is_unknown state event then Some (plainly refusal.NoTransaction)
    else if is_old state event then Some (record { why = refusal.OldTransaction; echo = echo_to event })
    else if is_busy state event then Some (plainly refusal.LaneBusy)
    else option_map plainly (refused_by_number state event)

-- why an event is refused, the first reason that applies, None where it is accepted. A Put that gets a number can only
-- be refused with TooLarge. NoMemory and QueueFull are not among these.
abbrev pub refusal_at : State → Event → Option Refused
refusal_at state event =
    option_or (refused_by_lane state event) (option_map plainly (refused_by_end (log_before state (new_transaction state event)) event))

-- ---- the step

-- the state of a lane after an event: one that opens a transaction begins a new journal
abbrev pub stepped_by : State → Event → Option Transaction → State
stepped_by state event None = record state { journal = state.journal ++ event ∷ [] }
stepped_by state event (Some transaction) = record state { last = Some (number_in state event); before = state.last; journal = event ∷ [] }

-- the state of a lane after an event that it accepts
abbrev pub stepped : State → Event → State
stepped state event = stepped_by state event (new_transaction state event)

-- the answer to a transaction's last event
abbrev pub answer_in : Option Log → Answer
answer_in None = empty_answer
answer_in (Some log) = last_answer log

-- the answer to a lane's last event
abbrev pub answer_of : State → Answer
answer_of state = answer_in (log_of state)

-- what a step gives, apart from the indications
pub record IsDone (state : State) (done : Done) : Type 0 where
  pub key : key_of state ≡ Some done.key
  pub pdus : done.pdus ≡ (answer_of state).pdus
  pub timers : done.timers ≡ (answer_of state).timers
  pub deposit : done.deposit ≡ (answer_of state).deposit

-- the bundle with a step's indications
pub record IsBundle (state : State) (bundle : Bundle) : Type 0 where
  pub user : bundle.user ≡ state.user
  pub lane : bundle.lane ≡ state.lane
  pub key : key_of state ≡ Some bundle.key
  pub inds : bundle.inds ≡ (answer_of state).inds

-- ---- what the file store gets

-- the file of the waiting deposit, by the transaction's key and the deposit's stamp
abbrev pub image_of : State → TxnKey → ℕ → Result Image Refusal
image_of state key stamp = if is_key state key then by_log (log_of state) else Err refusal.StaleStored
  where
    by_log : Option Log → Result Image Refusal
    by_log None = Err refusal.StaleStored
    by_log (Some log) = image_in log stamp
