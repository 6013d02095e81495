-- Meaning. A transaction at either end, with its log, and what a lane needs of both ends in the same form.
use Rattle.std.specs.Prelude.{◌≡◌, ℕ, Bool, if◌then◌else◌, List, [], ◌∷◌, length, map, Option, Some, None, Result, Err}
pub use Rattle.txn_events.specs.declared.answer.Answer.{Answer}
pub use Rattle.txn_events.specs.Events.{body_opens}
use Rattle.txn_events.specs.Logs.{empty_answer}
use Rattle.cfdp_types.specs.declared.key.TxnKey.{TxnKey}
use Rattle.cfdp_types.specs.declared.image.Image.{Image}
use Rattle.txn_events.specs.declared.event.What.{What}
use Rattle.txn_events.specs.declared.event.What.TheVariants as what
use Rattle.txn_events.specs.declared.refusal.Refusal.{Refusal}
use Rattle.txn_events.specs.declared.refusal.Refusal.TheVariants.{NoTransaction, StaleStored, WrongState}
use Rattle.indications.specs.declared.indication.Indication.{Indication}
use Rattle.indications.specs.declared.side.Side.{Side}
use Rattle.indications.specs.declared.side.Side.TheVariants.{Sender, Receiver}
use Rattle.sender_table.specs.Sending as sender
use Rattle.sender_table.specs.Refusals as sender_refusals
use Rattle.sender_table.specs.Answers as sender_answers
use Rattle.sender_laws.specs.LegalSendings as sender_logs
use Rattle.receiver_table.specs.Reception as receiver
use Rattle.receiver_table.specs.Refusals as receiver_refusals
use Rattle.receiver_table.specs.Answers as receiver_answers
use Rattle.receiver_laws.specs.LegalReceptions as receiver_logs
use Rattle.receiver_table.specs.Images.{image_at}
use Rattle.txn_events.specs.declared.event.Event.{Event}
use Rattle.txn_events.specs.declared.event.Event.TheVariants.{Put, On}
use Rattle.lane_table.specs.declared.lane_side.LaneSide.{LaneSide}
use Rattle.lane_table.specs.declared.lane_side.LaneSide.TheVariants.{Sending, Receiving}

-- what is fixed when a transaction opens, at the sending or at the receiving end
pub data Transaction : Type 0 where
  sends : sender.Sending → Transaction
  receives : receiver.Reception → Transaction

-- a transaction with its log, which has the newest entry first
pub data Log : Type 0 where
  sent : sender.Sending → List sender.Entry → Log
  received : receiver.Reception → List receiver.Entry → Log

-- ---- what opens a transaction

-- the transaction that an event opens at a side, with a key
abbrev pub opened_by : LaneSide → TxnKey → Event → Option Transaction
opened_by (Sending numbers greatest) key (Put request params) = Some (sends (record { key = key; params = params; request = request }))
opened_by (Receiving params) key (On named (what.Pdu pdu)) =
    if body_opens pdu.body then Some (receives (record { key = key; params = params; header = pdu.header })) else None
opened_by side key event = None

-- an event with a PDU has the PDU's key
abbrev pub IsOfKey : Event → TxnKey → Type 0
IsOfKey (On named (what.Pdu pdu)) key = (pdu.header.source ≡ key.source) × (pdu.header.sequence ≡ key.seq)
IsOfKey event key = Unit {0}

-- ---- events as the ends see them

-- an event as a sender has it
abbrev pub to_sender : Event → sender.Event
to_sender (Put request params) = sender.put
to_sender (On key event) = sender.happens event

-- events as a receiver has them: without a Put
abbrev pub to_receiver : List Event → List What
to_receiver [] = []
to_receiver (Put request params ∷ later) = to_receiver later
to_receiver (On key event ∷ later) = event ∷ to_receiver later

-- the log of a transaction after these events, oldest first
abbrev pub log_by : Transaction → List Event → Log
log_by (sends sending) events = sent sending (sender_logs.log_of sending (map to_sender events))
log_by (receives reception) events = received reception (receiver_logs.log_of reception (to_receiver events))

-- ---- what a log gives

-- the end of its transactions that a lane runs
abbrev pub end_of : LaneSide → Side
end_of (Sending numbers greatest) = Sender
end_of (Receiving params) = Receiver

-- the end that the log belongs to
abbrev pub side_of : Log → Side
side_of (sent sending log) = Sender
side_of (received reception log) = Receiver

-- all indications to the user, in order
abbrev pub issued : Log → List Indication
issued (sent sending log) = sender.issued log
issued (received reception log) = receiver.issued log

-- whether an end was issued
abbrev pub has_ended : Log → Bool
has_ended (sent sending log) = (sender.state_of sending log).ended
has_ended (received reception log) = (receiver.state_of log).ended

-- the number of its entries
abbrev pub entries_of : Log → ℕ
entries_of (sent sending log) = length log
entries_of (received reception log) = length log

-- the log is legal for its end
abbrev pub IsLegal : Log → Type 0
IsLegal (sent sending log) = sender_logs.IsLegal sending log
IsLegal (received reception log) = receiver_logs.IsLegal reception log

-- why the end refuses an event after this log, None where it accepts it
abbrev pub refused_behind : Log → Event → Option Refusal
refused_behind (sent sending log) event = sender_refusals.refusal_at sending (sender.state_of sending log) (to_sender event)
refused_behind (received reception log) (On key event) = receiver_refusals.refusal_at reception (receiver.state_of log) event
refused_behind (received reception log) (Put request params) = Some WrongState

-- the end's answer to an event after this log, or its refusal
abbrev pub answered_behind : Log → Event → Result Answer Refusal
answered_behind (sent sending log) event = sender_answers.answer_at sending (sender.state_of sending log) (to_sender event)
answered_behind (received reception log) (On key event) = receiver_answers.answer_at reception (receiver.state_of log) event
answered_behind (received reception log) (Put request params) = Err WrongState

-- the answer to the event that opens a transaction
abbrev pub first_answer : Option Transaction → Event → Result Answer Refusal
first_answer None event = Err NoTransaction
first_answer (Some transaction) event = answered_behind (log_by transaction []) event

-- the log with one more event and its answer; a reception gets no Put
abbrev pub extended : Log → Event → Answer → Log
extended (sent sending log) event answer = sent sending (record { event = to_sender event; answer = answer } ∷ log)
extended (received reception log) (On key event) answer = received reception (record { event = event; answer = answer } ∷ log)
extended (received reception log) (Put request params) answer = received reception log

-- the answer to its last event
abbrev pub last_answer : Log → Answer
last_answer (sent sending (entry ∷ front)) = entry.answer
last_answer (received reception (entry ∷ front)) = entry.answer
last_answer log = empty_answer

-- the file of the waiting deposit with this stamp
abbrev pub image_in : Log → ℕ → Result Image Refusal
image_in (sent sending log) stamp = Err StaleStored
image_in (received reception log) stamp = image_at (receiver.state_of log) stamp
