-- Meaning. The answers of a sender to the events that it accepts, in both classes.
use Rattle.std.specs.Prelude.{ℕ, ◌+◌, ◌-◌, min, max, Bool, false, not, ◌||◌, ◌&&◌, nat_lt, is_some, if◌then◌else◌, List, [], ◌∷◌, ◌++◌, length, map, take, drop, Option, Some, None, Result}
use Rattle.std.specs.List.{list_any}
use Rattle.cfdp_types.specs.Condition as condition
use Rattle.cfdp_types.specs.ChecksumType.{type_of}
use Rattle.cfdp_types.specs.Steps.{Effect, arms, keeps, stops, is_kind, operations}
use Rattle.cfdp_types.specs.Handlers.{handler_in}
use Rattle.cfdp_types.specs.Params.{timer_length}
use Rattle.cfdp_types.specs.declared.names.Checksum.{Checksum}
use Rattle.cfdp_types.specs.declared.names.Checksum.TheVariants.{Modular, Null}
use Rattle.cfdp_types.specs.declared.names.Class.{Class}
use Rattle.cfdp_types.specs.declared.names.Class.TheVariants.{One, Two}
use Rattle.cfdp_types.specs.declared.names.Delivery.TheVariants.{Incomplete}
use Rattle.cfdp_types.specs.declared.names.FileStatus.TheVariants.{Unreported}
use Rattle.cfdp_types.specs.declared.names.Handler.{Handler}
use Rattle.cfdp_types.specs.declared.names.Handler.TheVariants as handler
use Rattle.cfdp_types.specs.declared.names.TimerKind.{TimerKind}
use Rattle.cfdp_types.specs.declared.names.TimerKind.TheVariants.{Ack, Nak, Check, Inactivity}
use Rattle.gap_list.specs.declared.run.Run.{Run}
use Rattle.txn_events.specs.declared.event.What.TheVariants as what
use Rattle.txn_events.specs.Refusal.{unless_refused}
use Rattle.txn_events.specs.declared.refusal.Refusal.{Refusal}
use Rattle.txn_events.specs.Events.{is_pdu}
pub use Rattle.pdu_values.specs.Tlvs.{octets_for}
use Rattle.pdu_values.specs.declared.pdu.Direction.TheVariants.{TowardReceiver}
use Rattle.pdu_values.specs.declared.pdu.Header.{Header}
use Rattle.pdu_values.specs.declared.pdu.Body.{Body}
use Rattle.pdu_values.specs.declared.pdu.Body.TheVariants as body
use Rattle.pdu_values.specs.declared.bodies.Acknowledged.TheVariants as acknowledged
use Rattle.pdu_values.specs.declared.bodies.TransactionStatus.TheVariants.{Terminated}
use Rattle.pdu_values.specs.declared.bodies.Eof.{Eof}
use Rattle.pdu_values.specs.declared.bodies.Finished.{Finished}
use Rattle.pdu_values.specs.declared.bodies.Ack as ack_type
use Rattle.indications.specs.declared.indication.Indication.{Indication}
use Rattle.indications.specs.declared.indication.Indication.TheVariants as told
use Rattle.indications.specs.declared.indication.Phase.{Phase}
use Rattle.indications.specs.declared.indication.Phase.TheVariants as phase
use Rattle.modular_sum.specs.Sum.{sum}
pub use Rattle.txn_events.specs.Logs.{empty_answer}
use Rattle.txn_events.specs.declared.answer.Answer.{Answer}
use Rattle.sender_table.specs.Sending.{Sending, Event, put, happens, State, step, is_closing, is_suspended, asks_closure, acknowledges_eof}
use Rattle.sender_table.specs.Refusals.{refusal_at, runs_to_send}

-- ---- a response of the table

-- what a response gives: the indications to the user, the PDUs in order, and the timers to arm
pub record Response : Type 0 where
  pub inds : List Indication
  pub bodies : List Body
  pub arms : List TimerKind

-- the empty response
abbrev pub nothing : Response
nothing = record { inds = []; bodies = []; arms = [] }

-- only this indication
abbrev pub tells : Indication → Response
tells indication = record nothing { inds = indication ∷ [] }

-- only this PDU
abbrev pub sends : Body → Response
sends b = record nothing { bodies = b ∷ [] }

-- two responses joined, in this order
infixr 10 ◌and_then◌
abbrev pub ◌and_then◌ : Response → Response → Response
response and_then next = record { inds = response.inds ++ next.inds; bodies = response.bodies ++ next.bodies; arms = response.arms ++ next.arms }

-- ---- the PDUs that are sent

-- the header of every PDU, with numbers in the configured lengths, or in the fewest octets that hold them
abbrev pub header_of : Sending → Header
header_of sending = record {
  direction = TowardReceiver;
  class = sending.request.class;
  large = false;
  entity_octets = octets_for sending.params.lengths.entity_octets (max (sending.key.source.0) (sending.request.destination.0));
  sequence_octets = octets_for sending.params.lengths.sequence_octets sending.key.seq;
  source = sending.key.source;
  sequence = sending.key.seq;
  destination = sending.request.destination;
}

-- the Metadata of the file: it requests closure in class 1 where the Put does, with the configured checksum type
abbrev pub metadata_of : Sending → Body
metadata_of sending = body.Metadata (record {
  closure = asks_closure sending;
  checksum_type = type_of sending.params.checksum;
  size = length sending.request.file;
  source_name = sending.request.source_name;
  destination_name = sending.request.destination_name;
  messages = sending.request.messages;
})

-- File Data with the first octets of a run, as many as a segment may hold
abbrev pub file_data_of : Sending → Run → Body
file_data_of sending run =
    body.FileData (record { offset = run.start; octets = take (min sending.params.segment_octets (run.end - run.start)) (drop run.start sending.request.file) })

-- the checksum of some octets of the file, 0 for the null checksum
abbrev pub sum_by : Checksum → List ℕ → ℕ
sum_by Modular octets = sum octets
sum_by Null octets = 0

-- the EOF of the whole file
abbrev pub whole_eof : Sending → Eof
whole_eof sending = record { condition = condition.no_error; checksum = sum_by sending.params.checksum sending.request.file; size = length sending.request.file; location = None }

-- the EOF that cancels: its checksum and size are those of the file up to the greatest offset sent
abbrev pub cancel_eof : Sending → State → ℕ → Eof
cancel_eof sending state code = record {
  condition = code;
  checksum = sum_by sending.params.checksum (take state.progress sending.request.file);
  size = state.progress;
  location = Some sending.params.local;
}

-- the ACK of a Finished PDU, with the same condition code
abbrev pub ack_of : Finished → Body
ack_of f = body.Ack (record { of = acknowledged.Finished; condition = f.condition; status = Terminated })

-- ---- the parts of answers

-- the end without a report from the receiver on the file
abbrev pub ends_unreported : ℕ → Response
ends_unreported code = tells (told.TransactionFinished code Incomplete Unreported)

-- the transaction is cancelled: class 1 ends at once, class 2 waits for the ACK of its EOF
abbrev pub cancel_response : Sending → State → ℕ → Response
cancel_response sending state code = by_class sending.request.class
  where
    by_class : Class → Response
    by_class One = sends (body.Eof (cancel_eof sending state code)) and_then ends_unreported code
    by_class Two = record (sends (body.Eof (cancel_eof sending state code))) { arms = Ack ∷ [] }

-- a fault, by its handler: where it is ignored, the timer that declared it is armed again
abbrev pub fault_response : Sending → State → TimerKind → ℕ → Response
fault_response sending state kind code = by_handler (handler_in sending.params.tables.send code)
  where
    by_handler : Handler → Response
    by_handler handler.Cancel = cancel_response sending state code
    by_handler handler.Suspend = tells (told.Suspended code)
    by_handler handler.Ignore = record (tells (told.Fault code state.progress)) { arms = kind ∷ [] }
    by_handler handler.Abandon = tells (told.Abandoned code state.progress)

-- ---- answers to Pump

-- the EOF, once all else was sent: class 2 waits for its ACK, class 1 for the Finished PDU if it requested one, or ends
abbrev pub sends_eof : Sending → Response
sends_eof sending = by_class sending.request.class
  where
    by_class : Class → Response
    by_class One =
        if sending.request.closure then record (sends (body.Eof (whole_eof sending)) and_then tells told.EofSent) { arms = Check ∷ [] }
        else sends (body.Eof (whole_eof sending)) and_then tells told.EofSent and_then ends_unreported condition.no_error
    by_class Two = record (sends (body.Eof (whole_eof sending)) and_then tells told.EofSent) { arms = Ack ∷ [] }

-- what remains of the file, then the EOF
abbrev pub sends_next : Sending → List Run → Response
sends_next sending [] = sends_eof sending
sends_next sending (run ∷ runs) = sends (file_data_of sending run)

-- the Metadata first, then the rest
abbrev pub on_pump : Sending → State → Response
on_pump sending front = if front.metadata_remains then sends (metadata_of sending) else sends_next sending (runs_to_send sending front)

-- ---- answers to PDUs

-- the ACK of an EOF that cancels ends the transaction
abbrev pub on_ack : State → ack_type.Ack → Response
on_ack front a = if is_closing front then ends_unreported a.condition else nothing

-- class 2 acknowledges a Finished PDU
abbrev pub acks_of : Class → Finished → List Body
acks_of One f = []
acks_of Two f = ack_of f ∷ []

-- the answer to a PDU: NAK and Keep Alive are answered with nothing
abbrev pub on_body : Sending → State → Body → Response
on_body sending front (body.Ack a) = on_ack front a
on_body sending front (body.Finished f) =
    record (tells (told.TransactionFinished f.condition f.delivery f.status)) { bodies = acks_of sending.request.class f }
on_body sending front _ = nothing

-- ---- answers to timers

-- the last EOF, to be sent again
abbrev pub last_eof : Option Eof → List Body
last_eof None = []
last_eof (Some e) = body.Eof e ∷ []

-- the condition code of the last EOF
abbrev pub condition_of : Option Eof → ℕ
condition_of None = condition.no_error
condition_of (Some e) = e.condition

-- Ack: the EOF again; at the limit a fault, or in the closing phase the end
abbrev pub on_ack_timer : Sending → State → State → Response
on_ack_timer sending front now =
    if nat_lt (front.tries Ack + 1) sending.params.limits.ack then record nothing { bodies = last_eof front.eof; arms = Ack ∷ [] }
    else if is_closing front then ends_unreported (condition_of front.eof)
    else fault_response sending now Ack condition.positive_ack_limit

-- Check, while class 1 waits for the Finished PDU: nothing is sent, and at the limit a fault
abbrev pub on_check_timer : Sending → State → State → Response
on_check_timer sending front now =
    if nat_lt (front.tries Check + 1) sending.params.limits.check then record nothing { arms = Check ∷ [] }
    else fault_response sending now Check condition.check_limit

-- the answer to an expiration, by its timer; a sender has no Nak timer
abbrev pub on_timer : Sending → State → State → TimerKind → Response
on_timer sending front now Ack = on_ack_timer sending front now
on_timer sending front now Inactivity = fault_response sending now Inactivity condition.inactivity
on_timer sending front now Nak = nothing
on_timer sending front now Check = on_check_timer sending front now

-- ---- answers to the user

-- the phase that a report gives
abbrev pub phase_of : State → Phase
phase_of state = if is_closing state then phase.Closing else if is_suspended state then phase.Suspended else phase.Active

-- the timer that runs after the EOF: in class 1 Check; in class 2 Ack until the EOF is acknowledged, then Inactivity
abbrev pub waiting_timer : Sending → State → List TimerKind
waiting_timer sending state = if not (is_some state.eof) then [] else by_class sending.request.class
  where
    by_class : Class → List TimerKind
    by_class One = Check ∷ []
    by_class Two = if state.acknowledged then Inactivity ∷ [] else Ack ∷ []

-- the answer to an event, by its kind
abbrev pub response_to : Sending → State → State → Event → Response
response_to sending front now put = tells told.Transaction
response_to sending front now (happens what.Pump) = on_pump sending front
response_to sending front now (happens (what.Pdu pdu)) = on_body sending front pdu.body
response_to sending front now (happens (what.Timer kind stamp)) = on_timer sending front now kind
response_to sending front now (happens what.Cancel) = cancel_response sending now condition.cancel_request
response_to sending front now (happens what.Suspend) = tells (told.Suspended condition.suspend_request)
response_to sending front now (happens what.Resume) = record (tells (told.Resumed now.progress)) { arms = waiting_timer sending front }
response_to sending front now (happens what.Report) = tells (told.Report (phase_of now) now.progress)
response_to sending front now (happens what.Abandon) = tells (told.Abandoned condition.cancel_request now.progress)
response_to sending front now (happens (what.Stored stamp kept)) = nothing

-- ---- the timers of a response

-- whether the response arms the timer
abbrev pub is_armed_by : Response → TimerKind → Bool
is_armed_by response kind = list_any (is_kind kind) response.arms

-- whether the event shows that the receiver is active
abbrev pub is_sign_of_life : Event → Bool
is_sign_of_life put = false
is_sign_of_life (happens event) = is_pdu event

-- what a step does to a timer: all are stopped where the transaction has ended or is suspended, and all but Ack in the
-- closing phase; the ACK of the EOF stops Ack and starts Inactivity
abbrev pub effect_of : Response → State → Event → TimerKind → Effect
effect_of response after event kind =
    if after.ended || is_suspended after then stops
    else if is_closing after && not (is_kind Ack kind) then stops
    else if is_armed_by response kind then arms
    else if is_kind Ack kind && acknowledges_eof event then stops
    else if is_kind Inactivity kind && is_sign_of_life event && after.acknowledged then arms
    else keeps

-- ---- the whole answer

-- the state with the event added, before its answer
abbrev pub with_event : Sending → State → Event → State
with_event sending state event = step sending state (record { event = event; answer = empty_answer })

-- the answer of a response, without the timers
abbrev pub without_timers : Sending → Response → Answer
without_timers sending response = record { inds = response.inds; pdus = map (λ b. record { header = header_of sending; body = b }) response.bodies; timers = []; deposit = None }

-- the answer of a response, with the timers
abbrev pub with_timers : Sending → State → Event → Response → Answer → Answer
with_timers sending front event response answer = record answer {
  timers = operations sending.key (timer_length sending.params.timers) front.entries
      (effect_of response (step sending front (record { event = event; answer = answer })) event)
      front.armed;
}

-- the answer to an event that is accepted
abbrev pub accepted_at : Sending → State → Event → Answer
accepted_at sending front event =
    let response = response_to sending front (with_event sending front event) event in
    with_timers sending front event response (without_timers sending response)

-- the answer to an event, or the refusal
unfoldable pub answer_at : Sending → State → Event → Result Answer Refusal
answer_at sending front event = unless_refused (refusal_at sending front event) (accepted_at sending front event)
