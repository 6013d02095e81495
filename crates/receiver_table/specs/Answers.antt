-- Meaning. The answers of a reception to the events that it accepts, in both classes.
use Rattle.std.specs.Prelude.{ℕ, zero, suc, ◌+◌, ◌-◌, Bool, true, false, not, ◌||◌, ◌&&◌, nat_lt, ◌==◌, is_some, unwrap_or, if◌then◌else◌, List, [], ◌∷◌, ◌++◌, length, map, take, Option, Some, None, Result}
use Rattle.std.specs.List.{list_any}
use Rattle.cfdp_types.specs.Condition as condition
use Rattle.cfdp_types.specs.ChecksumType as checksum
use Rattle.cfdp_types.specs.Steps.{Effect, arms, keeps, stops, is_kind, has_kind, older_or, operations}
use Rattle.cfdp_types.specs.Handlers.{handler_in}
use Rattle.cfdp_types.specs.Params.{table_for, timer_length}
use Rattle.cfdp_types.specs.declared.key.EntityId.{EntityId}
use Rattle.cfdp_types.specs.declared.names.Delivery.{Delivery}
use Rattle.cfdp_types.specs.declared.names.Role.{Role}
use Rattle.cfdp_types.specs.declared.names.Role.TheVariants.{RecvOne, RecvTwo}
use Rattle.cfdp_types.specs.declared.limits.TheConstants.{NAK_REQUESTS}
use Rattle.cfdp_types.specs.declared.names.Class.{Class}
use Rattle.cfdp_types.specs.declared.names.Class.TheVariants.{One, Two}
use Rattle.cfdp_types.specs.declared.names.Delivery.TheVariants.{Complete, Incomplete}
use Rattle.cfdp_types.specs.declared.names.FileStatus.{FileStatus}
use Rattle.cfdp_types.specs.declared.names.FileStatus.TheVariants.{Discarded, Rejected, Retained}
use Rattle.cfdp_types.specs.declared.names.Handler.{Handler}
use Rattle.cfdp_types.specs.declared.names.Handler.TheVariants as handler
use Rattle.cfdp_types.specs.declared.names.TimerKind.{TimerKind}
use Rattle.cfdp_types.specs.declared.names.TimerKind.TheVariants.{Ack, Nak, Check, Inactivity}
use Rattle.gap_list.specs.Runs.{missing_runs}
use Rattle.gap_list.specs.declared.run.Run.{Run}
use Rattle.txn_events.specs.declared.event.What.{What}
use Rattle.txn_events.specs.declared.event.What.TheVariants as what
use Rattle.txn_events.specs.Refusal.{unless_refused}
use Rattle.txn_events.specs.declared.refusal.Refusal.{Refusal}
use Rattle.pdu_values.specs.Pdu.{PduValue}
use Rattle.pdu_values.specs.declared.pdu.Direction.TheVariants.{TowardSender}
use Rattle.pdu_values.specs.declared.pdu.Body.{Body}
use Rattle.pdu_values.specs.declared.pdu.Body.TheVariants as body
use Rattle.pdu_values.specs.declared.bodies.Acknowledged.TheVariants as acknowledged
use Rattle.pdu_values.specs.declared.bodies.TransactionStatus.TheVariants as status
use Rattle.pdu_values.specs.declared.bodies.Prompt.TheVariants as prompt
use Rattle.pdu_values.specs.declared.requests.SegmentRequest.{SegmentRequest}
use Rattle.pdu_values.specs.declared.bodies.Metadata.{Metadata}
use Rattle.pdu_values.specs.declared.bodies.Eof.{Eof}
use Rattle.pdu_values.specs.declared.bodies.Finished.{Finished}
use Rattle.indications.specs.declared.indication.Indication.{Indication}
use Rattle.indications.specs.declared.indication.Indication.TheVariants as told
use Rattle.indications.specs.declared.indication.Phase.{Phase}
use Rattle.indications.specs.declared.indication.Phase.TheVariants as phase
use Rattle.indications.specs.Words.{is_end}
use Rattle.modular_sum.specs.Sum.{sum}
use Rattle.pdu_values.specs.declared.bodies.FileData.{FileData}
use Rattle.pdu_values.specs.declared.bodies.Prompt.{Prompt}
use Rattle.txn_events.specs.Events.{is_two}
pub use Rattle.txn_events.specs.Logs.{empty_answer}
use Rattle.txn_events.specs.declared.answer.Answer.{Answer}
use Rattle.receiver_table.specs.Reception.{Reception, State, step, is_closing, is_storing, is_suspended, is_received, added_runs}
use Rattle.receiver_table.specs.Refusals.{refusal_at}

-- ---- a response of the table

-- what a response gives; its PDUs are sent in the order of these fields
pub record Response : Type 0 where
  pub inds : List Indication
  -- the condition code of an EOF that is acknowledged
  pub ack : Option ℕ
  pub nak : Bool
  pub keep_alive : Bool
  pub finished : Option Finished
  -- whether the file is handed to the file store
  pub deposit : Bool
  -- the timers to arm
  pub arms : List TimerKind

-- the empty response
abbrev pub nothing : Response
nothing = record { inds = []; ack = None; nak = false; keep_alive = false; finished = None; deposit = false; arms = [] }

-- only these indications
abbrev pub tells : List Indication → Response
tells inds = record nothing { inds = inds }

-- two responses joined: the first one's indications come first, and its ACK and Finished PDU have precedence
infixr 10 ◌and_then◌
abbrev pub ◌and_then◌ : Response → Response → Response
response and_then next = record {
  inds = response.inds ++ next.inds;
  ack = older_or response.ack next.ack;
  nak = response.nak || next.nak;
  keep_alive = response.keep_alive || next.keep_alive;
  finished = older_or response.finished next.finished;
  deposit = response.deposit || next.deposit;
  arms = response.arms ++ next.arms;
}

-- ---- the parts of answers

-- the role whose fault table is used
abbrev pub role_of : Class → Role
role_of One = RecvOne
role_of Two = RecvTwo

-- the handler of a condition, from the table of the transaction's class
abbrev pub handler_of : Reception → ℕ → Handler
handler_of reception code = handler_in (table_for reception.params.tables (role_of reception.header.class)) code

-- the file status where a fault ends the reception
abbrev pub status_of : ℕ → FileStatus
status_of code = if code == condition.filestore_rejection then Rejected else Discarded

-- the fault location of a Finished PDU: this entity, for every fault but an unsupported checksum type
abbrev pub location_of : Reception → ℕ → Option EntityId
location_of reception code =
    if code == condition.no_error || code == condition.unsupported_checksum_type then None else Some reception.params.local

-- whether the first Metadata requests transaction closure
abbrev pub asks_closure : State → Bool
asks_closure state = unwrap_or state.closure false

-- the end of the delivery: class 1 notifies the user at once, and the sender too where closure is requested; class 2
-- sends a Finished PDU and waits for its ACK
abbrev pub finish_response : Reception → State → ℕ → Delivery → FileStatus → Response
finish_response reception state code delivery file_status = by_class reception.header.class
  where
    finished : Finished
    finished = record { condition = code; delivery = delivery; status = file_status; location = location_of reception code }

    by_class : Class → Response
    by_class One = record (tells (told.TransactionFinished code delivery file_status ∷ [])) {
      finished = if asks_closure state then Some finished else None;
    }
    by_class Two = record nothing { finished = Some finished; arms = Ack ∷ [] }

-- a fault with handler Cancel
abbrev pub cancel_response : Reception → State → ℕ → Response
cancel_response reception state code = finish_response reception state code Incomplete (status_of code)

-- a fault, by its handler: where it is ignored, the timer that declared it is armed again
abbrev pub fault_response : Reception → State → List TimerKind → ℕ → Response
fault_response reception state kinds code = by_handler (handler_of reception code)
  where
    by_handler : Handler → Response
    by_handler handler.Cancel = cancel_response reception state code
    by_handler handler.Suspend = tells (told.Suspended code ∷ [])
    by_handler handler.Ignore = record (tells (told.Fault code state.progress ∷ [])) { arms = kinds }
    by_handler handler.Abandon = tells (told.Abandoned code state.progress ∷ [])

-- ---- examining the file so far

-- the octets received at n offsets from k on, in order
abbrev pub octets_from : (ℕ → Option ℕ) → ℕ → ℕ → List ℕ
octets_from received k zero = []
octets_from received k (suc n) = unwrap_or (received k) 0 ∷ octets_from received (k + 1) n

-- the maximal runs of offsets below a limit that were not received, rising
abbrev pub missing_below : State → ℕ → List Run
missing_below state limit = missing_runs (is_received state) limit

-- the checksum type is not supported
abbrev pub is_unsupported : State → Bool
is_unsupported state = by_type state.metadata
  where
    by_type : Option Metadata → Bool
    by_type None = false
    by_type (Some m) = not (m.checksum_type == checksum.modular) && not (m.checksum_type == checksum.null)

-- an offset at or above the EOF's size was received
abbrev pub is_beyond : State → Eof → Bool
is_beyond state e = nat_lt e.size state.progress

-- the Metadata was received, and nothing below the EOF's size is missing
abbrev pub is_whole : State → Eof → Bool
is_whole state e = is_some state.metadata && (length (missing_below state e.size) == 0)

-- the file has no checksum
abbrev pub has_no_sum : State → Bool
has_no_sum state = by_type state.metadata
  where
    by_type : Option Metadata → Bool
    by_type None = false
    by_type (Some m) = m.checksum_type == checksum.null

-- the octets below the size have the EOF's checksum, or the file has no checksum
abbrev pub agrees : State → Eof → Bool
agrees state e = has_no_sum state || (sum (octets_from state.received 0 e.size) == e.checksum)

-- the file is handed to the file store
abbrev pub stores : Response
stores = record nothing { deposit = true }

-- class 1 waits for the rest of the file by Check, class 2 requests it by a NAK; neither while that timer runs
abbrev pub waits_for_rest : Reception → State → Response
waits_for_rest reception state = by_class reception.header.class
  where
    by_class : Class → Response
    by_class One = if is_some (state.armed Check) then nothing else record nothing { arms = Check ∷ [] }
    by_class Two = if is_some (state.armed Nak) then nothing else record nothing { nak = true; arms = Nak ∷ [] }

-- the completion check, once an EOF was received
abbrev pub looks_at_eof : Reception → State → Option Eof → Response
looks_at_eof reception state None = nothing
looks_at_eof reception state (Some e) =
    if is_beyond state e then fault_response reception state [] condition.file_size_error
    else if is_whole state e && not (agrees state e) then fault_response reception state [] condition.file_checksum_failure
    else if is_whole state e then stores
    else waits_for_rest reception state

-- the completion check: the first case that applies; nothing while the reception is suspended
abbrev pub examines : Reception → State → Response
examines reception state =
    if is_suspended state then nothing
    else if is_unsupported state then fault_response reception state [] condition.unsupported_checksum_type
    else looks_at_eof reception state state.eof

-- ---- answers to PDUs; `front` is the state before the event, `now` the state with the event

-- the indication of a run of new octets
abbrev pub segment_told : Run → Indication
segment_told run = told.FileSegmentRecv run.start (run.end - run.start)

-- what is indicated of Metadata from an entity
abbrev pub metadata_recv : EntityId → Metadata → Indication
metadata_recv source m = told.MetadataRecv (record {
  source = source;
  size = m.size;
  source_name = m.source_name;
  destination_name = m.destination_name;
  messages = m.messages;
})

-- Metadata: only the first is indicated
abbrev pub on_metadata : Reception → State → State → Metadata → Response
on_metadata reception front now m =
    (if is_some front.metadata then nothing
    else tells (metadata_recv reception.key.source m ∷ []))
    and_then examines reception now

-- File Data: each run of new octets is indicated
abbrev pub on_file_data : Reception → State → State → FileData → Response
on_file_data reception front now d = tells (map segment_told (added_runs front (Some d))) and_then examines reception now

-- class 2 acknowledges an EOF
abbrev pub acknowledges : Reception → ℕ → Response
acknowledges reception code = if is_two reception.header.class then record nothing { ack = Some code } else nothing

-- EOF: the first one without an error is indicated; one with an error ends the reception; in the closing phase
-- every EOF is only acknowledged
abbrev pub on_eof : Reception → State → State → Eof → Response
on_eof reception front now e =
    if is_closing front then acknowledges reception e.condition
    else if e.condition == condition.no_error then
    (if is_some front.eof then nothing else tells (told.EofRecv ∷ [])) and_then acknowledges reception e.condition and_then examines reception now
    else tells (told.TransactionFinished e.condition Incomplete Discarded ∷ []) and_then acknowledges reception e.condition

-- Prompt: a NAK, unless the reception is suspended, or a Keep Alive
abbrev pub on_prompt : State → Prompt → Response
on_prompt now prompt.Nak = if is_suspended now then nothing else record nothing { nak = true }
on_prompt now prompt.KeepAlive = record nothing { keep_alive = true }

-- the Finished PDU was acknowledged, or its ACK is no longer waited for: the values in the Finished are indicated
abbrev pub ends_as_finished : State → Response
ends_as_finished state = by_finished state.finished
  where
    by_finished : Option Finished → Response
    by_finished None = nothing
    by_finished (Some f) = tells (told.TransactionFinished f.condition f.delivery f.status ∷ [])

-- the answer to a PDU, by its kind
abbrev pub on_body : Reception → State → State → Body → Response
on_body reception front now (body.Metadata m) = on_metadata reception front now m
on_body reception front now (body.FileData d) = on_file_data reception front now d
on_body reception front now (body.Eof e) = on_eof reception front now e
on_body reception front now (body.Prompt p) = on_prompt now p
on_body reception front now (body.Ack a) = ends_as_finished front
on_body reception front now (body.Finished f) = nothing
on_body reception front now (body.Nak n) = nothing
on_body reception front now (body.KeepAlive k) = nothing

-- ---- answers to timers

-- the expirations so far, with this one, are below the limit
abbrev pub is_below : State → TimerKind → ℕ → Bool
is_below front kind limit = nat_lt (front.tries kind + 1) limit

-- Nak: another NAK, and at the limit a fault
abbrev pub on_nak_timer : Reception → State → State → Response
on_nak_timer reception front now =
    if is_below front Nak reception.params.limits.nak then record nothing { nak = true; arms = Nak ∷ [] }
    else fault_response reception now (Nak ∷ []) condition.nak_limit

-- Check: nothing is sent, and at the limit a fault
abbrev pub on_check_timer : Reception → State → State → Response
on_check_timer reception front now =
    if is_below front Check reception.params.limits.check then record nothing { arms = Check ∷ [] }
    else fault_response reception now (Check ∷ []) condition.check_limit

-- Ack, in the closing phase: the Finished PDU again, and at the limit the end
abbrev pub on_ack_timer : Reception → State → Response
on_ack_timer reception front =
    if is_below front Ack reception.params.limits.ack then record nothing { finished = front.finished; arms = Ack ∷ [] }
    else ends_as_finished front

-- the answer to an expiration, by its timer
abbrev pub on_timer : Reception → State → State → TimerKind → Response
on_timer reception front now Nak = on_nak_timer reception front now
on_timer reception front now Check = on_check_timer reception front now
on_timer reception front now Ack = on_ack_timer reception front
on_timer reception front now Inactivity = fault_response reception now (Inactivity ∷ []) condition.inactivity

-- ---- answers to the user and to the file store

-- the file store keeps the file, or rejects it
abbrev pub on_stored : Reception → State → Bool → Response
on_stored reception now true = finish_response reception now condition.no_error Complete Retained
on_stored reception now false = fault_response reception now [] condition.filestore_rejection

-- the phase that a report gives
abbrev pub phase_of : State → Phase
phase_of state =
    if is_storing state then phase.Storing
    else if is_closing state then phase.Closing
    else if is_suspended state then phase.Suspended
    else phase.Active

-- Resume: the reception continues, and examines what it received meanwhile
abbrev pub on_resume : Reception → State → Response
on_resume reception now =
    record (tells (told.Resumed now.progress ∷ [])) { arms = Inactivity ∷ [] } and_then examines reception (record now { paused = false })

-- the answer to an event, by its kind
abbrev pub response_to : Reception → State → State → What → Response
response_to reception front now (what.Pdu pdu) = on_body reception front now pdu.body
response_to reception front now (what.Timer kind stamp) = on_timer reception front now kind
response_to reception front now (what.Stored stamp kept) = on_stored reception now kept
response_to reception front now what.Cancel = cancel_response reception now condition.cancel_request
response_to reception front now what.Suspend = tells (told.Suspended condition.suspend_request ∷ [])
response_to reception front now what.Resume = on_resume reception now
response_to reception front now what.Report = tells (told.Report (phase_of now) now.progress ∷ [])
response_to reception front now what.Abandon = tells (told.Abandoned condition.cancel_request now.progress ∷ [])
response_to reception front now what.Pump = nothing

-- ---- the PDUs of a response

-- a PDU of this transaction, toward the sender
abbrev pub pdu_to_sender : Reception → Body → PduValue
pdu_to_sender reception body = record { header = record reception.header { direction = TowardSender }; body = body }

-- the ACK of an EOF; its transaction status says whether the transaction has ended
abbrev pub ack_of : Bool → ℕ → Body
ack_of ended code = body.Ack (record { of = acknowledged.Eof; condition = code; status = if ended then status.Terminated else status.Active })

-- the segment request for a run
abbrev pub request_of : Run → SegmentRequest
request_of run = record { start = run.start; end = run.end }

-- the end of the scope of a NAK: the EOF's size, or the progress before an EOF was received
abbrev pub scope_of : State → ℕ
scope_of state = by_eof state.eof
  where
    by_eof : Option Eof → ℕ
    by_eof None = state.progress
    by_eof (Some e) = e.size

-- all that is missing: first the Metadata, then the runs, rising
abbrev pub requests_of : State → List SegmentRequest
requests_of state =
    (if is_some state.metadata then [] else record { start = 0; end = 0 } ∷ []) ++ map request_of (missing_below state (scope_of state))

-- the end of the last request
abbrev pub last_end : List SegmentRequest → ℕ
last_end [] = 0
last_end (r ∷ []) = r.end
last_end (r ∷ rest) = last_end rest

-- a NAK holds the first requests; where some are left out, its scope ends with the last request in it
abbrev pub nak_of : State → Body
nak_of state =
    if nat_lt NAK_REQUESTS (length (requests_of state)) then
    body.Nak (record { start = 0; end = last_end (take NAK_REQUESTS (requests_of state)); requests = take NAK_REQUESTS (requests_of state) })
    else body.Nak (record { start = 0; end = scope_of state; requests = requests_of state })

-- the body with a value, if there is a value
abbrev pub if_there : {A : Type 0} → (A → Body) → Option A → List Body
if_there make None = []
if_there make (Some x) = make x ∷ []

-- the body, if it is to be sent
abbrev pub if_so : Bool → Body → List Body
if_so true body = body ∷ []
if_so false body = []

-- the bodies to send, in this order
abbrev pub bodies_of : State → Bool → Response → List Body
bodies_of now ended response =
    if_there (ack_of ended) response.ack
    ++ if_so response.nak (nak_of now)
    ++ if_so response.keep_alive (body.KeepAlive (record { progress = now.progress }))
    ++ if_there body.Finished response.finished

-- ---- the timers of a response

-- whether an event shows that the sender is active: an accepted PDU does; a Prompt for a NAK does not, and leaves
-- all timers as they are
abbrev pub is_sign_of_life : What → Bool
is_sign_of_life (what.Pdu pdu) = not (asks_for_nak pdu.body)
  where
    asks_for_nak : Body → Bool
    asks_for_nak (body.Prompt prompt.Nak) = true
    asks_for_nak _ = false
is_sign_of_life _ = false

-- what a step does to a timer: all are stopped where the transaction has ended, is suspended or waits for the file
-- store, and all but Ack in the closing phase
abbrev pub effect_of : Response → State → What → TimerKind → Effect
effect_of response after event kind =
    if after.ended || is_storing after || is_suspended after then stops
    else if is_closing after && not (is_kind Ack kind) then stops
    else if has_kind response.arms kind then arms
    else if is_kind Inactivity kind && is_sign_of_life event then arms
    else keeps

-- ---- the whole answer

-- the state with the event added, before its answer
abbrev pub with_event : State → What → State
with_event state event = step state (record { event = event; answer = empty_answer })

-- the answer of a response, without the timers
abbrev pub without_timers : Reception → State → State → Response → Answer
without_timers reception front now response = record {
  inds = response.inds;
  pdus = map (pdu_to_sender reception) (bodies_of now (list_any is_end response.inds) response);
  timers = [];
  deposit = if response.deposit then Some (record { key = reception.key; stamp = front.entries }) else None;
}

-- the answer of a response, with the timers
abbrev pub with_timers : Reception → State → What → Response → Answer → Answer
with_timers reception front event response answer = record answer {
  timers = operations reception.key (timer_length reception.params.timers) front.entries
      (effect_of response (step front (record { event = event; answer = answer })) event)
      front.armed;
}

-- the answer to an event that is accepted
abbrev pub accepted_at : Reception → State → What → Answer
accepted_at reception front event =
    let response = response_to reception front (with_event front event) event in
    with_timers reception front event response (without_timers reception front (with_event front event) response)

-- the answer to an event, or the refusal
unfoldable pub answer_at : Reception → State → What → Result Answer Refusal
answer_at reception front event = unless_refused (refusal_at reception front event) (accepted_at reception front event)
