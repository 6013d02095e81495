-- Meaning. The state of the sending end of a transaction, in both classes, as its log of events and answers gives it.
use Rattle.std.specs.Prelude.{ℕ, ◌+◌, max, Bool, true, false, not, ◌||◌, ◌&&◌, nat_lt, ◌==◌, is_some, if◌then◌else◌, List, [], ◌∷◌, length, Option, Some, None}
use Rattle.std.specs.List.{list_any}
use Rattle.cfdp_types.specs.Condition as condition
use Rattle.cfdp_types.specs.Steps.{armed_after, is_kind, newer_or}
use Rattle.cfdp_types.specs.declared.params.ParamsParts.{ParamsParts}
use Rattle.cfdp_types.specs.Put.{PutValue}
use Rattle.cfdp_types.specs.declared.key.TxnKey.{TxnKey}
use Rattle.cfdp_types.specs.declared.names.TimerKind.{TimerKind}
use Rattle.cfdp_types.specs.declared.names.TimerKind.TheVariants.{Ack}
use Rattle.gap_list.specs.Runs.{is_within}
use Rattle.txn_events.specs.declared.event.What.{What}
use Rattle.txn_events.specs.declared.event.What.TheVariants as what
use Rattle.txn_events.specs.Events.{is_two, is_expiration}
use Rattle.pdu_values.specs.Pdu.{PduValue, ack_is_toward_sender}
use Rattle.pdu_values.specs.declared.pdu.Body.{Body}
use Rattle.pdu_values.specs.declared.pdu.Body.TheVariants as body
use Rattle.pdu_values.specs.declared.bodies.Eof.{Eof}
use Rattle.pdu_values.specs.declared.requests.SegmentRequest.{SegmentRequest}
use Rattle.indications.specs.Words.{is_end}
pub use Rattle.txn_events.specs.Logs.{issued}
use Rattle.txn_events.specs.Logs as logs
use Rattle.indications.specs.Words.{paused_after, is_resumed, is_fault}

-- what is fixed when a file is put
pub record Sending : Type 0 where
  pub key : TxnKey
  pub params : ParamsParts
  pub request : PutValue

-- an event of a sender: the Put that opens it, or what happens later
pub data Event : Type 0 where
  put : Event
  happens : What → Event

-- an accepted event with its answer
abbrev pub Entry : Type 0
Entry = logs.Entry Event

-- the state of a sender: each part follows from the log
pub record State : Type 0 where
  -- the number of entries
  pub entries : ℕ
  -- whether Metadata was never sent, or was requested since
  pub metadata_remains : Bool
  -- the offsets of the file that were never sent, or were requested since
  pub remains : ℕ → Bool
  -- one more than the greatest offset sent, 0 if there is none
  pub progress : ℕ
  -- the last EOF that was sent
  pub eof : Option Eof
  -- whether the EOF without an error was acknowledged
  pub acknowledged : Bool
  -- whether Suspended was issued, and no Resumed since
  pub paused : Bool
  -- for each running timer, the number of the entry that armed it
  pub armed : TimerKind → Option ℕ
  -- for each timer, its expirations since its count last began
  pub tries : TimerKind → ℕ
  -- whether an end was issued
  pub ended : Bool

-- ---- phases

-- whether it is an EOF with an error
abbrev pub is_cancel : Option Eof → Bool
is_cancel None = false
is_cancel (Some e) = not (e.condition == condition.no_error)

-- an EOF with an error was sent, and no end was issued yet
abbrev pub is_closing : State → Bool
is_closing state = is_cancel state.eof && not state.ended

-- Suspended was issued and no Resumed since, no EOF with an error was sent, and no end was issued
abbrev pub is_suspended : State → Bool
is_suspended state = state.paused && not (is_cancel state.eof) && not state.ended

-- whether transaction closure is requested: in class 1, where the Put requests it
abbrev pub asks_closure : Sending → Bool
asks_closure sending = not (is_two sending.request.class) && sending.request.closure

-- ---- what an answer sends

-- the EOF in a body
abbrev pub eof_in : Body → Option Eof
eof_in (body.Eof e) = Some e
eof_in _ = None

-- the last EOF among PDUs
abbrev pub eof_among : List PduValue → Option Eof
eof_among [] = None
eof_among (pdu ∷ later) = newer_or (eof_among later) (eof_in pdu.body)

-- whether a body is Metadata
abbrev pub is_metadata_body : Body → Bool
is_metadata_body (body.Metadata m) = true
is_metadata_body _ = false

-- whether a PDU is Metadata
abbrev pub is_metadata : PduValue → Bool
is_metadata pdu = is_metadata_body pdu.body

-- whether a body holds the file's octet at an offset
abbrev pub body_covers : ℕ → Body → Bool
body_covers i (body.FileData d) = is_within d.offset (d.offset + length d.octets) i
body_covers i _ = false

-- whether a PDU holds the file's octet at an offset
abbrev pub covers : ℕ → PduValue → Bool
covers i pdu = body_covers i pdu.body

-- one more than the greatest offset in a body, 0 if there is none
abbrev pub body_extent : Body → ℕ
body_extent (body.FileData d) = if length d.octets == 0 then 0 else d.offset + length d.octets
body_extent _ = 0

-- one more than the greatest offset in PDUs, 0 if there is none
abbrev pub extent_of : List PduValue → ℕ
extent_of [] = 0
extent_of (pdu ∷ later) = max (body_extent pdu.body) (extent_of later)

-- ---- what an event requests

-- the segment requests of a NAK
abbrev pub body_requests : Body → List SegmentRequest
body_requests (body.Nak n) = n.requests
body_requests _ = []

-- the segment requests of an event: none unless it is a NAK
abbrev pub requests_of : Event → List SegmentRequest
requests_of put = []
requests_of (happens (what.Pdu pdu)) = body_requests pdu.body
requests_of (happens _) = []

-- whether the Metadata is requested
abbrev pub asks_for_metadata : SegmentRequest → Bool
asks_for_metadata r = r.start == 0 && r.end == 0

-- whether an offset is requested
abbrev pub asks_for : ℕ → SegmentRequest → Bool
asks_for i r = is_within r.start r.end i

-- whether a body acknowledges the EOF without an error
abbrev pub body_acknowledges : Body → Bool
body_acknowledges (body.Ack a) = ack_is_toward_sender a.of && a.condition == condition.no_error
body_acknowledges _ = false

-- whether an event acknowledges the EOF without an error
abbrev pub acknowledges_eof : Event → Bool
acknowledges_eof put = false
acknowledges_eof (happens (what.Pdu pdu)) = body_acknowledges pdu.body
acknowledges_eof (happens _) = false

-- whether the event is the expiration of this timer
abbrev pub is_expired : TimerKind → Event → Bool
is_expired kind put = false
is_expired kind (happens event) = is_expiration kind event

-- ---- expirations

-- an EOF is sent whose condition code differs from the last one's
abbrev pub begins_phase : Option Eof → Option Eof → Bool
begins_phase before None = false
begins_phase None (Some new) = true
begins_phase (Some old) (Some new) = not (old.condition == new.condition)

-- a count begins again with each Resume and with an ignored fault of its timer, and the count of Ack also where an
-- EOF is sent that cancels
abbrev pub begins_again : State → Entry → TimerKind → Bool
begins_again state entry kind =
    list_any is_resumed entry.answer.inds
    || (is_expired kind entry.event && list_any is_fault entry.answer.inds)
    || (is_kind Ack kind && begins_phase state.eof (eof_among entry.answer.pdus))

-- the expirations of a timer after one more entry
abbrev pub tries_after : State → Entry → TimerKind → ℕ
tries_after state entry kind =
    if begins_again state entry kind then 0
    else if is_expired kind entry.event then state.tries kind + 1
    else state.tries kind

-- ---- the state after a log

-- the state before the Put
unfoldable pub initial : Sending → State
initial sending = record {
  entries = 0;
  metadata_remains = true;
  remains = λ i. nat_lt i (length sending.request.file);
  progress = 0;
  eof = None;
  acknowledged = false;
  paused = false;
  armed = λ kind. None;
  tries = λ kind. 0;
  ended = false;
}

-- the state after one more entry
unfoldable pub step : Sending → State → Entry → State
step sending state entry = record {
  entries = state.entries + 1;
  metadata_remains = (state.metadata_remains && not (list_any is_metadata entry.answer.pdus)) || list_any asks_for_metadata (requests_of entry.event);
  remains = λ i.
      (state.remains i && not (list_any (covers i) entry.answer.pdus))
      || (nat_lt i (length sending.request.file) && list_any (asks_for i) (requests_of entry.event));
  progress = max state.progress (extent_of entry.answer.pdus);
  eof = newer_or (eof_among entry.answer.pdus) state.eof;
  acknowledged = state.acknowledged || acknowledges_eof entry.event;
  paused = paused_after state.paused entry.answer.inds;
  armed = λ kind. armed_after state.entries (state.armed kind) entry.answer.timers kind;
  tries = λ kind. tries_after state entry kind;
  ended = state.ended || list_any is_end entry.answer.inds;
}

-- the state after a log
unfoldable pub state_of : Sending → List Entry → State
state_of sending [] = initial sending
state_of sending (entry ∷ front) = step sending (state_of sending front) entry
