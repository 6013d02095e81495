-- Meaning. The state of the receiving end of a transaction, in both classes, as its log of events and answers gives it.
use Rattle.std.specs.Prelude.{ℕ, ◌+◌, ◌-◌, max, Bool, false, not, ◌||◌, ◌&&◌, nat_le, ◌==◌, is_some, if◌then◌else◌, List, [], ◌∷◌, length, slice_get, Option, Some, None}
use Rattle.std.specs.List.{list_any}
use Rattle.cfdp_types.specs.Condition as condition
use Rattle.cfdp_types.specs.Steps.{armed_after, is_kind, older_or, newer_or}
use Rattle.cfdp_types.specs.declared.params.ParamsParts.{ParamsParts}
use Rattle.cfdp_types.specs.declared.key.TxnKey.{TxnKey}
use Rattle.cfdp_types.specs.declared.key.Deposit.{Deposit}
use Rattle.cfdp_types.specs.declared.names.TimerKind.{TimerKind}
use Rattle.cfdp_types.specs.declared.names.TimerKind.TheVariants.{Nak}
use Rattle.gap_list.specs.Runs.{new_runs}
use Rattle.gap_list.specs.declared.run.Run.{Run}
use Rattle.txn_events.specs.declared.event.What.{What}
use Rattle.txn_events.specs.declared.event.What.TheVariants as what
use Rattle.pdu_values.specs.Pdu.{PduValue}
use Rattle.pdu_values.specs.declared.pdu.Header.{Header}
use Rattle.pdu_values.specs.declared.pdu.Body.{Body}
use Rattle.pdu_values.specs.declared.pdu.Body.TheVariants as body
use Rattle.pdu_values.specs.declared.bodies.Metadata.{Metadata}
use Rattle.pdu_values.specs.declared.bodies.Eof.{Eof}
use Rattle.pdu_values.specs.declared.bodies.FileData.{FileData}
use Rattle.pdu_values.specs.declared.bodies.Finished.{Finished}
use Rattle.indications.specs.Words.{is_end}
use Rattle.indications.specs.Words.{paused_after, is_resumed, is_fault}
use Rattle.txn_events.specs.Events.{body_of_event, is_expiration}
pub use Rattle.txn_events.specs.Logs.{issued}
use Rattle.txn_events.specs.Logs as logs

-- what is fixed when a reception opens
pub record Reception : Type 0 where
  pub key : TxnKey
  pub params : ParamsParts
  -- the header of the PDU that opened it: its mode gives the class, and its lengths are used in the PDUs sent
  pub header : Header

-- an accepted event with its answer
abbrev pub Entry : Type 0
Entry = logs.Entry What

-- the state of a reception: each part follows from the log
pub record State : Type 0 where
  -- the number of entries
  pub entries : ℕ
  -- the octet that was first received at an offset
  pub received : ℕ → Option ℕ
  -- one more than the greatest offset received, 0 if there is none
  pub progress : ℕ
  -- the first Metadata
  pub metadata : Option Metadata
  -- whether the first Metadata requests transaction closure
  pub closure : Option Bool
  -- the first EOF without an error
  pub eof : Option Eof
  -- the stamp of the deposit that is waiting for the file store's answer
  pub waiting : Option ℕ
  -- the last Finished PDU that was sent
  pub finished : Option Finished
  -- whether Suspended was issued, and no Resumed since
  pub paused : Bool
  -- for each running timer, the number of the entry that armed it
  pub armed : TimerKind → Option ℕ
  -- for each timer, its expirations since its count last began
  pub tries : TimerKind → ℕ
  -- whether an end was issued
  pub ended : Bool

-- ---- phases

-- a Finished PDU was sent, and no end was issued yet
abbrev pub is_closing : State → Bool
is_closing state = is_some state.finished && not state.ended

-- the file store was asked and has not answered
abbrev pub is_storing : State → Bool
is_storing state = is_some state.waiting

-- Suspended was issued and no Resumed since, no Finished PDU was sent, and no end was issued
abbrev pub is_suspended : State → Bool
is_suspended state = state.paused && not (is_some state.finished) && not state.ended

-- ---- what an event carries

-- the Metadata in a body
abbrev pub metadata_of : Option Body → Option Metadata
metadata_of (Some (body.Metadata m)) = Some m
metadata_of _ = None

-- the closure bit of the Metadata in a body
abbrev pub closure_of : Option Body → Option Bool
closure_of (Some (body.Metadata m)) = Some m.closure
closure_of _ = None

-- the EOF in a body, if it has no error
abbrev pub eof_of : Option Body → Option Eof
eof_of (Some (body.Eof e)) = if e.condition == condition.no_error then Some e else None
eof_of _ = None

-- the file data in a body
abbrev pub file_data_of : Option Body → Option FileData
file_data_of (Some (body.FileData d)) = Some d
file_data_of _ = None

-- the octet that file data has at an offset
abbrev pub octet_at : Option FileData → ℕ → Option ℕ
octet_at None i = None
octet_at (Some d) i = if nat_le d.offset i then slice_get d.octets (i - d.offset) else None

-- one more than the greatest offset in file data, 0 if it has no octets
abbrev pub extent_of : Option FileData → ℕ
extent_of None = 0
extent_of (Some d) = if length d.octets == 0 then 0 else d.offset + length d.octets

-- ---- what an answer sends

-- the Finished in a body
abbrev pub finished_in : Body → Option Finished
finished_in (body.Finished f) = Some f
finished_in _ = None

-- the last Finished among PDUs
abbrev pub finished_among : List PduValue → Option Finished
finished_among [] = None
finished_among (pdu ∷ later) = newer_or (finished_among later) (finished_in pdu.body)

-- ---- received octets

-- whether the octet at the offset was received
abbrev pub is_received : State → ℕ → Bool
is_received state i = is_some (state.received i)

-- the maximal runs of offsets that file data adds, rising
abbrev pub added_runs : State → Option FileData → List Run
added_runs state None = []
added_runs state (Some d) = new_runs (is_received state) d.offset (d.offset + length d.octets)

-- ---- expirations

-- the event is the first Metadata, or file data with new octets: the sender is responding
abbrev pub brings_more : State → Option Body → Bool
brings_more state b = (is_some (metadata_of b) && not (is_some state.metadata)) || not (length (added_runs state (file_data_of b)) == 0)

-- a count begins again with each Resume and with an ignored fault of its timer, and the count of Nak also where
-- more of the file is received
abbrev pub begins_again : State → Entry → TimerKind → Bool
begins_again state entry kind =
    list_any is_resumed entry.answer.inds
    || (is_expiration kind entry.event && list_any is_fault entry.answer.inds)
    || (is_kind Nak kind && brings_more state (body_of_event entry.event))

-- the expirations of a timer after one more entry
abbrev pub tries_after : State → Entry → TimerKind → ℕ
tries_after state entry kind =
    if begins_again state entry kind then 0
    else if is_expiration kind entry.event then state.tries kind + 1
    else state.tries kind

-- ---- the state after a log

-- the stamp of the deposit that is waiting: it waits until the file store answers
abbrev pub waiting_after : Option ℕ → What → Option Deposit → Option ℕ
waiting_after waiting (what.Stored stamp kept) deposit = None
waiting_after waiting event (Some deposit) = Some deposit.stamp
waiting_after waiting event None = waiting

-- the state before the first event
unfoldable pub initial : State
initial = record {
  entries = 0;
  received = λ i. None;
  progress = 0;
  metadata = None;
  closure = None;
  eof = None;
  waiting = None;
  finished = None;
  paused = false;
  armed = λ kind. None;
  tries = λ kind. 0;
  ended = false;
}

-- the state after one more entry
unfoldable pub step : State → Entry → State
step state entry =
    let b = body_of_event entry.event in
    record {
      entries = state.entries + 1;
      received = λ i. older_or (state.received i) (octet_at (file_data_of b) i);
      progress = max state.progress (extent_of (file_data_of b));
      metadata = older_or state.metadata (metadata_of b);
      closure = older_or state.closure (closure_of b);
      eof = older_or state.eof (eof_of b);
      waiting = waiting_after state.waiting entry.event entry.answer.deposit;
      finished = newer_or (finished_among entry.answer.pdus) state.finished;
      paused = paused_after state.paused entry.answer.inds;
      armed = λ kind. armed_after state.entries (state.armed kind) entry.answer.timers kind;
      tries = λ kind. tries_after state entry kind;
      ended = state.ended || list_any is_end entry.answer.inds;
    }

-- the state after a log
unfoldable pub state_of : List Entry → State
state_of [] = initial
state_of (entry ∷ front) = step (state_of front) entry
