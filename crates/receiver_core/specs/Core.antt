-- Of the code. How the code keeps a reception, and what its plans are.
use Rattle.std.specs.Prelude.{◌≡◌, ℕ, ◌≤◌, Bool, true, false, List, [], Option}
use Rattle.cfdp_types.specs.declared.params.ParamsParts.{ParamsParts}
use Rattle.cfdp_types.specs.Steps.{older_or}
use Rattle.cfdp_types.specs.declared.key.TxnKey.{TxnKey}
use Rattle.gap_list.specs.Covered.{covered}
use Rattle.txn_events.specs.declared.event.What.{What}
use Rattle.txn_events.specs.declared.event.What.TheVariants as what
use Rattle.pdu_values.specs.declared.pdu.Body.{Body}
use Rattle.pdu_values.specs.Pdu.{PduValue}
use Rattle.pdu_values.specs.declared.pdu.Header.{Header}
use Rattle.receiver_table.specs.Reception.{Reception, State, Entry, step, state_of, metadata_of, file_data_of, added_runs, brings_more}
use Rattle.receiver_table.specs.Answers.{answer_at}
use Rattle.receiver_laws.specs.LegalReceptions.{BodyOpens}
use Rattle.receiver_parts.specs.ControlBlock.{state_from, IsSound}
use Rattle.receiver_parts.specs.ReceivedFile.{received_of, with_segment, room_of}
use Rattle.txn_events.specs.declared.answer.Answer.{Answer}
pub use Rattle.txn_events.specs.Logs.{IsWhy}
use Rattle.txn_events.specs.Logs.{StandsAt, IsAnswered}
use Rattle.receiver_parts.specs.FileChange.{metadata_after, received_after, FitsFile, HasRoom, runs_in, adds}
use Rattle.receiver_parts.specs.declared.file_change.FileChange.{FileChange}
use Rattle.receiver_core.specs.declared.plan.Plan.{Plan}
use Rattle.receiver_core.specs.declared.receiver.ReceiverCore.{ReceiverCore}
use Rattle.receiver_parts.specs.declared.control.ControlBlock.{ControlBlock}

-- the reception that a PDU with this header opens
abbrev pub reception_by : TxnKey → ParamsParts → Header → Reception
reception_by key params header = record { key = key; params = params; header = header }

abbrev pub reception_of : ReceiverCore → Reception
reception_of core = reception_by core.key core.params core.header

-- the PDU may open the reception with this key
pub record MayOpen (key : TxnKey) (pdu : PduValue) : Type 0 where
  pub body : BodyOpens pdu.body
  pub source : pdu.header.source ≡ key.source
  pub sequence : pdu.header.sequence ≡ key.seq

-- the state that a core shows
abbrev pub shown : ReceiverCore → State
shown core = state_from core.control core.metadata (received_of core.file)

-- the core shows the state after this log
abbrev pub StandsAfter : ReceiverCore → List Entry → Type 0
StandsAfter core log = StandsAt state_of (shown core) log

-- the answer of a plan
abbrev pub plan_answer : Plan → Answer
plan_answer plan = plan.answer

-- the core's state with an event and its change, before the event is answered
abbrev pub now_state : ReceiverCore → ControlBlock → FileChange → State
now_state core now c = state_from now (metadata_after core.metadata c) (received_after core.file c)

-- whether an event is neither a PDU nor an expiration
abbrev pub is_request : What → Bool
is_request (what.Pdu pdu) = false
is_request (what.Timer kind stamp) = false
is_request _ = true

-- the change that a body brings
pub record IsChange (core : ReceiverCore) (b : Option Body) (c : FileChange) : Type 0 where
  pub metadata : metadata_after core.metadata c ≡ older_or core.metadata (metadata_of b)
  pub received : (i : ℕ) → received_after core.file c i ≡ with_segment (received_of core.file) (file_data_of b) i
  pub fits : FitsFile core.file c
  pub runs : runs_in c ≡ added_runs (shown core) (file_data_of b)
  pub more : adds c ≡ brings_more (shown core) b

-- the cores differ at most in their room
pub record IsSame (old : ReceiverCore) (new : ReceiverCore) : Type 0 where
  pub reception : reception_of new ≡ reception_of old
  pub control : new.control ≡ old.control
  pub metadata : new.metadata ≡ old.metadata
  pub received : (i : ℕ) → received_of new.file i ≡ received_of old.file i
  pub gaps : (i : ℕ) → covered new.file.gaps i ≡ covered old.file.gaps i
  pub pieces : room_of old.file ≤ room_of new.file
  pub room : old.file.gaps.room ≤ new.file.gaps.room

-- ---- plans

-- in the core's present state the event gets the plan's answer, and the plan holds the state that follows
pub record IsPlanOf (core : ReceiverCore) (plan : Plan) (event : What) : Type 0 where
  pub answered : IsAnswered (answer_at (reception_of core) (shown core)) (step (shown core)) event (plan_answer plan)
      (state_from plan.step.value.next (metadata_after core.metadata plan.step.value.change) (received_after core.file plan.step.value.change))
  pub fits : FitsFile core.file plan.step.value.change
  pub room : HasRoom core.file plan.step.value.change
  pub sound : core.control.ended ≡ false → IsSound plan.step.value.next

-- a PDU opened the reception with this key, which is new, and the PDU is planned as its first event
pub record IsOpenedBy (key : TxnKey) (params : ParamsParts) (pdu : PduValue) (core : ReceiverCore) (plan : Plan) : Type 0 where
  pub reception : reception_of core ≡ reception_by key params pdu.header
  pub stands : StandsAfter core []
  pub runs : (shown core).ended ≡ false
  pub planned : IsPlanOf core plan (what.Pdu pdu)
