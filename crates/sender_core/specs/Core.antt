-- Of the code. How the code keeps a sender, and what its plans are.
use Rattle.std.specs.Prelude.{◌≡◌, ℕ, ◌+◌, max, nat_lt, not, ◌&&◌, ◌||◌, Bool, false, List, [], ◌∷◌, length, map, Option, None}
use Rattle.std.specs.Option.{option_to_list}
use Rattle.cfdp_types.specs.declared.key.TxnKey.{TxnKey}
use Rattle.cfdp_types.specs.declared.names.TimerKind.TheVariants.{Ack}
use Rattle.cfdp_types.specs.declared.names.TimerKind.{TimerKind}
use Rattle.cfdp_types.specs.Steps.{newer_or, Effect, operations}
use Rattle.cfdp_types.specs.Params.{timer_length}
use Rattle.cfdp_types.specs.declared.params.ParamsParts.{ParamsParts}
use Rattle.indications.specs.Words.{paused_after}
use Rattle.indications.specs.Words.{is_end}
use Rattle.std.specs.List.{list_any}
use Rattle.txn_events.specs.declared.event.What.{What}
use Rattle.txn_events.specs.Timers.{tries_of, stamp_of, stamp_by}
use Rattle.sender_core.specs.declared.control.ControlBlock.{ControlBlock}
use Rattle.cfdp_types.specs.Put.{PutValue}
use Rattle.gap_list.specs.Runs.{without_range}
use Rattle.pdu_values.specs.Pdu.{PduValue}
use Rattle.sender_table.specs.Sending.{Sending, Event, happens, State, Entry, state_of, step, is_metadata, asks_for_metadata, requests_of, extent_of, eof_among, acknowledges_eof, tries_after, covers, asks_for}
use Rattle.sender_table.specs.Answers.{answer_at, header_of}
use Rattle.sender_table.specs.Answers as table
use Rattle.sender_core.specs.Remaining.{to_send}
use Rattle.sender_core.specs.declared.remaining.Remaining.{Remaining}
use Rattle.sender_core.specs.ControlBlock.{state_from, nowhere, IsSound, IsInside}
use Rattle.txn_events.specs.declared.answer.Answer.{Answer}
pub use Rattle.txn_events.specs.Logs.{IsWhy}
use Rattle.txn_events.specs.Logs.{StandsAt, IsAnswered}
use Rattle.sender_core.specs.declared.plan.Remainder.{Remainder}
use Rattle.sender_core.specs.declared.plan.Remainder.TheVariants as remainder
use Rattle.sender_core.specs.declared.plan.Plan.{Plan}
use Rattle.sender_core.specs.declared.response.Response as response_type
use Rattle.sender_core.specs.declared.sender.SenderCore.{SenderCore}

-- the sending that a Put opens
abbrev pub sending_by : TxnKey → ParamsParts → PutValue → Sending
sending_by key params request = record { key = key; params = params; request = request }

abbrev pub sending_of : SenderCore → Sending
sending_of core = sending_by core.key core.params core.request

-- the state that a core shows
abbrev pub shown : SenderCore → State
shown core = state_from core.control (to_send core.remaining)

-- the core shows the state after this log
abbrev pub StandsAfter : SenderCore → List Entry → Type 0
StandsAfter core log = StandsAt (state_of (sending_of core)) (shown core) log

-- the answer of a plan
abbrev pub plan_answer : Plan → Answer
plan_answer plan = plan.answer

-- the offsets that remain to be sent after a plan
abbrev pub remainder_of : Remaining → Remainder → ℕ → Bool
remainder_of remaining remainder.Same = to_send remaining
remainder_of remaining (remainder.SentTo end) = without_range (to_send remaining) 0 end
remainder_of remaining (remainder.Requested requested) = to_send requested

-- the PDUs of a response of the state table
abbrev pub pdus_of_response : Sending → table.Response → List PduValue
pdus_of_response sending response = map (λ b. record { header = header_of sending; body = b }) response.bodies

-- the code's response is the table's
pub record IsResponse (sending : Sending) (response : response_type.Response) (wanted : table.Response) : Type 0 where
  pub inds : response.inds ≡ wanted.inds
  pub pdus : option_to_list response.pdu ≡ pdus_of_response sending wanted
  pub arms : option_to_list response.arms ≡ wanted.arms

-- the last EOF is sent again
abbrev pub eof_again : State → table.Response
eof_again state = record { inds = []; bodies = table.last_eof state.eof; arms = Ack ∷ [] }

-- whether an offset remains to be sent after an event
abbrev pub remains_after : Sending → State → What → ℕ → Bool
remains_after sending state event i =
    (state.remains i && not (list_any (covers i) (pdus_of_response sending (table.response_to sending state state (happens event)))))
    || (nat_lt i (length sending.request.file) && list_any (asks_for i) (requests_of (happens event)))

-- the entry of an event and its response, without the timers
abbrev pub entry_without_timers : What → response_type.Response → Entry
entry_without_timers event response = record {
  event = happens event;
  answer = record { inds = response.inds; pdus = option_to_list response.pdu; timers = []; deposit = None };
}

-- a response of which only the timer to arm is known
abbrev pub arming : Option TimerKind → table.Response
arming arms = record { inds = []; bodies = []; arms = option_to_list arms }

-- `next` is the control block after an event and its response, but for the timers that run
pub record IsNext (control : ControlBlock) (event : What) (response : response_type.Response) (next : ControlBlock) : Type 0 where
  pub entries : next.entries ≡ control.entries + 1
  pub metadata : next.metadata_remains
      ≡ ((control.metadata_remains && not (list_any is_metadata (option_to_list response.pdu))) || list_any asks_for_metadata (requests_of (happens event)))
  pub progress : next.progress ≡ max control.progress (extent_of (option_to_list response.pdu))
  pub eof : next.eof ≡ newer_or (eof_among (option_to_list response.pdu)) control.eof
  pub acknowledged : next.acknowledged ≡ (control.acknowledged || acknowledges_eof (happens event))
  pub paused : next.paused ≡ paused_after control.paused response.inds
  pub ended : next.ended ≡ (control.ended || list_any is_end response.inds)
  pub tries : (kind : TimerKind) → tries_of next.tries kind ≡ tries_after (state_from control nowhere) (entry_without_timers event response) kind

-- what a step does to a timer, where `next` is the control block after it
abbrev pub effect_by : ControlBlock → What → response_type.Response → TimerKind → Effect
effect_by next event response kind = table.effect_of (arming response.arms) (state_from next nowhere) (happens event) kind

-- the plan is made from the response, and from what remains to be sent
pub record HoldsResponse (core : SenderCore) (event : What) (response : response_type.Response) (remainder : Remainder) (plan : Plan) : Type 0 where
  pub inds : plan.answer.inds ≡ response.inds
  pub pdus : plan.answer.pdus ≡ option_to_list response.pdu
  pub timers : plan.answer.timers
      ≡ operations core.key (timer_length core.params.timers) core.control.entries (effect_by plan.next event response) (stamp_of core.control.armed)
  pub remainder_is : plan.remainder ≡ remainder
  pub nothing : plan.answer.deposit ≡ None
  pub next : IsNext core.control event response plan.next
  pub armed : (kind : TimerKind) → stamp_of plan.next.armed kind ≡ stamp_by core.control.entries (effect_by plan.next event response kind) (stamp_of core.control.armed kind)

-- in the core's present state the event gets the plan's answer, no deposit is made, and the plan holds the state
-- that follows
pub record IsPlanOf (core : SenderCore) (plan : Plan) (event : Event) : Type 0 where
  pub answered : IsAnswered (answer_at (sending_of core) (shown core)) (step (sending_of core) (shown core)) event (plan_answer plan)
      (state_from plan.next (remainder_of core.remaining plan.remainder))
  pub nothing : plan.answer.deposit ≡ None
  pub inside : IsInside (length core.request.file) (remainder_of core.remaining plan.remainder)
  pub sound : core.control.ended ≡ false → IsSound (length core.request.file) plan.next
