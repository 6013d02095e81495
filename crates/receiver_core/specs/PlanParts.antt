-- Of the code. A plan that is made from a response.
use Rattle.std.specs.Prelude.{◌≡◌, if◌then◌else◌, map, Option, Some, None}
use Rattle.std.specs.List.{list_any}
use Rattle.cfdp_types.specs.Params.{timer_length}
use Rattle.cfdp_types.specs.Steps.{Effect, operations}
use Rattle.cfdp_types.specs.declared.key.Deposit.{Deposit}
use Rattle.cfdp_types.specs.declared.names.TimerKind.{TimerKind}
use Rattle.txn_events.specs.Timers.{stamp_of, stamp_by}
use Rattle.indications.specs.Words.{is_end}
use Rattle.txn_events.specs.declared.event.What.{What}
use Rattle.receiver_table.specs.Answers.{effect_of, bodies_of, pdu_to_sender}
use Rattle.receiver_parts.specs.ControlBlock.{bare}
use Rattle.receiver_parts.specs.Steps.{IsNext}
use Rattle.receiver_parts.specs.Response.{response_value}
use Rattle.receiver_parts.specs.FileChange.{adds}
use Rattle.receiver_core.specs.Core.{reception_of, now_state}
use Rattle.receiver_parts.specs.declared.file_change.FileChange.{FileChange}
use Rattle.receiver_core.specs.declared.plan.Plan.{Plan}
use Rattle.receiver_core.specs.declared.receiver.ReceiverCore.{ReceiverCore}
use Rattle.receiver_parts.specs.declared.response.Response as response_type
use Rattle.receiver_parts.specs.declared.control.ControlBlock.{ControlBlock}

-- what a step does to a timer, where `next` is the control block after it
abbrev pub effect_by : ControlBlock → What → response_type.Response → TimerKind → Effect
effect_by next event response kind = effect_of (response_value response) (bare next) event kind

-- the deposit of a response
abbrev pub deposit_of : ReceiverCore → response_type.Response → Option Deposit
deposit_of core response = if response.deposit then Some (record { key = core.key; stamp = core.control.entries }) else None

-- the plan is made from the response and from the change that the event brings
pub record HoldsResponse (core : ReceiverCore) (event : What) (now : ControlBlock) (response : response_type.Response) (c : FileChange) (plan : Plan) : Type 0 where
  pub inds : plan.answer.inds ≡ response.inds
  pub pdus : plan.answer.pdus
      ≡ map (pdu_to_sender (reception_of core)) (bodies_of (now_state core now c) (list_any is_end response.inds) (response_value response))
  pub timers : plan.answer.timers
      ≡ operations core.key (timer_length core.params.timers) core.control.entries (effect_by plan.step.value.next event response) (stamp_of core.control.armed)
  pub deposit : plan.answer.deposit ≡ deposit_of core response
  pub change_is : plan.step.value.change ≡ c
  pub next : IsNext core.control now event response (deposit_of core response) (adds c) plan.step.value.next
  pub armed : (kind : TimerKind) → stamp_of plan.step.value.next.armed kind ≡ stamp_by core.control.entries (effect_by plan.step.value.next event response kind) (stamp_of core.control.armed kind)
