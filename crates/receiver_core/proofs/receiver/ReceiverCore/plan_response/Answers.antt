use Rattle.std.proofs.Common.{◌≡◌, Bool, List, ap, refl, ◌∙◌}
use Rattle.std.specs.Prelude.{map}
use Rattle.std.proofs.Math.Path.{fun_ext}
use Rattle.cfdp_types.specs.Params.{timer_length}
use Rattle.cfdp_types.specs.Steps.{operations}
use Rattle.txn_events.specs.Timers.{stamp_of, stamp_by}
use Rattle.pdu_values.specs.Pdu.{PduValue}
use Rattle.receiver_table.specs.Answers.{bodies_of, pdu_to_sender}
use Rattle.receiver_parts.specs.Response.{response_value}
use Rattle.receiver_parts.specs.declared.control.ControlBlock.{ControlBlock}
use Rattle.receiver_parts.specs.declared.file_change.FileChange.{FileChange}
use Rattle.receiver_core.specs.Core.{reception_of, now_state}
use Rattle.receiver_core.specs.declared.plan.Step.{Step}
use Rattle.receiver_core.proofs.receiver.ReceiverCore.plan_response.Goals as goal

pub returns : goal.returns
returns c =
    let core = c.args.self.now in
    let next = rw (c.deref_mut.ensures.value, c.deposit_of-deposit.ensures, c.adds-more.ensures, c.deref-3.ensures) at c.settle.ensures in
    let made : ControlBlock → FileChange → Bool → List PduValue =
    λ now change ended. map (pdu_to_sender (reception_of core)) (bodies_of (now_state core now change) ended (response_value c.args.response)) in
    let changes = rw (c.deref-4.ensures, c.deref_mut.ensures.writes_back) at c.changes-changes.ensures in
    rw (c.deref_mut-2.ensures.writes_back, c.deref_mut-2.ensures.value, c.deref_mut.ensures.writes_back, c.deref_mut.ensures.value)
    (record {
      inds = refl;
      pdus = c.in_ok-pdus.ensures
          ∙ ap (λ (s : Step). made s.next c.deref-2.result.now.change c.has_end-ended.result) c.deref.ensures
          ∙ ap (λ (s : Step). made c.args.step.value.next s.change c.has_end-ended.result) c.deref-2.ensures
          ∙ ap (λ (b : Bool). made c.args.step.value.next c.args.step.value.change b) c.has_end-ended.ensures;
      timers = rw c.new-context.ensures at c.in_ok-timers.ensures
          ∙ ap (λ e. operations core.key (timer_length core.params.timers) core.control.entries e (stamp_of core.control.armed)) (fun_ext changes);
      deposit = c.deposit_of-deposit.ensures;
      change_is = refl;
      next = record {
        entries = next.entries;
        progress = next.progress;
        closure = next.closure;
        eof = next.eof;
        waiting = next.waiting;
        finished = next.finished;
        paused = next.paused;
        ended = next.ended;
        tries = next.tries;
      };
      armed = λ kind. c.after.ensures kind ∙ ap (λ e. stamp_by core.control.entries e (stamp_of core.control.armed kind)) (changes kind);
    })
