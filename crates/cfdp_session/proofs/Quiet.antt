-- Where no timer has expired, looking for one changes none of those that run.
use Rattle.std.specs.Prelude.{◌≡◌, ℕ, List, length, drop, Some, None}
use Rattle.std.proofs.Common.{sym, subst}
use Rattle.std.proofs.Math.Seq.{drop-length}
use Rattle.cfdp_types.specs.declared.timer_op.TimerOp.{TimerOp}
use Rattle.timer_list.proofs.ListLemmas.{without_due-none}
use Rattle.timer_list.specs.Timers.{first_due, without_due}
use Rattle.cfdp_session.specs.declared.kept.KeptTimers.{KeptTimers}
use Rattle.cfdp_session.specs.Running.{after_all, running, settled}

pub quiet : (ops : List TimerOp) (now : ℕ) (old new : KeptTimers) → first_due now (running ops old) ≡ None
    → new ≡ record (settled ops old) { list = without_due now (running ops old); clock = Some now } → running ops new ≡ running ops old
quiet ops now old new none is =
    let left = without_due now (running ops old) in
    let all_done : after_all (drop (length ops) ops) now left ≡ running ops old =
    subst (λ (ops_left : List TimerOp). after_all ops_left now left ≡ running ops old) (sym (drop-length ops)) (without_due-none now (running ops old) none) in
    subst (λ (kept : KeptTimers). running ops kept ≡ running ops old) (sym is) all_done
