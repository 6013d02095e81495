-- What is left of a list of operations, one operation on and at the end.
use Rattle.std.specs.Prelude.{◌≡◌, ℕ, ◌+◌, ◌<◌, ◌≤◌, List, ◌∷◌, [], length, drop, get_or}
use Rattle.std.proofs.Common.{ap}
use Rattle.std.proofs.lemmas.List.{at_drop_more, at_drop_all}
use Rattle.cfdp_types.specs.declared.timer_op.TimerOp.{TimerOp}
use Rattle.timer_list.specs.declared.armed.Armed.{Armed}
use Rattle.timer_list.specs.Timers.{after}
use Rattle.cfdp_session.specs.Running.{after_all}

pub carry_one : (ops : List TimerOp) (place now : ℕ) (list : List Armed) (any : TimerOp) → place < length ops
    → after_all (drop place ops) now list ≡ after_all (drop (place + 1) ops) now (after (get_or ops place any) now list)
carry_one ops place now list any within = at_drop_more (λ left. after_all left now list) ops place any within

pub carried_all : (ops : List TimerOp) (place now : ℕ) (list : List Armed) → length ops ≤ place
    → after_all (drop place ops) now list ≡ list
carried_all ops place now list past = at_drop_all (λ left. after_all left now list) ops place past
