-- Meaning. Which timers run, while some of the last event's operations are still to be done.
use Rattle.std.specs.Prelude.{◌≡◌, ℕ, Bool, List, [], ◌∷◌, length, drop, Option, Some, None}
use Rattle.cfdp_types.specs.declared.timer_op.TimerOp.{TimerOp}
use Rattle.cfdp_types.specs.declared.timer_op.TimerOp.TheVariants as op
use Rattle.timer_list.specs.declared.armed.Armed.{Armed}
use Rattle.timer_list.specs.Slots.{none_before}
use Rattle.timer_list.specs.Timers as timers
use Rattle.cfdp_session.specs.declared.kept.KeptTimers.{KeptTimers}

-- no timers, and a caller that has not told the time
abbrev pub begun : KeptTimers
begun = record { list = []; held = None; clock = None; carried = 0 }

-- the list after operations at a time, one after the other
abbrev pub after_all : List TimerOp → ℕ → List Armed → List Armed
after_all [] now list = list
after_all (first ∷ rest) now list = after_all rest now (timers.after first now list)

-- the operation that arms a timer once more
abbrev pub again : Armed → TimerOp
again timer = op.Arm timer.key timer.kind timer.stamp 0

-- the list with a timer that goes back to it, with the deadline that it had
abbrev pub with_back : Armed → List Armed → List Armed
with_back timer list = timers.after (again timer) timer.deadline list

abbrev pub with_held : Option Armed → List Armed → List Armed
with_held None list = list
with_held (Some timer) list = with_back timer list

-- the list with the timer that is held
abbrev pub waiting : KeptTimers → List Armed
waiting kept = with_held kept.held kept.list

-- the list once the operations that are left are done at a time
abbrev pub ended_in : List TimerOp → ℕ → KeptTimers → List Armed
ended_in ops now kept = after_all (drop kept.carried ops) now (waiting kept)

-- a caller that keeps timers itself leaves all operations undone
abbrev pub running_at : Option ℕ → List TimerOp → KeptTimers → List Armed
running_at None ops kept = waiting kept
running_at (Some now) ops kept = ended_in ops now kept

-- the timers that run, if these are the last event's operations
abbrev pub running : List TimerOp → KeptTimers → List Armed
running ops kept = running_at kept.clock ops kept

-- all operations are done
abbrev pub settled : List TimerOp → KeptTimers → KeptTimers
settled ops kept = record kept { list = running ops kept; held = None; carried = length ops }

-- the caller keeps timers itself, and nothing is held
pub record IsIdle (kept : KeptTimers) : Type 0 where
  pub clock : kept.clock ≡ None
  pub held : kept.held ≡ None

-- no timer expires before this time; before any, if there is none
abbrev pub is_before : Option ℕ → List Armed → Bool
is_before None list = none_before 18446744073709551615 list
is_before (Some moment) list = none_before moment list
