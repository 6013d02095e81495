-- Meaning. Timers that expire while the link to their remote entity is held, and what becomes of them.
use Rattle.std.specs.Prelude.{ℕ, ◌==◌, max, List, Option, position}
use Rattle.std.specs.Option.{option_map}
use Rattle.cfdp_types.specs.declared.key.TxnKey.{TxnKey}
use Rattle.cfdp_types.specs.declared.names.TimerKind.{TimerKind}
use Rattle.cfdp_types.specs.declared.names.TimerKind.TheVariants as timer_kind
use Rattle.cfdp_types.specs.declared.timer_op.TimerOp.{TimerOp}
use Rattle.cfdp_types.specs.declared.timer_op.TimerOp.TheVariants as op
use Rattle.timer_list.specs.declared.armed.Armed.{Armed}
use Rattle.timer_list.specs.Timers.{is_for, moment_after}
use Rattle.program_agenda.specs.declared.resting.Resting.{Resting}
use Rattle.program_agenda.specs.Places.{at_place, without_place}

-- the place of the resting timer of a transaction and kind
abbrev pub resting_place : TxnKey → TimerKind → List Resting → Option ℕ
resting_place key kind resting = position (λ one. is_for key kind one.timer) resting

-- the list without the timer that an operation arms anew or disarms
abbrev pub superseded : TimerOp → List Resting → List Resting
superseded (op.Arm key kind stamp ms) resting = without_place (resting_place key kind resting) resting
superseded (op.Disarm key kind stamp) resting = without_place (resting_place key kind resting) resting

-- the place of the first resting timer of a link
abbrev pub link_place : ℕ → List Resting → Option ℕ
link_place remote resting = position (λ one. one.remote == remote) resting

-- that timer, and the list without it
abbrev pub next_resting : ℕ → List Resting → Option Armed
next_resting remote resting = option_map (λ one. one.timer) (at_place (link_place remote resting) resting)

abbrev pub without_next : ℕ → List Resting → List Resting
without_next remote resting = without_place (link_place remote resting) resting

-- a timer's deadline after a release: silence counts anew from the release, and every other timer keeps its deadline
abbrev pub deadline_by : TimerKind → ℕ → ℕ → ℕ → ℕ
deadline_by timer_kind.Inactivity deadline released silence = max deadline (moment_after released silence)
deadline_by kind deadline released silence = deadline

abbrev pub deadline_behind : Armed → ℕ → ℕ → ℕ
deadline_behind timer released silence = deadline_by timer.kind timer.deadline released silence
