-- Meaning. What a step does with the timers of its transaction, at both ends.
use Rattle.std.specs.Prelude.{ℕ, Bool, false, ◌==◌, if◌then◌else◌, List, [], ◌∷◌, ◌++◌, Option, Some, None}
use Rattle.std.specs.List.{list_any}
use Rattle.cfdp_types.specs.declared.key.TxnKey.{TxnKey}
use Rattle.cfdp_types.specs.declared.names.TimerKind.{TimerKind}
use Rattle.cfdp_types.specs.declared.names.TimerKind.TheVariants.{Ack, Nak, Check, Inactivity}
use Rattle.cfdp_types.specs.declared.timer_op.TimerOp.{TimerOp}
use Rattle.cfdp_types.specs.declared.timer_op.TimerOp.TheVariants as op

-- the number of a kind, 0 to 3
abbrev pub kind_number : TimerKind → ℕ
kind_number Ack = 0
kind_number Nak = 1
kind_number Check = 2
kind_number Inactivity = 3

-- whether two kinds are the same
abbrev pub is_kind : TimerKind → TimerKind → Bool
is_kind kind other = kind_number kind == kind_number other

-- what a step does with a timer
pub data Effect : Type 0 where
  arms : Effect
  keeps : Effect
  stops : Effect

-- the operation for the effect, stamped with the number of the step; none for a timer that keeps running
-- or was not running
abbrev pub operation : TxnKey → (TimerKind → ℕ) → ℕ → TimerKind → Effect → Option ℕ → List TimerOp
operation key milliseconds place kind arms before = op.Arm key kind place (milliseconds kind) ∷ []
operation key milliseconds place kind keeps before = []
operation key milliseconds place kind stops None = []
operation key milliseconds place kind stops (Some stamp) = op.Disarm key kind place ∷ []

-- the operations of a step, kind by kind
abbrev pub operations : TxnKey → (TimerKind → ℕ) → ℕ → (TimerKind → Effect) → (TimerKind → Option ℕ) → List TimerOp
operations key milliseconds place effect before =
    operation key milliseconds place Ack (effect Ack) (before Ack)
    ++ operation key milliseconds place Nak (effect Nak) (before Nak)
    ++ operation key milliseconds place Check (effect Check) (before Check)
    ++ operation key milliseconds place Inactivity (effect Inactivity) (before Inactivity)

-- the number of the step that last armed the timer of this kind, None where it was disarmed since
abbrev pub armed_after : ℕ → Option ℕ → List TimerOp → TimerKind → Option ℕ
armed_after place before [] kind = before
armed_after place before (op.Arm key armed stamp ms ∷ later) kind =
    armed_after place (if is_kind armed kind then Some place else before) later kind
armed_after place before (op.Disarm key disarmed stamp ∷ later) kind =
    armed_after place (if is_kind disarmed kind then None else before) later kind

-- ---- used by the logs of both ends

-- the old value, where there is one
abbrev pub older_or : {A : Type 0} → Option A → Option A → Option A
older_or None newer = newer
older_or (Some old) newer = Some old

-- the new value, where there is one
abbrev pub newer_or : {A : Type 0} → Option A → Option A → Option A
newer_or None older = older
newer_or (Some new) older = Some new

-- whether the stamp is the one that is kept
abbrev pub is_stamp : Option ℕ → ℕ → Bool
is_stamp None stamp = false
is_stamp (Some kept) stamp = kept == stamp

-- whether the kind is in the list
abbrev pub has_kind : List TimerKind → TimerKind → Bool
has_kind kinds kind = list_any (is_kind kind) kinds
