-- Meaning. A list of running timers, and how each operation changes it.
use Rattle.std.specs.Prelude.{ℕ, ◌+◌, Bool, ◌&&◌, ◌==◌, nat_lt, nat_le, min, if◌then◌else◌, List, [], ◌∷◌, Option, find, false, not}
use Rattle.std.specs.List.{list_any}
use Rattle.cfdp_types.specs.declared.key.TxnKey.{TxnKey}
use Rattle.cfdp_types.specs.declared.names.TimerKind.{TimerKind}
use Rattle.cfdp_types.specs.declared.timer_op.TimerOp.{TimerOp}
use Rattle.cfdp_types.specs.declared.timer_op.TimerOp.TheVariants as op
use Rattle.cfdp_types.specs.Steps.{is_kind}
use Rattle.timer_list.specs.declared.armed.Armed.{Armed}

-- whether two keys are of the same transaction
abbrev pub is_key : TxnKey → TxnKey → Bool
is_key key other = (key.source.0 == other.source.0) && (key.seq == other.seq)

-- whether the entry is for this transaction and kind
abbrev pub is_for : TxnKey → TimerKind → Armed → Bool
is_for key kind timer = is_key key timer.key && is_kind kind timer.kind

-- the time this many milliseconds from now, but at most the greatest 64-bit number
abbrev pub moment_after : ℕ → ℕ → ℕ
moment_after now ms = min (now + ms) 18446744073709551615

-- the entry for the same transaction and kind is replaced, unless a later step armed it; a new entry goes to the end
abbrev pub armed_with : Armed → List Armed → List Armed
armed_with timer [] = timer ∷ []
armed_with timer (old ∷ rest) =
    if is_for timer.key timer.kind old
    then (if nat_lt timer.stamp old.stamp then old else timer) ∷ rest
    else old ∷ armed_with timer rest

-- the entry is removed, unless a later step armed it
abbrev pub disarmed_of : TxnKey → TimerKind → ℕ → List Armed → List Armed
disarmed_of key kind stamp [] = []
disarmed_of key kind stamp (old ∷ rest) =
    if is_for key kind old
    then (if nat_lt stamp old.stamp then old ∷ rest else rest)
    else old ∷ disarmed_of key kind stamp rest

-- the list after an operation at a time
abbrev pub after : TimerOp → ℕ → List Armed → List Armed
after (op.Arm key kind stamp ms) now timers =
    armed_with (record { key = key; kind = kind; stamp = stamp; deadline = moment_after now ms }) timers
after (op.Disarm key kind stamp) now timers = disarmed_of key kind stamp timers

-- whether the entry has expired at a time
abbrev pub is_due : ℕ → Armed → Bool
is_due now timer = nat_le timer.deadline now

-- the first entry that has expired
abbrev pub first_due : ℕ → List Armed → Option Armed
first_due now timers = find (is_due now) timers

-- the list without that entry
abbrev pub without_due : ℕ → List Armed → List Armed
without_due now [] = []
without_due now (timer ∷ rest) = if is_due now timer then rest else timer ∷ without_due now rest

-- whether there is an entry for this transaction and kind
abbrev pub has_timer : TxnKey → TimerKind → List Armed → Bool
has_timer key kind timers = list_any (is_for key kind) timers

-- whether the operation arms a timer that has no entry
abbrev pub arms_new : TimerOp → List Armed → Bool
arms_new (op.Arm key kind stamp ms) timers = not (has_timer key kind timers)
arms_new (op.Disarm key kind stamp) timers = false
