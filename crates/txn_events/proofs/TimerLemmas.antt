-- The timers that run after a step, and the counts of their expirations.
use Rattle.std.proofs.Common.{◌≡◌, ℕ, ◌+◌, ◌≤◌, Bool, true, false, if◌then◌else◌, List, Option, refl, sym, ap, ◌∙◌, arith}
use Rattle.cfdp_types.specs.Steps.{Effect, arms, keeps, stops, armed_after, operations}
use Rattle.cfdp_types.proofs.StepLemmas.{armed_by, armed_after-operations}
use Rattle.cfdp_types.specs.declared.key.TxnKey.{TxnKey}
use Rattle.cfdp_types.specs.declared.names.TimerKind.{TimerKind}
use Rattle.cfdp_types.specs.declared.timer_op.TimerOp.{TimerOp}
use Rattle.txn_events.specs.Timers.{stamp_by}

stamp_is : (entries : ℕ) (effect : Effect) (before : Option ℕ) → stamp_by entries effect before ≡ armed_by entries effect before
stamp_is entries arms before = refl
stamp_is entries keeps before = refl
stamp_is entries stops before = refl

-- stamps that a step's effects give are those that its operations leave
pub armed_follows : (key : TxnKey) (lengths : TimerKind → ℕ) (entries : ℕ) (effect : TimerKind → Effect) (before after : TimerKind → Option ℕ) (timers : List TimerOp)
    → ((kind : TimerKind) → after kind ≡ stamp_by entries (effect kind) (before kind)) → timers ≡ operations key lengths entries effect before
    → (kind : TimerKind) → after kind ≡ armed_after entries (before kind) timers kind
armed_follows key lengths entries effect before after timers stamps ops kind =
    stamps kind ∙ stamp_is entries (effect kind) (before kind)
    ∙ sym (armed_after-operations key lengths entries effect before kind)
    ∙ ap (λ t. armed_after entries (before kind) t kind) (sym ops)

-- a count goes up by at most one
pub counted : (again expired : Bool) (tries entries : ℕ) → tries ≤ entries → (if again then 0 else if expired then tries + 1 else tries) ≤ entries + 1
counted true expired tries entries le = omega arith
counted false true tries entries le = omega (arith, le)
counted false false tries entries le = omega (arith, le)
