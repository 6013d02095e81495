-- What the operations of a step do to each timer.
use Rattle.std.proofs.Common.{◌≡◌, ℕ, true, false, List, [], ◌∷◌, ◌++◌, Option, Some, None, if◌then◌else◌, refl, ap, ◌∙◌}
use Rattle.cfdp_types.specs.declared.key.TxnKey.{TxnKey}
use Rattle.cfdp_types.specs.declared.names.TimerKind.{TimerKind}
use Rattle.cfdp_types.specs.declared.names.TimerKind.TheVariants.{Ack, Nak, Check, Inactivity}
use Rattle.cfdp_types.specs.declared.timer_op.TimerOp.{TimerOp}
use Rattle.cfdp_types.specs.declared.timer_op.TimerOp.TheVariants as op
use Rattle.cfdp_types.specs.Steps.{Effect, arms, keeps, stops, is_kind, operation, operations, armed_after, older_or, newer_or}

-- the place that armed a timer, after what a step at a place does with it
abbrev pub armed_by : ℕ → Effect → Option ℕ → Option ℕ
armed_by place arms before = Some place
armed_by place keeps before = before
armed_by place stops before = None

-- operations one after the other
pub armed_after-append : (place : ℕ) (now : Option ℕ) (xs ys : List TimerOp) (kind : TimerKind)
    → armed_after place now (xs ++ ys) kind ≡ armed_after place (armed_after place now xs kind) ys kind
armed_after-append place now [] ys kind = refl
armed_after-append place now (op.Arm key armed stamp ms ∷ xs) ys kind =
    armed_after-append place (if is_kind armed kind then Some place else now) xs ys kind
armed_after-append place now (op.Disarm key disarmed stamp ∷ xs) ys kind =
    armed_after-append place (if is_kind disarmed kind then None else now) xs ys kind

-- an operation on another timer changes nothing
other_timer : (key : TxnKey) (milliseconds : TimerKind → ℕ) (place : ℕ) (kind : TimerKind) (effect : Effect) (before : Option ℕ)
    (other : TimerKind) (now : Option ℕ) → is_kind kind other ≡ false
    → armed_after place now (operation key milliseconds place kind effect before) other ≡ now
other_timer key milliseconds place kind arms before other now differs = rw differs refl
other_timer key milliseconds place kind keeps before other now differs = refl
other_timer key milliseconds place kind stops None other now differs = refl
other_timer key milliseconds place kind stops (Some stamp) other now differs = rw differs refl

-- the operation on this one does what the step does with it
own_timer : (key : TxnKey) (milliseconds : TimerKind → ℕ) (place : ℕ) (kind : TimerKind) (effect : Effect) (before : Option ℕ)
    → is_kind kind kind ≡ true → armed_after place before (operation key milliseconds place kind effect before) kind ≡ armed_by place effect before
own_timer key milliseconds place kind arms before same = rw same refl
own_timer key milliseconds place kind keeps before same = refl
own_timer key milliseconds place kind stops None same = refl
own_timer key milliseconds place kind stops (Some stamp) same = rw same refl

-- the four kinds in turn
in_turn : (place : ℕ) (now : Option ℕ) (ack nak check inactivity : List TimerOp) (kind : TimerKind) (x : Option ℕ) → armed_after place now ack kind ≡ x
    → (y : Option ℕ) → armed_after place x nak kind ≡ y → (z : Option ℕ) → armed_after place y check kind ≡ z
    → armed_after place now (ack ++ nak ++ check ++ inactivity) kind ≡ armed_after place z inactivity kind
in_turn place now ack nak check inactivity kind x first y second z third =
    armed_after-append place now (ack ++ nak ++ check) inactivity kind
    ∙ ap (λ o. armed_after place o inactivity kind) (
    armed_after-append place now (ack ++ nak) check kind
    ∙ ap (λ o. armed_after place o check kind) (armed_after-append place now ack nak kind ∙ ap (λ o. armed_after place o nak kind) first ∙ second)
    ∙ third)

-- after a step each timer is as the step leaves it
pub armed_after-operations : (key : TxnKey) (milliseconds : TimerKind → ℕ) (place : ℕ) (effect : TimerKind → Effect) (before : TimerKind → Option ℕ) (kind : TimerKind)
    → armed_after place (before kind) (operations key milliseconds place effect before) kind ≡ armed_by place (effect kind) (before kind)
armed_after-operations key ms place effect before Ack =
    let of : TimerKind → List TimerOp = λ kind. operation key ms place kind (effect kind) (before kind) in
    let after : Option ℕ = armed_by place (effect Ack) (before Ack) in
    in_turn place (before Ack) (of Ack) (of Nak) (of Check) (of Inactivity) Ack
    after (own_timer key ms place Ack (effect Ack) (before Ack) refl)
    after (other_timer key ms place Nak (effect Nak) (before Nak) Ack after refl)
    after (other_timer key ms place Check (effect Check) (before Check) Ack after refl)
    ∙ other_timer key ms place Inactivity (effect Inactivity) (before Inactivity) Ack after refl
armed_after-operations key ms place effect before Nak =
    let of : TimerKind → List TimerOp = λ kind. operation key ms place kind (effect kind) (before kind) in
    let after : Option ℕ = armed_by place (effect Nak) (before Nak) in
    in_turn place (before Nak) (of Ack) (of Nak) (of Check) (of Inactivity) Nak
    (before Nak) (other_timer key ms place Ack (effect Ack) (before Ack) Nak (before Nak) refl)
    after (own_timer key ms place Nak (effect Nak) (before Nak) refl)
    after (other_timer key ms place Check (effect Check) (before Check) Nak after refl)
    ∙ other_timer key ms place Inactivity (effect Inactivity) (before Inactivity) Nak after refl
armed_after-operations key ms place effect before Check =
    let of : TimerKind → List TimerOp = λ kind. operation key ms place kind (effect kind) (before kind) in
    let after : Option ℕ = armed_by place (effect Check) (before Check) in
    in_turn place (before Check) (of Ack) (of Nak) (of Check) (of Inactivity) Check
    (before Check) (other_timer key ms place Ack (effect Ack) (before Ack) Check (before Check) refl)
    (before Check) (other_timer key ms place Nak (effect Nak) (before Nak) Check (before Check) refl)
    after (own_timer key ms place Check (effect Check) (before Check) refl)
    ∙ other_timer key ms place Inactivity (effect Inactivity) (before Inactivity) Check after refl
armed_after-operations key ms place effect before Inactivity =
    let of : TimerKind → List TimerOp = λ kind. operation key ms place kind (effect kind) (before kind) in
    in_turn place (before Inactivity) (of Ack) (of Nak) (of Check) (of Inactivity) Inactivity
    (before Inactivity) (other_timer key ms place Ack (effect Ack) (before Ack) Inactivity (before Inactivity) refl)
    (before Inactivity) (other_timer key ms place Nak (effect Nak) (before Nak) Inactivity (before Inactivity) refl)
    (before Inactivity) (other_timer key ms place Check (effect Check) (before Check) Inactivity (before Inactivity) refl)
    ∙ own_timer key ms place Inactivity (effect Inactivity) (before Inactivity) refl

-- nothing newer, and nothing older
pub older_or-none : {A : Type 0} (old : Option A) → older_or old None ≡ old
older_or-none None = refl
older_or-none (Some x) = refl

pub newer_or-none : {A : Type 0} (new : Option A) → newer_or new None ≡ new
newer_or-none None = refl
newer_or-none (Some x) = refl
