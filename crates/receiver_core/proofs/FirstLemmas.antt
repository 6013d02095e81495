-- A reception that is opened stands before its first event, which is taken unless it is too large.
use Rattle.std.proofs.lemmas.Bool.{false≢true}
use Rattle.std.proofs.Common.{◌≡◌, ℕ, true, false, if◌then◌else◌, Option, Some, None, refl, ap, ◌∙◌}
use Rattle.std.specs.Prelude.{IsOk, Err}
use Rattle.cfdp_types.specs.declared.params.ParamsParts.{ParamsParts}
use Rattle.cfdp_types.specs.declared.key.TxnKey.{TxnKey}
use Rattle.cfdp_types.specs.declared.names.Class.{Class}
use Rattle.cfdp_types.specs.declared.names.Class.TheVariants.{One, Two}
use Rattle.cfdp_types.specs.declared.names.TimerKind.{TimerKind}
use Rattle.cfdp_types.specs.declared.names.TimerKind.TheVariants.{Ack, Nak, Check, Inactivity}
use Rattle.txn_events.specs.Events.{is_same_class}
use Rattle.txn_events.specs.declared.event.What.TheVariants as what
use Rattle.txn_events.specs.declared.refusal.Refusal.TheVariants as refusal
use Rattle.pdu_values.specs.Pdu.{PduValue}
use Rattle.pdu_values.specs.declared.pdu.Header.{Header}
use Rattle.pdu_values.specs.declared.pdu.Body.{Body}
use Rattle.pdu_values.specs.declared.pdu.Body.TheVariants as body
use Rattle.receiver_table.specs.Reception.{initial}
use Rattle.receiver_table.specs.Refusals.{refusal_at, is_body_too_large}
use Rattle.receiver_table.specs.Answers.{answer_at}
use Rattle.receiver_laws.specs.LegalReceptions.{BodyOpens}
use Rattle.receiver_parts.specs.ControlBlock.{state_from, first}
use Rattle.receiver_core.specs.Core.{reception_by}
use Rattle.receiver_parts.specs.declared.control.ControlBlock.{ControlBlock}
use Rattle.receiver_core.proofs.PlanLemmas.{same_state, answered_is, refused_is}

none_runs : (kind : TimerKind) → (state_from first None (λ i. None)).armed kind ≡ None
none_runs Ack = refl
none_runs Nak = refl
none_runs Check = refl
none_runs Inactivity = refl

none_expired : (kind : TimerKind) → (state_from first None (λ i. None)).tries kind ≡ 0
none_expired Ack = refl
none_expired Nak = refl
none_expired Check = refl
none_expired Inactivity = refl

-- before the first event
pub first_is : (control : ControlBlock) (received : ℕ → Option ℕ) → control ≡ first → ((i : ℕ) → received i ≡ None) → state_from control None received ≡ initial
unfolding initial
first_is control received is none =
    ap (λ s. state_from s None received) is
    ∙ same_state (state_from first None received) _ refl none refl refl refl refl refl refl refl none_runs none_expired refl

same_class : (class : Class) → is_same_class class class ≡ true
same_class One = refl
same_class Two = refl

by_body : (key : TxnKey) (params : ParamsParts) (header : Header) (b : Body) → BodyOpens b
    → refusal_at (reception_by key params header) initial (what.Pdu (record { header = header; body = b })) ≡ (if is_body_too_large b then Some refusal.TooLarge else None)
unfolding initial
by_body key params header (body.Metadata m) opens = rw (same_class header.class) refl
by_body key params header (body.FileData d) opens = rw (same_class header.class) refl
by_body key params header (body.Eof e) opens = rw (same_class header.class) refl
by_body key params header (body.Prompt p) opens = absurd (false≢true opens)
by_body key params header (body.Ack a) opens = absurd (false≢true opens)
by_body key params header (body.Finished f) opens = absurd (false≢true opens)
by_body key params header (body.Nak n) opens = absurd (false≢true opens)
by_body key params header (body.KeepAlive k) opens = absurd (false≢true opens)

pub first_refused : (key : TxnKey) (params : ParamsParts) (pdu : PduValue) → BodyOpens pdu.body → is_body_too_large pdu.body ≡ true
    → answer_at (reception_by key params pdu.header) initial (what.Pdu pdu) ≡ Err refusal.TooLarge
first_refused key params pdu opens large =
    refused_is (reception_by key params pdu.header) initial (what.Pdu pdu) refusal.TooLarge (by_body key params pdu.header pdu.body opens ∙ rw large refl)

pub first_taken : (key : TxnKey) (params : ParamsParts) (pdu : PduValue) → BodyOpens pdu.body → is_body_too_large pdu.body ≡ false
    → IsOk (answer_at (reception_by key params pdu.header) initial (what.Pdu pdu))
first_taken key params pdu opens small =
    answered_is (reception_by key params pdu.header) initial (what.Pdu pdu) (by_body key params pdu.header pdu.body opens ∙ rw small refl)
