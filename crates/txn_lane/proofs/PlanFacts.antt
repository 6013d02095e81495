-- A plan's answer is what the log of its end says, for every log that the transaction stands after.
use Rattle.std.proofs.Common.{◌≡◌, ℕ, Bool, true, false, if◌then◌else◌, List, ◌∷◌, Option, Some, None, IsSome, Result, Ok, Err, IsOk, refl, sym, ◌∙◌, subst}
use Rattle.std.proofs.lemmas.Bool.{false≢true}
use Rattle.std.specs.Global.{Box}
use Rattle.cfdp_types.specs.declared.params.ParamsParts.{ParamsParts}
use Rattle.pdu_values.specs.Pdu.{PduValue}
use Rattle.lane_table.specs.declared.lane_side.LaneSide.{LaneSide}
use Rattle.lane_table.specs.declared.lane_side.LaneSide.TheVariants.{Receiving}
use Rattle.txn_events.specs.declared.event.What.TheVariants as what
use Rattle.cfdp_types.specs.declared.image.Image.{Image}
use Rattle.cfdp_types.specs.declared.key.TxnKey.{TxnKey}
use Rattle.txn_events.specs.declared.event.What.{What}
use Rattle.txn_events.specs.declared.refusal.Refusal.{Refusal}
use Rattle.sender_core.specs.declared.plan.Plan as sent_plan
use Rattle.sender_core.specs.declared.sender.SenderCore.{SenderCore}
use Rattle.receiver_core.specs.declared.plan.Plan as received_plan
use Rattle.receiver_core.specs.declared.receiver.ReceiverCore.{ReceiverCore}
use Rattle.receiver_table.specs.Images.{image_at}
use Rattle.txn_events.specs.declared.event.Event.{Event}
use Rattle.txn_events.specs.declared.event.Event.TheVariants.{Put, On}
use Rattle.sender_core.specs.Core as sender
use Rattle.sender_table.specs.Answers as sent_answers
use Rattle.sender_table.specs.Sending as sendings
use Rattle.receiver_core.specs.Core as receiver
use Rattle.receiver_table.specs.Answers as received_answers
use Rattle.receiver_table.specs.Reception as receptions
use Rattle.lane_table.specs.Logs.{Transaction, receives, body_opens, opened_by, Log, sent, received, to_sender, has_ended, answered_behind, extended, image_in}
use Rattle.txn_lane.specs.Transactions.{StandsAfter, IsPlanOf, IsWhy, plan_answer}
use Rattle.txn_lane.specs.declared.transaction.TransactionCore.{TransactionCore}
use Rattle.txn_lane.specs.declared.transaction.TransactionCore.TheVariants as core
use Rattle.txn_lane.specs.declared.transaction.TransactionPlan.{TransactionPlan}
use Rattle.txn_lane.specs.declared.transaction.TransactionPlan.TheVariants as plan

pub answered_planned : (c : TransactionCore) (p : TransactionPlan) (log : Log) (event : Event) → StandsAfter c log → IsPlanOf c p event
    → answered_behind log event ≡ Ok (plan_answer p)
answered_planned (core.Sender c) (plan.Sender p) (sent sending log) event stands planned =
    subst (λ s. sent_answers.answer_at s (sendings.state_of s log) (to_sender event) ≡ Ok (sender.plan_answer p.value)) stands.0
    (subst (λ state. sent_answers.answer_at (sender.sending_of c) state (to_sender event) ≡ Ok (sender.plan_answer p.value)) stands.1
    planned.answered.accepted)
answered_planned (core.Receiver c) (plan.Receiver p) (received reception log) (On key event) stands planned =
    subst (λ r. received_answers.answer_at r (receptions.state_of log) event ≡ Ok (receiver.plan_answer p)) stands.0
    (subst (λ state. received_answers.answer_at (receiver.reception_of c) state event ≡ Ok (receiver.plan_answer p)) stands.1
    planned.answered.accepted)
answered_planned (core.Receiver c) (plan.Receiver p) log (Put request params) stands planned = absurd planned
answered_planned (core.Receiver c) (plan.Receiver p) (sent sending log) (On key event) stands planned = absurd stands
answered_planned (core.Sender c) (plan.Sender p) (received reception log) event stands planned = absurd stands
answered_planned (core.Sender c) (plan.Receiver p) log event stands planned = absurd planned
answered_planned (core.Receiver c) (plan.Sender p) log event stands planned = absurd planned
answered_planned (core.Ended glance) p log event stands planned = absurd planned

-- two logs that a transaction stands after say the same, where it goes on
pub answered_same : (c : TransactionCore) (one other : Log) (event : Event) → has_ended one ≡ false → StandsAfter c one → StandsAfter c other
    → answered_behind one event ≡ answered_behind other event
answered_same (core.Sender c) (sent first one) (sent second other) event runs stood stands =
    subst (λ s. sent_answers.answer_at s (sendings.state_of s one) (to_sender event) ≡ answered_behind (sent second other) event) stood.0
    (subst (λ s. sent_answers.answer_at (sender.sending_of c) (sendings.state_of (sender.sending_of c) one) (to_sender event)
    ≡ sent_answers.answer_at s (sendings.state_of s other) (to_sender event)) stands.0
    (subst (λ state. sent_answers.answer_at (sender.sending_of c) state (to_sender event)
    ≡ sent_answers.answer_at (sender.sending_of c) (sendings.state_of (sender.sending_of c) other) (to_sender event)) stood.1
    (subst (λ state. sent_answers.answer_at (sender.sending_of c) (sender.shown c) (to_sender event)
    ≡ sent_answers.answer_at (sender.sending_of c) state (to_sender event)) stands.1 refl)))
answered_same (core.Receiver c) (received first one) (received second other) (On key event) runs stood stands =
    subst (λ r. received_answers.answer_at r (receptions.state_of one) event ≡ answered_behind (received second other) (On key event)) stood.0
    (subst (λ r. received_answers.answer_at (receiver.reception_of c) (receptions.state_of one) event
    ≡ received_answers.answer_at r (receptions.state_of other) event) stands.0
    (subst (λ state. received_answers.answer_at (receiver.reception_of c) state event
    ≡ received_answers.answer_at (receiver.reception_of c) (receptions.state_of other) event) stood.1
    (subst (λ state. received_answers.answer_at (receiver.reception_of c) (receiver.shown c) event
    ≡ received_answers.answer_at (receiver.reception_of c) state event) stands.1 refl)))
answered_same (core.Receiver c) (received first one) (received second other) (Put request params) runs stood stands = refl
answered_same (core.Sender c) (sent first one) (received second other) event runs stood stands = absurd stands
answered_same (core.Sender c) (received first one) other event runs stood stands = absurd stood
answered_same (core.Receiver c) (received first one) (sent second other) event runs stood stands = absurd stands
answered_same (core.Receiver c) (sent first one) other event runs stood stands = absurd stood
answered_same (core.Ended glance) one other event runs stood stands = absurd (false≢true (sym runs ∙ stood.ended))

-- ---- each end's own clauses, over the logs of both

-- why a sender refuses an event
pub refused_sent : (c : SenderCore) (log : Log) (key : TxnKey) (what : What) (why : Refusal)
    → ((front : List sendings.Entry) → sender.StandsAfter c front
    → IsWhy (sent_answers.answer_at (sender.sending_of c) (sendings.state_of (sender.sending_of c) front) (sendings.happens what)) why)
    → StandsAfter (core.Sender c) log → IsWhy (answered_behind log (On key what)) why
refused_sent c (sent sending front) key what why refused stands =
    subst (λ s. IsWhy (sent_answers.answer_at s (sendings.state_of s front) (sendings.happens what)) why) stands.0 (refused front stands.1)
refused_sent c (received reception front) key what why refused stands = absurd stands

-- why a receiver refuses one
pub refused_received : (c : ReceiverCore) (log : Log) (key : TxnKey) (what : What) (why : Refusal)
    → ((front : List receptions.Entry) → receiver.StandsAfter c front
    → IsWhy (received_answers.answer_at (receiver.reception_of c) (receptions.state_of front) what) why)
    → StandsAfter (core.Receiver c) log → IsWhy (answered_behind log (On key what)) why
refused_received c (received reception front) key what why refused stands =
    subst (λ r. IsWhy (received_answers.answer_at r (receptions.state_of front) what) why) stands.0 (refused front stands.1)
refused_received c (sent sending front) key what why refused stands = absurd stands

is_ok_by : {A E : Type 0} (r : Result A E) (answer : A) → r ≡ Ok answer → IsOk r
is_ok_by (Ok other) answer is = refl
is_ok_by (Err why) answer is = absurd cc

-- an event that a sender planned is answered
pub planned_sent : (c : SenderCore) (p : sent_plan.Plan) (log : Log) (key : TxnKey) (what : What)
    → sender.IsPlanOf c p (sendings.happens what) → StandsAfter (core.Sender c) log → IsOk (answered_behind log (On key what))
planned_sent c p (sent sending front) key what planned stands =
    is_ok_by _ (sender.plan_answer p)
    (subst (λ s. sent_answers.answer_at s (sendings.state_of s front) (sendings.happens what) ≡ Ok (sender.plan_answer p)) stands.0
    (subst (λ state. sent_answers.answer_at (sender.sending_of c) state (sendings.happens what) ≡ Ok (sender.plan_answer p)) stands.1
    planned.answered.accepted))
planned_sent c p (received reception front) key what planned stands = absurd stands

-- an event that a receiver planned is answered
pub planned_received : (c : ReceiverCore) (p : received_plan.Plan) (log : Log) (key : TxnKey) (what : What)
    → receiver.IsPlanOf c p what → StandsAfter (core.Receiver c) log → IsOk (answered_behind log (On key what))
planned_received c p (received reception front) key what planned stands =
    is_ok_by _ (receiver.plan_answer p)
    (subst (λ r. received_answers.answer_at r (receptions.state_of front) what ≡ Ok (receiver.plan_answer p)) stands.0
    (subst (λ state. received_answers.answer_at (receiver.reception_of c) state what ≡ Ok (receiver.plan_answer p)) stands.1
    planned.answered.accepted))
planned_received c p (sent sending front) key what planned stands = absurd stands

-- a receiver that shows the same stands after the same logs
pub same_received : (c next : ReceiverCore) (log : Log) → receiver.shown next ≡ receiver.shown c → receiver.reception_of next ≡ receiver.reception_of c
    → StandsAfter (core.Receiver c) log → StandsAfter (core.Receiver next) log
same_received c next (received reception front) shown same stands = (same ∙ stands.0, shown ∙ stands.1)
same_received c next (sent sending front) shown same stands = absurd stands

-- a sender that carried out the plan of a box
pub carried_sent : (c next : SenderCore) (b : Box sent_plan.Plan) (p : sent_plan.Plan) (event : Event) (log : Log) → p ≡ b.value
    → sender.sending_of next ≡ sender.sending_of c
    → ((happened : sendings.Event) (front : List sendings.Entry) → sender.IsPlanOf c p happened → sender.StandsAfter c front
    → sender.StandsAfter next (record { event = happened; answer = sender.plan_answer p } ∷ front))
    → IsPlanOf (core.Sender c) (plan.Sender b) event → StandsAfter (core.Sender c) log
    → StandsAfter (core.Sender next) (extended log event (sender.plan_answer b.value))
carried_sent c next b p event (sent sending front) is same carried planned stands = (
  same ∙ stands.0,
  subst (λ q. sender.StandsAfter next (record { event = to_sender event; answer = sender.plan_answer q } ∷ front)) is
      (carried (to_sender event) front (subst (λ q. sender.IsPlanOf c q (to_sender event)) (sym is) planned) stands.1),
)
carried_sent c next b p event (received reception front) is same carried planned stands = absurd stands

-- a receiver that carried out a plan
pub carried_received : (c next : ReceiverCore) (p : received_plan.Plan) (event : Event) (log : Log)
    → receiver.reception_of next ≡ receiver.reception_of c
    → ((happened : What) (front : List receptions.Entry) → receiver.IsPlanOf c p happened → receiver.StandsAfter c front
    → receiver.StandsAfter next (record { event = happened; answer = receiver.plan_answer p } ∷ front))
    → IsPlanOf (core.Receiver c) (plan.Receiver p) event → StandsAfter (core.Receiver c) log
    → StandsAfter (core.Receiver next) (extended log event (receiver.plan_answer p))
carried_received c next p (On key what) (received reception front) same carried planned stands =
    (same ∙ stands.0, carried what front planned stands.1)
carried_received c next p (Put request params) log same carried planned stands = absurd planned
carried_received c next p (On key what) (sent sending front) same carried planned stands = absurd stands

-- the file that a receiver hands out
pub image_received : (c : ReceiverCore) (log : Log) (stamp : ℕ) (P : Result Image Refusal → Type 0)
    → ((front : List receptions.Entry) → receiver.StandsAfter c front → P (image_at (receptions.state_of front) stamp))
    → StandsAfter (core.Receiver c) log → P (image_in log stamp)
image_received c (received reception front) stamp P shows stands = shows front stands.1
image_received c (sent sending front) stamp P shows stands = absurd stands

-- ---- a reception that a PDU opens

some_if : (b : Bool) (transaction : Transaction) → IsSome (if b then Some transaction else None) → (if b then Some transaction else None) ≡ Some transaction
some_if true transaction some = refl
some_if false transaction some = absurd (false≢true some)

pub by_received : (side : LaneSide) (key named other : TxnKey) (params : ParamsParts) (event : What) (pdu : PduValue) → side ≡ Receiving params
    → event ≡ what.Pdu pdu → IsSome (opened_by side key (On other event)) → (P : Option Transaction → Event → Type 0)
    → P (Some (receives (receiver.reception_by key params pdu.header))) (On named (what.Pdu pdu))
    → P (opened_by side key (On named event)) (On named event)
by_received side key named other params event pdu of_side is some P holds =
    subst (λ e. P (opened_by side key (On named e)) (On named e)) (sym is)
    (subst (λ s. P (opened_by s key (On named (what.Pdu pdu))) (On named (what.Pdu pdu))) (sym of_side)
    (subst (λ o. P o (On named (what.Pdu pdu)))
    (sym (some_if (body_opens pdu.body) (receives (receiver.reception_by key params pdu.header))
    (subst (λ s. IsSome (opened_by s key (On other (what.Pdu pdu)))) of_side (subst (λ e. IsSome (opened_by side key (On other e))) is some)))) holds))
