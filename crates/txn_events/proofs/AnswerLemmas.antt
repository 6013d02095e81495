-- Answers whose parts are the same, logs with one event more, and what a core says over the logs that it
-- stands after.
use Rattle.std.proofs.Common.{◌≡◌, List, [], ◌∷◌, ◌++◌, Option, Ok, Err, Result, refl, subst}
use Rattle.std.specs.Prelude.{IfOk, IfErr}
use Rattle.cfdp_types.specs.declared.key.Deposit.{Deposit}
use Rattle.cfdp_types.specs.declared.timer_op.TimerOp.{TimerOp}
use Rattle.indications.specs.declared.indication.Indication.{Indication}
use Rattle.txn_events.specs.declared.refusal.Refusal.{Refusal}
use Rattle.pdu_values.specs.Pdu.{PduValue}
use Rattle.txn_events.specs.declared.answer.Answer.{Answer}
use Rattle.txn_events.specs.Logs.{Entry, log_after, StandsAt, IsWhy}

unfoldable pub answer_of_parts : List Indication → List PduValue → List TimerOp → Option Deposit → Answer
answer_of_parts inds pdus timers deposit = record { inds = inds; pdus = pdus; timers = timers; deposit = deposit }

-- answers whose parts are the same
pub same_answer : (inds inds' : List Indication) (pdus pdus' : List PduValue) (timers timers' : List TimerOp) (deposit deposit' : Option Deposit)
    → inds ≡ inds' → pdus ≡ pdus' → timers ≡ timers' → deposit ≡ deposit'
    → answer_of_parts inds pdus timers deposit ≡ answer_of_parts inds' pdus' timers' deposit'
same_answer inds inds' pdus pdus' timers timers' deposit deposit' a b c d = cc

-- what a plan is answered in the state that is shown is answered after each log that gives it
pub accepted_over : {E S A P : Type 0} (state_of : List (Entry E) → S) (shown : S) (answer_at : S → Result A Refusal) (answer_in : P → A) (IsPlan : P → Type 0)
    → ((plan : P) → IsPlan plan → answer_at shown ≡ Ok (answer_in plan)) → (result : Result P Refusal) (log : List (Entry E)) → StandsAt state_of shown log
    → IfOk result IsPlan → IfOk result (λ plan. answer_at (state_of log) ≡ Ok (answer_in plan))
accepted_over state_of shown answer_at answer_in IsPlan accepted (Ok plan) log stands is = subst (λ state. answer_at state ≡ Ok (answer_in plan)) stands (accepted plan is)
accepted_over state_of shown answer_at answer_in IsPlan accepted (Err why) log stands is = tt

-- so is what is refused
pub refused_over : {E S A P : Type 0} (state_of : List (Entry E) → S) (shown : S) (answer_at : S → Result A Refusal) (result : Result P Refusal)
    (log : List (Entry E)) → StandsAt state_of shown log → IfErr result (λ why. IsWhy (answer_at shown) why)
    → IfErr result (λ why. IsWhy (answer_at (state_of log)) why)
refused_over state_of shown answer_at (Ok plan) log stands is = tt
refused_over state_of shown answer_at (Err why) log stands is = subst (λ state. IsWhy (answer_at state) why) stands is

-- ---- logs

-- one event more
pub log_after-append : {E : Type 0} (answer : List (Entry E) → E → Answer) (front : List (Entry E)) (events : List E) (event : E)
    → log_after answer front (events ++ event ∷ [])
    ≡ record { event = event; answer = answer (log_after answer front events) event } ∷ log_after answer front events
log_after-append answer front [] event = refl
log_after-append answer front (first ∷ later) event = log_after-append answer (record { event = first; answer = answer front first } ∷ front) later event

-- a fact that holds of each log with an entry holds behind any events
pub log_after-rest : {E : Type 0} (P : List (Entry E) → Type 0) (answer : List (Entry E) → E → Answer) (front : List (Entry E)) (events : List E)
    → P front → ((entry : Entry E) (rest : List (Entry E)) → P (entry ∷ rest)) → P (log_after answer front events)
log_after-rest P answer front [] holds some = holds
log_after-rest P answer front (first ∷ later) holds some =
    log_after-rest P answer (record { event = first; answer = answer front first } ∷ front) later (some _ front) some
