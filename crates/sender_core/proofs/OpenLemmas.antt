-- A sender that is opened stands before its Put, and plans it.
use Rattle.cfdp_types.specs.declared.limits.TheConstants.{FILE_OCTETS}
use Rattle.std.proofs.Common.{◌≡◌, ℕ, ◌<◌, ◌≤◌, Bool, true, false, ◌&&◌, ◌||◌, nat_lt, [], ◌∷◌, length, None, Ok, refl, sym, ap, ◌∙◌, arith}
use Rattle.std.proofs.lemmas.Bool.{le-ltb, lt-ltb}
use Rattle.std.specs.Prelude.{IsOk, Err}
use Rattle.txn_events.specs.declared.refusal.Refusal.TheVariants as refusal
use Rattle.sender_core.specs.Core.{IsPlanOf, remainder_of, plan_answer, sending_of, shown}
use Rattle.sender_core.specs.declared.plan.Remainder.TheVariants as remainder
use Rattle.sender_core.specs.declared.plan.Plan.{Plan}
use Rattle.sender_core.specs.declared.sender.SenderCore.{SenderCore}
use Rattle.cfdp_types.specs.declared.names.TimerKind.{TimerKind}
use Rattle.cfdp_types.specs.declared.names.TimerKind.TheVariants.{Ack, Nak, Check, Inactivity}
use Rattle.indications.specs.declared.indication.Indication.TheVariants as told
use Rattle.txn_events.specs.declared.answer.Answer.{Answer}
use Rattle.txn_events.proofs.AnswerLemmas.{answer_of_parts, same_answer}
use Rattle.sender_table.specs.Sending.{Sending, State, put, initial, step, state_of}
use Rattle.sender_table.specs.Answers.{answer_at}
use Rattle.sender_core.specs.Remaining.{to_send}
use Rattle.sender_core.specs.ControlBlock.{state_from, first}
use Rattle.sender_core.specs.declared.control.ControlBlock.{ControlBlock}
use Rattle.sender_core.proofs.PlanLemmas.{same_state}

none_runs : (kind : TimerKind) → (state_from (first 0) (λ i. false)).armed kind ≡ None
none_runs Ack = refl
none_runs Nak = refl
none_runs Check = refl
none_runs Inactivity = refl

none_expired : (kind : TimerKind) → (state_from (first 0) (λ i. false)).tries kind ≡ 0
none_expired Ack = refl
none_expired Nak = refl
none_expired Check = refl
none_expired Inactivity = refl

pub opened : (sending : Sending) (remains : ℕ → Bool) → ((i : ℕ) → remains i ≡ nat_lt i (length sending.request.file))
    → state_from (first 0) remains ≡ initial sending
unfolding initial
opened sending remains whole =
    same_state (state_from (first 0) remains) _ refl refl whole refl refl refl refl none_runs none_expired refl

still : (set below : Bool) → set ≡ ((set && true) || (below && false))
still true below = refl
still false true = refl
still false false = refl

put_tries : (sending : Sending) (remains : ℕ → Bool) (kind : TimerKind)
    → (state_from (first 1) remains).tries kind ≡ (step sending (state_from (first 0) remains) (record { event = put; answer = record { inds = told.Transaction ∷ []; pdus = []; timers = []; deposit = None } })).tries kind
unfolding step
put_tries sending remains Ack = refl
put_tries sending remains Nak = refl
put_tries sending remains Check = refl
put_tries sending remains Inactivity = refl

pub put_follows : (sending : Sending) (remains : ℕ → Bool)
    → state_from (first 1) remains ≡ step sending (state_from (first 0) remains) (record { event = put; answer = record { inds = told.Transaction ∷ []; pdus = []; timers = []; deposit = None } })
unfolding step
put_follows sending remains =
    same_state (state_from (first 1) remains) _ refl refl (λ i. still (remains i) (nat_lt i (length sending.request.file))) refl refl refl refl (λ kind. refl)
    (put_tries sending remains) refl

pub put_answered : (sending : Sending) (remains : ℕ → Bool) → length sending.request.file ≤ FILE_OCTETS
    → answer_at sending (state_from (first 0) remains) put ≡ Ok (record { inds = told.Transaction ∷ []; pdus = []; timers = []; deposit = None })
unfolding answer_at step
put_answered sending remains small = rw (le-ltb FILE_OCTETS (length sending.request.file) small) refl

pub opens : (sending : Sending) (control : ControlBlock) (remains : ℕ → Bool) (size : ℕ) → control ≡ first 0
    → ((i : ℕ) → remains i ≡ nat_lt i size) → size ≡ length sending.request.file → state_from control remains ≡ state_of sending []
unfolding state_of
opens sending control remains size stands whole is =
    ap (λ s. state_from s remains) stands ∙ opened sending remains (λ i. whole i ∙ ap (λ n. nat_lt i n) is)

pub next_is : (control : ControlBlock) → control ≡ first 0 → record control { entries = 1 } ≡ first 1
next_is control is = ap (λ (s : ControlBlock). record s { entries = 1 }) is

answer_is : (plan : Plan) → plan.answer.inds ≡ told.Transaction ∷ [] → plan.answer.pdus ≡ [] → plan.answer.timers ≡ [] → plan.answer.deposit ≡ None
    → plan_answer plan ≡ record { inds = told.Transaction ∷ []; pdus = []; timers = []; deposit = None }
unfolding answer_of_parts
answer_is plan a b c d = same_answer plan.answer.inds (told.Transaction ∷ []) plan.answer.pdus [] plan.answer.timers [] plan.answer.deposit None a b c d

pub put_plan : (core : SenderCore) (plan : Plan) → core.control ≡ first 0 → plan.next ≡ first 1 → plan.remainder ≡ remainder.Same
    → plan.answer.inds ≡ told.Transaction ∷ [] → plan.answer.pdus ≡ [] → plan.answer.timers ≡ []
    → plan.answer.deposit ≡ None → IsPlanOf core plan put
put_plan core plan stands next is_left inds pdus timers nothing =
    let s : Sending = sending_of core in
    let remains : ℕ → Bool = to_send core.remaining in
    let empty : Answer = record { inds = told.Transaction ∷ []; pdus = []; timers = []; deposit = None } in
    let answer : plan_answer plan ≡ empty = answer_is plan inds pdus timers nothing in
    record {
      answered = record {
        accepted = ap (λ st. answer_at s (state_from st remains) put) stands ∙ put_answered s remains core.small ∙ ap Ok (sym answer);
        follows = ap (λ n. state_from n (remainder_of core.remaining plan.remainder)) next
            ∙ ap (λ l. state_from (first 1) (remainder_of core.remaining l)) is_left
            ∙ put_follows s remains
            ∙ ap (λ st. step s (state_from st remains) (record { event = put; answer = empty })) (sym stands)
            ∙ ap (λ a. step s (shown core) (record { event = put; answer = a })) (sym answer);
      };
      nothing = nothing;
      inside = λ i has. core.inside i (ap (λ l. remainder_of core.remaining l i) (sym is_left) ∙ has);
      sound = λ runs. rw next (record {
        few = record { entries = omega arith; tries = record { ack = omega arith; nak = omega arith; check = omega arith; inactivity = omega arith } };
        goes_on = λ e. omega arith;
        progress = omega arith;
        eof = omega arith;
      });
    }

pub put_refused : (sending : Sending) (state : State) → FILE_OCTETS < length sending.request.file → answer_at sending state put ≡ Err refusal.TooLarge
unfolding answer_at
put_refused sending state large = rw (lt-ltb FILE_OCTETS (length sending.request.file) large) refl

pub put_taken : (sending : Sending) (state : State) → length sending.request.file ≤ FILE_OCTETS → IsOk (answer_at sending state put)
unfolding answer_at
put_taken sending state small = rw (le-ltb FILE_OCTETS (length sending.request.file) small) refl
