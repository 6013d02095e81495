-- A look at a lane shows what a Report says.
use Rattle.std.proofs.Common.{◌≡◌, [], ◌∷◌, Option, Some, None, Ok, refl, subst}
use Rattle.std.proofs.Math.Bool.{or-false}
use Rattle.std.proofs.Math.Nat.{max-zero}
use Rattle.indications.specs.declared.indication.Indication.TheVariants as told
use Rattle.txn_events.specs.declared.answer.Answer.{Answer}
use Rattle.txn_events.specs.declared.event.What.TheVariants as what
use Rattle.txn_events.specs.declared.refusal.Refusal.{Refusal}
use Rattle.txn_events.specs.Refusal.{unless_refused}
use Rattle.sender_table.specs.Sending as sender
use Rattle.sender_table.specs.Refusals as sender_refusals
use Rattle.sender_table.specs.Answers as sender_answers
use Rattle.receiver_table.specs.Reception as receiver
use Rattle.receiver_table.specs.Refusals as receiver_refusals
use Rattle.receiver_table.specs.Answers as receiver_answers
use Rattle.lane_table.specs.Logs.{sent, received}
use Rattle.lane_table.specs.Glances.{SaysAsReport}

-- what is answered was not refused
answer_given : (why : Option Refusal) (answer given : Answer) → unless_refused why answer ≡ Ok given → answer ≡ given
answer_given None answer given e = cc
answer_given (Some r) answer given e = absurd cc

-- a Report changes nothing of what a sender does
sender_says : (sending : sender.Sending) (state : sender.State)
    → (sender_answers.accepted_at sending state (sender.happens what.Report)).inds
    ≡ told.Report (sender_answers.phase_of state) state.progress ∷ []
unfolding sender.step
sender_says sending state = rw (or-false state.ended, max-zero state.progress) refl

-- nor of what a receiver does
receiver_says : (reception : receiver.Reception) (state : receiver.State)
    → (receiver_answers.accepted_at reception state what.Report).inds
    ≡ told.Report (receiver_answers.phase_of state) state.progress ∷ []
unfolding receiver.step
receiver_says reception state = rw (or-false state.ended, max-zero state.progress) refl

pub says_as_report : SaysAsReport
unfolding sender_answers.answer_at receiver_answers.answer_at
says_as_report (sent sending log) key answer e =
    let state = sender.state_of sending log in
    let event = sender.happens what.Report in
    subst (λ (a : Answer). a.inds ≡ told.Report (sender_answers.phase_of state) state.progress ∷ [])
    (answer_given (sender_refusals.refusal_at sending state event) (sender_answers.accepted_at sending state event) answer e)
    (sender_says sending state)
says_as_report (received reception log) key answer e =
    let state = receiver.state_of log in
    subst (λ (a : Answer). a.inds ≡ told.Report (receiver_answers.phase_of state) state.progress ∷ [])
    (answer_given (receiver_refusals.refusal_at reception state what.Report) (receiver_answers.accepted_at reception state what.Report) answer e)
    (receiver_says reception state)
