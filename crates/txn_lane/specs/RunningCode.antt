-- Of the code. How the code keeps a lane's transaction, and the step that it plans.
use Rattle.std.specs.Prelude.{◌≡◌, ◌+◌, ◌<◌, ◌≤◌, false, [], ◌∷◌, ◌++◌, Option, Some, None, Ok, length, vec_len, vec_capacity}
use Rattle.cfdp_types.specs.declared.key.TxnKey.{TxnKey}
use Rattle.txn_events.specs.declared.answer.Answer.{Answer}
use Rattle.txn_events.specs.declared.event.Event.{Event}
use Rattle.lane_table.specs.declared.done.Done.{Done}
use Rattle.lane_table.specs.Logs.{Transaction, Log, log_by, has_ended, first_answer, answered_behind, extended}
use Rattle.txn_lane.specs.Transactions.{StandsAfter, StandsBehind, log_at_first, IsPlanOf, plan_answer}
use Rattle.txn_lane.specs.declared.running.Running.{Running}
use Rattle.txn_lane.specs.declared.running.Step.{Step}

-- the step was planned for the event in the present state, and there is room for it
pub record IsStepOf (running : Running) (event : Event) (step : Step) : Type 0 where
  pub event_is : step.event ≡ event
  pub planned : IsPlanOf running.core step.plan event
  pub journal_room : vec_len running.journal < vec_capacity running.journal
  pub trace_room : vec_len running.trace + length (plan_answer step.plan).inds ≤ vec_capacity running.trace

-- the transaction stands after some log and has not ended
pub record IsGoing (running : Running) : Type 0 where
  pub log : Log
  pub stands : StandsAfter running.core log
  pub runs : has_ended log ≡ false

-- the step was planned for some event of a transaction that has not ended
pub record MayCommit (running : Running) (step : Step) : Type 0 where
  pub planned : (event : Event) × IsStepOf running event step
  pub goes : IsGoing running

-- the event opened this transaction, which is new, and is planned as its first
pub record IsOpenedBy (opened : Option Transaction) (event : Event) (running : Running) (step : Step) : Type 0 where
  pub stands : StandsBehind running.core (log_at_first opened)
  pub journal : running.journal.items ≡ []
  pub trace : running.trace.items ≡ []
  pub planned : IsStepOf running event step

-- the log of a transaction after its first event and the answer, if there is a transaction
abbrev pub log_of_first : Option Transaction → Event → Answer → Option Log
log_of_first None event answer = None
log_of_first (Some transaction) event answer = Some (extended (log_by transaction []) event answer)

-- the result of a step is the answer with a key, apart from the indications
pub record IsDoneBy (key : TxnKey) (answer : Answer) (done : Done) : Type 0 where
  pub key_is : done.key ≡ key
  pub pdus : done.pdus ≡ answer.pdus
  pub timers : done.timers ≡ answer.timers
  pub deposit : done.deposit ≡ answer.deposit

-- the event was the first one of a transaction and got this answer
pub record IsStarted (opened : Option Transaction) (event : Event) (running : Running) (answer : Answer) : Type 0 where
  pub answered : first_answer opened event ≡ Ok answer
  pub stands : StandsBehind running.core (log_of_first opened event answer)
  pub journal : running.journal.items ≡ event ∷ []
  pub trace : running.trace.items ≡ answer.inds

-- the event of a transaction got this answer
pub record GoesOn (old new : Running) (event : Event) (answer : Answer) : Type 0 where
  pub stands : (log : Log) → StandsAfter old.core log → StandsAfter new.core (extended log event answer)
  pub journal : new.journal.items ≡ old.journal.items ++ event ∷ []
  pub trace : new.trace.items ≡ old.trace.items ++ answer.inds

-- the transaction's end gave this answer to the event, and both were added to its log
pub record IsAdvanced (old new : Running) (event : Event) (answer : Answer) : Type 0 where
  pub answered : (log : Log) → StandsAfter old.core log → answered_behind log event ≡ Ok answer
  pub goes_on : GoesOn old new event answer

-- the transaction is as it was, but for its room
pub record IsUnmoved (old new : Running) : Type 0 where
  pub stands : (log : Log) → StandsAfter old.core log → StandsAfter new.core log
  pub journal : new.journal.items ≡ old.journal.items
  pub trace : new.trace.items ≡ old.trace.items
