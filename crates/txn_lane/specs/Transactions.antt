-- Of the code. The state of the code's transaction, and its plans, in terms of the logs of both ends.
use Rattle.std.specs.Prelude.{◌≡◌, ℕ, true, [], Option, Some, None, Err}
use Rattle.txn_events.specs.declared.answer.Answer.{Answer}
use Rattle.txn_events.specs.declared.event.Event.{Event}
use Rattle.txn_events.specs.declared.event.Event.TheVariants.{On}
pub use Rattle.txn_events.specs.Logs.{IsWhy}
use Rattle.sender_core.specs.Core as sender
use Rattle.receiver_core.specs.Core as receiver
use Rattle.indications.specs.declared.indication.Phase.TheVariants as phase
use Rattle.txn_events.specs.declared.refusal.Refusal.TheVariants.{StaleStored}
use Rattle.lane_table.specs.declared.glance.Glance.{Glance}
use Rattle.lane_table.specs.Glances.{glance_in}
use Rattle.lane_table.specs.Logs.{Transaction, Log, sent, received, to_sender, has_ended, image_in, log_by}
use Rattle.txn_lane.specs.declared.transaction.TransactionCore.{TransactionCore}
use Rattle.txn_lane.specs.declared.transaction.TransactionCore.TheVariants as core
use Rattle.txn_lane.specs.declared.transaction.TransactionPlan.{TransactionPlan}
use Rattle.txn_lane.specs.declared.transaction.TransactionPlan.TheVariants as plan

-- the transaction with this log has ended, this is its glance, and no deposit waits
pub record IsOver (log : Log) (glance : Glance) : Type 0 where
  pub ended : has_ended log ≡ true
  pub glanced : glance ≡ glance_in log
  pub lends_nothing : (stamp : ℕ) → image_in log stamp ≡ Err StaleStored

-- the transaction shows the state that the log of its end gives
abbrev pub StandsAfter : TransactionCore → Log → Type 0
StandsAfter (core.Sender c) (sent sending log) = (sender.sending_of c ≡ sending) × sender.StandsAfter c log
StandsAfter (core.Receiver c) (received reception log) = (receiver.reception_of c ≡ reception) × receiver.StandsAfter c log
StandsAfter (core.Ended glance) log = IsOver log glance
StandsAfter c log = ⊥

-- after an end only the glance is left, unless a deposit waits
abbrev pub IsSettled : TransactionCore → Log → Type 0
IsSettled c log = has_ended log ≡ true → ((glance_in log).phase ≡ phase.Storing → ⊥) → c ≡ core.Ended (glance_in log)

-- the answer of a plan
abbrev pub plan_answer : TransactionPlan → Answer
plan_answer (plan.Sender p) = sender.plan_answer p.value
plan_answer (plan.Receiver p) = receiver.plan_answer p

-- in the present state the event gets the plan's answer
abbrev pub IsPlanOf : TransactionCore → TransactionPlan → Event → Type 0
IsPlanOf (core.Sender c) (plan.Sender p) event = sender.IsPlanOf c p.value (to_sender event)
IsPlanOf (core.Receiver c) (plan.Receiver p) (On key event) = receiver.IsPlanOf c p event
IsPlanOf c p event = ⊥

-- there is a log, and the transaction shows the state that it gives
abbrev pub StandsBehind : TransactionCore → Option Log → Type 0
StandsBehind c None = ⊥
StandsBehind c (Some log) = StandsAfter c log

-- the log of a transaction before its first event, if there is a transaction
abbrev pub log_at_first : Option Transaction → Option Log
log_at_first None = None
log_at_first (Some transaction) = Some (log_by transaction [])

-- the event opened this transaction, which is new, and is planned as its first
pub record IsOpenedBy (opened : Option Transaction) (event : Event) (c : TransactionCore) (p : TransactionPlan) : Type 0 where
  pub stands : StandsBehind c (log_at_first opened)
  pub planned : IsPlanOf c p event
