-- Meaning. Logs of either end of a transaction: its accepted events, each with its answer.
use Rattle.std.specs.Prelude.{◌≡◌, List, [], ◌∷◌, ◌++◌, None, ◌⊎◌, Result, Ok, Err, IsOk}
use Rattle.indications.specs.declared.indication.Indication.{Indication}
use Rattle.txn_events.specs.declared.refusal.Refusal.{Refusal}
use Rattle.txn_events.specs.declared.refusal.Refusal.TheVariants as refusal
use Rattle.txn_events.specs.declared.answer.Answer.{Answer}

-- an accepted event with its answer; a log has the newest entry first, so the entries before an entry are the
-- rest of the list
pub record Entry (E : Type 0) : Type 0 where
  pub event : E
  pub answer : Answer

-- the empty answer
abbrev pub empty_answer : Answer
empty_answer = record { inds = []; pdus = []; timers = []; deposit = None }

-- all indications to the user, in order
abbrev pub issued : {E : Type 0} → List (Entry E) → List Indication
issued [] = []
issued (entry ∷ front) = issued front ++ entry.answer.inds

-- the log after these events, oldest first, on top of an earlier log, where `answer` gives each answer
abbrev pub log_after : {E : Type 0} → (List (Entry E) → E → Answer) → List (Entry E) → List E → List (Entry E)
log_after answer front [] = front
log_after answer front (event ∷ events) = log_after answer (record { event = event; answer = answer front event } ∷ front) events

-- ---- how a core relates to its log

-- the core shows the state that the log gives
abbrev pub StandsAt : {E S : Type 0} → (List (Entry E) → S) → S → List (Entry E) → Type 0
StandsAt state_of shown log = shown ≡ state_of log

-- the event gets this answer, and this state follows
pub record IsAnswered {E S : Type 0} (answer_to : E → Result Answer Refusal) (step : Entry E → S) (event : E) (answer : Answer) (next : S) : Type 0 where
  pub accepted : answer_to event ≡ Ok answer
  pub follows : next ≡ step (record { event = event; answer = answer })

-- why there is no value: this refusal, or NoMemory where there would be a value
abbrev pub IsWhy : {A : Type 0} → Result A Refusal → Refusal → Type 0
IsWhy result why = (result ≡ Err why) ⊎ ((why ≡ refusal.NoMemory) × IsOk result)
