-- Meaning. Which logs are legal for a sender of either class.
use Rattle.std.specs.Prelude.{◌≡◌, false, List, [], ◌∷◌, Ok}
use Rattle.txn_events.specs.Logs.{log_after}
use Rattle.txn_events.specs.declared.answer.Answer.{Answer}
use Rattle.sender_table.specs.Sending.{Sending, Event, put, happens, Entry, state_of}
use Rattle.sender_table.specs.Answers.{accepted_at, answer_at}

-- the Put comes first, and no other Put after it
abbrev pub HasItsPlace : List Entry → Event → Type 0
HasItsPlace [] put = Unit {0}
HasItsPlace [] (happens event) = ⊥
HasItsPlace (entry ∷ front) put = ⊥
HasItsPlace (entry ∷ front) (happens event) = Unit {0}

-- each event was accepted, each answer is the table's, and nothing follows an end
abbrev pub IsLegal : Sending → List Entry → Type 0
IsLegal sending [] = Unit {0}
IsLegal sending (entry ∷ front) =
    ((state_of sending front).ended ≡ false) × HasItsPlace front entry.event × (answer_at sending (state_of sending front) entry.event ≡ Ok entry.answer)
    × IsLegal sending front

-- the answer to an event after a log
abbrev pub answer_behind : Sending → List Entry → Event → Answer
answer_behind sending front event = accepted_at sending (state_of sending front) event

-- the log of a journal
abbrev pub log_of : Sending → List Event → List Entry
log_of sending journal = log_after (answer_behind sending) [] journal
