-- Meaning. The laws of every transaction's log, at both ends, and of every lane.
use Rattle.std.specs.Prelude.{◌≡◌, ℕ, ◌<◌, ◌≤◌, All, true, List, length, ◌++◌, Some, None, Contains}
use Rattle.cfdp_types.specs.declared.key.EntityId.{EntityId}
use Rattle.cfdp_types.specs.declared.limits.TheConstants.{JOURNAL_ENTRIES}
use Rattle.cfdp_types.specs.declared.names.Delivery.TheVariants.{Complete}
use Rattle.cfdp_types.specs.declared.names.FileStatus.{FileStatus}
use Rattle.indications.specs.declared.indication.Indication.TheVariants as told
use Rattle.indications.specs.declared.bundle.Bundle.{Bundle}
use Rattle.indications.specs.LaneLists.{number_of, told_of, IsLaneList}
use Rattle.indications.specs.Words.{IsBegunOf, IsWordOf}
use Rattle.receiver_table.specs.Reception.{Reception, Entry, state_of}
use Rattle.receiver_laws.specs.LegalReceptions.{IsGood}
use Rattle.txn_events.specs.declared.event.Event.{Event}
use Rattle.lane_table.specs.declared.lane_side.LaneSide.{LaneSide}
use Rattle.lane_table.specs.declared.lane_side.LaneSide.TheVariants.{Sending}
use Rattle.lane_table.specs.declared.lane_side.Numbers.{Numbers}
use Rattle.lane_table.specs.Lane.{State, idle, IsNumberOf, log_from, issued_in, IsNumbered, IsSound}
use Rattle.lane_table.specs.Steps.{IsKeyed, refusal_at, stepped}
use Rattle.lane_table.specs.Keeping.{Keeps, bundle_of, sent_after, events_of, AreTaken}
use Rattle.lane_table.specs.Logs.{Log, received, side_of, issued, has_ended, entries_of, IsLegal}

-- the indications of a transaction are the beginning of a word of its side, and a word once it has ended
abbrev pub TellsWords : Type 0
TellsWords = (log : Log) → IsLegal log
    → IsBegunOf (side_of log) (issued log) × (has_ended log ≡ true → IsWordOf (side_of log) (issued log))

-- where a receiver indicates a complete delivery, the file was received as its Metadata and its EOF describe it
abbrev pub CompletesGood : Type 0
CompletesGood = (reception : Reception) (log : List Entry) (condition : ℕ) (status : FileStatus) → IsLegal (received reception log)
    → Contains (issued (received reception log)) (told.TransactionFinished condition Complete status) → IsGood (state_of log)

-- what a lane sends, from its first event on, is a lane list
abbrev pub SendsLaneLists : Type 0
SendsLaneLists = (side : LaneSide) (user lane : ℕ) (source : EntityId) (events : List Event) → IsNumbered side
    → AreTaken (idle side user lane source) events → IsLaneList user lane source (sent_after (idle side user lane source) events)

-- what was sent of each transaction of a lane, past ones included, is what the log of its events issues
abbrev pub SendsWhatLogsTell : Type 0
SendsWhatLogsTell = (side : LaneSide) (user lane : ℕ) (source : EntityId) (events : List Event) (number : ℕ) → IsNumbered side
    → AreTaken (idle side user lane source) events
    → told_of number (sent_after (idle side user lane source) events)
    ≡ issued_in (log_from side source (Some number) (events_of number (idle side user lane source) events))

-- the numbers of the bundles that a sending lane sends give back its user and the lane
abbrev pub NumbersTellLanes : Type 0
NumbersTellLanes = (numbers : Numbers) (greatest user lane : ℕ) (source : EntityId) (events : List Event) → user < numbers.users → lane < numbers.lanes
    → AreTaken (idle (Sending numbers greatest) user lane source) events
    → All (λ bundle. IsNumberOf numbers user lane (number_of bundle)) (sent_after (idle (Sending numbers greatest) user lane source) events)

-- an event that a lane accepts preserves what the lane knows of its bundles, with the step's bundle added
abbrev pub StepsKeep : Type 0
StepsKeep = (state : State) (event : Event) (bundles : List Bundle) → IsSound state → Keeps state bundles → IsKeyed event → refusal_at state event ≡ None
    → IsSound (stepped state event) × Keeps (stepped state event) (bundles ++ bundle_of (stepped state event))

-- a legal log has no more entries than a journal may have
abbrev pub FitsJournal : Type 0
FitsJournal = (log : Log) → IsLegal log → entries_of log ≤ JOURNAL_ENTRIES

-- the journal of a sound lane has no more events than a journal may have
abbrev pub KeepsToLimit : Type 0
KeepsToLimit = (state : State) → IsSound state → length state.journal ≤ JOURNAL_ENTRIES
