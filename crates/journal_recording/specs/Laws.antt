-- Meaning. What the takes of a script give.
use Rattle.std.specs.Prelude.{◌≡◌, ℕ, List, Option, Some}
use Rattle.config_reading.specs.Values.{ConfigValue}
use Rattle.entity_parts.specs.FirstLanes.{first_lane}
use Rattle.entity_routing.specs.declared.place.Place.{Place}
use Rattle.indications.specs.LaneLists.{of_lane, told_of}
use Rattle.lane_table.specs.Lane.{issued_in, log_from}
use Rattle.txn_events.specs.declared.event.Event.{Event}
use Rattle.world_table.specs.Histories.{events_for, mine, taken_by}
use Rattle.journal_recording.specs.Recording.{IsScriptOf}

-- the takes of a script give its user all that the entity issued to that user
abbrev pub TakesAll : Type 0
TakesAll = (config : ConfigValue) (first : Option ℕ) (place : Place) (journal : List Event) (text : List ℕ)
    → (is : IsScriptOf config first place journal text)
    → taken_by (first_lane is.begun) is.history place.user ≡ mine (first_lane is.begun) is.history place.user

-- where the lane's transaction with a number has exactly these events, what the takes give of that transaction is
-- exactly what the log of the journal issues
abbrev pub TakesWhatWasIssued : Type 0
TakesWhatWasIssued = (config : ConfigValue) (first : Option ℕ) (place : Place) (journal : List Event) (text : List ℕ) (number : ℕ)
    → (is : IsScriptOf config first place journal text)
    → events_for (first_lane is.begun) is.history place.user place.lane number ≡ journal
    → told_of number (of_lane place.lane (taken_by (first_lane is.begun) is.history place.user))
    ≡ issued_in (log_from (first_lane is.begun place.user place.lane).side (first_lane is.begun place.user place.lane).source (Some number) journal)
