-- Meaning. The recording of a transaction.
use Rattle.std.specs.Prelude.{◌≡◌, ℕ, List, Option, string_bytes}
use Rattle.config_reading.specs.Values.{ConfigValue}
use Rattle.entity_routing.specs.declared.place.Place.{Place}
use Rattle.journal_recording.specs.Recording.{IsScriptOf}
use Rattle.txn_events.specs.declared.event.Event.{Event}
use Rattle.program_recorder.specs.Headings.{heading_text}
use Rattle.program_recorder.specs.declared.heading.Facts.{Facts}
use Rattle.program_recorder.specs.declared.recording.Recording.{Recording}

-- the first lines, and the script of the journal
pub record IsRecordingOf (config : ConfigValue) (first : Option ℕ) (place : Place) (facts : Facts) (journal : List Event) (recording : Recording) : Type 0 where
  pub heading_is : string_bytes recording.heading ≡ heading_text facts
  pub script_is : IsScriptOf config first place journal (string_bytes recording.script)
