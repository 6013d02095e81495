-- Meaning. The file that is handed to the file store.
use Rattle.std.specs.Prelude.{ℕ, if◌then◌else◌, Option, Some, None, Result, Ok, Err}
use Rattle.cfdp_types.specs.Steps.{is_stamp}
use Rattle.cfdp_types.specs.declared.image.Image.{Image}
use Rattle.txn_events.specs.declared.refusal.Refusal.{Refusal}
use Rattle.txn_events.specs.declared.refusal.Refusal.TheVariants.{StaleStored}
use Rattle.pdu_values.specs.declared.bodies.Metadata.{Metadata}
use Rattle.pdu_values.specs.declared.bodies.Eof.{Eof}
use Rattle.receiver_table.specs.Reception.{State}
use Rattle.receiver_table.specs.Answers.{octets_from}

-- the file with the names in its Metadata and the octets below its EOF's size, of each offset the one received first
abbrev pub image_of : (ℕ → Option ℕ) → Option Metadata → Option Eof → Option Image
image_of received (Some m) (Some e) = Some (record {
  source_name = m.source_name;
  destination_name = m.destination_name;
  octets = octets_from received 0 e.size;
})
image_of received _ _ = None

abbrev pub or_stale : Option Image → Result Image Refusal
or_stale (Some image) = Ok image
or_stale None = Err StaleStored

-- the file of the waiting deposit, which has this stamp
abbrev pub image_at : State → ℕ → Result Image Refusal
image_at state stamp = if is_stamp state.waiting stamp then or_stale (image_of state.received state.metadata state.eof) else Err StaleStored
