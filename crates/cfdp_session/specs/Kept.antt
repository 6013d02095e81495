-- Meaning. What a session keeps for its caller, by place.
use Rattle.std.specs.Prelude.{ℕ, Bool, false, List, [], ◌∷◌, Option, Some, None, Result, Ok, Err, slice_get}
use Rattle.cfdp_types.specs.declared.key.EntityId.{EntityId}
use Rattle.cfdp_types.specs.declared.image.Image.{Image}
use Rattle.cfdp_types.specs.declared.key.Deposit.{Deposit}
use Rattle.cfdp_types.specs.declared.timer_op.TimerOp.{TimerOp}
use Rattle.pdu_values.specs.Pdu.{PduValue}
use Rattle.pdu_values.specs.declared.pdu.Direction.{Direction}
use Rattle.pdu_values.specs.declared.pdu.Direction.TheVariants.{TowardReceiver, TowardSender}
use Rattle.pdu_values.specs.declared.pdu.Header.{Header}
use Rattle.entity_parts.specs.Refusals.{is_passing}
use Rattle.indications.specs.declared.bundle.Bundle.{Bundle}
use Rattle.indications.specs.declared.indication.Indication.{Indication}
use Rattle.indications.specs.declared.indication.Indication.TheVariants as told
use Rattle.lane_table.specs.declared.done.Done.{Done}
use Rattle.entity_parts.specs.declared.refusal.EntityRefusal.{EntityRefusal}
use Rattle.entity_parts.specs.declared.refusal.EntityRefusal.TheVariants as answer

-- the last event's result, if there was one
abbrev pub Last : Type 0
Last = Option (Result Done EntityRefusal)

-- one thing, or none, as a list
abbrev pub listed : {A : Type 0} → Option A → List A
listed None = []
listed (Some item) = item ∷ []

-- the PDUs to send: those of the step, or the one that answers a PDU of an old transaction
abbrev pub pdus_of : Last → List PduValue
pdus_of (Some (Ok done)) = done.pdus
pdus_of (Some (Err (answer.Lane refused))) = listed refused.echo
pdus_of _ = []

-- the entity to which a PDU goes: the receiver of the file, or its sender
abbrev pub toward : Direction → EntityId → EntityId → EntityId
toward TowardReceiver source destination = destination
toward TowardSender source destination = source

abbrev pub addressed : Header → EntityId
addressed header = toward header.direction header.source header.destination

abbrev pub addressee : PduValue → EntityId
addressee pdu = addressed pdu.header

-- whether the event was refused, and may come again
abbrev pub is_put_off : Last → Bool
is_put_off (Some (Err why)) = is_passing why
is_put_off _ = false

-- the timer operations of the step
abbrev pub timers_of : Last → List TimerOp
timers_of (Some (Ok done)) = done.timers
timers_of _ = []

-- the file that the step handed to the file store
abbrev pub deposit_of : Last → Option Deposit
deposit_of (Some (Ok done)) = done.deposit
deposit_of _ = None

-- the indications of the bundle that was taken last
abbrev pub indications_of : Option Bundle → List Indication
indications_of (Some bundle) = bundle.inds
indications_of None = []

-- the texts of an indication: both file names, then the messages
abbrev pub parts_of : Indication → List (List ℕ)
parts_of (told.MetadataRecv metadata) = metadata.source_name ∷ metadata.destination_name ∷ metadata.messages
parts_of _ = []

-- the texts of the indication at a place
abbrev pub parts_at : Option Indication → List (List ℕ)
parts_at (Some indication) = parts_of indication
parts_at None = []

-- the octets of a file that was requested: both names, then the content
abbrev pub image_parts : Option Image → List (List ℕ)
image_parts (Some image) = image.source_name ∷ image.destination_name ∷ image.octets ∷ []
image_parts None = []
