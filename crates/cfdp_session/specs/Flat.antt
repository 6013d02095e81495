-- Meaning. Answers as numbers.
use Rattle.std.specs.Prelude.{ℕ, ◌+◌, nat_lt, if◌then◌else◌, List, length, Option, Some, None, option_and_then, Result, Ok, Err}
use Rattle.cfdp_types.specs.declared.image.Image.{Image}
use Rattle.cfdp_types.specs.declared.key.Deposit.{Deposit}
use Rattle.cfdp_types.specs.declared.names.Class.{Class}
use Rattle.cfdp_types.specs.declared.names.Class.TheVariants.{One, Two}
use Rattle.cfdp_types.specs.declared.names.Delivery.{Delivery}
use Rattle.cfdp_types.specs.declared.names.Delivery.TheVariants.{Complete, Incomplete}
use Rattle.cfdp_types.specs.declared.names.FileStatus.{FileStatus}
use Rattle.cfdp_types.specs.declared.names.FileStatus.TheVariants.{Discarded, Rejected, Retained, Unreported}
use Rattle.cfdp_types.specs.declared.names.TimerKind.{TimerKind}
use Rattle.cfdp_types.specs.declared.names.TimerKind.TheVariants as timer
use Rattle.cfdp_types.specs.declared.timer_op.TimerOp.{TimerOp}
use Rattle.cfdp_types.specs.declared.timer_op.TimerOp.TheVariants.{Arm, Disarm}
use Rattle.pdu_reading.specs.Fault.{fault_number}
use Rattle.indications.specs.declared.bundle.Bundle.{Bundle}
use Rattle.indications.specs.declared.indication.Indication.{Indication}
use Rattle.indications.specs.declared.indication.Indication.TheVariants as told
use Rattle.indications.specs.declared.indication.Phase.{Phase}
use Rattle.indications.specs.declared.indication.Phase.TheVariants as phase
use Rattle.indications.specs.declared.side.Side.{Side}
use Rattle.indications.specs.declared.side.Side.TheVariants.{Sender, Receiver}
use Rattle.lane_table.specs.declared.done.Done.{Done}
use Rattle.lane_table.specs.declared.glance.Glance.{Glance}
use Rattle.lane_table.specs.declared.glance.GlancedFile.{GlancedFile}
use Rattle.entity_routing.specs.declared.refusal.RouteRefusal.{RouteRefusal}
use Rattle.entity_routing.specs.declared.refusal.RouteRefusal.TheVariants.{DecodeFault}
use Rattle.entity_parts.specs.Refusals.{number_of}
use Rattle.entity_parts.specs.declared.refusal.EntityRefusal.{EntityRefusal}
use Rattle.entity_parts.specs.declared.refusal.EntityRefusal.TheVariants as answer
use Rattle.cfdp_session.specs.declared.flat.FlatBundle.{FlatBundle}
use Rattle.cfdp_session.specs.declared.flat.FlatDeposit.{FlatDeposit}
use Rattle.cfdp_session.specs.declared.flat.FlatDone.{FlatDone}
use Rattle.cfdp_session.specs.declared.flat.FlatImage.{FlatImage}
use Rattle.cfdp_session.specs.declared.flat.FlatIndication.{FlatIndication}
use Rattle.cfdp_session.specs.declared.flat.FlatTimer.{FlatTimer}
use Rattle.cfdp_session.specs.declared.flat.FlatKey.{FlatKey}
use Rattle.cfdp_session.specs.declared.flat.FlatRemote.{FlatRemote}
use Rattle.cfdp_session.specs.declared.flat.FlatTransaction.{FlatTransaction}
use Rattle.config_reading.specs.Values.{ConfigValue}
use Rattle.entity_routing.specs.Places.{lanes_of}
use Rattle.world_core.specs.Posts.{Post, glance_at}
use Rattle.config_reading.specs.declared.remote.Remote.{Remote}
use Rattle.cfdp_session.specs.Kept.{Last, pdus_of, parts_of}

-- ---- codes

abbrev pub kind_code : TimerKind → ℕ
kind_code timer.Ack = 1
kind_code timer.Nak = 2
kind_code timer.Check = 3
kind_code timer.Inactivity = 4

abbrev pub delivery_code : Delivery → ℕ
delivery_code Complete = 0
delivery_code Incomplete = 1

abbrev pub status_code : FileStatus → ℕ
status_code Discarded = 0
status_code Rejected = 1
status_code Retained = 2
status_code Unreported = 3

abbrev pub phase_code : Phase → ℕ
phase_code phase.Active = 1
phase_code phase.Suspended = 2
phase_code phase.Storing = 3
phase_code phase.Closing = 4

abbrev pub side_code : Side → ℕ
side_code Sender = 1
side_code Receiver = 0

abbrev pub class_code : Class → ℕ
class_code One = 1
class_code Two = 2

-- ---- the result of an event

-- 1 for a deposit
abbrev pub deposit_flag : Option Deposit → ℕ
deposit_flag None = 0
deposit_flag (Some deposit) = 1

-- the decoding fault's number, if that is why no lane gets the event
abbrev pub decoding : RouteRefusal → ℕ
decoding (DecodeFault fault) = fault_number fault
decoding _ = 0

-- the decoding fault's number, if that is why the event is refused
abbrev pub fault_in : EntityRefusal → ℕ
fault_in (answer.Route why) = decoding why
fault_in _ = 0

-- the counts and numbers of a result; a refusal may have a PDU to send, too
abbrev pub flat_done : Last → FlatDone
flat_done None = record { source = 0; seq = 0; pdus = 0; timers = 0; refusal = 0; fault = 0; deposit = 0 }
flat_done (Some (Ok done)) =
    record { source = done.key.source.0; seq = done.key.seq; pdus = length done.pdus; timers = length done.timers; refusal = 0; fault = 0; deposit = deposit_flag done.deposit }
flat_done (Some (Err why)) =
    record { source = 0; seq = 0; pdus = length (pdus_of (Some (Err why))); timers = 0; refusal = number_of why; fault = fault_in why; deposit = 0 }

-- ---- timer operations, bundles and indications

abbrev pub flat_timer : TimerOp → FlatTimer
flat_timer (Arm key kind stamp ms) = record { source = key.source.0; seq = key.seq; stamp = stamp; ms = ms; kind = kind_code kind; arms = 1 }
flat_timer (Disarm key kind stamp) = record { source = key.source.0; seq = key.seq; stamp = stamp; ms = 0; kind = kind_code kind; arms = 0 }

-- a transaction of the entity's own, by its number
abbrev pub flat_own : ConfigValue → ℕ → FlatKey
flat_own config seq = record { source = config.entity.local.0; seq = seq }

-- the number of a user, or the greatest one
abbrev pub user_number : Option ℕ → ℕ
user_number (Some user) = user
user_number None = 18446744073709551615

-- the number of lanes of a user, if there is such a user
abbrev pub lanes_in : ConfigValue → ℕ → Option ℕ
lanes_in config user = if nat_lt user (length config.users) then Some (lanes_of config user) else None

abbrev pub flat_remote : Remote → FlatRemote
flat_remote remote = record { id = remote.id.0; user = user_number remote.user }

-- the octets of a file, and 1; 0 and 0 where they aren't known
abbrev pub sized_file : Option GlancedFile → ℕ × ℕ
sized_file (Some file) = (file.size, 1)
sized_file None = (0, 0)

-- a transaction, by a glance at its lane
abbrev pub flat_transaction : Glance → FlatTransaction
flat_transaction glance = record {
  source = glance.key.source.0;
  seq = glance.key.seq;
  peer = glance.peer.0;
  size = (sized_file glance.file).0;
  sends = side_code glance.end;
  class = class_code glance.class;
  phase = phase_code glance.phase;
  progress = glance.progress;
  sized = (sized_file glance.file).1;
  entries = glance.entries;
}

-- the same, of a transaction that has not ended
abbrev pub if_open : Glance → Option FlatTransaction
if_open glance = if glance.has_ended then None else Some (flat_transaction glance)

-- the transaction that a lane runs, if there is such a lane and it runs one
abbrev pub open_at : List Post → ℕ → ℕ → Option FlatTransaction
open_at posts user lane = option_and_then if_open (glance_at posts user lane)

abbrev pub flat_deposit : Deposit → FlatDeposit
flat_deposit deposit = record { source = deposit.key.source.0; seq = deposit.key.seq; stamp = deposit.stamp }

-- a received file by its lengths
abbrev pub flat_image : Image → FlatImage
flat_image image = record { source_name = length image.source_name; destination_name = length image.destination_name; octets = length image.octets; refusal = 0 }

-- no file, for this reason
abbrev pub flat_missing : EntityRefusal → FlatImage
flat_missing why = record { source_name = 0; destination_name = 0; octets = 0; refusal = number_of why }

abbrev pub flat_bundle : Bundle → FlatBundle
flat_bundle bundle =
    record { source = bundle.key.source.0; seq = bundle.key.seq; user = bundle.user; lane = bundle.lane; indications = length bundle.inds }

-- an indication of this kind, with no other number
abbrev pub bare : ℕ → FlatIndication
bare kind = record { kind = kind; condition = 0; delivery = 0; status = 0; phase = 0; offset = 0; length = 0; progress = 0; size = 0; source = 0; parts = 0 }

abbrev pub flat_indication : Indication → FlatIndication
flat_indication told.Transaction = bare 1
flat_indication told.EofSent = bare 2
flat_indication told.EofRecv = bare 3
flat_indication (told.TransactionFinished condition delivery status) =
    record (bare 4) { condition = condition; delivery = delivery_code delivery; status = status_code status }
flat_indication (told.MetadataRecv metadata) =
    record (bare 5) { source = metadata.source.0; size = metadata.size; parts = length metadata.messages + 2 }
flat_indication (told.FileSegmentRecv offset size) = record (bare 6) { offset = offset; length = size }
flat_indication (told.Suspended condition) = record (bare 7) { condition = condition }
flat_indication (told.Resumed progress) = record (bare 8) { progress = progress }
flat_indication (told.Report at progress) = record (bare 9) { phase = phase_code at; progress = progress }
flat_indication (told.Fault condition progress) = record (bare 10) { condition = condition; progress = progress }
flat_indication (told.Abandoned condition progress) = record (bare 11) { condition = condition; progress = progress }
