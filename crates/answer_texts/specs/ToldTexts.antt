-- Meaning. The text that is printed for a user's indications.
use Rattle.std.specs.Prelude.{ℕ, ◌==◌, if◌then◌else◌, List, [], ◌++◌, codes, decimal, length}
use Rattle.std.specs.List.{flat_map}
use Rattle.hex.specs.Hex.{encode_lower}
use Rattle.cfdp_types.specs.declared.key.EntityId.{EntityId}
use Rattle.cfdp_types.specs.declared.key.TxnKey.{TxnKey}
use Rattle.cfdp_types.specs.declared.names.Delivery.{Delivery}
use Rattle.cfdp_types.specs.declared.names.Delivery.TheVariants.{Complete, Incomplete}
use Rattle.cfdp_types.specs.declared.names.FileStatus.{FileStatus}
use Rattle.cfdp_types.specs.declared.names.FileStatus.TheVariants.{Discarded, Rejected, Retained, Unreported}
use Rattle.indications.specs.declared.indication.Phase.{Phase}
use Rattle.indications.specs.declared.indication.Phase.TheVariants.{Active, Suspended as SuspendedPhase, Storing as StoringPhase, Closing}
use Rattle.indications.specs.declared.indication.Indication.{Indication}
use Rattle.indications.specs.declared.indication.Indication.TheVariants.{Transaction, EofSent, EofRecv, TransactionFinished, MetadataRecv, FileSegmentRecv, Suspended as SuspendedIndication, Resumed, Report, Fault, Abandoned}
use Rattle.indications.specs.declared.bundle.Bundle.{Bundle}

-- the printed name of a delivery code: whether the receiver has the whole file
abbrev pub delivery_name : Delivery → List ℕ
delivery_name Complete = codes "complete"
delivery_name Incomplete = codes "incomplete"

-- the printed name of a file status: what became of the file
abbrev pub status_name : FileStatus → List ℕ
status_name Discarded = codes "discarded"
status_name Rejected = codes "rejected"
status_name Retained = codes "retained"
status_name Unreported = codes "unreported"

-- the printed name of a transaction's phase
abbrev pub phase_name : Phase → List ℕ
phase_name Active = codes "active"
phase_name SuspendedPhase = codes "suspended"
phase_name StoringPhase = codes "storing"
phase_name Closing = codes "closing"

-- the printed name of an indication
abbrev pub indication_name : Indication → List ℕ
indication_name Transaction = codes "Transaction"
indication_name EofSent = codes "EOF-Sent"
indication_name EofRecv = codes "EOF-Recv"
indication_name (TransactionFinished condition delivery status) = codes "Transaction-Finished"
indication_name (MetadataRecv metadata) = codes "Metadata-Recv"
indication_name (FileSegmentRecv offset octets) = codes "File-Segment-Recv"
indication_name (SuspendedIndication condition) = codes "Suspended"
indication_name (Resumed progress) = codes "Resumed"
indication_name (Report phase progress) = codes "Report"
indication_name (Fault condition progress) = codes "Fault"
indication_name (Abandoned condition progress) = codes "Abandoned"

-- octets in hex, or a dash if there are none
abbrev pub hex_word : List ℕ → List ℕ
hex_word octets = if length octets == 0 then codes "-" else encode_lower octets

-- the messages, each in hex after a space
abbrev pub messages_text : List (List ℕ) → List ℕ
messages_text messages = flat_map (λ message. codes " " ++ hex_word message) messages

-- a space and a number
abbrev pub operand : ℕ → List ℕ
operand number = codes " " ++ decimal number

-- a segment of a file: its offset and its length
abbrev pub segment_text : ℕ → ℕ → List ℕ
segment_text offset octets = operand offset ++ operand octets

-- a transaction's phase and its progress
abbrev pub report_text : Phase → ℕ → List ℕ
report_text phase progress = codes " " ++ (phase_name phase ++ operand progress)

-- a condition and a progress
abbrev pub fault_text : ℕ → ℕ → List ℕ
fault_text condition progress = operand condition ++ operand progress

-- how a transaction ended
abbrev pub finished_text : ℕ → Delivery → FileStatus → List ℕ
finished_text condition delivery status =
    operand condition ++ (codes " " ++ (delivery_name delivery ++ (codes " " ++ status_name status)))

-- a file's source entity, size and names
abbrev pub metadata_text : EntityId → ℕ → List ℕ → List ℕ → List ℕ
metadata_text source size source_name destination_name =
    operand source.0 ++ (operand size ++ (codes " " ++ (hex_word source_name ++ (codes " " ++ hex_word destination_name))))

-- an indication's operands, which follow its name
abbrev pub operands_text : Indication → List ℕ
operands_text Transaction = []
operands_text EofSent = []
operands_text EofRecv = []
operands_text (TransactionFinished condition delivery status) =
    finished_text condition delivery status
operands_text (MetadataRecv metadata) =
    metadata_text metadata.source metadata.size metadata.source_name metadata.destination_name ++ messages_text metadata.messages
operands_text (FileSegmentRecv offset octets) = segment_text offset octets
operands_text (SuspendedIndication condition) = operand condition
operands_text (Resumed progress) = operand progress
operands_text (Report phase progress) = report_text phase progress
operands_text (Fault condition progress) = fault_text condition progress
operands_text (Abandoned condition progress) = fault_text condition progress

-- an indication: its name and its operands
abbrev pub indication_text : Indication → List ℕ
indication_text said = indication_name said ++ operands_text said

-- a transaction ID's two numbers
abbrev pub key_text : TxnKey → List ℕ
key_text key = decimal key.source.0 ++ (codes " " ++ decimal key.seq)

-- the beginning of a line: the user's name and the transaction
abbrev pub line_head : List ℕ → Bundle → List ℕ
line_head name bundle = name ++ (codes " " ++ (key_text bundle.key ++ codes " "))

-- a line for each indication of a bundle
abbrev pub bundle_text : List ℕ → Bundle → List ℕ
bundle_text name bundle =
    flat_map (λ indication. line_head name bundle ++ (indication_text indication ++ codes "\n")) bundle.inds
