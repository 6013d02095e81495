-- Meaning. What a PDU says, in words for a person.
use Rattle.std.specs.Prelude.{ℕ, ◌-◌, ◌==◌, ◌&&◌, nat_lt, Bool, true, false, if◌then◌else◌, List, [], ◌∷◌, ◌++◌, length, Option, Some, None, codes, decimal}
use Rattle.std.specs.List.{flat_map, list_all}
use Rattle.std.specs.Int.{to_be_bytes, w32}
use Rattle.hex.specs.Hex.{encode_lower}
use Rattle.cfdp_types.specs.declared.key.EntityId.{EntityId}
use Rattle.cfdp_types.specs.declared.names.Class.{Class}
use Rattle.cfdp_types.specs.declared.names.Class.TheVariants.{One, Two}
use Rattle.cfdp_types.specs.declared.names.Delivery.{Delivery}
use Rattle.cfdp_types.specs.declared.names.Delivery.TheVariants.{Complete, Incomplete}
use Rattle.cfdp_types.specs.declared.names.FileStatus.{FileStatus}
use Rattle.cfdp_types.specs.declared.names.FileStatus.TheVariants.{Discarded, Rejected, Retained, Unreported}
use Rattle.pdu_values.specs.declared.bodies.Ack.{Ack}
use Rattle.pdu_values.specs.declared.bodies.Acknowledged.{Acknowledged}
use Rattle.pdu_values.specs.declared.bodies.Acknowledged.TheVariants as acknowledged
use Rattle.pdu_values.specs.declared.bodies.Eof.{Eof}
use Rattle.pdu_values.specs.declared.bodies.FileData.{FileData}
use Rattle.pdu_values.specs.declared.bodies.Finished.{Finished}
use Rattle.pdu_values.specs.declared.bodies.KeepAlive.{KeepAlive}
use Rattle.pdu_values.specs.declared.bodies.Metadata.{Metadata}
use Rattle.pdu_values.specs.declared.bodies.Nak.{Nak}
use Rattle.pdu_values.specs.declared.bodies.TransactionStatus.{TransactionStatus}
use Rattle.pdu_values.specs.declared.bodies.TransactionStatus.TheVariants.{Undefined, Active, Terminated, Unrecognized}
use Rattle.pdu_values.specs.declared.bodies.Prompt.TheVariants as prompt
use Rattle.pdu_values.specs.declared.pdu.Body.{Body}
use Rattle.pdu_values.specs.declared.pdu.Body.TheVariants as body
use Rattle.pdu_values.specs.declared.pdu.Direction.{Direction}
use Rattle.pdu_values.specs.declared.pdu.Direction.TheVariants.{TowardReceiver, TowardSender}
use Rattle.pdu_values.specs.declared.pdu.Header.{Header}
use Rattle.pdu_values.specs.declared.requests.SegmentRequest.{SegmentRequest}

-- ---- codes and names

-- what a condition code means
abbrev pub condition_words : ℕ → List ℕ
condition_words code =
    if code == 0 then codes "no error"
    else if code == 1 then codes "positive ACK limit reached"
    else if code == 2 then codes "Keep Alive limit reached"
    else if code == 3 then codes "invalid transmission mode"
    else if code == 4 then codes "filestore rejection"
    else if code == 5 then codes "file checksum failure"
    else if code == 6 then codes "file size error"
    else if code == 7 then codes "NAK limit reached"
    else if code == 8 then codes "inactivity detected"
    else if code == 9 then codes "invalid file structure"
    else if code == 10 then codes "check limit reached"
    else if code == 11 then codes "unsupported checksum type"
    else if code == 14 then codes "suspend requested"
    else if code == 15 then codes "cancel requested"
    else codes "reserved"

abbrev pub condition_text : ℕ → List ℕ
condition_text code =
    if code == 0 then condition_words code
    else codes "condition " ++ (decimal code ++ (codes ", " ++ condition_words code))

abbrev pub delivery_words : Delivery → List ℕ
delivery_words Complete = codes "the file is complete"
delivery_words Incomplete = codes "the file is incomplete"

abbrev pub file_words : FileStatus → List ℕ
file_words Discarded = codes "discarded"
file_words Rejected = codes "rejected by the file store"
file_words Retained = codes "retained"
file_words Unreported = codes "its status is not reported"

abbrev pub status_words : TransactionStatus → List ℕ
status_words Undefined = codes "transaction undefined"
status_words Active = codes "transaction active"
status_words Terminated = codes "transaction terminated"
status_words Unrecognized = codes "transaction unrecognized"

-- a name of printable ASCII without spaces
abbrev pub is_shown : List ℕ → Bool
is_shown name = list_all (λ octet. nat_lt octet 127 && nat_lt 32 octet) name

-- the name, if it can be shown as it stands
abbrev pub shown_of : List ℕ → Option (List ℕ)
shown_of name = if is_shown name then Some name else None

abbrev pub hex_text : List ℕ → List ℕ
hex_text name = codes "0x" ++ encode_lower name

abbrev pub name_text : List ℕ → List ℕ
name_text name = shown_text (shown_of name)
  where
    shown_text : Option (List ℕ) → List ℕ
    shown_text None = hex_text name
    shown_text (Some shown) = shown

-- ---- bodies

-- the entity that ended the transaction, if it is named
abbrev pub location_text : Option EntityId → List ℕ
location_text None = []
location_text (Some id) = codes ", by entity " ++ decimal id.0

-- a checksum in eight hex digits
abbrev pub checksum_text : ℕ → List ℕ
checksum_text checksum = encode_lower (to_be_bytes w32 checksum)

abbrev pub eof_text : Eof → List ℕ
eof_text eof =
    codes "EOF: " ++ (condition_text eof.condition ++ (codes ", " ++ (decimal eof.size ++ (codes " octets, checksum "
    ++ (checksum_text eof.checksum ++ location_text eof.location)))))

abbrev pub finished_text : Finished → List ℕ
finished_text finished =
    codes "Finished: " ++ (condition_text finished.condition ++ (codes ", " ++ (delivery_words finished.delivery
    ++ (codes ", " ++ (file_words finished.status ++ location_text finished.location)))))

abbrev pub acknowledged_words : Acknowledged → List ℕ
acknowledged_words acknowledged.Eof = codes "EOF"
acknowledged_words acknowledged.Finished = codes "Finished"

abbrev pub ack_text : Ack → List ℕ
ack_text ack =
    codes "ACK of the " ++ (acknowledged_words ack.of ++ (codes ": " ++ (condition_text ack.condition ++ (codes ", " ++ status_words ack.status))))

abbrev pub checksum_words : ℕ → List ℕ
checksum_words kind =
    if kind == 0 then codes "modular checksum"
    else if kind == 15 then codes "null checksum"
    else codes "another checksum"

abbrev pub closure_words : Bool → List ℕ
closure_words true = codes ", closure requested"
closure_words false = []

abbrev pub metadata_text : Metadata → List ℕ
metadata_text metadata =
    codes "Metadata: " ++ (decimal metadata.size ++ (codes " octets, " ++ (name_text metadata.source_name ++ (codes " to "
    ++ (name_text metadata.destination_name ++ (codes ", " ++ (checksum_words metadata.checksum_type ++ closure_words metadata.closure)))))))

-- what a segment request asks for; 0 to 0 means the Metadata
abbrev pub request_text : SegmentRequest → List ℕ
request_text request =
    if nat_lt request.start request.end then codes ", asks for octets " ++ (decimal request.start ++ (codes " to " ++ decimal (request.end - 1)))
    else if request.end == 0 then codes ", asks for the Metadata"
    else codes ", asks for nothing at " ++ decimal request.start

abbrev pub nak_text : Nak → List ℕ
nak_text nak = codes "NAK" ++ flat_map request_text nak.requests

abbrev pub keep_alive_text : KeepAlive → List ℕ
keep_alive_text keep_alive = codes "Keep Alive: " ++ (decimal keep_alive.progress ++ codes " octets so far")

abbrev pub segment_text : FileData → List ℕ
segment_text segment = codes "File Data: " ++ (decimal (length segment.octets) ++ (codes " octets at " ++ decimal segment.offset))

-- what a PDU says, by its kind
abbrev pub body_text : Body → List ℕ
body_text (body.Eof eof) = eof_text eof
body_text (body.Finished finished) = finished_text finished
body_text (body.Ack ack) = ack_text ack
body_text (body.Metadata metadata) = metadata_text metadata
body_text (body.Nak nak) = nak_text nak
body_text (body.Prompt prompt.Nak) = codes "Prompt for a NAK"
body_text (body.Prompt prompt.KeepAlive) = codes "Prompt for a Keep Alive"
body_text (body.KeepAlive keep_alive) = keep_alive_text keep_alive
body_text (body.FileData segment) = segment_text segment

-- ---- headers

abbrev pub class_words : Class → List ℕ
class_words One = codes "class 1"
class_words Two = codes "class 2"

abbrev pub direction_words : Direction → List ℕ
direction_words TowardReceiver = codes "receiver"
direction_words TowardSender = codes "sender"

-- the class, and the end that the PDU goes to
abbrev pub way_text : Header → List ℕ
way_text header = class_words header.class ++ (codes ", toward the " ++ direction_words header.direction)

abbrev pub transaction_text : Header → List ℕ
transaction_text header =
    codes "transaction " ++ (decimal header.sequence ++ (codes " of entity " ++ (decimal header.source.0 ++ (codes " to entity " ++ decimal header.destination.0))))
