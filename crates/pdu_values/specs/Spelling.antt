-- Meaning. How a protocol data unit is spelled in octets (CCSDS 727.0-B-5, 5). What the standard leaves open,
-- such as spare bits and optional fields without a meaning here, is a choice: each choice gives one
-- spelling.
use Rattle.std.specs.Prelude.{◌≡◌, ℕ, ◌+◌, ◌-◌, ◌*◌, ◌^◌, ◌<◌, ◌≤◌, Bool, true, false, List, [], ◌++◌, length, map, Option, Some, None, IsTrue}
use Rattle.std.specs.List.{flat_map, AllByRecursion}
pub use Rattle.cfdp_types.specs.Params.{IsIdLength}
pub use Rattle.pdu_values.specs.Requests.{size_octets, request, RequestFits}
use Rattle.cfdp_types.specs.declared.key.EntityId.{EntityId}
use Rattle.cfdp_types.specs.declared.names.Class.{Class}
use Rattle.cfdp_types.specs.declared.names.Class.TheVariants.{One, Two}
use Rattle.cfdp_types.specs.declared.names.Delivery.{Delivery}
use Rattle.cfdp_types.specs.declared.names.Delivery.TheVariants.{Complete, Incomplete}
use Rattle.cfdp_types.specs.declared.names.FileStatus.{FileStatus}
use Rattle.cfdp_types.specs.declared.names.FileStatus.TheVariants.{Discarded, Rejected, Retained, Unreported}
use Rattle.pdu_values.specs.declared.bodies.Acknowledged.{Acknowledged}
use Rattle.pdu_values.specs.declared.bodies.Acknowledged.TheVariants as acknowledged
use Rattle.pdu_values.specs.declared.bodies.TransactionStatus.{TransactionStatus}
use Rattle.pdu_values.specs.declared.bodies.TransactionStatus.TheVariants.{Undefined, Active, Terminated, Unrecognized}
use Rattle.pdu_values.specs.declared.bodies.Prompt.{Prompt}
use Rattle.pdu_values.specs.declared.bodies.Prompt.TheVariants as prompts
use Rattle.pdu_values.specs.declared.bodies.Eof as eof_type
use Rattle.pdu_values.specs.declared.bodies.Finished as finished_type
use Rattle.pdu_values.specs.declared.bodies.Ack as ack_type
use Rattle.pdu_values.specs.declared.bodies.Metadata as metadata_type
use Rattle.pdu_values.specs.declared.bodies.Nak as nak_type
use Rattle.pdu_values.specs.declared.bodies.KeepAlive as keep_alive_type
use Rattle.pdu_values.specs.declared.bodies.FileData as file_data_type
use Rattle.pdu_values.specs.declared.directive.Directive.TheVariants as directives
use Rattle.pdu_values.specs.declared.pdu.Direction.{Direction}
use Rattle.pdu_values.specs.declared.pdu.Direction.TheVariants.{TowardReceiver, TowardSender}
use Rattle.pdu_values.specs.declared.pdu.Header.{Header}
use Rattle.pdu_values.specs.declared.pdu.Body.{Body}
use Rattle.pdu_values.specs.declared.pdu.Body.TheVariants as bodies
use Rattle.pdu_values.specs.Directive.{directive_code}
use Rattle.pdu_values.specs.Pdu.{PduValue}
use Rattle.pdu_values.specs.Numbers.{digits}
use Rattle.pdu_values.specs.Tlvs.{Tlv, messages_in, location_in, may_locate, message_tlv, location_tlvs}

-- what a writer may choose
pub record Choice : Type 0 where
  -- the segmentation control bit of the header
  pub control : ℕ
  -- the segment metadata flag of the header; it means nothing on a directive
  pub flag : Bool
  -- the record continuation state of File Data with segment metadata
  pub state : ℕ
  -- the segment metadata of File Data that has it
  pub segment_metadata : List ℕ
  -- the spare bits of EOF, Finished, ACK and Prompt; in Metadata those after the closure bit
  pub spare : ℕ
  -- the reserved bit of Metadata before the closure bit
  pub reserved : ℕ
  -- the subtype code of the directive that an ACK acknowledges
  pub subtype : ℕ
  -- the optional fields of EOF, Finished and Metadata
  pub tlvs : List Tlv

-- ---- bits

-- a flag's bit
abbrev pub bit : Bool → ℕ
bit false = 0
bit true = 1

-- 0 where the receiver has the whole file
abbrev pub delivery_bit : Delivery → ℕ
delivery_bit Complete = 0
delivery_bit Incomplete = 1

-- the two bits of a file's status
abbrev pub file_status_bits : FileStatus → ℕ
file_status_bits Discarded = 0
file_status_bits Rejected = 1
file_status_bits Retained = 2
file_status_bits Unreported = 3

-- the two bits of a transaction's status
abbrev pub transaction_status_bits : TransactionStatus → ℕ
transaction_status_bits Undefined = 0
transaction_status_bits Active = 1
transaction_status_bits Terminated = 2
transaction_status_bits Unrecognized = 3

-- the code of an acknowledged directive
abbrev pub acknowledged_code : Acknowledged → ℕ
acknowledged_code acknowledged.Eof = directive_code directives.Eof
acknowledged_code acknowledged.Finished = directive_code directives.Finished

-- what a Prompt asks for
abbrev pub prompt_bit : Prompt → ℕ
prompt_bit prompts.Nak = 0
prompt_bit prompts.KeepAlive = 1

-- ---- fields

-- a length in one octet, and the value
abbrev pub lv : List ℕ → List ℕ
lv value = digits 1 (length value) ++ value

-- a type in one octet, a length in one octet, and the value
abbrev pub tlv : Tlv → List ℕ
tlv t = digits 1 t.kind ++ lv t.value

-- ---- the fields of a directive after its code, and file data; `width` is that of sizes and offsets in octets

-- EOF (5.2.2)
abbrev pub eof : ℕ → ℕ → List Tlv → eof_type.Eof → List ℕ
eof width spare tlvs e =
    digits 1 (16 * e.condition + spare) ++ (digits 4 e.checksum ++ (digits width e.size ++ flat_map tlv tlvs))

-- Finished (5.2.3)
abbrev pub finished : ℕ → List Tlv → finished_type.Finished → List ℕ
finished spare tlvs f =
    digits 1 (16 * f.condition + 8 * spare + 4 * delivery_bit f.delivery + file_status_bits f.status)
    ++ flat_map tlv tlvs

-- ACK (5.2.4)
abbrev pub ack : ℕ → ℕ → ack_type.Ack → List ℕ
ack subtype spare a =
    digits 1 (16 * acknowledged_code a.of + subtype) ++ digits 1 (16 * a.condition + 4 * spare + transaction_status_bits a.status)

-- Metadata (5.2.5)
abbrev pub metadata : ℕ → ℕ → ℕ → List Tlv → metadata_type.Metadata → List ℕ
metadata width reserved spare tlvs m =
    digits 1 (128 * reserved + 64 * bit m.closure + 16 * spare + m.checksum_type)
    ++ (digits width m.size ++ (lv m.source_name ++ (lv m.destination_name ++ flat_map tlv tlvs)))

-- NAK (5.2.6)
abbrev pub nak : ℕ → nak_type.Nak → List ℕ
nak width n = digits width n.start ++ (digits width n.end ++ flat_map (request width) n.requests)

-- Prompt (5.2.7)
abbrev pub prompt : ℕ → Prompt → List ℕ
prompt spare p = digits 1 (128 * prompt_bit p + spare)

-- Keep Alive (5.2.8)
abbrev pub keep_alive : ℕ → keep_alive_type.KeepAlive → List ℕ
keep_alive width k = digits width k.progress

-- the segment metadata before File Data, present where the flag is set
abbrev pub segment : Bool → ℕ → List ℕ → List ℕ
segment false state segment_metadata = []
segment true state segment_metadata = digits 1 (64 * state + length segment_metadata) ++ segment_metadata

-- File Data (5.3)
abbrev pub file_data : ℕ → file_data_type.FileData → List ℕ
file_data width f = digits width f.offset ++ f.octets

-- the data field: a directive's code and its fields, or file data
abbrev pub data_field : ℕ → Choice → Body → List ℕ
data_field width choice (bodies.Eof e) =
    digits 1 (directive_code directives.Eof) ++ eof width choice.spare choice.tlvs e
data_field width choice (bodies.Finished f) =
    digits 1 (directive_code directives.Finished) ++ finished choice.spare choice.tlvs f
data_field width choice (bodies.Ack a) = digits 1 (directive_code directives.Ack) ++ ack choice.subtype choice.spare a
data_field width choice (bodies.Metadata m) =
    digits 1 (directive_code directives.Metadata)
    ++ metadata width choice.reserved choice.spare choice.tlvs m
data_field width choice (bodies.Nak n) = digits 1 (directive_code directives.Nak) ++ nak width n
data_field width choice (bodies.Prompt p) = digits 1 (directive_code directives.Prompt) ++ prompt choice.spare p
data_field width choice (bodies.KeepAlive k) = digits 1 (directive_code directives.KeepAlive) ++ keep_alive width k
data_field width choice (bodies.FileData f) =
    segment choice.flag choice.state choice.segment_metadata ++ file_data width f

-- ---- the fixed header (5.1)

-- 1 for file data, 0 for a directive
abbrev pub type_bit : Body → ℕ
type_bit (bodies.Eof e) = 0
type_bit (bodies.Finished f) = 0
type_bit (bodies.Ack a) = 0
type_bit (bodies.Metadata m) = 0
type_bit (bodies.Nak n) = 0
type_bit (bodies.Prompt p) = 0
type_bit (bodies.KeepAlive k) = 0
type_bit (bodies.FileData f) = 1

-- 0 toward the receiver, 1 toward the sender
abbrev pub direction_bit : Direction → ℕ
direction_bit TowardReceiver = 0
direction_bit TowardSender = 1

-- the transmission mode: 0 acknowledged, 1 unacknowledged
abbrev pub mode_bit : Class → ℕ
mode_bit Two = 0
mode_bit One = 1

-- the first octet: version 001, type, direction, mode, no CRC, and the large file flag
abbrev pub first_octet : PduValue → ℕ
first_octet pdu =
    32 + 16 * type_bit pdu.body + 8 * direction_bit pdu.header.direction + 4 * mode_bit pdu.header.class + bit pdu.header.large

-- the octet of lengths: segmentation control, segment metadata flag, and the two lengths, each minus one
abbrev pub lengths_octet : Choice → Header → ℕ
lengths_octet choice header =
    128 * choice.control + 16 * (header.entity_octets - 1) + 8 * bit choice.flag + (header.sequence_octets - 1)

-- the two entity IDs, and the transaction sequence number between them
abbrev pub ids : Header → List ℕ
ids header =
    digits header.entity_octets header.source.0
    ++ (digits header.sequence_octets header.sequence ++ digits header.entity_octets header.destination.0)

-- a PDU in octets, with a choice
unfoldable pub spelling : Choice → PduValue → List ℕ
spelling choice pdu =
    let field = data_field (size_octets pdu.header.large) choice pdu.body in
    (digits 1 (first_octet pdu)
    ++ (digits 2 (length field) ++ (digits 1 (lengths_octet choice pdu.header) ++ ids pdu.header)))
    ++ field

-- ---- what is written

-- the subtype code that is written: 1 for Finished, otherwise 0
abbrev pub acknowledged_subtype : Acknowledged → ℕ
acknowledged_subtype acknowledged.Eof = 0
acknowledged_subtype acknowledged.Finished = 1

abbrev pub plain_subtype : Body → ℕ
plain_subtype (bodies.Eof e) = 0
plain_subtype (bodies.Finished f) = 0
plain_subtype (bodies.Ack a) = acknowledged_subtype a.of
plain_subtype (bodies.Metadata m) = 0
plain_subtype (bodies.Nak n) = 0
plain_subtype (bodies.Prompt p) = 0
plain_subtype (bodies.KeepAlive k) = 0
plain_subtype (bodies.FileData f) = 0

-- the optional fields that the body needs, where IDs have this many octets in the header
abbrev pub plain_tlvs : ℕ → Body → List Tlv
plain_tlvs entity_octets (bodies.Eof e) = location_tlvs entity_octets e.location
plain_tlvs entity_octets (bodies.Finished f) = location_tlvs entity_octets f.location
plain_tlvs entity_octets (bodies.Ack a) = []
plain_tlvs entity_octets (bodies.Metadata m) = map message_tlv m.messages
plain_tlvs entity_octets (bodies.Nak n) = []
plain_tlvs entity_octets (bodies.Prompt p) = []
plain_tlvs entity_octets (bodies.KeepAlive k) = []
plain_tlvs entity_octets (bodies.FileData f) = []

-- the choice that is written: all spare bits zero, and only the optional fields that the PDU needs
abbrev pub plain_choice : PduValue → Choice
plain_choice pdu = record {
  control = 0;
  flag = false;
  state = 0;
  segment_metadata = [];
  spare = 0;
  reserved = 0;
  subtype = plain_subtype pdu.body;
  tlvs = plain_tlvs pdu.header.entity_octets pdu.body;
}

-- the octets that are written: the spelling with that choice
unfoldable pub written : PduValue → List ℕ
written pdu = spelling (plain_choice pdu) pdu

-- ---- what can be spelled

-- a file name
pub record IsName (name : List ℕ) : Type 0 where
  pub least : 1 ≤ length name
  pub most : length name < 256

-- a message to the user
abbrev pub IsMessage : List ℕ → Type 0
IsMessage message = length message < 256

-- an entity ID that has 1 to 8 octets
abbrev pub IsLocation : Option EntityId → Type 0
IsLocation None = Unit {0}
IsLocation (Some id) = id.0 < 256 ^ 8

-- every number of EOF fits its field
pub record EofFits (width : ℕ) (e : eof_type.Eof) : Type 0 where
  pub condition : e.condition < 16
  pub checksum : e.checksum < 2 ^ 32
  pub size : e.size < 256 ^ width
  pub location : IsLocation e.location

-- every number of Finished fits its field
pub record FinishedFits (f : finished_type.Finished) : Type 0 where
  pub condition : f.condition < 16
  pub location : IsLocation f.location

-- the condition of an ACK fits its field
pub record AckFits (a : ack_type.Ack) : Type 0 where
  pub condition : a.condition < 16

-- every number of Metadata fits its field, and every name and message its length
pub record MetadataFits (width : ℕ) (m : metadata_type.Metadata) : Type 0 where
  pub checksum_type : m.checksum_type < 16
  pub size : m.size < 256 ^ width
  pub source_name : IsName m.source_name
  pub destination_name : IsName m.destination_name
  pub messages : AllByRecursion IsMessage m.messages

-- every number of Metadata fits its field, and every name and message its length, where a name may be empty
pub record MetadataFieldsFit (width : ℕ) (m : metadata_type.Metadata) : Type 0 where
  pub checksum_type : m.checksum_type < 16
  pub size : m.size < 256 ^ width
  pub source_name : length m.source_name < 256
  pub destination_name : length m.destination_name < 256
  pub messages : AllByRecursion IsMessage m.messages

-- every offset of a NAK fits its field
pub record NakFits (width : ℕ) (n : nak_type.Nak) : Type 0 where
  pub start : n.start < 256 ^ width
  pub end : n.end < 256 ^ width
  pub requests : AllByRecursion (RequestFits width) n.requests

-- the progress of a Keep Alive fits its field
pub record KeepAliveFits (width : ℕ) (k : keep_alive_type.KeepAlive) : Type 0 where
  pub progress : k.progress < 256 ^ width

-- the offset of File Data fits its field
pub record FileDataFits (width : ℕ) (f : file_data_type.FileData) : Type 0 where
  pub offset : f.offset < 256 ^ width

-- every number of a body fits its field
abbrev pub BodyFits : ℕ → Body → Type 0
BodyFits width (bodies.Eof e) = EofFits width e
BodyFits width (bodies.Finished f) = FinishedFits f
BodyFits width (bodies.Ack a) = AckFits a
BodyFits width (bodies.Metadata m) = MetadataFits width m
BodyFits width (bodies.Nak n) = NakFits width n
BodyFits width (bodies.Prompt p) = Unit {0}
BodyFits width (bodies.KeepAlive k) = KeepAliveFits width k
BodyFits width (bodies.FileData f) = FileDataFits width f

-- every number of a header fits its field
pub record HeaderFits (header : Header) : Type 0 where
  pub entity_octets : IsIdLength header.entity_octets
  pub sequence_octets : IsIdLength header.sequence_octets
  pub source : header.source.0 < 256 ^ header.entity_octets
  pub sequence : header.sequence < 256 ^ header.sequence_octets
  pub destination : header.destination.0 < 256 ^ header.entity_octets

-- the octets of a file in the longest data field
abbrev pub file_data_limit : ℕ
file_data_limit = 65527

-- the segment requests in the longest data field
abbrev pub requests_limit : ℕ
requests_limit = 4094

-- the PDU can be written: every number fits its field, and so does the length of the written data field
pub record Fits (pdu : PduValue) : Type 0 where
  pub header : HeaderFits pdu.header
  pub body : BodyFits (size_octets pdu.header.large) pdu.body
  pub data_field : length (data_field (size_octets pdu.header.large) (plain_choice pdu) pdu.body) < 2 ^ 16

-- ---- choices

-- the spare bits of a body hold numbers below this one
abbrev pub spare_limit : Body → ℕ
spare_limit (bodies.Eof e) = 16
spare_limit (bodies.Finished f) = 2
spare_limit (bodies.Ack a) = 4
spare_limit (bodies.Metadata m) = 4
spare_limit (bodies.Nak n) = 1
spare_limit (bodies.Prompt p) = 128
spare_limit (bodies.KeepAlive k) = 1
spare_limit (bodies.FileData f) = 1

-- a TLV whose numbers fit their octets
pub record IsTlv (t : Tlv) : Type 0 where
  pub kind : t.kind < 256
  pub value : length t.value < 256

-- a TLV that may stand among the optional fields of EOF and Finished
pub record IsLocationTlv (t : Tlv) : Type 0 where
  pub is_tlv : IsTlv t
  pub may_locate : IsTrue (may_locate t)

-- optional fields of EOF or Finished that give this fault location
pub record Locates (tlvs : List Tlv) (location : Option EntityId) : Type 0 where
  pub each : AllByRecursion IsLocationTlv tlvs
  pub kept : location_in tlvs ≡ location

-- optional fields of Metadata that give these messages
pub record Tells (tlvs : List Tlv) (messages : List (List ℕ)) : Type 0 where
  pub each : AllByRecursion IsTlv tlvs
  pub kept : messages_in tlvs ≡ messages

-- optional fields that give the values in the body
abbrev pub Keeps : List Tlv → Body → Type 0
Keeps tlvs (bodies.Eof e) = Locates tlvs e.location
Keeps tlvs (bodies.Finished f) = Locates tlvs f.location
Keeps tlvs (bodies.Ack a) = Unit {0}
Keeps tlvs (bodies.Metadata m) = Tells tlvs m.messages
Keeps tlvs (bodies.Nak n) = Unit {0}
Keeps tlvs (bodies.Prompt p) = Unit {0}
Keeps tlvs (bodies.KeepAlive k) = Unit {0}
Keeps tlvs (bodies.FileData f) = Unit {0}

-- a choice that is possible for a body, apart from the header
pub record IsBodyChoice (choice : Choice) (body : Body) : Type 0 where
  pub state : choice.state < 4
  pub segment_metadata : length choice.segment_metadata < 64
  pub spare : choice.spare < spare_limit body
  pub reserved : choice.reserved < 2
  pub subtype : choice.subtype < 16
  pub tlvs : Keeps choice.tlvs body

-- a choice that is possible for the PDU
pub record IsChoice (choice : Choice) (pdu : PduValue) : Type 0 where
  pub control : choice.control < 2
  pub body : IsBodyChoice choice pdu.body
  pub data_field : length (data_field (size_octets pdu.header.large) choice pdu.body) < 2 ^ 16

-- the octets spell the PDU, with some choice
pub record Spells (octets : List ℕ) (pdu : PduValue) : Type 0 where
  pub choice : Choice
  pub is_choice : IsChoice choice pdu
  pub fits : Fits pdu
  pub spelled : octets ≡ spelling choice pdu
