-- Meaning. Which fault a datagram has: the first that applies. The first six show in octets at known places;
-- the others depend on what the datagram spells.
use Rattle.std.specs.Prelude.{◌≡◌, ℕ, ◌+◌, ◌*◌, ◌/◌, Bool, true, false, ◌⊎◌, ◌&&◌, ◌||◌, not, List, [], ◌∷◌, length, drop, Option, Some, None, is_none, nat_lt, ◌==◌, if◌then◌else◌}
use Rattle.pdu_reading.specs.declared.fault.DecodeFault.{DecodeFault}
use Rattle.pdu_reading.specs.declared.fault.DecodeFault.TheVariants.{TooShort, BadVersion, CrcPresent, LengthMismatch, UnknownDirective, FieldCut, NoFileName, NoMemory}
use Rattle.pdu_values.specs.declared.bodies.Metadata as metadata_type
use Rattle.pdu_values.specs.declared.pdu.Header.{Header}
use Rattle.pdu_values.specs.declared.pdu.Body.TheVariants as bodies
use Rattle.pdu_values.specs.Pdu.{PduValue}
use Rattle.pdu_values.specs.Spelling.{Choice, size_octets, spelling, HeaderFits, MetadataFieldsFit, IsChoice, Spells}
use Rattle.pdu_values.specs.Directive.{directive_with_code}
use Rattle.pdu_reading.specs.FixedHeader.{entity_octets, sequence_octets, version, is_file_data, has_crc}
use Rattle.pdu_reading.specs.Reading.{acknowledged_with_code}

-- the octets of two entity IDs and a sequence number together, from the octet of lengths
abbrev pub ids_octets : ℕ → ℕ
ids_octets lengths = entity_octets lengths + sequence_octets lengths + entity_octets lengths

-- what is wrong with the first octet, or with the number of octets after the first four
abbrev pub number_fault : ℕ → ℕ → ℕ → ℕ → Option DecodeFault
number_fault first size lengths behind =
    if not (version first == 1) then Some BadVersion else
    (if has_crc first then Some CrcPresent else
    (if not (behind == ids_octets lengths + size) then Some LengthMismatch else None))

-- what is wrong with a datagram before its data field is read
abbrev pub header_fault : List ℕ → Option DecodeFault
header_fault (first ∷ high ∷ low ∷ lengths ∷ rest) =
    if nat_lt (length rest) (ids_octets lengths) then Some TooShort
    else number_fault first (256 * high + low) lengths (length rest)
header_fault octets = Some TooShort

-- whether an ACK acknowledges neither EOF nor Finished, from the octets after its code
abbrev pub acknowledges_other : List ℕ → Bool
acknowledges_other [] = false
acknowledges_other (first ∷ fields) = is_none (acknowledged_with_code (first / 16))

-- whether the data field of a directive has an unknown code
abbrev pub has_unknown_code : List ℕ → Bool
has_unknown_code [] = false
has_unknown_code (code ∷ fields) = is_none (directive_with_code code) || ((code == 6) && acknowledges_other fields)

-- whether a datagram with a sound header is a directive with an unknown code
abbrev pub is_unknown_directive : List ℕ → Bool
is_unknown_directive (first ∷ high ∷ low ∷ lengths ∷ rest) =
    not (is_file_data first) && has_unknown_code (drop (ids_octets lengths) rest)
is_unknown_directive octets = false

-- the octets spell Metadata in which a name is empty
pub record SpellsNameless (octets : List ℕ) : Type 0 where
  pub header : Header
  pub metadata : metadata_type.Metadata
  pub choice : Choice
  pub header_fits : HeaderFits header
  pub metadata_fits : MetadataFieldsFit (size_octets header.large) metadata
  pub nameless : (metadata.source_name ≡ []) ⊎ (metadata.destination_name ≡ [])
  pub is_choice : IsChoice choice (record { header = header; body = bodies.Metadata metadata })
  pub spelled : octets ≡ spelling choice (record { header = header; body = bodies.Metadata metadata })

-- a header and a directive code without a fault, but fields that spell neither a PDU nor Metadata in which a
-- name is empty
pub record IsCut (octets : List ℕ) : Type 0 where
  pub header : header_fault octets ≡ None
  pub known : is_unknown_directive octets ≡ false
  pub no_pdu : (pdu : PduValue) → Spells octets pdu → ⊥
  pub not_nameless : SpellsNameless octets → ⊥

-- a header without a fault, and an unknown directive code
pub record IsUnknown (octets : List ℕ) : Type 0 where
  pub header : header_fault octets ≡ None
  pub unknown : is_unknown_directive octets ≡ true

-- the first fault of a datagram
abbrev pub IsFirstFault : List ℕ → DecodeFault → Type 0
IsFirstFault octets TooShort = header_fault octets ≡ Some TooShort
IsFirstFault octets BadVersion = header_fault octets ≡ Some BadVersion
IsFirstFault octets CrcPresent = header_fault octets ≡ Some CrcPresent
IsFirstFault octets LengthMismatch = header_fault octets ≡ Some LengthMismatch
IsFirstFault octets UnknownDirective = IsUnknown octets
IsFirstFault octets FieldCut = IsCut octets
IsFirstFault octets NoFileName = SpellsNameless octets
IsFirstFault octets NoMemory = ⊥
