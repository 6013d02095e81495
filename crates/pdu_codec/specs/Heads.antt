-- Meaning. What the first octets of a datagram say of its PDU.
use Rattle.std.specs.Prelude.{ℕ, ◌==◌, if◌then◌else◌, List, Option, Some, None, codes}
use Rattle.pdu_values.specs.Directive.{directive_with_code}
use Rattle.pdu_values.specs.declared.directive.Directive.{Directive}
use Rattle.pdu_values.specs.declared.directive.Directive.TheVariants as directives
use Rattle.pdu_reading.specs.FixedHeader.{is_file_data, version}
use Rattle.pdu_reading.specs.Reading.{fixed_header_at, number_at}
use Rattle.pdu_reading.specs.declared.fixed_header.FixedHeader.{FixedHeader}
use Rattle.pdu_codec.specs.declared.head.PduHead.{PduHead}
use Rattle.pdu_codec.specs.declared.head.PduKind.{PduKind}
use Rattle.pdu_codec.specs.declared.head.PduKind.TheVariants as kinds

-- the names of the kinds
abbrev pub directive_name : Directive → List ℕ
directive_name directives.Eof = codes "EOF"
directive_name directives.Finished = codes "Finished"
directive_name directives.Ack = codes "ACK"
directive_name directives.Metadata = codes "Metadata"
directive_name directives.Nak = codes "NAK"
directive_name directives.Prompt = codes "Prompt"
directive_name directives.KeepAlive = codes "Keep Alive"

abbrev pub kind_name : PduKind → List ℕ
kind_name kinds.FileData = codes "File Data"
kind_name (kinds.Directive directive) = directive_name directive
kind_name kinds.Unknown = codes "unknown directive"

-- the kind of a directive, where it is known
abbrev pub kind_with : Option Directive → PduKind
kind_with None = kinds.Unknown
kind_with (Some directive) = kinds.Directive directive

abbrev pub directive_kind : Option (ℕ × List ℕ) → PduKind
directive_kind None = kinds.Unknown
directive_kind (Some x) = kind_with (directive_with_code x.0)

abbrev pub kind_of : FixedHeader → List ℕ → PduKind
kind_of o field = if is_file_data o.first then kinds.FileData else directive_kind (number_at 1 field)

-- the transaction and the kind, where the version is 1
abbrev pub head_with : FixedHeader → List ℕ → Option PduHead
head_with o field =
    if version o.first == 1 then Some (record { key = record { source = record { 0 = o.source }; seq = o.sequence }; kind = kind_of o field })
    else None

abbrev pub head_from : Option (FixedHeader × List ℕ) → Option PduHead
head_from None = None
head_from (Some x) = head_with x.0 x.1

-- what octets say, whether or not the rest of the PDU is there
abbrev pub head_of : List ℕ → Option PduHead
head_of octets = head_from (fixed_header_at octets)
