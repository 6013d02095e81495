-- Worked heads of datagrams: the transaction and the kind, by the first octets alone.
use Rattle.std.proofs.Common.{◌≡◌, ℕ, List, [], ◌∷◌, Option, Some, None, map, codes, refl}
use Rattle.std.specs.Option.{option_map}
use Rattle.pdu_values.specs.Numbers.{number_of}
use Rattle.pdu_reading.specs.Reading.{fixed_header_at, number_at}
use Rattle.pdu_codec.specs.Heads.{head_of, kind_name}
use Rattle.pdu_codec.specs.declared.head.PduHead.{PduHead}
use Rattle.pdu_codec.specs.declared.head.PduKind.{PduKind}
use Rattle.pdu_codec.specs.declared.head.PduKind.TheVariants.{FileData, Unknown}

-- a datagram of transaction 1.5 for entity 2, by its first octet and the octets after the header
abbrev datagram : ℕ → List ℕ → List ℕ
datagram first field = first ∷ 0x00 ∷ 0x09 ∷ 0x00 ∷ 0x01 ∷ 0x05 ∷ 0x02 ∷ field

abbrev said : PduKind → Option PduHead
said kind = Some (record { key = record { source = record { 0 = 1 }; seq = 5 }; kind = kind })

-- the octets after the header may be cut
file_data : map head_of (datagram 0x34 (0 ∷ 0 ∷ []) ∷ datagram 0x34 [] ∷ []) ≡ said FileData ∷ said FileData ∷ []
unfolding fixed_header_at number_at number_of
file_data = refl

directives : map (λ code. option_map (λ head. kind_name head.kind) (head_of (datagram 0x24 (code ∷ [])))) (4 ∷ 5 ∷ 6 ∷ 7 ∷ 8 ∷ 9 ∷ 12 ∷ 10 ∷ [])
    ≡ map Some (codes "EOF" ∷ codes "Finished" ∷ codes "ACK" ∷ codes "Metadata" ∷ codes "NAK" ∷ codes "Prompt" ∷ codes "Keep Alive" ∷ codes "unknown directive" ∷ [])
unfolding fixed_header_at number_at number_of
directives = refl

without_code : head_of (datagram 0x24 []) ≡ said Unknown
unfolding fixed_header_at number_at number_of
without_code = refl

file_data_name : kind_name FileData ≡ codes "File Data"
file_data_name = refl

-- another version, and octets that end within the header
no_head : map head_of (datagram 0x44 (4 ∷ []) ∷ (0x24 ∷ 0 ∷ 9 ∷ 0 ∷ 1 ∷ 5 ∷ []) ∷ [] ∷ []) ≡ None ∷ None ∷ None ∷ []
unfolding fixed_header_at number_at number_of
no_head = refl
