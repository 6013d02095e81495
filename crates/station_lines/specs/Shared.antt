-- Meaning. Members that several kinds of lines have.
use Rattle.std.specs.Prelude.{ℕ, List, [], ◌++◌, Option, Some, None, take, codes}
use Rattle.cfdp_types.specs.declared.key.TxnKey.{TxnKey}
use Rattle.cfdp_types.specs.declared.names.Class.{Class}
use Rattle.cfdp_types.specs.declared.names.Class.TheVariants.{One, Two}
use Rattle.cfdp_types.specs.declared.names.Delivery.{Delivery}
use Rattle.cfdp_types.specs.declared.names.FileStatus.{FileStatus}
use Rattle.answer_texts.specs.ToldTexts.{delivery_name, status_name}
use Rattle.json.specs.Token.{Token}
use Rattle.station_lines.specs.Members.{text_member, number_member, hex_member}
use Rattle.station_lines.specs.declared.members.RefusedCase.{RefusedCase}
use Rattle.station_lines.specs.declared.members.Datagram.{Datagram}
use Rattle.station_lines.specs.declared.members.RefusedPdu.{RefusedPdu}

-- a transaction ID's two numbers
abbrev pub key_members : TxnKey → List Token
key_members key = number_member (codes "source") key.source.0 ++ number_member (codes "seq") key.seq

-- how a transaction finished
abbrev pub finished_members : ℕ → Delivery → FileStatus → List Token
finished_members condition delivery status =
    number_member (codes "condition") condition
    ++ (text_member (codes "delivery") (delivery_name delivery) ++ text_member (codes "status") (status_name status))

-- the number of a decode fault, if there is one
abbrev pub fault_members : Option ℕ → List Token
fault_members None = []
fault_members (Some fault) = number_member (codes "fault") fault

-- a kind of refusal and its count; the member for its number has this name
abbrev pub case_members : List ℕ → RefusedCase → List Token
case_members number_name case =
    number_member number_name case.number
    ++ (text_member (codes "name") case.name.now
    ++ (fault_members case.fault ++ number_member (codes "count") case.count))

-- the first octets, at most `most`
unfoldable pub first_octets : ℕ → List ℕ → List ℕ
first_octets most octets = take most octets

-- a datagram's source and its first octets, if the refusal was of one
abbrev pub datagram_members : Option Datagram → List Token
datagram_members None = []
datagram_members (Some datagram) =
    text_member (codes "from") datagram.from.now ++ hex_member (codes "octets") (first_octets 64 datagram.octets.now)

-- the transaction that a datagram names, if it names one
abbrev pub named_members : Option TxnKey → List Token
named_members None = []
named_members (Some key) = key_members key

-- which PDU a datagram is, if that is shown
abbrev pub pdu_members : Option RefusedPdu → List Token
pdu_members None = []
pdu_members (Some pdu) = named_members pdu.key ++ text_member (codes "pdu") pdu.kind.now

-- the number of a class
abbrev pub class_number : Class → ℕ
class_number One = 1
class_number Two = 2
