-- Rows. The PDUs and the Put used in worked transactions, for both ends and for lanes.
use Rattle.std.specs.Prelude.{ℕ, false, List, [], ◌∷◌, None}
use Rattle.cfdp_types.specs.Put.{PutValue}
use Rattle.cfdp_types.specs.declared.names.Class.{Class}
use Rattle.cfdp_types.specs.declared.names.Class.TheVariants.{Two}
use Rattle.pdu_values.specs.declared.pdu.Direction.TheVariants.{TowardReceiver}
use Rattle.pdu_values.specs.declared.pdu.Header.{Header}
use Rattle.pdu_values.specs.declared.pdu.Body.TheVariants as body
use Rattle.pdu_values.specs.declared.bodies.Acknowledged.TheVariants as acknowledged
use Rattle.pdu_values.specs.declared.bodies.TransactionStatus.TheVariants.{Terminated}
use Rattle.pdu_values.specs.declared.bodies.Metadata.{Metadata}
use Rattle.pdu_values.specs.declared.bodies.Eof.{Eof}
use Rattle.txn_events.specs.declared.event.What.{What}
use Rattle.txn_events.specs.declared.event.What.TheVariants as what

-- the header of PDUs from entity 1 to entity 2, sequence number 5
abbrev pub header : Class → Header
header class = record {
  direction = TowardReceiver;
  class = class;
  large = false;
  entity_octets = 1;
  sequence_octets = 1;
  source = record { 0 = 1 };
  sequence = 5;
  destination = record { 0 = 2 };
}

-- Metadata of the file "a", to be stored as "b", with a checksum type and a size
abbrev pub metadata_value : ℕ → ℕ → Metadata
metadata_value kind size =
    record { closure = false; checksum_type = kind; size = size; source_name = 97 ∷ []; destination_name = 98 ∷ []; messages = [] }

-- an EOF with a condition, a checksum and a size
abbrev pub eof_value : ℕ → ℕ → ℕ → Eof
eof_value condition checksum size = record { condition = condition; checksum = checksum; size = size; location = None }

-- the ACK of a Finished PDU with this condition
abbrev pub finished_acknowledged : ℕ → What
finished_acknowledged code =
    what.Pdu (record { header = header Two; body = body.Ack (record { of = acknowledged.Finished; condition = code; status = Terminated }) })

-- the file "abc"
abbrev pub abc : List ℕ
abc = 97 ∷ 98 ∷ 99 ∷ []

-- a Put of "a", to be stored as "b" at entity 1
abbrev pub put_value : Class → List ℕ → PutValue
put_value class file = record {
  destination = record { 0 = 1 };
  class = class;
  closure = false;
  source_name = 97 ∷ [];
  destination_name = 98 ∷ [];
  messages = [];
  file = file;
}
