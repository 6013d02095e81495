-- Worked echoes, computed: what a PDU of a transaction that is over or was never there is answered.
use Rattle.std.specs.Prelude.{◌≡◌, ℕ, false, List, [], ◌∷◌, Option, Some, None, refl}
use Rattle.std.specs.Option.{option_map}
use Rattle.cfdp_types.specs.declared.names.Class.{Class}
use Rattle.cfdp_types.specs.declared.names.Class.TheVariants.{One, Two}
use Rattle.cfdp_types.specs.declared.names.Delivery.TheVariants.{Complete, Incomplete}
use Rattle.cfdp_types.specs.declared.names.FileStatus.TheVariants.{Discarded, Retained}
use Rattle.pdu_values.specs.Numbers.{digits}
use Rattle.pdu_values.specs.Pdu.{PduValue}
use Rattle.pdu_values.specs.Spelling.{spelling, written}
use Rattle.pdu_values.specs.declared.pdu.Direction.{Direction}
use Rattle.pdu_values.specs.declared.pdu.Direction.TheVariants.{TowardReceiver, TowardSender}
use Rattle.pdu_values.specs.declared.pdu.Header.{Header}
use Rattle.pdu_values.specs.declared.pdu.Body.{Body}
use Rattle.pdu_values.specs.declared.pdu.Body.TheVariants as body
use Rattle.pdu_values.specs.declared.bodies.Acknowledged.TheVariants as acknowledged
use Rattle.pdu_values.specs.declared.bodies.TransactionStatus.TheVariants.{Active}
use Rattle.pdu_values.specs.declared.bodies.Prompt.TheVariants as prompt
use Rattle.txn_events.specs.Events.{echo_of}

-- from entity 1 to entity 2, sequence number 5
abbrev pub header : Class → Direction → Header
header class direction = record {
  direction = direction;
  class = class;
  large = false;
  entity_octets = 1;
  sequence_octets = 1;
  source = record { 0 = 1 };
  sequence = 5;
  destination = record { 0 = 2 };
}

-- entity IDs of two octets and sequence numbers of three
abbrev pub wide_header : Direction → Header
wide_header direction = record {
  direction = direction;
  class = Two;
  large = false;
  entity_octets = 2;
  sequence_octets = 3;
  source = record { 0 = 0x0102 };
  sequence = 0x030405;
  destination = record { 0 = 0x0607 };
}

-- an EOF with this condition
abbrev pub eof : ℕ → Body
eof code = body.Eof (record { condition = code; checksum = 0x6162_6300; size = 3; location = None })

-- a Finished PDU of a file that is kept
abbrev pub finished : Body
finished = body.Finished (record { condition = 0; delivery = Complete; status = Retained; location = None })

-- one after a fault
abbrev pub faulty : ℕ → Body
faulty code = body.Finished (record { condition = code; delivery = Incomplete; status = Discarded; location = Some (record { 0 = 2 }) })

-- a PDU to the receiver, and one to the sender
abbrev pub to_receiver : Class → Body → PduValue
to_receiver class b = record { header = header class TowardReceiver; body = b }

abbrev pub to_sender : Class → Body → PduValue
to_sender class b = record { header = header class TowardSender; body = b }

-- the echo as octets
abbrev pub echoed : PduValue → Option (List ℕ)
echoed pdu = option_map written (echo_of pdu)

-- ---- class 2

-- an EOF: its ACK goes to the sender, and says that the transaction is terminated
pub eof_echoed : echoed (to_receiver Two (eof 0)) ≡ Some (digits 10 0x28000300010502064002)
unfolding written spelling digits
eof_echoed = refl

-- with the EOF's own code
pub cancelling_eof_echoed : echoed (to_receiver Two (eof 15)) ≡ Some (digits 10 0x280003000105020640f2)
unfolding written spelling digits
cancelling_eof_echoed = refl

pub eof_of_inactivity_echoed : echoed (to_receiver Two (eof 8)) ≡ Some (digits 10 0x28000300010502064082)
unfolding written spelling digits
eof_of_inactivity_echoed = refl

-- a Finished PDU: its ACK goes to the receiver
pub finished_echoed : echoed (to_sender Two finished) ≡ Some (digits 10 0x20000300010502065102)
unfolding written spelling digits
finished_echoed = refl

-- with its own code
pub faulty_echoed : echoed (to_sender Two (faulty 7)) ≡ Some (digits 10 0x20000300010502065172)
unfolding written spelling digits
faulty_echoed = refl

-- the lengths and the numbers of the header stay
pub wide_eof_echoed : echoed (record { header = wide_header TowardReceiver; body = eof 0 }) ≡ Some (digits 14 0x2800031201020304050607064002)
unfolding written spelling digits
wide_eof_echoed = refl

pub wide_finished_echoed : echoed (record { header = wide_header TowardSender; body = finished }) ≡ Some (digits 14 0x2000031201020304050607065102)
unfolding written spelling digits
wide_finished_echoed = refl

-- ---- no echo

-- class 1 acknowledges nothing
pub eof_of_one : echoed (to_receiver One (eof 0)) ≡ None
eof_of_one = refl

pub cancelling_eof_of_one : echoed (to_receiver One (eof 15)) ≡ None
cancelling_eof_of_one = refl

pub finished_of_one : echoed (to_sender One finished) ≡ None
finished_of_one = refl

-- nor does class 2 another PDU
pub metadata_unechoed : echoed (to_receiver Two (body.Metadata (record {
  closure = false;
  checksum_type = 0;
  size = 3;
  source_name = 97 ∷ [];
  destination_name = 98 ∷ [];
  messages = [];
}))) ≡ None
metadata_unechoed = refl

pub file_data_unechoed : echoed (to_receiver Two (body.FileData (record { offset = 0; octets = 97 ∷ [] }))) ≡ None
file_data_unechoed = refl

pub prompt_unechoed : echoed (to_receiver Two (body.Prompt prompt.Nak)) ≡ None
prompt_unechoed = refl

pub ack_unechoed : echoed (to_receiver Two (body.Ack (record { of = acknowledged.Finished; condition = 0; status = Active }))) ≡ None
ack_unechoed = refl

pub nak_unechoed : echoed (to_sender Two (body.Nak (record { start = 0; end = 3; requests = [] }))) ≡ None
nak_unechoed = refl

pub keep_alive_unechoed : echoed (to_sender Two (body.KeepAlive (record { progress = 3 }))) ≡ None
keep_alive_unechoed = refl
