-- Meaning. Two ends of one transaction, with every exchange of PDUs that a network may allow between them.
use Rattle.std.specs.Prelude.{◌≡◌, IfSome, Contains, List, [], ◌∷◌, ◌++◌, option_to_list, Option, Some, None}
use Rattle.pdu_values.specs.Pdu.{PduValue}
use Rattle.txn_events.specs.Events.{echo_of}
use Rattle.txn_events.specs.declared.event.What.{What}
use Rattle.txn_events.specs.declared.event.What.TheVariants as what
use Rattle.sender_table.specs.Sending as sender
use Rattle.sender_laws.specs.LegalSendings as sender_logs
use Rattle.receiver_table.specs.Reception as receiver
use Rattle.receiver_laws.specs.LegalReceptions as receiver_logs

-- a move: the sender accepts an event, the receiver accepts one, or either end refuses a PDU and sends its echo;
-- a list of moves has the newest first
pub data Move : Type 0 where
  sends : sender.Entry → Move
  receives : receiver.Entry → Move
  echoes : PduValue → Move

-- the sender's log
abbrev pub sender_log : List Move → List sender.Entry
sender_log [] = []
sender_log (sends entry ∷ earlier) = entry ∷ sender_log earlier
sender_log (receives entry ∷ earlier) = sender_log earlier
sender_log (echoes pdu ∷ earlier) = sender_log earlier

-- the receiver's log
abbrev pub receiver_log : List Move → List receiver.Entry
receiver_log [] = []
receiver_log (sends entry ∷ earlier) = receiver_log earlier
receiver_log (receives entry ∷ earlier) = entry ∷ receiver_log earlier
receiver_log (echoes pdu ∷ earlier) = receiver_log earlier

-- the PDUs that a move sends
abbrev pub sent_by : Move → List PduValue
sent_by (sends entry) = entry.answer.pdus
sent_by (receives entry) = entry.answer.pdus
sent_by (echoes pdu) = option_to_list (echo_of pdu)

-- all PDUs that either end ever sent
abbrev pub ever_sent : List Move → List PduValue
ever_sent [] = []
ever_sent (move ∷ earlier) = sent_by move ++ ever_sent earlier

-- the PDU of an event, if it is a reception
abbrev pub pdu_of : What → Option PduValue
pdu_of (what.Pdu pdu) = Some pdu
pdu_of _ = None

-- the PDU of a sender's event, if it is a reception
abbrev pub pdu_to_sender : sender.Event → Option PduValue
pdu_to_sender sender.put = None
pdu_to_sender (sender.happens event) = pdu_of event

-- the PDU that a move receives, if there is one
abbrev pub handed_in : Move → Option PduValue
handed_in (sends entry) = pdu_to_sender entry.event
handed_in (receives entry) = pdu_of entry.event
handed_in (echoes pdu) = Some pdu

-- each received PDU was sent before, by either end: a PDU may arrive any number of times, at any later moment
abbrev pub AreSentBefore : List Move → Type 0
AreSentBefore [] = Unit {0}
AreSentBefore (move ∷ earlier) = IfSome (handed_in move) (Contains (ever_sent earlier)) × AreSentBefore earlier

-- a schedule: the sender's log is legal, so that its Put comes first; the receiver's log is legal or empty; and no
-- PDU is altered or forged
pub record IsSchedule (sending : sender.Sending) (reception : receiver.Reception) (moves : List Move) : Type 0 where
  pub key : reception.key ≡ sending.key
  pub sender_legal : sender_logs.IsLegal sending (sender_log moves)
  pub receiver_legal : receiver_logs.IsLegal reception (receiver_log moves)
  pub unforged : AreSentBefore moves
