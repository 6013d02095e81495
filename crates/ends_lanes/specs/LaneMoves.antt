-- Meaning. The answers of a lane, as moves of the end that it runs.
use Rattle.std.specs.Prelude.{◌≡◌, ℕ, IfSome, Contains, List, [], ◌∷◌, Option, Some, None, Ok}
use Rattle.cfdp_types.specs.declared.image.Image.{Image}
use Rattle.cfdp_types.specs.declared.key.TxnKey.{TxnKey}
use Rattle.indications.specs.declared.side.Side.{Side}
use Rattle.indications.specs.declared.side.Side.TheVariants.{Sender, Receiver}
use Rattle.pdu_values.specs.Pdu.{PduValue}
use Rattle.txn_events.specs.declared.event.Event.{Event}
use Rattle.txn_events.specs.declared.event.Event.TheVariants.{Put, On}
use Rattle.sender_table.specs.Sending.{Sending}
use Rattle.receiver_table.specs.Reception.{Reception}
use Rattle.lane_table.specs.declared.done.Done.{Done}
use Rattle.lane_table.specs.declared.refused.Refused.{Refused}
use Rattle.lane_table.specs.Logs.{Log, sent, received}
use Rattle.lane_table.specs.Lane.{State, log_of, IsSound}
use Rattle.lane_table.specs.Steps.{IsKeyed, new_transaction, log_before, refusal_at, stepped, IsDone, image_of}
use Rattle.ends_laws.specs.Agreement.{image_of_put}
use Rattle.ends_schedules.specs.Schedules.{Move, echoes, sender_log, receiver_log, sent_by, ever_sent, pdu_of, IsSchedule}

-- the log of one end in a schedule
abbrev pub log_at : Side → Sending → Reception → List Move → Log
log_at Sender sending reception moves = sent sending (sender_log moves)
log_at Receiver sending reception moves = received reception (receiver_log moves)

-- the PDU in an event of a lane, if there is one
abbrev pub pdu_in : Event → Option PduValue
pdu_in (On key event) = pdu_of event
pdu_in (Put request params) = None

-- a PDU in the event was sent before, by either end
abbrev pub IsCarried : List Move → Event → Type 0
IsCarried moves event = IfSome (pdu_in event) (Contains (ever_sent moves))

-- the lane is at one end of a schedule with one more move, which sends the PDUs of the lane's step
pub record HasMoved (side : Side) (sending : Sending) (reception : Reception) (moves : List Move) (next : State) : Type 0 where
  pub move : Move
  pub is_schedule : IsSchedule sending reception (move ∷ moves)
  pub stands : log_of next ≡ Some (log_at side sending reception (move ∷ moves))
  pub sends : (done : Done) → IsDone next done → done.pdus ≡ sent_by move

-- the event finds the lane at the log of one end, and a PDU in it was sent before
pub record ComesTo (side : Side) (sending : Sending) (reception : Reception) (moves : List Move) (state : State) (event : Event) : Type 0 where
  pub is_schedule : IsSchedule sending reception moves
  pub log_is : log_before state (new_transaction state event) ≡ Some (log_at side sending reception moves)
  pub carried : IsCarried moves event

-- where the lane accepts such an event, its end makes a move; an event that opens a transaction finds an empty log
abbrev pub StepsAreMoves : Type 0
StepsAreMoves = (side : Side) (sending : Sending) (reception : Reception) (moves : List Move) (state : State) (event : Event)
    → IsSound state → IsKeyed event → refusal_at state event ≡ None → ComesTo side sending reception moves state event
    → HasMoved side sending reception moves (stepped state event)

-- the echo of a PDU that is refused, as a move of the schedule
pub record IsEchoed (sending : Sending) (reception : Reception) (moves : List Move) (event : Event) (echo : PduValue) : Type 0 where
  pub pdu : PduValue
  pub pdu_is : pdu_in event ≡ Some pdu
  pub is_schedule : IsSchedule sending reception (echoes pdu ∷ moves)
  pub sends : sent_by (echoes pdu) ≡ echo ∷ []

-- where a lane sends a PDU on refusing an event, that is the echo of a PDU, and a move
abbrev pub EchoesAreMoves : Type 0
EchoesAreMoves = (sending : Sending) (reception : Reception) (moves : List Move) (state : State) (event : Event) (refused : Refused)
    → IsSchedule sending reception moves → IsCarried moves event → refusal_at state event ≡ Some refused
    → IfSome refused.echo (IsEchoed sending reception moves event)

-- the file that a lane gives at the receiver's end of a schedule, for a key and a stamp, is the one that was put
abbrev pub LanesGiveThePut : Type 0
LanesGiveThePut = (sending : Sending) (reception : Reception) (moves : List Move) (state : State) (key : TxnKey) (stamp : ℕ) (image : Image)
    → IsSchedule sending reception moves → log_of state ≡ Some (log_at Receiver sending reception moves)
    → image_of state key stamp ≡ Ok image → image ≡ image_of_put sending.request
