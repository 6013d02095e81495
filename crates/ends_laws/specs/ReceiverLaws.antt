-- Meaning. The laws of every receiver: which file its file store is given where all received PDUs agree with a Put,
-- and when it reports a complete delivery.
use Rattle.std.specs.Prelude.{◌≡◌, ℕ, true, IfSome, List, [], ◌∷◌, ◌++◌, Some, Ok}
use Rattle.std.specs.List.{AllByRecursion}
use Rattle.cfdp_types.specs.Put.{PutValue}
use Rattle.cfdp_types.specs.declared.image.Image.{Image}
use Rattle.cfdp_types.specs.declared.key.Deposit.{Deposit}
use Rattle.cfdp_types.specs.declared.names.Delivery.TheVariants.{Complete}
use Rattle.pdu_values.specs.Pdu.{PduValue, is_toward_sender}
use Rattle.txn_events.specs.Events.{body_of_event}
use Rattle.txn_events.specs.declared.answer.Answer.{Answer}
use Rattle.txn_events.specs.declared.event.What.TheVariants as what
use Rattle.receiver_table.specs.Reception.{Reception, Entry, state_of, finished_in}
use Rattle.receiver_table.specs.Images.{image_at}
use Rattle.receiver_laws.specs.LegalReceptions.{IsLegal}
use Rattle.ends_laws.specs.Agreement.{AgreesWith, image_of_put}

-- every received PDU agrees with the Put
abbrev pub AllAgree : PutValue → List Entry → Type 0
AllAgree put [] = Unit {0}
AllAgree put (entry ∷ front) = IfSome (body_of_event entry.event) (AgreesWith put) × AllAgree put front

-- the file of each deposit is the Put's
abbrev pub DepositsThePut : Type 0
DepositsThePut = (put : PutValue) (reception : Reception) (entry : Entry) (front : List Entry) (deposit : Deposit) → IsLegal reception (entry ∷ front)
    → AllAgree put (entry ∷ front) → entry.answer.deposit ≡ Some deposit
    → image_at (state_of (entry ∷ front)) deposit.stamp ≡ Ok (image_of_put put)

-- each image is the Put's file, whenever and with whatever stamp it is asked for
abbrev pub GivesThePut : Type 0
GivesThePut = (put : PutValue) (reception : Reception) (log : List Entry) (stamp : ℕ) (image : Image) → IsLegal reception log → AllAgree put log
    → image_at (state_of log) stamp ≡ Ok image → image ≡ image_of_put put

-- at some entry of the log the file store accepted a deposit, whose image was this one until then
pub record HasKept (log : List Entry) : Type 0 where
  -- the entries after the acceptance, the deposit's stamp, the answer to the acceptance, and the entries before it
  pub later : List Entry
  pub stamp : ℕ
  pub answer : Answer
  pub front : List Entry
  pub log_is : log ≡ later ++ record { event = what.Stored stamp true; answer = answer } ∷ front
  -- the image that the stamp gave while the deposit was waiting
  pub image : Image
  pub image_is : image_at (state_of front) stamp ≡ Ok image

-- the PDU goes toward the sender, and it is a Finished of a complete delivery only where `kept` holds
abbrev pub IsSaidByReceiver : Type 0 → PduValue → Type 0
IsSaidByReceiver kept pdu = (is_toward_sender pdu.body ≡ true) × IfSome (finished_in pdu.body) (λ f. f.delivery ≡ Complete → kept)

-- each entry of a legal log sends only such PDUs, where the file store has kept a file by then
abbrev pub SaysWhatIsKept : Type 0
SaysWhatIsKept = (reception : Reception) (entry : Entry) (front : List Entry) → IsLegal reception (entry ∷ front)
    → AllByRecursion (IsSaidByReceiver (HasKept (entry ∷ front))) entry.answer.pdus
