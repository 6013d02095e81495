-- Meaning. The laws of every schedule of two ends.
use Rattle.std.specs.Prelude.{◌≡◌, ℕ, Contains, List, ◌∷◌, ◌++◌, Some, Ok}
use Rattle.cfdp_types.specs.Put.{PutValue}
use Rattle.cfdp_types.specs.declared.image.Image.{Image}
use Rattle.cfdp_types.specs.declared.key.Deposit.{Deposit}
use Rattle.cfdp_types.specs.declared.names.Delivery.TheVariants.{Complete}
use Rattle.cfdp_types.specs.declared.names.FileStatus.{FileStatus}
use Rattle.indications.specs.declared.indication.Indication.TheVariants as told
use Rattle.sender_table.specs.Sending as sender
use Rattle.receiver_table.specs.Reception as receiver
use Rattle.receiver_table.specs.Images.{image_at}
use Rattle.ends_laws.specs.Agreement.{image_of_put}
use Rattle.ends_laws.specs.ReceiverLaws.{HasKept}
use Rattle.ends_schedules.specs.Schedules.{Move, sends, receives, receiver_log, IsSchedule}

-- each beginning of a schedule is a schedule
abbrev pub BeginsAsSchedule : Type 0
BeginsAsSchedule = (sending : sender.Sending) (reception : receiver.Reception) (later earlier : List Move)
    → IsSchedule sending reception (later ++ earlier) → IsSchedule sending reception earlier

-- the file of each deposit is the one that was put
abbrev pub DepositsAreThePut : Type 0
DepositsAreThePut = (sending : sender.Sending) (reception : receiver.Reception) (earlier : List Move) (entry : receiver.Entry) (deposit : Deposit)
    → IsSchedule sending reception (receives entry ∷ earlier) → entry.answer.deposit ≡ Some deposit
    → image_at (receiver.state_of (receiver_log (receives entry ∷ earlier))) deposit.stamp ≡ Ok (image_of_put sending.request)

-- each image is the file that was put, whenever it is asked for
abbrev pub ImagesAreThePut : Type 0
ImagesAreThePut = (sending : sender.Sending) (reception : receiver.Reception) (moves : List Move) (stamp : ℕ) (image : Image)
    → IsSchedule sending reception moves → image_at (receiver.state_of (receiver_log moves)) stamp ≡ Ok image
    → image ≡ image_of_put sending.request

-- the file store has kept the Put's file
abbrev pub HasStored : PutValue → List receiver.Entry → Type 0
HasStored put log = (kept : HasKept log) × (kept.image ≡ image_of_put put)

-- the sender indicates a complete delivery only where the file store has kept the Put's file before
abbrev pub TellsWhatWasStored : Type 0
TellsWhatWasStored = (sending : sender.Sending) (reception : receiver.Reception) (earlier : List Move) (entry : sender.Entry) (condition : ℕ) (status : FileStatus)
    → IsSchedule sending reception (sends entry ∷ earlier)
    → Contains entry.answer.inds (told.TransactionFinished condition Complete status)
    → HasStored sending.request (receiver_log earlier)
