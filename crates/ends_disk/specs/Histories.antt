-- Meaning. Two ends of a transaction beside the disk of the receiver's file store, and the law of the file that was put.
use Rattle.std.specs.Prelude.{◌≡◌, ℕ, Bool, true, Contains, List, [], ◌∷◌, ◌++◌, Option, Some, Ok}
use Rattle.cfdp_types.specs.Put.{PutValue}
use Rattle.cfdp_types.specs.declared.image.Image.{Image}
use Rattle.cfdp_types.specs.declared.names.Delivery.TheVariants.{Complete}
use Rattle.cfdp_types.specs.declared.names.FileStatus.{FileStatus}
use Rattle.disk.specs.Steps.{Step}
use Rattle.disk.specs.Crash.{MayFind}
use Rattle.disk.specs.Promise.{HoldsAfterCut}
use Rattle.disk.specs.Staying.{AllSpare}
use Rattle.indications.specs.declared.indication.Indication.TheVariants as told
use Rattle.txn_events.specs.declared.event.What.{What}
use Rattle.txn_events.specs.declared.event.What.TheVariants as what
use Rattle.sender_table.specs.Sending as sender
use Rattle.receiver_table.specs.Reception as receiver
use Rattle.receiver_table.specs.Images.{image_at}
use Rattle.ends_schedules.specs.Schedules.{Move, sends, receives, echoes, receiver_log, IsSchedule}

-- what happens: a move of the two ends, or a step of the disk; a history has the newest first
pub data Happening : Type 0 where
  at_ends : Move → Happening
  at_disk : Step → Happening

-- the moves of a history
abbrev pub moves_of : List Happening → List Move
moves_of [] = []
moves_of (at_ends move ∷ earlier) = move ∷ moves_of earlier
moves_of (at_disk step ∷ earlier) = moves_of earlier

-- the steps of its disk
abbrev pub steps_of : List Happening → List Step
steps_of [] = []
steps_of (at_ends move ∷ earlier) = steps_of earlier
steps_of (at_disk step ∷ earlier) = step ∷ steps_of earlier

-- a deposit: the receiver gave the file at this stamp, and after some steps the disk held its octets under a path for
-- its name
pub record Deposited (is_path_of : List ℕ → List ℕ → Bool) (stamp : ℕ) (earlier : List Happening) : Type 0 where
  pub given : List Happening
  pub image : Image
  pub gave : image_at (receiver.state_of (receiver_log (moves_of given))) stamp ≡ Ok image
  pub during : List Happening
  pub path : List ℕ
  pub is_place : is_path_of image.destination_name path ≡ true
  pub holds : HoldsAfterCut (steps_of (during ++ given)) path image.octets
  pub later : List Happening
  pub earlier_is : earlier ≡ later ++ (during ++ given)

-- an answer that the file store keeps the file comes after its deposit
abbrev pub IsTrueAnswer : (List ℕ → List ℕ → Bool) → What → List Happening → Type 0
IsTrueAnswer is_path_of (what.Stored stamp true) earlier = Deposited is_path_of stamp earlier
IsTrueAnswer is_path_of _ earlier = Unit {0}

-- so does each one of a history
abbrev pub AnswersTruly : (List ℕ → List ℕ → Bool) → List Happening → Type 0
AnswersTruly is_path_of [] = Unit {0}
AnswersTruly is_path_of (at_ends (sends entry) ∷ earlier) = AnswersTruly is_path_of earlier
AnswersTruly is_path_of (at_ends (receives entry) ∷ earlier) = IsTrueAnswer is_path_of entry.event earlier × AnswersTruly is_path_of earlier
AnswersTruly is_path_of (at_ends (echoes pdu) ∷ earlier) = AnswersTruly is_path_of earlier
AnswersTruly is_path_of (at_disk step ∷ earlier) = AnswersTruly is_path_of earlier

-- at some moment the disk held the Put's file under a path for its name; whatever happens from then on, as long as no
-- step names the path, exactly the Put's octets may be found there, also after a power cut
pub record Stands (is_path_of : List ℕ → List ℕ → Bool) (put : PutValue) (earlier : List Happening) : Type 0 where
  pub path : List ℕ
  pub is_place : is_path_of put.destination_name path ≡ true
  pub later : List Happening
  pub made : List Happening
  pub earlier_is : earlier ≡ later ++ made
  pub holds : HoldsAfterCut (steps_of made) path put.file
  pub stays : (after : List Happening) → AllSpare path (steps_of after ++ steps_of later) → (found : Option (List ℕ)) → MayFind (steps_of (after ++ earlier)) path found
      → found ≡ Some put.file

-- where a sender indicates a complete delivery, the file that it put stands on the receiver's disk
abbrev pub StandsWhenTold : Type 0
StandsWhenTold = (is_path_of : List ℕ → List ℕ → Bool) (sending : sender.Sending) (reception : receiver.Reception) (earlier : List Happening) (entry : sender.Entry) (condition : ℕ) (status : FileStatus)
    → IsSchedule sending reception (sends entry ∷ moves_of earlier) → AnswersTruly is_path_of earlier
    → Contains entry.answer.inds (told.TransactionFinished condition Complete status)
    → Stands is_path_of sending.request earlier
