-- Meaning. The laws of every run of an entity of one thread.
use Rattle.std.specs.Prelude.{◌≡◌, ℕ, All, List, [], ◌∷◌, ◌++◌, Option, Some, None, Ok, Contains}
use Rattle.cfdp_types.specs.declared.image.Image.{Image}
use Rattle.cfdp_types.specs.declared.key.TxnKey.{TxnKey}
use Rattle.cfdp_types.specs.declared.names.Delivery.TheVariants.{Complete}
use Rattle.cfdp_types.specs.declared.names.FileStatus.{FileStatus}
use Rattle.indications.specs.declared.indication.Indication.TheVariants as told
use Rattle.indications.specs.declared.side.Side.TheVariants.{Receiver}
use Rattle.indications.specs.LaneLists.{of_lane, told_of, IsLaneList}
use Rattle.receiver_table.specs.Reception.{Reception, Entry, state_of}
use Rattle.receiver_laws.specs.LegalReceptions.{IsGood}
use Rattle.receiver_laws.specs.ReceptionLaws.{IsGiven}
use Rattle.txn_events.specs.declared.event.Event.{Event}
use Rattle.txn_events.specs.declared.event.Event.TheVariants.{Put, On}
use Rattle.lane_table.specs.Lane.{State, key_at, issued_in, IsSound}
use Rattle.lane_table.specs.Logs.{Log, received, end_of, IsLegal, IsOfKey}
use Rattle.lane_table.specs.Steps.{image_of}
use Rattle.lane_table.specs.Keeping.{IsOfSide, Keeps}
use Rattle.world_table.specs.Histories.{Happening, lane_after, events_for, log_for, mine, held_for, taken_by, AreIdle, IsHistory}

-- what a user took, and then what waits, is all that the user's lanes issued, each bundle once and in order
abbrev pub TakesAllInOrder : Type 0
TakesAllInOrder = (lanes : ℕ → ℕ → State) (history : List Happening) (user : ℕ)
    → taken_by lanes history user ++ held_for lanes history user ≡ mine lanes history user

-- what each lane of a user issued is a lane list, of words of the lane's end
abbrev pub TellsLaneLists : Type 0
TellsLaneLists = (lanes : ℕ → ℕ → State) (history : List Happening) (user lane : ℕ) → AreIdle lanes → IsHistory lanes history
    → IsLaneList user lane (lanes user lane).source (of_lane lane (mine lanes history user))
    × ((number : ℕ) → IsOfSide (end_of (lanes user lane).side) (told_of number (of_lane lane (mine lanes history user))))

-- the user's indications of a lane's transaction are what the log of the transaction's own events issues
abbrev pub TellsWhatLogsTell : Type 0
TellsWhatLogsTell = (lanes : ℕ → ℕ → State) (history : List Happening) (user lane number : ℕ) → AreIdle lanes → IsHistory lanes history
    → told_of number (of_lane lane (mine lanes history user)) ≡ issued_in (log_for lanes history user lane number)

-- a lane's journal has the events of the transaction that it opened last
abbrev pub KeepsJournals : Type 0
KeepsJournals = (lanes : ℕ → ℕ → State) (history : List Happening) (user lane number : ℕ) → AreIdle lanes → IsHistory lanes history
    → (lane_after lanes history user lane).last ≡ Some number
    → (lane_after lanes history user lane).journal ≡ events_for lanes history user lane number

-- an event of the transaction with a key: a Put, which opens one, or an event with this key, which a PDU in it has too
abbrev pub IsEventOf : TxnKey → Event → Type 0
IsEventOf key (Put request params) = Unit {0}
IsEventOf key (On named happens) = (named ≡ key) × IsOfKey (On named happens) key

-- every event of a transaction belongs to its key
abbrev pub KeepsEventsApart : Type 0
KeepsEventsApart = (lanes : ℕ → ℕ → State) (history : List Happening) (user lane number : ℕ) → AreIdle lanes → IsHistory lanes history
    → All (IsEventOf (key_at (lanes user lane).source number)) (events_for lanes history user lane number)

-- a lane knows the bundles that it issued
abbrev pub LanesKeep : Type 0
LanesKeep = (lanes : ℕ → ℕ → State) (history : List Happening) (user lane : ℕ) → AreIdle lanes → IsHistory lanes history
    → Keeps (lane_after lanes history user lane) (of_lane lane (mine lanes history user))

-- ---- logs

-- where there are events there is a log, which is legal for its end
abbrev pub IsLogged : List Event → Option Log → Type 0
IsLogged [] log = Unit {0}
IsLogged (first ∷ later) None = ⊥
IsLogged (first ∷ later) (Some log) = IsLegal log

-- the state of each lane is sound, and each of its transactions with an event has a log that is legal for its end
abbrev pub LogsAreLegal : Type 0
LogsAreLegal = (lanes : ℕ → ℕ → State) (history : List Happening) (user lane : ℕ) → AreIdle lanes → IsHistory lanes history
    → IsSound (lane_after lanes history user lane)
    × ((number : ℕ) → IsLogged (events_for lanes history user lane number) (log_for lanes history user lane number))

-- the lane's transaction with this number is a reception with this key and this legal log
pub record IsReceived (lanes : ℕ → ℕ → State) (history : List Happening) (user lane number : ℕ) (reception : Reception) (log : List Entry) : Type 0 where
  pub log_is : log_for lanes history user lane number ≡ Some (received reception log)
  pub key_is : reception.key ≡ key_at (lanes user lane).source number
  pub legal : IsLegal (received reception log)

-- the file of a lane's transaction was received as its Metadata and its EOF describe it
pub record HasGoodFile (lanes : ℕ → ℕ → State) (history : List Happening) (user lane number : ℕ) : Type 0 where
  pub reception : Reception
  pub log : List Entry
  pub is_received : IsReceived lanes history user lane number reception log
  pub good : IsGood (state_of log)

-- where a receiving lane indicated a complete delivery, the file was received
abbrev pub DeliversGood : Type 0
DeliversGood = (lanes : ℕ → ℕ → State) (history : List Happening) (user lane number condition : ℕ) (status : FileStatus) → AreIdle lanes → IsHistory lanes history
    → end_of (lanes user lane).side ≡ Receiver
    → Contains (told_of number (of_lane lane (mine lanes history user))) (told.TransactionFinished condition Complete status)
    → HasGoodFile lanes history user lane number

-- the image is that of a good file of the transaction with the key: the names in its Metadata and the received octets
pub record IsImageOf (lanes : ℕ → ℕ → State) (history : List Happening) (user lane : ℕ) (key : TxnKey) (stamp : ℕ) (image : Image) : Type 0 where
  pub reception : Reception
  pub log : List Entry
  pub is_received : IsReceived lanes history user lane key.seq reception log
  pub key_is : reception.key ≡ key
  pub given : IsGiven (state_of log) stamp
  pub image_is : given.image ≡ image

-- the image that a lane gives for a key and a stamp is such an image
abbrev pub GivesImages : Type 0
GivesImages = (lanes : ℕ → ℕ → State) (history : List Happening) (user lane : ℕ) (key : TxnKey) (stamp : ℕ) (image : Image) → AreIdle lanes → IsHistory lanes history
    → image_of (lane_after lanes history user lane) key stamp ≡ Ok image
    → IsImageOf lanes history user lane key stamp image
