-- Meaning. To which reception the image belongs that a lane gives.
use Rattle.std.specs.Prelude.{◌≡◌, ℕ, List, Some, Ok}
use Rattle.cfdp_types.specs.declared.image.Image.{Image}
use Rattle.cfdp_types.specs.declared.key.TxnKey.{TxnKey}
use Rattle.receiver_table.specs.Reception.{Reception, Entry, state_of}
use Rattle.receiver_laws.specs.LegalReceptions.{IsLegal}
use Rattle.receiver_laws.specs.ReceptionLaws.{IsGiven}
use Rattle.lane_table.specs.Logs.{received}
use Rattle.lane_table.specs.Lane.{State, IsSound, log_of}
use Rattle.lane_table.specs.Steps.{image_of}

-- the lane's log is a legal one of a reception with the key, the deposit with the stamp waits, and the image is its
-- good file
pub record IsOwnFile (state : State) (key : TxnKey) (stamp : ℕ) (image : Image) : Type 0 where
  pub reception : Reception
  pub log : List Entry
  pub log_is : log_of state ≡ Some (received reception log)
  pub key_is : reception.key ≡ key
  pub legal : IsLegal reception log
  pub waits : (state_of log).waiting ≡ Some stamp
  pub given : IsGiven (state_of log) stamp
  pub image_is : given.image ≡ image

-- the image that a sound lane gives for a key and a stamp is such a file
abbrev pub GivesOwnFiles : Type 0
GivesOwnFiles = (state : State) (key : TxnKey) (stamp : ℕ) (image : Image) → IsSound state → image_of state key stamp ≡ Ok image → IsOwnFile state key stamp image
