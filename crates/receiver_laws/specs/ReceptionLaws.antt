-- Meaning. The laws of every reception of either class, for all parameters.
use Rattle.std.specs.Prelude.{◌≡◌, ℕ, ◌<◌, ◌≤◌, true, List, length, slice_get, option_map, Some, Ok, Contains}
use Rattle.cfdp_types.specs.declared.image.Image.{Image}
use Rattle.cfdp_types.specs.declared.limits.TheConstants.{JOURNAL_ENTRIES}
use Rattle.cfdp_types.specs.declared.names.Delivery.TheVariants.{Complete}
use Rattle.cfdp_types.specs.declared.names.FileStatus.{FileStatus}
use Rattle.indications.specs.declared.indication.Indication.TheVariants as told
use Rattle.indications.specs.Words.{IsBegun, IsWord}
use Rattle.receiver_table.specs.Reception.{Reception, Entry, State, state_of, issued}
use Rattle.receiver_laws.specs.LegalReceptions.{IsLegal, IsGood}
use Rattle.receiver_table.specs.Images.{image_at}

-- the indications of a reception are the beginning of a word, and a word once it has ended
abbrev pub TellsWords : Type 0
TellsWords = (reception : Reception) (log : List Entry) → IsLegal reception log
    → IsBegun (issued log) × ((state_of log).ended ≡ true → IsWord (issued log))

-- where a complete delivery is indicated, the file was received as its Metadata and its EOF describe it
abbrev pub CompletesGood : Type 0
CompletesGood = (reception : Reception) (log : List Entry) (condition : ℕ) (status : FileStatus) → IsLegal reception log
    → Contains (issued log) (told.TransactionFinished condition Complete status) → IsGood (state_of log)

-- the stamp gives a good file, with the names of its Metadata and the octets received below its EOF's size
pub record IsGiven (state : State) (stamp : ℕ) : Type 0 where
  pub good : IsGood state
  pub image : Image
  pub given : image_at state stamp ≡ Ok image
  pub source_name : image.source_name ≡ good.metadata.source_name
  pub destination_name : image.destination_name ≡ good.metadata.destination_name
  pub size : length image.octets ≡ good.eof.size
  pub octets : (i : ℕ) → i < good.eof.size → slice_get image.octets i ≡ state.received i

-- while a deposit waits, its file is good, and its stamp gives that file
abbrev pub DepositsGood : Type 0
DepositsGood = (reception : Reception) (log : List Entry) (stamp : ℕ) → IsLegal reception log
    → (state_of log).waiting ≡ Some stamp → IsGiven (state_of log) stamp

-- closure is requested exactly where the first Metadata requests it
abbrev pub AsksAsMetadata : Type 0
AsksAsMetadata = (log : List Entry) → (state_of log).closure ≡ option_map (λ first. first.closure) (state_of log).metadata

-- a legal log has no more entries than a journal may have
abbrev pub FitsJournal : Type 0
FitsJournal = (reception : Reception) (log : List Entry) → IsLegal reception log → length log ≤ JOURNAL_ENTRIES
