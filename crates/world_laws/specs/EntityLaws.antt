-- Meaning. The laws of every run of an entity whose events go where its configuration says.
use Rattle.std.specs.Prelude.{◌≡◌, ℕ, Bool, false, IsTrue, ◌&&◌, ◌==◌, if◌then◌else◌, All, List, ◌++◌, Some, Ok, Contains}
use Rattle.std.specs.List.{filter, list_any}
use Rattle.cfdp_types.specs.declared.key.TxnKey.{TxnKey}
use Rattle.cfdp_types.specs.declared.names.Delivery.TheVariants.{Complete}
use Rattle.cfdp_types.specs.declared.names.FileStatus.{FileStatus}
use Rattle.config_reading.specs.Values.{ConfigValue, is_config}
use Rattle.indications.specs.declared.bundle.Bundle.{Bundle}
use Rattle.indications.specs.declared.indication.Indication.{Indication}
use Rattle.indications.specs.declared.indication.Indication.TheVariants as told
use Rattle.indications.specs.declared.side.Side.{Side}
use Rattle.indications.specs.declared.side.Side.TheVariants.{Sender, Receiver}
use Rattle.indications.specs.LaneLists.{told_in}
use Rattle.indications.specs.Words.{is_end, IsBegunOf}
use Rattle.world_table.specs.Histories.{Happening, mine, IsHistory}
use Rattle.world_table.specs.HistoryLaws.{HasGoodFile}
use Rattle.lane_table.specs.Steps.{IsKeyed}
use Rattle.entity_routing.specs.declared.world_event.WorldEvent.{WorldEvent}
use Rattle.entity_routing.specs.Places.{is_local, place_of}
use Rattle.entity_routing.specs.Routes.{Routed, route}
use Rattle.entity_parts.specs.FirstLanes.{first_lane}
use Rattle.world_core.specs.Routed.{AreRouted, IsRoutedTo}
use Rattle.world_core.specs.Worlds.{MayCome}

-- ---- routes

-- an admissible event that goes to a lane belongs in that lane
abbrev pub RoutesHome : Type 0
RoutesHome = (config : ConfigValue) (event : WorldEvent) (routed : Routed) → MayCome config event → route config event ≡ Ok routed
    → IsRoutedTo config routed.place.user routed.place.lane routed.event × IsKeyed routed.event

-- ---- keys

-- the transaction of a bundle belongs to the user, and to the lane that issued the bundle
abbrev pub IsAtHome : ConfigValue → ℕ → Bundle → Type 0
IsAtHome config user bundle = place_of config bundle.key ≡ Some (record { user = user; lane = bundle.lane })

-- every bundle to a user is such a bundle
abbrev pub TellsAtHome : Type 0
TellsAtHome = (config : ConfigValue) (history : List Happening) (user : ℕ) → IsTrue (is_config config)
    → AreRouted config history → IsHistory (first_lane config) history
    → All (IsAtHome config user) (mine (first_lane config) history user)

-- whether a bundle is of the transaction with this key
abbrev pub has_key : TxnKey → Bundle → Bool
has_key key bundle = bundle.key.source.0 == key.source.0 && bundle.key.seq == key.seq

-- all indications of a transaction in the bundles, in order
abbrev pub told_under : TxnKey → List Bundle → List Indication
told_under key bundles = told_in (filter (has_key key) bundles)

-- ---- words

-- the end of a transaction at the entity: it sends its own transactions, and receives all others
abbrev pub end_here : ConfigValue → TxnKey → Side
end_here config key = if is_local config key.source then Sender else Receiver

-- a user's indications of a transaction are the beginning of a word of that end, in which nothing follows an end
abbrev pub TellsWords : Type 0
TellsWords = (config : ConfigValue) (history : List Happening) (user : ℕ) (key : TxnKey) → IsTrue (is_config config)
    → AreRouted config history → IsHistory (first_lane config) history
    → IsBegunOf (end_here config key) (told_under key (mine (first_lane config) history user))

-- ---- ends

-- after the end of a transaction is indicated, no user gets more indications of it; later happenings are in front
abbrev pub TellsNothingMore : Type 0
TellsNothingMore = (config : ConfigValue) (later earlier : List Happening) (user other : ℕ) (key : TxnKey) → IsTrue (is_config config)
    → AreRouted config (later ++ earlier) → IsHistory (first_lane config) (later ++ earlier)
    → IsTrue (list_any is_end (told_under key (mine (first_lane config) earlier user)))
    → told_under key (mine (first_lane config) (later ++ earlier) other) ≡ told_under key (mine (first_lane config) earlier other)

-- ---- files

-- the user received a file by a transaction with this key, as its Metadata and its EOF describe it
pub record HasFile (config : ConfigValue) (history : List Happening) (user : ℕ) (key : TxnKey) : Type 0 where
  pub lane : ℕ
  pub place : place_of config key ≡ Some (record { user = user; lane = lane })
  pub file : HasGoodFile (first_lane config) history user lane key.seq
  pub key_is : file.reception.key ≡ key

-- where a complete delivery from another entity is indicated, the file was received
abbrev pub DeliversFiles : Type 0
DeliversFiles = (config : ConfigValue) (history : List Happening) (user : ℕ) (key : TxnKey) (condition : ℕ) (status : FileStatus) → IsTrue (is_config config)
    → AreRouted config history → IsHistory (first_lane config) history → is_local config key.source ≡ false
    → Contains (told_under key (mine (first_lane config) history user)) (told.TransactionFinished condition Complete status)
    → HasFile config history user key
