-- Meaning. The script of a journal, and the history of an entity that plays it.
use Rattle.std.specs.Prelude.{◌≡◌, ℕ, Bool, true, false, List, [], ◌∷◌, ◌++◌, slice_get, Option, Some, None, Ok, IsTrue}
use Rattle.config_reading.specs.Values.{ConfigValue}
use Rattle.entity_config.specs.Settings.{with_setting}
use Rattle.entity_config.specs.declared.setting.Setting.TheVariants as setting
use Rattle.entity_parts.specs.FirstLanes.{first_lane}
use Rattle.entity_routing.specs.Routes.{Routed, route}
use Rattle.entity_routing.specs.declared.place.Place.{Place}
use Rattle.txn_events.specs.declared.event.Event.{Event}
use Rattle.world_table.specs.Histories.{Happening, steps, takes, held_for, AreIdle, IsHistory}
use Rattle.world_core.specs.Routed.{AreRouted}
use Rattle.world_core.specs.Worlds.{WorldValue, StandsAfter}
use Rattle.journal_scripts.specs.Laws.{caller_event}
use Rattle.journal_scripts.specs.Rows.{event_text, first_words, row_text, take_words}

-- ---- the begin

-- the configuration that a script begins with: that of its player, or the same with other first numbers
abbrev pub BeginsWith : ConfigValue → Option ℕ → ConfigValue → Type 0
BeginsWith config None begun = begun ≡ config
BeginsWith config (Some first) begun = with_setting (setting.First first) config ≡ Ok begun

-- the line for that
abbrev pub first_text : Option ℕ → List ℕ
first_text None = []
first_text (Some first) = row_text (first_words first)

-- a user's name; nothing for a user that doesn't exist
abbrev pub name_in : ConfigValue → ℕ → List ℕ
name_in config user = named (slice_get config.users user)
  where
    named : Option (List ℕ) → List ℕ
    named None = []
    named (Some name) = name

-- ---- events

-- a history in which the user takes a bundle, or not
abbrev pub taken_if : Bool → ℕ → List Happening → List Happening
taken_if true user history = takes user ∷ history
taken_if false user history = history

-- the line of a take, or none
abbrev pub take_text : Bool → List ℕ → List ℕ
take_text true name = row_text (take_words name)
take_text false name = []

-- an event is passed to the entity, as it once came, and becomes a step of a lane; where it issued indications to its
-- user, a take follows; and these are the lines
pub record Step (config : ConfigValue) (name : List ℕ) (place : Place) (earlier : List Happening) (event : Event) (later : List Happening) (text : List ℕ) : Type 0 where
  pub routed : Routed
  pub goes : route config (caller_event place.user place.lane event) ≡ Ok routed
  pub told : Bool
  pub later_is : later ≡ taken_if told place.user (steps routed.place.user routed.place.lane routed.event ∷ earlier)
  pub text_is : text ≡ event_text name place.lane event ++ take_text told name

-- one event after the other, oldest first
abbrev pub Steps : ConfigValue → List ℕ → Place → List Happening → List Event → List Happening → List ℕ → Type 0
Steps config name place earlier [] later text = (later ≡ earlier) × (text ≡ [])
Steps config name place earlier (event ∷ events) later text =
    (mid : List Happening) × (first : List ℕ) × (others : List ℕ) × Step config name place earlier event mid first
    × Steps config name place mid events later others × (text ≡ first ++ others)

-- ---- the script

-- a text is the script of a journal: played in a fresh entity, whose numbers begin as the script says, each of its
-- events is accepted where it goes, each of its takes finds a bundle, and at the end none is left
pub record IsScriptOf (config : ConfigValue) (first : Option ℕ) (place : Place) (journal : List Event) (text : List ℕ) : Type 0 where
  pub begun : ConfigValue
  pub begins : BeginsWith config first begun
  pub history : List Happening
  pub lines : List ℕ
  pub steps_are : Steps begun (name_in begun place.user) place [] journal history lines
  pub routed : AreRouted begun history
  pub idle : AreIdle (first_lane begun)
  pub legal : IsHistory (first_lane begun) history
  pub none_left : held_for (first_lane begun) history place.user ≡ []
  pub text_is : text ≡ first_text first ++ lines

-- ---- while it is made

-- an entity has played one more event, and its lines were added
pub record HasPlayedOne (config : ConfigValue) (name : List ℕ) (place : Place) (earlier : List Happening) (event : Event) (world : WorldValue) (old new : List ℕ) : Type 0 where
  pub later : List Happening
  pub said : List ℕ
  pub step : Step config name place earlier event later said
  pub stands : StandsAfter world later
  pub text_is : new ≡ old ++ said

-- an entity has played these further events, and their lines were added
pub record HasPlayed (config : ConfigValue) (name : List ℕ) (place : Place) (earlier : List Happening) (events : List Event) (world : WorldValue) (old new : List ℕ) : Type 0 where
  pub later : List Happening
  pub said : List ℕ
  pub steps_are : Steps config name place earlier events later said
  pub stands : StandsAfter world later
  pub text_is : new ≡ old ++ said
