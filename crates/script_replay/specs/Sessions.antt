-- Meaning. What the lines of a script do to an entity, and how they are answered.
use Rattle.std.specs.Prelude.{◌≡◌, ℕ, ◌<◌, ◌≤◌, Bool, true, false, List, [], ◌∷◌, ◌++◌, length, Option, Some, None, Result, Ok, IsErr, ◌⊎◌}
use Rattle.std.specs.Option.{option_map}
use Rattle.config_reading.specs.Values.{ConfigValue}
use Rattle.entity_config.specs.declared.setting.Setting.{Setting}
use Rattle.entity_config.specs.Reference.{reference_config}
use Rattle.entity_config.specs.Settings.{with_setting}
use Rattle.entity_routing.specs.declared.world_event.Request.TheVariants as requests
use Rattle.entity_routing.specs.declared.world_event.WorldEvent.{WorldEvent}
use Rattle.entity_routing.specs.declared.world_event.WorldEvent.TheVariants as events
use Rattle.entity_routing.specs.Routes.{route}
use Rattle.indications.specs.declared.bundle.Bundle.{Bundle}
use Rattle.lane_table.specs.declared.done.Done.{Done}
use Rattle.world_table.specs.Histories.{Happening, takes, held_for}
use Rattle.entity_parts.specs.declared.refusal.EntityRefusal.{EntityRefusal}
use Rattle.entity_parts.specs.FirstLanes.{first_lane}
use Rattle.world_core.specs.Worlds.{MayCome, IsAnswered, IsUnread, IsFront, history_after}
use Rattle.script_lines.specs.declared.command.Command.{Command}
use Rattle.script_lines.specs.declared.command.Command.TheVariants as command
use Rattle.script_replay.specs.Texts.{answer_text, taken_text, user_name}

-- the configuration, whether it may still be changed, the octets that lines have gathered for the next put, where they
-- gather any, and the entity's history, newest first
pub record Session : Type 0 where
  pub config : ConfigValue
  pub may_set : Bool
  pub gathered : Option (List ℕ)
  pub history : List Happening

-- a script begins with the reference configuration, which it may change, and gathers no octets
abbrev pub fresh : Session
fresh = record { config = reference_config; may_set = true; gathered = None; history = [] }

-- a script that is played with a configuration begins with that one, and may gather octets
abbrev pub configured : ConfigValue → Session
configured config = record { config = config; may_set = true; gathered = Some []; history = [] }

-- the session with a longer history: from now on its configuration stays
abbrev pub with_history : Session → List Happening → Session
with_history session history = record session { may_set = false; history = history }

-- ---- settings

-- a setting is made, if it may be, and nothing is printed
pub record IsSet (session : Session) (setting : Setting) (after : Session) (text : List ℕ) : Type 0 where
  pub early : session.may_set ≡ true
  pub config : ConfigValue
  pub set : with_setting setting session.config ≡ Ok config
  pub after_is : after ≡ record session { config = config }
  pub silent : text ≡ []

-- ---- files in pieces

-- octets are appended to those that were gathered, and nothing is printed
pub record IsGathered (session : Session) (octets : List ℕ) (after : Session) (text : List ℕ) : Type 0 where
  pub front : List ℕ
  pub gathers : session.gathered ≡ Some front
  pub after_is : after ≡ record session { gathered = Some (front ++ octets) }
  pub silent : text ≡ []

-- what is gathered for the next put, after an event: nothing yet after a put, which has used it up
abbrev pub left_by : Bool → Option (List ℕ) → Option (List ℕ)
left_by true gathered = option_map (λ front. []) gathered
left_by false gathered = gathered

-- ---- events

-- an event is a Put
abbrev pub is_put : WorldEvent → Bool
is_put (events.Request user (requests.Put lane put)) = true
is_put event = false

-- the entity receives an event, accepts or refuses it, and the answer is printed
pub record IsTold (session : Session) (event : WorldEvent) (after : Session) (text : List ℕ) : Type 0 where
  pub may : MayCome session.config event
  pub result : Result Done EntityRefusal
  pub answered : IsAnswered session.config session.history (route session.config event) result ⊎ IsUnread event result
  pub after_is : after ≡ record (with_history session (history_after session.history (route session.config event) result))
      { gathered = left_by (is_put event) session.gathered }
  pub printed : text ≡ answer_text (is_put event) result

-- ---- takes

-- the user's front bundle, or none if the queue is empty
abbrev pub Gives : ConfigValue → List Happening → ℕ → Option Bundle → Type 0
Gives config history user None = held_for (first_lane config) history user ≡ []
Gives config history user (Some bundle) = IsFront config history user bundle

-- the history after that
abbrev pub history_taken : List Happening → ℕ → Option Bundle → List Happening
history_taken history user None = history
history_taken history user (Some bundle) = takes user ∷ history

-- a user takes its next bundle, if there is one, and that is printed
pub record IsTakenBy (session : Session) (user : ℕ) (after : Session) (text : List ℕ) : Type 0 where
  pub may : user < length session.config.users
  pub taken : Option Bundle
  pub gives : Gives session.config session.history user taken
  pub after_is : after ≡ with_history session (history_taken session.history user taken)
  pub printed : text ≡ taken_text (user_name session.config user) taken

-- ---- lines

-- a line is carried out, and this is printed
abbrev pub Answers : Session → Command → Session → List ℕ → Type 0
Answers session command.Nothing after text = (after ≡ session) × (text ≡ [])
Answers session (command.Set setting) after text = IsSet session setting after text
Answers session (command.File octets) after text = IsGathered session octets after text
Answers session (command.Event event) after text = IsTold session event after text
Answers session (command.Take user) after text = IsTakenBy session user after text

-- a setting comes too late, or is refused
abbrev pub IsBadSetting : Session → Setting → Type 0
IsBadSetting session setting = (session.may_set ≡ false) ⊎ IsErr (with_setting setting session.config)

-- a line is bad there: it can't be parsed, makes no setting, gathers octets where none are gathered, or names a user or
-- a lane that the entity does not have
abbrev pub IsBadFor : Session → Option Command → Type 0
IsBadFor session None = Unit {0}
IsBadFor session (Some command.Nothing) = ⊥
IsBadFor session (Some (command.Set setting)) = IsBadSetting session setting
IsBadFor session (Some (command.File octets)) = session.gathered ≡ None
IsBadFor session (Some (command.Event event)) = MayCome session.config event → ⊥
IsBadFor session (Some (command.Take user)) = length session.config.users ≤ user
