-- Meaning. What calls do to a session.
use Rattle.std.specs.Prelude.{◌≡◌, ◌⊎◌, ℕ, ◌*◌, List, [], ◌∷◌, length, if◌then◌else◌, Option, Some, None, Result, Ok, Err, OnErr}
use Rattle.cfdp_types.specs.declared.image.Image.{Image}
use Rattle.cfdp_types.specs.declared.key.TxnKey.{TxnKey}
use Rattle.config_reading.specs.Values.{ConfigValue}
use Rattle.config_reading.specs.Walk.{config_of}
use Rattle.entity_config.specs.declared.setting.Setting.{Setting}
use Rattle.indications.specs.declared.bundle.Bundle.{Bundle}
use Rattle.lane_table.specs.declared.done.Done.{Done}
use Rattle.world_table.specs.Histories.{Happening, takes}
use Rattle.entity_routing.specs.declared.world_event.WorldEvent.{WorldEvent}
use Rattle.entity_routing.specs.Routes.{route, key_place}
use Rattle.entity_parts.specs.declared.refusal.EntityRefusal.{EntityRefusal}
use Rattle.world_core.specs.Worlds.{WorldValue, StandsAfter, IsAnswered, IsUnread, IsFront, IsImage, history_after}
use Rattle.cfdp_session.specs.declared.flat.FlatImage.{FlatImage}
use Rattle.cfdp_session.specs.Flat.{flat_image, flat_missing}
use Rattle.cfdp_session.specs.declared.session.Session.{Session}
use Rattle.cfdp_session.specs.Kept.{Last, is_put_off, timers_of}
use Rattle.cfdp_session.specs.Plans.{PlanValue, and_setting, planned}
use Rattle.cfdp_session.specs.Turning.{turned}
use Rattle.entity_routing.specs.declared.world_event.WorldEvent.TheVariants as events
use Rattle.timer_list.specs.declared.armed.Armed.{Armed}
use Rattle.timer_list.specs.Timers.{first_due, without_due}
use Rattle.cfdp_session.specs.Running as timing
use Rattle.cfdp_session.specs.Running.{IsIdle}
use Rattle.cfdp_session.specs.Turns.{TurnsValue, begun}

-- at the beginning no sending lane has anything to send
abbrev pub first_turns : ConfigValue → TurnsValue
first_turns config = begun (length config.users * config.entity.put_lanes)

-- the timers that run
abbrev pub running_in : Session → List Armed
running_in session = timing.running (timers_of session.last) session.timers

-- a timer that has expired, as an event
abbrev pub expiry : Armed → WorldEvent
expiry timer = events.Timer timer.key timer.kind timer.stamp

-- the timers that are left once one was passed on: it goes back if it was refused, and may come again
abbrev pub left_after : Last → Armed → List Armed → List Armed
left_after last timer list = if is_put_off last then timing.with_back timer list else list

-- a session begins with an entity to which nothing has happened
pub record IsOpened (text : List ℕ) (session : Session) : Type 0 where
  pub config : config_of text ≡ Ok session.world.config
  pub stands : StandsAfter session.world []
  pub last : session.last ≡ None
  pub front : session.front ≡ None
  pub image : session.image ≡ None
  pub messages : session.messages ≡ []
  pub turns : session.turns ≡ first_turns session.world.config
  pub timers : session.timers ≡ timing.begun
  pub plan : session.plan ≡ Some (record { text = text; settings = [] })

-- the entity is a new one, whose configuration is that of the plan with one more setting
pub record IsSet (old : Session) (setting : Setting) (new : Session) : Type 0 where
  pub plan : PlanValue
  pub early : old.plan ≡ Some plan
  pub config : planned (and_setting plan setting) ≡ Ok new.world.config
  pub stands : StandsAfter new.world []
  pub others : new ≡ record old { world = new.world; plan = Some (and_setting plan setting) }

-- the entity handles an event, whatever its history, and the session keeps the result in place of the last one; the
-- timers before it are these, and what it leaves to do with them is still to be done, at the time that was told last. No
-- setting may follow
pub record IsTold (old : Session) (event : WorldEvent) (time : Option ℕ) (before : List Armed) (new : Session) : Type 0 where
  pub result : Result Done EntityRefusal
  pub kept : new.last ≡ Some result
  pub answered : (history : List Happening) → StandsAfter old.world history
      → IsAnswered old.world.config history (route old.world.config event) result ⊎ IsUnread event result
  pub stands : (history : List Happening) → StandsAfter old.world history
      → StandsAfter new.world (history_after history (route old.world.config event) result)
  pub config : new.world.config ≡ old.world.config
  pub same : OnErr result (new.world ≡ old.world)
  pub turns : new.turns ≡ turned old.world.config.entity.local event result old.turns
  pub waiting : timing.waiting new.timers ≡ before
  pub clock : new.timers.clock ≡ time
  pub left : new.timers.carried ≡ 0
  pub others : new ≡ record old { world = new.world; last = Some result; turns = new.turns; timers = new.timers; plan = None }

-- the first timer that has expired is passed on, and the others stay
pub record IsTicked (old : Session) (now : ℕ) (new : Session) : Type 0 where
  pub timer : Armed
  pub due : first_due now (running_in old) ≡ Some timer
  pub told : IsTold old (expiry timer) (Some now) (left_after new.last timer (without_due now (running_in old))) new

-- no timer has expired; the time is noted
pub record IsQuiet (old : Session) (now : ℕ) (new : Session) : Type 0 where
  pub none : first_due now (running_in old) ≡ None
  pub running : running_in new ≡ running_in old
  pub clock : new.timers.clock ≡ Some now
  pub others : new ≡ record old { timers = new.timers }

-- memory ran out for a timer of the last event: nothing else changes. It doesn't happen to a caller that never tells the time
pub record IsUnsettled (old new : Session) : Type 0 where
  pub running : running_in new ≡ running_in old
  pub clock : new.timers.clock ≡ old.timers.clock
  pub others : new ≡ record old { timers = new.timers }
  pub busy : IsIdle old.timers → ⊥

-- a user takes the bundle at the front, and the session keeps it in place of the last one
pub record IsTaken (old : Session) (user : ℕ) (new : Session) : Type 0 where
  pub bundle : Bundle
  pub kept : new.front ≡ Some bundle
  pub front : (history : List Happening) → StandsAfter old.world history → IsFront old.world.config history user bundle
  pub stands : (history : List Happening) → StandsAfter old.world history → StandsAfter new.world (takes user ∷ history)
  pub config : new.world.config ≡ old.world.config
  pub others : new ≡ record old { world = new.world; front = Some bundle }

-- the file of the waiting deposit is kept in place of the last one, and its lengths are reported
pub record IsLoaded (old : Session) (key : TxnKey) (stamp : ℕ) (new : Session) (flat : FlatImage) : Type 0 where
  pub image : Image
  pub found : (history : List Happening) → StandsAfter old.world history → IsImage old.world history key stamp (key_place old.world.config key) (Ok image)
  pub kept : new ≡ record old { image = Some image }
  pub told : flat ≡ flat_image image

-- there is no such file, for the reason that is reported
pub record IsMissing (world : WorldValue) (key : TxnKey) (stamp : ℕ) (flat : FlatImage) : Type 0 where
  pub why : EntityRefusal
  pub missing : (history : List Happening) → StandsAfter world history → IsImage world history key stamp (key_place world.config key) (Err why)
  pub told : flat ≡ flat_missing why
