-- What a line does to what is kept of a session.
use Rattle.std.proofs.Common.{◌≡◌, ℕ, ◌<◌, ◌≤◌, Bool, true, false, List, [], ◌++◌, length, Option, Some, None, Result, Ok, Err, OnOk, IfOk, IfErr, is_ok, IfSome, IfNone, ◌⊎◌, inr, refl, sym, ap, ◌∙◌, subst, append-nil, ◌∷◌, is_some, option_map}
use Rattle.config_reading.specs.declared.fault.ConfigFault.{ConfigFault}
use Rattle.config_reading.specs.Values.{ConfigValue}
use Rattle.entity_config.specs.declared.setting.Setting.{Setting}
use Rattle.entity_config.specs.Settings.{with_setting}
use Rattle.entity_routing.specs.declared.world_event.WorldEvent.{WorldEvent}
use Rattle.entity_routing.specs.Routes.{route}
use Rattle.indications.specs.declared.bundle.Bundle.{Bundle}
use Rattle.lane_table.specs.declared.done.Done.{Done}
use Rattle.world_table.specs.Histories.{Happening, takes, held_for}
use Rattle.entity_parts.specs.declared.refusal.EntityRefusal.{EntityRefusal}
use Rattle.entity_parts.specs.FirstLanes.{first_lane}
use Rattle.world_core.specs.Worlds.{WorldValue, StandsAfter, MayCome, IsAnswered, IsUnread, IsFront, history_after}
use Rattle.script_lines.specs.declared.command.Command.{Command}
use Rattle.script_lines.specs.declared.command.Command.TheVariants as command
use Rattle.script_lines.specs.Commands.{command_of}
use Rattle.script_replay.specs.declared.session.Session.{Session as Kept}
use Rattle.script_replay.specs.declared.session.Stage.{Stage}
use Rattle.script_replay.specs.declared.session.Stage.TheVariants.{Configured, Running, Over}
use Rattle.script_replay.specs.Sessions.{Session, with_history, is_put, left_by, Gives, history_taken, IsBadFor, Answers}
use Rattle.script_replay.specs.Texts.{answer_text, taken_text, user_name}
use Rattle.script_replay.specs.Running.{Stands, StandsAt, IsSettable, RunsAs, SetsTo, DoesTo, ToldTo, ObeysTo, PlaysTo}

-- ---- settings

pub set_made : (session : Session) (setting : Setting) (old new : ConfigValue) → IsSettable old session → with_setting setting old ≡ Ok new
    → SetsTo true session setting (Configured new)
set_made session setting old new is made = (
  record session { config = new },
  record { config_is = refl; may = is.may; begins = is.begins },
  record { early = is.may; config = new; set = ap (with_setting setting) is.config_is ∙ made; after_is = refl; silent = refl },
)

pub set_refused : (session : Session) (setting : Setting) (old : ConfigValue) (stage : Stage) (fault : ConfigFault) → IsSettable old session
    → with_setting setting old ≡ Err fault → SetsTo false session setting stage
set_refused session setting old stage fault is refused = inr (rw (ap (with_setting setting) is.config_is ∙ refused) refl)

pub set_either : {A : Type 0} (session : Session) (setting : Setting) (old new : ConfigValue) (result : Result A ConfigFault) → IsSettable old session
    → OnOk result (with_setting setting old ≡ Ok new) → IfErr result (λ fault. with_setting setting old ≡ Err fault)
    → SetsTo (is_ok result) session setting (Configured new)
set_either session setting old new (Ok done) is made refused = set_made session setting old new is made
set_either session setting old new (Err fault) is made refused = set_refused session setting old (Configured new) fault is refused

-- ---- the entity

pub begun : (session : Session) (config : ConfigValue) (world : WorldValue) → IsSettable config session → world.config ≡ config → StandsAfter world []
    → RunsAs world session
begun session config world is same stands = record {
  config = same ∙ sym is.config_is;
  stands = subst (StandsAfter world) (sym is.begins) stands;
}

-- ---- events

pub told_unknown : (world : WorldValue) (event : WorldEvent) (session : Session) (text : List ℕ) → RunsAs world session → (MayCome world.config event → ⊥)
    → ToldTo false session (command.Event event) world text text
told_unknown world event session text runs never = λ may. never (subst (λ config. MayCome config event) (sym runs.config) may)

pub told : (old new : WorldValue) (event : WorldEvent) (result : Result Done EntityRefusal) (session : Session) (before after : List ℕ) → RunsAs old session
    → MayCome old.config event
    → ((history : List Happening) → StandsAfter old history → IsAnswered old.config history (route old.config event) result ⊎ IsUnread event result)
    → ((history : List Happening) → StandsAfter old history → StandsAfter new (history_after history (route old.config event) result))
    → new.config ≡ old.config → after ≡ before ++ answer_text (is_put event) result
    → ToldTo true session (command.Event event) new before after
told old new event result session before after runs may answered stands same printed =
    let later = history_after session.history (route session.config event) result in (
      record (with_history session later) { gathered = left_by (is_put event) session.gathered },
      answer_text (is_put event) result,
      (
        refl,
        record {
          config = same ∙ runs.config;
          stands = subst (λ config. StandsAfter new (history_after session.history (route config event) result)) runs.config (stands session.history runs.stands);
        },
      ),
      record {
        may = subst (λ config. MayCome config event) runs.config may;
        result = result;
        answered = subst (λ config. IsAnswered config session.history (route config event) result ⊎ IsUnread event result) runs.config
            (answered session.history runs.stands);
        after_is = refl;
        printed = refl;
      },
      printed,
    )

-- ---- takes

pub taken_unknown : (world : WorldValue) (user : ℕ) (session : Session) (text : List ℕ) → RunsAs world session → length world.config.users ≤ user
    → ToldTo false session (command.Take user) world text text
taken_unknown world user session text runs unknown = subst (λ (config : ConfigValue). length config.users ≤ user) runs.config unknown

gives : (config : ConfigValue) (history : List Happening) (user : ℕ) (taken : Option Bundle) → IfNone taken (held_for (first_lane config) history user ≡ [])
    → IfSome taken (IsFront config history user) → Gives config history user taken
gives config history user None none front = none
gives config history user (Some bundle) none front = front

stands_taken : (old new : WorldValue) (history : List Happening) (user : ℕ) (taken : Option Bundle) → StandsAfter old history → IfNone taken (new ≡ old)
    → IfSome taken (λ bundle. StandsAfter new (takes user ∷ history)) → StandsAfter new (history_taken history user taken)
stands_taken old new history user None stands same then_stands = subst (λ w. StandsAfter w history) (sym same) stands
stands_taken old new history user (Some bundle) stands same then_stands = then_stands

pub taken : (old new : WorldValue) (user : ℕ) (taken : Option Bundle) (session : Session) (before after : List ℕ) → RunsAs old session
    → user < length old.config.users
    → ((history : List Happening) → StandsAfter old history → IfNone taken (held_for (first_lane old.config) history user ≡ []))
    → IfNone taken (new ≡ old)
    → ((history : List Happening) → StandsAfter old history → IfSome taken (IsFront old.config history user))
    → ((history : List Happening) → StandsAfter old history → IfSome taken (λ bundle. StandsAfter new (takes user ∷ history)))
    → new.config ≡ old.config → after ≡ before ++ taken_text (user_name new.config user) taken
    → ToldTo true session (command.Take user) new before after
taken old new user took session before after runs may none left front stands same printed =
    let later = history_taken session.history user took in (
      with_history session later,
      taken_text (user_name session.config user) took,
      (
        refl,
        record {
          config = same ∙ runs.config;
          stands = stands_taken old new session.history user took runs.stands left (stands session.history runs.stands);
        },
      ),
      record {
        may = subst (λ (config : ConfigValue). user < length config.users) runs.config may;
        taken = took;
        gives = subst (λ config. Gives config session.history user took) runs.config
            (gives old.config session.history user took (none session.history runs.stands) (front session.history runs.stands));
        after_is = refl;
        printed = refl;
      },
      printed ∙ ap (λ (config : ConfigValue). before ++ taken_text (user_name config user) took) (same ∙ runs.config),
    )

-- ---- lines

pub obeys_nothing : (session : Session) (kept : Kept) (text : List ℕ) → Stands kept session → ObeysTo true session command.Nothing kept text text
obeys_nothing session kept text stands = (session, [], stands, (refl, refl), sym (append-nil text))

pub obeys_set : (good : Bool) (session : Session) (setting : Setting) (stage : Stage) (kept : Kept) (text : List ℕ) → SetsTo good session setting stage
    → session.gathered ≡ kept.gathered → stage ≡ kept.stage → ObeysTo good session (command.Set setting) kept text text
obeys_set false session setting stage kept text bad same is = bad
obeys_set true session setting stage kept text (after, stands, set) same is =
    (after, [], (ap (λ (s : Session). s.gathered) set.after_is ∙ same, subst (λ (s : Stage). StandsAt s after) is stands), set, sym (append-nil text))

-- octets are gathered, or there is nothing that gathers them
pub obeys_file : (good : Bool) (session : Session) (octets : List ℕ) (old kept : Kept) (text : List ℕ) → Stands old session → old.stage ≡ kept.stage
    → good ≡ is_some old.gathered → kept.gathered ≡ option_map (λ front. front ++ octets) old.gathered
    → ObeysTo good session (command.File octets) kept text text
obeys_file good session octets old kept text (same, stands) is good_is added = by old.gathered good same good_is added
  where
    by : (gathered : Option (List ℕ)) (good : Bool) → session.gathered ≡ gathered → good ≡ is_some gathered
        → kept.gathered ≡ option_map (λ front. front ++ octets) gathered → ObeysTo good session (command.File octets) kept text text
    by None true same good_is added = absurd cc
    by None false same good_is added = same
    by (Some front) false same good_is added = absurd cc
    by (Some front) true same good_is added = (
      record session { gathered = Some (front ++ octets) },
      [],
      (sym added, ahead kept.stage (subst (λ (s : Stage). StandsAt s session) is stands)),
      record { front = front; gathers = same; after_is = refl; silent = refl },
      sym (append-nil text),
    )
      where
        ahead : (stage : Stage) → StandsAt stage session → StandsAt stage (record session { gathered = Some (front ++ octets) })
        ahead (Configured config) stands = record { config_is = stands.config_is; may = stands.may; begins = stands.begins }
        ahead (Running world) stands = (stands.0, record { config = stands.1.config; stands = stands.1.stands })
        ahead Over stands = stands

pub obeys_file_by : {E : Type 0} (result : Result Bool E) (session : Session) (octets added : List ℕ) (old kept : Kept) (text : List ℕ) → Stands old session
    → old.stage ≡ kept.stage → added ≡ octets → IfOk result (λ good. good ≡ is_some old.gathered)
    → OnOk result (kept.gathered ≡ option_map (λ front. front ++ added) old.gathered)
    → IfOk result (λ good. ObeysTo good session (command.File octets) kept text text)
obeys_file_by (Ok good) session octets added old kept text stands stage same gathers grown =
    obeys_file good session octets old kept text stands stage gathers
    (subst (λ (o : List ℕ). kept.gathered ≡ option_map (λ front. front ++ o) old.gathered) same grown)
obeys_file_by (Err why) session octets added old kept text stands stage same gathers grown = tt

-- an event was answered, and what it leaves of the gathered octets is left
pub obeys_event : (good : Bool) (session : Session) (event : WorldEvent) (kept : Kept) (before after : List ℕ)
    → DoesTo good session (command.Event event) kept.stage before after → kept.gathered ≡ left_by (is_put event) session.gathered
    → ObeysTo good session (command.Event event) kept before after
obeys_event false session event kept before after bad left = bad
obeys_event true session event kept before after (then, said, stands, told, printed) left =
    (then, said, (ap (λ (s : Session). s.gathered) told.after_is ∙ sym left, stands), told, printed)

-- a take leaves them all
pub obeys_take : (good : Bool) (session : Session) (user : ℕ) (kept : Kept) (before after : List ℕ)
    → DoesTo good session (command.Take user) kept.stage before after → session.gathered ≡ kept.gathered
    → ObeysTo good session (command.Take user) kept before after
obeys_take false session user kept before after bad same = bad
obeys_take true session user kept before after (then, said, stands, took, printed) same =
    (then, said, (ap (λ (s : Session). s.gathered) took.after_is ∙ same, stands), took, printed)

pub plays : (good : Bool) (session : Session) (line : List ℕ) (said : Command) (kept : Kept) (text : List ℕ) → command_of session.config session.gathered line ≡ Some said
    → ObeysTo good session said kept [] text → PlaysTo good session line kept text
plays false session line said kept text says bad = subst (IsBadFor session) (sym says) bad
plays true session line said kept text says does =
    (does.0, does.2, (said, says, subst (λ t. Answers session said does.0 t) (sym does.4) does.3))

pub plays_nothing : (session : Session) (line : List ℕ) (kept : Kept) (text : List ℕ) → command_of session.config session.gathered line ≡ None → PlaysTo false session line kept text
plays_nothing session line kept text none = rw none tt
