-- What has happened in a script's session can happen.
use Rattle.std.proofs.Common.{◌≡◌, ℕ, true, IsTrue, List, [], ◌∷◌, Option, Some, None, Result, Ok, Err, ◌⊎◌, inl, inr, refl, sym, subst}
use Rattle.config_reading.specs.Values.{ConfigValue, is_config}
use Rattle.entity_config.specs.declared.setting.Setting.{Setting}
use Rattle.entity_routing.specs.declared.refusal.RouteRefusal.{RouteRefusal}
use Rattle.entity_routing.specs.declared.world_event.WorldEvent.{WorldEvent}
use Rattle.entity_routing.specs.declared.world_event.WorldEvent.TheVariants as events
use Rattle.entity_routing.specs.Routes.{Routed, route}
use Rattle.indications.specs.declared.bundle.Bundle.{Bundle}
use Rattle.lane_table.specs.declared.done.Done.{Done}
use Rattle.world_table.specs.Histories.{Happening, takes, held_for, IsHistory}
use Rattle.entity_parts.specs.declared.refusal.EntityRefusal.{EntityRefusal}
use Rattle.entity_parts.specs.FirstLanes.{first_lane}
use Rattle.world_core.specs.Routed.{AreRouted}
use Rattle.world_core.specs.Worlds.{MayCome, IsAnswered, IsUnread, history_after}
use Rattle.world_laws.proofs.RouteHomes.{routes_home}
use Rattle.script_lines.specs.declared.command.Command.{Command}
use Rattle.script_lines.specs.declared.command.Command.TheVariants as command
use Rattle.script_replay.specs.Sessions.{Session, with_history, is_put, left_by, Answers, IsSet, IsGathered, IsTold, IsTakenBy, Gives, history_taken}
use Rattle.script_replay.specs.Run.{Plays}
use Rattle.script_laws.specs.ScriptLaws.{CanBe, Begins, PlaysWhatCanBe}
use Rattle.script_laws.proofs.SettingFacts.{set_kept}

-- what can have happened, and where the configuration may be changed nothing has
record Sound (session : Session) : Type 0 where
  can_be : CanBe session
  begins : session.may_set ≡ true → session.history ≡ []

start_sound : (session : Session) → Begins session → Sound session
start_sound session is = record {
  can_be = record {
    kept = is.kept;
    routed = subst (AreRouted session.config) (sym is.begins) tt;
    legal = subst (IsHistory (first_lane session.config)) (sym is.begins) tt;
  };
  begins = λ may. is.begins;
}

-- ---- settings

set_sound : (session : Session) (change : Setting) (after : Session) (text : List ℕ) → Sound session → IsSet session change after text → Sound after
set_sound session change after text sound is =
    let empty : session.history ≡ [] = sound.begins is.early in
    subst Sound (sym is.after_is) (record {
      can_be = record {
        kept = set_kept change session.config is.config is.set sound.can_be.kept;
        routed = subst (AreRouted is.config) (sym empty) tt;
        legal = subst (IsHistory (first_lane is.config)) (sym empty) tt;
      };
      begins = λ may. empty;
    })

-- ---- files in pieces

file_sound : (session : Session) (octets : List ℕ) (after : Session) (text : List ℕ) → Sound session → IsGathered session octets after text → Sound after
file_sound session octets after text sound is = subst Sound (sym is.after_is) (record {
  can_be = record { kept = sound.can_be.kept; routed = sound.can_be.routed; legal = sound.can_be.legal };
  begins = sound.begins;
})

-- ---- events

-- the history may be longer by one step, or as it was
grown : (config : ConfigValue) (history : List Happening) (event : WorldEvent) (found : Result Routed RouteRefusal) (result : Result Done EntityRefusal)
    → MayCome config event → route config event ≡ found → IsAnswered config history found result ⊎ IsUnread event result
    → AreRouted config history → IsHistory (first_lane config) history
    → AreRouted config (history_after history found result) × IsHistory (first_lane config) (history_after history found result)
grown config history event found (Err why) may goes answered routed legal = (routed, legal)
grown config history event (Err why) (Ok done) may goes answered routed legal = (routed, legal)
grown config history event (Ok to) (Ok done) may goes (inl answered) routed legal =
    let home = routes_home config event to may goes in
    ((home.0, routed), (home.1, answered.taken.free, legal))
grown config history (events.Deliver octets) (Ok to) (Ok done) may goes (inr unread) routed legal = let is = unread.1 in absurd cc
grown config history (events.Request user request) (Ok to) (Ok done) may goes (inr unread) routed legal = absurd unread
grown config history (events.Pump key) (Ok to) (Ok done) may goes (inr unread) routed legal = absurd unread
grown config history (events.Timer key kind stamp) (Ok to) (Ok done) may goes (inr unread) routed legal = absurd unread
grown config history (events.Stored key stamp keeps) (Ok to) (Ok done) may goes (inr unread) routed legal = absurd unread

-- from the first event on the configuration stays
later_sound : (session : Session) (history : List Happening) (gathered : Option (List ℕ)) → IsTrue (is_config session.config)
    → AreRouted session.config history → IsHistory (first_lane session.config) history
    → Sound (record (with_history session history) { gathered = gathered })
later_sound session history gathered kept routed legal =
    record { can_be = record { kept = kept; routed = routed; legal = legal }; begins = λ may. absurd cc }

told_sound : (session : Session) (event : WorldEvent) (after : Session) (text : List ℕ) → Sound session → IsTold session event after text → Sound after
told_sound session event after text sound is =
    let longer = grown session.config session.history event (route session.config event) is.result is.may refl is.answered sound.can_be.routed sound.can_be.legal in
    subst Sound (sym is.after_is)
    (later_sound session (history_after session.history (route session.config event) is.result) (left_by (is_put event) session.gathered) sound.can_be.kept longer.0 longer.1)

-- ---- takes

some_is_none : (bundle : Bundle) (rest held : List Bundle) → held ≡ bundle ∷ rest → held ≡ [] → ⊥
some_is_none bundle rest held is none = cc

taken : (config : ConfigValue) (history : List Happening) (user : ℕ) (found : Option Bundle) → Gives config history user found
    → AreRouted config history → IsHistory (first_lane config) history
    → AreRouted config (history_taken history user found) × IsHistory (first_lane config) (history_taken history user found)
taken config history user None gives routed legal = (routed, legal)
taken config history user (Some bundle) gives routed legal =
    (routed, ((λ none. some_is_none bundle (held_for (first_lane config) (takes user ∷ history) user) (held_for (first_lane config) history user) gives none), legal))

taken_sound : (session : Session) (user : ℕ) (after : Session) (text : List ℕ) → Sound session → IsTakenBy session user after text → Sound after
taken_sound session user after text sound is =
    let later = taken session.config session.history user is.taken is.gives sound.can_be.routed sound.can_be.legal in
    subst Sound (sym is.after_is) (later_sound session (history_taken session.history user is.taken) session.gathered sound.can_be.kept later.0 later.1)

-- ---- lines

line_sound : (session : Session) (says : Command) (after : Session) (text : List ℕ) → Sound session → Answers session says after text → Sound after
line_sound session command.Nothing after text sound answers = subst Sound (sym answers.0) sound
line_sound session (command.Set change) after text sound answers = set_sound session change after text sound answers
line_sound session (command.File octets) after text sound answers = file_sound session octets after text sound answers
line_sound session (command.Event event) after text sound answers = told_sound session event after text sound answers
line_sound session (command.Take user) after text sound answers = taken_sound session user after text sound answers

plays_sound : (session : Session) (lines : List (List ℕ)) (after : Session) (text : List ℕ) → Sound session → Plays session lines after text → Sound after
plays_sound session [] after text sound plays = subst Sound (sym plays.0) sound
plays_sound session (line ∷ lines) after text sound (mid, said, others, played, rest, printed) =
    plays_sound mid lines after others (line_sound session played.command mid said sound played.answers) rest

pub plays_what_can_be : PlaysWhatCanBe
plays_what_can_be start after lines text begins plays = (plays_sound start lines after text (start_sound start begins) plays).can_be
