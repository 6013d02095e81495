-- The events of a journal, played one after the other.
use Rattle.std.proofs.Common.{◌≡◌, ℕ, ◌<◌, Bool, true, false, List, [], ◌∷◌, ◌++◌, length, take, get_or, Option, Some, None, Result, Ok, Err, OnOk, IfNone, IfSome, is_some, ◌⊎◌, inl, inr, refl, sym, ap, ◌∙◌, subst, arith, append_assoc, append-nil}
use Rattle.config_reading.specs.Values.{ConfigValue}
use Rattle.entity_routing.specs.declared.place.Place.{Place}
use Rattle.entity_routing.specs.declared.refusal.RouteRefusal.{RouteRefusal}
use Rattle.entity_routing.specs.declared.world_event.WorldEvent.{WorldEvent}
use Rattle.entity_routing.specs.declared.world_event.WorldEvent.TheVariants as events
use Rattle.entity_routing.specs.Routes.{Routed, route}
use Rattle.entity_parts.specs.declared.refusal.EntityRefusal.{EntityRefusal}
use Rattle.entity_parts.specs.FirstLanes.{first_lane}
use Rattle.indications.specs.declared.bundle.Bundle.{Bundle}
use Rattle.lane_table.specs.declared.done.Done.{Done}
use Rattle.txn_events.specs.declared.event.Event.{Event}
use Rattle.world_table.specs.Histories.{Happening, steps, takes, held_for, AreIdle, IsHistory}
use Rattle.world_core.specs.Routed.{AreRouted}
use Rattle.world_core.specs.Worlds.{WorldValue, StandsAfter, IsAnswered, IsUnread, history_after}
use Rattle.journal_scripts.specs.Laws.{caller_event}
use Rattle.journal_scripts.specs.Rows.{event_text}
use Rattle.journal_recording.specs.Recording.{BeginsWith, HasPlayed, HasPlayedOne, IsScriptOf, Step, Steps, first_text, name_in, take_text, taken_if}

-- ---- one event more

pub steps_more : (config : ConfigValue) (name : List ℕ) (place : Place) (earlier mid later : List Happening) (events : List Event) (event : Event) (text said : List ℕ)
    → Steps config name place earlier events mid text → Step config name place mid event later said → Steps config name place earlier (events ++ event ∷ []) later (text ++ said)
steps_more config name place earlier mid later [] event text said before last =
    let same : Step config name place earlier event later said = subst (λ h. Step config name place h event later said) before.0 last in
    (later, said, [], same, (refl, refl), ap (λ t. t ++ said) before.1 ∙ sym (append-nil said))
steps_more config name place earlier mid later (first ∷ events) event text said before last = (
  before.0,
  before.1,
  before.2 ++ said,
  before.3,
  steps_more config name place before.0 mid later events event before.2 said before.4 last,
  ap (λ t. t ++ said) before.5 ∙ append_assoc before.1 before.2 said,
)

pub played_none : (config : ConfigValue) (name : List ℕ) (place : Place) (earlier : List Happening) (world : WorldValue) (text : List ℕ)
    → StandsAfter world earlier → HasPlayed config name place earlier [] world text text
played_none config name place earlier world text stands =
    record { later = earlier; said = []; steps_are = (refl, refl); stands = stands; text_is = sym (append-nil text) }

pub played_more : (config now : ConfigValue) (name : List ℕ) (place : Place) (earlier : List Happening) (events : List Event) (event : Event) (world world' : WorldValue)
    (old text new : List ℕ) → now ≡ config → HasPlayed config name place earlier events world old text
    → ((before : List Happening) → StandsAfter world before → HasPlayedOne now name place before event world' text new)
    → HasPlayed config name place earlier (events ++ event ∷ []) world' old new
played_more config now name place earlier events event world world' old text new now_is played next =
    let one = subst (λ (c : ConfigValue). HasPlayedOne c name place played.later event world' text new) now_is (next played.later played.stands) in
    record {
      later = one.later;
      said = played.said ++ one.said;
      steps_are = steps_more config name place earlier played.later one.later events event played.said one.said played.steps_are one.step;
      stands = one.stands;
      text_is = one.text_is ∙ ap (λ t. t ++ one.said) played.text_is ∙ append_assoc old played.said one.said;
    }

-- ---- an event that is taken has gone to a lane

gone : (config : ConfigValue) (history : List Happening) (event : WorldEvent) (found : Result Routed RouteRefusal) (done : Done)
    → IsAnswered config history found (Ok done) ⊎ IsUnread event (Ok done) → (routed : Routed) × (found ≡ Ok routed)
gone config history event (Ok routed) done answered = (routed, refl)
gone config history event (Err why) done (inl answered) = absurd cc
gone config history (events.Deliver octets) (Err why) done (inr unread) = let is = unread.1 in absurd cc
gone config history (events.Request user request) (Err why) done (inr unread) = absurd unread
gone config history (events.Pump key) (Err why) done (inr unread) = absurd unread
gone config history (events.Timer key kind stamp) (Err why) done (inr unread) = absurd unread
gone config history (events.Stored key stamp keeps) (Err why) done (inr unread) = absurd unread

stood : (history : List Happening) (world : WorldValue) (found : Result Routed RouteRefusal) (routed : Routed) (done : Done) → found ≡ Ok routed
    → StandsAfter world (history_after history found (Ok done)) → StandsAfter world (steps routed.place.user routed.place.lane routed.event ∷ history)
stood history world found routed done is stands = subst (λ (f : Result Routed RouteRefusal). StandsAfter world (history_after history f (Ok done))) is stands

-- and a take follows, or none
taken_stands : (world world' : WorldValue) (user : ℕ) (history : List Happening) (taken : Option Bundle) → StandsAfter world history → IfNone taken (world' ≡ world)
    → IfSome taken (λ bundle. StandsAfter world' (takes user ∷ history)) → StandsAfter world' (taken_if (is_some taken) user history)
taken_stands world world' user history None stands same then_stands = subst (λ w. StandsAfter w history) (sym same) stands
taken_stands world world' user history (Some bundle) stands same then_stands = then_stands

pub played_one : (old mid new : WorldValue) (name : List ℕ) (place : Place) (event : Event) (given : WorldEvent) (earlier : List Happening) (done : Done) (taken : Option Bundle)
    (told : Bool) (text between after : List ℕ) → given ≡ caller_event place.user place.lane event → StandsAfter old earlier
    → IsAnswered old.config earlier (route old.config given) (Ok done) ⊎ IsUnread given (Ok done)
    → StandsAfter mid (history_after earlier (route old.config given) (Ok done))
    → IfNone taken (new ≡ mid)
    → ((history : List Happening) → StandsAfter mid history → IfSome taken (λ bundle. StandsAfter new (takes place.user ∷ history)))
    → told ≡ is_some taken
    → between ≡ text ++ event_text name place.lane event
    → after ≡ between ++ take_text told name
    → HasPlayedOne old.config name place earlier event new text after
played_one old mid new name place event given earlier done taken told text between after given_is stands answered stepped same then_stands told_is between_is after_is =
    let goes = gone old.config earlier given (route old.config given) done answered in
    let routed = goes.0 in
    let longer = steps routed.place.user routed.place.lane routed.event ∷ earlier in
    let stand : StandsAfter mid longer = stood earlier mid (route old.config given) routed done goes.1 stepped in
    let goes_there : route old.config (caller_event place.user place.lane event) ≡ Ok routed = ap (route old.config) (sym given_is) ∙ goes.1 in
    record {
      later = taken_if (is_some taken) place.user longer;
      said = event_text name place.lane event ++ take_text told name;
      step = record { routed = routed; goes = goes_there; told = is_some taken; later_is = refl; text_is = ap (λ (b : Bool). event_text name place.lane event ++ take_text b name) told_is };
      stands = taken_stands mid new place.user longer taken stand same (then_stands longer stand);
      text_is = after_is ∙ ap (λ (t : List ℕ). t ++ take_text told name) between_is ∙ append_assoc text (event_text name place.lane event) (take_text told name);
    }

-- ---- the whole script

none_of : {A : Type 0} (o : Option A) (P : Type 0) → is_some o ≡ false → IfNone o P → P
none_of None P none is = is
none_of (Some x) P none is = absurd cc

pub script_made : (config begun : ConfigValue) (first : Option ℕ) (place : Place) (journal : List Event) (name empty begin text : List ℕ) (fresh world : WorldValue)
    (taken : Option Bundle) → BeginsWith config first begun → fresh.config ≡ begun → name ≡ name_in begun place.user → world.config ≡ fresh.config
    → HasPlayed fresh.config name place [] journal world begin text → empty ≡ [] → begin ≡ empty ++ first_text first
    → ((history : List Happening) → StandsAfter world history → IfNone taken (held_for (first_lane world.config) history place.user ≡ []))
    → is_some taken ≡ false → IsScriptOf config first place journal text
script_made config begun first place journal name empty begin text fresh world taken begins fresh_is name_is world_is played empty_is begin_is left none =
    let same : world.config ≡ begun = world_is ∙ fresh_is in
    let held = none_of taken (held_for (first_lane world.config) played.later place.user ≡ []) none (left played.later played.stands) in
    record {
      begun = begun;
      begins = begins;
      history = played.later;
      lines = played.said;
      steps_are = subst (λ (n : List ℕ). Steps begun n place [] journal played.later played.said) name_is
          (subst (λ (c : ConfigValue). Steps c name place [] journal played.later played.said) fresh_is played.steps_are);
      routed = subst (λ (c : ConfigValue). AreRouted c played.later) same played.stands.routed;
      idle = subst (λ (c : ConfigValue). AreIdle (first_lane c)) same played.stands.stand.idle;
      legal = subst (λ (c : ConfigValue). IsHistory (first_lane c) played.later) same played.stands.stand.legal;
      none_left = subst (λ (c : ConfigValue). held_for (first_lane c) played.later place.user ≡ []) same held;
      text_is = played.text_is ∙ ap (λ (t : List ℕ). t ++ played.said) (begin_is ∙ ap (λ (t : List ℕ). t ++ first_text first) empty_is);
    }
