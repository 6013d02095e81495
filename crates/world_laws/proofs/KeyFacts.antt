-- A transaction keeps to its lane: each bundle tells of a transaction that belongs to the lane that told it.
use Rattle.std.proofs.Common.{◌≡◌, ℕ, ◌<◌, ◌/◌, ◌%◌, true, IsTrue, All, length, List, [], ◌∷◌, ◌++◌, Option, Some, None, refl, sym, ap, ◌∙◌, subst, ⊎_elim}
use Rattle.std.proofs.lemmas.Bool.{cases_eq, eq-eqb, lt-ltb}
use Rattle.std.proofs.lemmas.List.Elements.{All-nil, All-cons, All-head, All-tail, All-append}
use Rattle.cfdp_types.specs.declared.key.EntityId.{EntityId}
use Rattle.cfdp_types.specs.declared.key.TxnKey.{TxnKey}
use Rattle.config_reading.specs.Values.{ConfigValue, is_config}
use Rattle.entity_config.proofs.Limits.{has_lanes, has_users}
use Rattle.indications.specs.declared.bundle.Bundle.{Bundle}
use Rattle.indications.specs.declared.indication.Indication.{Indication}
use Rattle.indications.specs.LaneLists.{number_of, of_lane}
use Rattle.indications.proofs.LaneLemmas.{of_lane-append}
use Rattle.txn_events.specs.declared.event.Event.{Event}
use Rattle.txn_events.specs.declared.event.Event.TheVariants.{Put, On}
use Rattle.txn_events.specs.declared.event.What.{What}
use Rattle.lane_table.specs.Lane.{State, idle, key_of, IsNumberOf}
use Rattle.lane_table.specs.Steps.{new_transaction, stepped, answer_of}
use Rattle.lane_table.specs.Keeping.{bundle_by, bundle_of, sent_after, AreTaken}
use Rattle.lane_table.proofs.NumberFacts.{numbers_tell_lanes}
use Rattle.lane_table.proofs.RunFacts.{same_by}
use Rattle.world_table.specs.Histories.{Happening, steps, takes, lane_after, events_at, told_by, mine, AreIdle, IsHistory}
use Rattle.world_table.proofs.HistoryFacts.{runs, mine_here, mine_beside, tells_lane_lists, bundle_here}
use Rattle.entity_routing.specs.declared.place.Place.{Place}
use Rattle.entity_routing.specs.Places.{is_local, place_of, source_of_lane}
use Rattle.entity_parts.specs.FirstLanes.{numbers_of, greatest_of, first_lane, lane_for, first_sending}
use Rattle.world_core.specs.Routed.{IsRoutedTo}
use Rattle.world_core.proofs.OpeningFacts.{are_idle}
use Rattle.world_laws.specs.EntityLaws.{IsAtHome, TellsAtHome}
use Rattle.world_table.proofs.StepKeys.{step_keyed}

pub idle_lanes : (config : ConfigValue) → IsTrue (is_config config) → AreIdle (first_lane config)
idle_lanes config holds = are_idle config (has_lanes config holds).put (has_users config holds)

-- ---- an event of a transaction

bundle_keyed : (config : ConfigValue) (user : ℕ) (next : State) (key : TxnKey) (found : Option TxnKey) (inds : List Indication) → found ≡ Some key
    → place_of config key ≡ Some (record { user = user; lane = next.lane }) → All (IsAtHome config user) (bundle_by next found inds)
bundle_keyed config user next key None inds is home = All-nil (IsAtHome config user)
bundle_keyed config user next key (Some other) [] is home = All-nil (IsAtHome config user)
bundle_keyed config user next key (Some other) (first ∷ rest) is home =
    let same : key ≡ other = cc in
    All-cons (IsAtHome config user) (record { user = next.user; lane = next.lane; key = other; inds = first ∷ rest }) []
    (subst (λ (k : TxnKey). place_of config k ≡ Some (record { user = user; lane = next.lane })) same home) (All-nil (IsAtHome config user))

event_told : (config : ConfigValue) (earlier : List Happening) (user lane : ℕ) (key : TxnKey) (happens : What) → AreIdle (first_lane config)
    → IsHistory (first_lane config) (steps user lane (On key happens) ∷ earlier) → place_of config key ≡ Some (record { user = user; lane = lane })
    → All (IsAtHome config user) (told_by (first_lane config) earlier user lane (On key happens))
event_told config earlier user lane key happens idle legal home =
    let state : State = lane_after (first_lane config) earlier user lane in
    let next : State = stepped state (On key happens) in
    let of_lane : next.lane ≡ lane =
    (same_by state (On key happens) (new_transaction state (On key happens))).lane ∙ (runs (first_lane config) earlier user lane idle legal.2).of_lane in
    bundle_keyed config user next key (key_of next) (answer_of next).inds (step_keyed state key happens legal.1)
    (subst (λ (l : ℕ). place_of config key ≡ Some (record { user = user; lane = l })) (sym of_lane) home)

-- ---- a Put

-- a number of the entity's own gives back user and lane
own_home : (config : ConfigValue) (user lane : ℕ) (bundle : Bundle) → IsNumberOf (numbers_of config) user lane (number_of bundle)
    → bundle.key.source ≡ config.entity.local → bundle.lane ≡ lane → IsAtHome config user bundle
own_home config user lane bundle is own of_lane =
    let here : is_local config bundle.key.source ≡ true =
    eq-eqb bundle.key.source.0 config.entity.local.0 (ap (λ (id : EntityId). id.0) own) in
    rw here (ap (λ (n : ℕ). let p : Place = record { user = n; lane = number_of bundle / length config.users % config.entity.put_lanes } in Some p) is.of_user
    ∙ ap (λ (n : ℕ). let p : Place = record { user = user; lane = n } in Some p) (is.of_lane ∙ sym of_lane))

own_homes : (config : ConfigValue) (user lane : ℕ) (bundles : List Bundle)
    → All (λ bundle. IsNumberOf (numbers_of config) user lane (number_of bundle)) bundles
    → All (λ bundle. bundle.key.source ≡ config.entity.local) bundles → All (λ bundle. bundle.lane ≡ lane) bundles
    → All (IsAtHome config user) bundles
own_homes config user lane [] numbered own of_lane = All-nil (IsAtHome config user)
own_homes config user lane (x ∷ xs) numbered own of_lane =
    All-cons (IsAtHome config user) x xs
    (own_home config user lane x
    (All-head (λ (bundle : Bundle). IsNumberOf (numbers_of config) user lane (number_of bundle)) x xs numbered)
    (All-head (λ (bundle : Bundle). bundle.key.source ≡ config.entity.local) x xs own)
    (All-head (λ (bundle : Bundle). bundle.lane ≡ lane) x xs of_lane))
    (own_homes config user lane xs
    (All-tail (λ (bundle : Bundle). IsNumberOf (numbers_of config) user lane (number_of bundle)) x xs numbered)
    (All-tail (λ (bundle : Bundle). bundle.key.source ≡ config.entity.local) x xs own)
    (All-tail (λ (bundle : Bundle). bundle.lane ≡ lane) x xs of_lane))

-- a sending lane, as it stands at first
first_is : (config : ConfigValue) (user lane : ℕ) → lane < config.entity.put_lanes → first_lane config user lane ≡ first_sending config user lane
first_is config user lane within =
    let none : source_of_lane config user lane ≡ None = rw (lt-ltb lane config.entity.put_lanes within) refl in
    ap (lane_for config user lane) none

-- all that a sending lane told
lane_home : (config : ConfigValue) (history : List Happening) (user lane : ℕ) → AreIdle (first_lane config) → IsHistory (first_lane config) history
    → user < length config.users → lane < config.entity.put_lanes → All (IsAtHome config user) (of_lane lane (mine (first_lane config) history user))
lane_home config history user lane idle legal below within =
    let run = runs (first_lane config) history user lane idle legal in
    let list = (tells_lane_lists (first_lane config) history user lane idle legal).0 in
    let events : List Event = events_at history user lane in
    let bundles : List Bundle = of_lane lane (mine (first_lane config) history user) in
    let first : first_lane config user lane ≡ first_sending config user lane = first_is config user lane within in
    let numbered = numbers_tell_lanes (numbers_of config) (greatest_of config) user lane config.entity.local events below within
    (subst (λ (s : State). AreTaken s events) first run.taken) in
    own_homes config user lane bundles
    (subst (All (λ (bundle : Bundle). IsNumberOf (numbers_of config) user lane (number_of bundle)))
    (ap (λ (s : State). sent_after s events) (sym first) ∙ sym run.sent_is) numbered)
    (subst (λ (s : State). All (λ (bundle : Bundle). bundle.key.source ≡ s.source) bundles) first list.sources) list.lanes

rest_of_all : (P : Bundle → Type 0) (xs ys : List Bundle) → All P (xs ++ ys) → All P ys
rest_of_all P [] ys all = all
rest_of_all P (x ∷ xs) ys all = rest_of_all P xs ys (All-tail P x (xs ++ ys) all)

put_told : (config : ConfigValue) (earlier : List Happening) (user lane : ℕ) (event : Event) → AreIdle (first_lane config)
    → IsHistory (first_lane config) (steps user lane event ∷ earlier) → user < length config.users → lane < config.entity.put_lanes
    → All (IsAtHome config user) (told_by (first_lane config) earlier user lane event)
put_told config earlier user lane event idle legal below within =
    let state : State = lane_after (first_lane config) earlier user lane in
    let next : State = stepped state event in
    let before : List Bundle = mine (first_lane config) earlier user in
    let of_next : next.lane ≡ lane =
    (same_by state event (new_transaction state event)).lane ∙ (runs (first_lane config) earlier user lane idle legal.2).of_lane in
    rest_of_all (IsAtHome config user) (of_lane lane before) (bundle_of next)
    (subst (All (IsAtHome config user))
    (ap (of_lane lane) (mine_here (first_lane config) earlier user lane event) ∙ of_lane-append lane before (bundle_of next)
    ∙ ap (λ (l : List Bundle). of_lane lane before ++ l) (bundle_here next lane (key_of next) (answer_of next).inds of_next))
    (lane_home config (steps user lane event ∷ earlier) user lane idle legal below within))

-- ---- all

step_told : (config : ConfigValue) (earlier : List Happening) (user lane : ℕ) (event : Event) → AreIdle (first_lane config)
    → IsHistory (first_lane config) (steps user lane event ∷ earlier) → IsRoutedTo config user lane event
    → All (IsAtHome config user) (told_by (first_lane config) earlier user lane event)
step_told config earlier user lane (Put put params) idle legal routed = put_told config earlier user lane (Put put params) idle legal routed.0 routed.1
step_told config earlier user lane (On key happens) idle legal routed = event_told config earlier user lane key happens idle legal routed

pub tells_at_home : TellsAtHome
tells_at_home config [] user holds routed legal = All-nil (IsAtHome config user)
tells_at_home config (takes taker ∷ earlier) user holds routed legal = tells_at_home config earlier user holds routed legal.1
tells_at_home config (steps stepper lane event ∷ earlier) user holds routed legal =
    let lanes : ℕ → ℕ → State = first_lane config in
    let was = tells_at_home config earlier user holds routed.1 legal.2 in
    ⊎_elim
    (λ (this : stepper ≡ user).
    subst (λ (u : ℕ). All (IsAtHome config u) (mine lanes (steps stepper lane event ∷ earlier) u)) this
    (subst (All (IsAtHome config stepper)) (sym (mine_here lanes earlier stepper lane event))
    (All-append (IsAtHome config stepper) (mine lanes earlier stepper) (told_by lanes earlier stepper lane event)
    (subst (λ (u : ℕ). All (IsAtHome config u) (mine lanes earlier u)) (sym this) was)
    (step_told config earlier stepper lane event (idle_lanes config holds) legal routed.0))))
    (λ (away : stepper ≡ user → ⊥). subst (All (IsAtHome config user)) (sym (mine_beside lanes earlier stepper lane event user away)) was)
    (cases_eq stepper user)
