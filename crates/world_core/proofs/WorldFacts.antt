-- Where the events of an entity go, and what is answered there.
use Rattle.std.proofs.Common.{◌≡◌, ◌⊎◌, ℕ, List, ◌∷◌, Option, Some, None, Result, Ok, Err, IfOk, IfSome, IfNone, OnErr, IsTrue, refl, sym, subst, ⊎_elim, arith}
use Rattle.cfdp_types.specs.declared.key.TxnKey.{TxnKey}
use Rattle.cfdp_types.specs.declared.params.ParamsParts.{ParamsParts}
use Rattle.cfdp_types.specs.Put.{PutValue}
use Rattle.config_reading.specs.Values.{ConfigValue, is_config}
use Rattle.pdu_values.specs.Pdu.{PduValue}
use Rattle.lane_table.specs.declared.refused.Refused.{Refused}
use Rattle.txn_events.specs.declared.event.Event.{Event}
use Rattle.txn_events.specs.declared.event.Event.TheVariants.{Put, On}
use Rattle.txn_events.specs.declared.event.What.{What}
use Rattle.world_table.specs.Histories.{Happening, steps, takes}
use Rattle.indications.specs.declared.bundle.Bundle.{Bundle}
use Rattle.lane_table.specs.declared.done.Done.{Done}
use Rattle.entity_routing.specs.declared.refusal.RouteRefusal.{RouteRefusal}
use Rattle.entity_routing.specs.declared.world_event.WorldEvent.{WorldEvent}
use Rattle.entity_routing.specs.declared.world_event.WorldEvent.TheVariants as events
use Rattle.entity_routing.specs.declared.place.Place.{Place}
use Rattle.entity_routing.specs.Routes.{Routed, route, key_place, own_place, pdu_place, put_params, routed_put, key_of_header}
use Rattle.entity_routing.proofs.PlaceFacts.{places_within}
use Rattle.entity_routing.proofs.RouteFacts.{place_is, own_is, pdu_is}
use Rattle.world_core.specs.Posts.{Post}
use Rattle.world_core.specs.Standing.{IsLaneIn, UsersStandAfter, IsTakenAt, IsRefusedAt, IsTakenFrom}
use Rattle.world_core.proofs.StandFacts.{ok_then}
use Rattle.entity_parts.specs.declared.refusal.EntityRefusal.{EntityRefusal}
use Rattle.entity_parts.specs.declared.refusal.EntityRefusal.TheVariants as answer
use Rattle.world_core.specs.Opening.{layout_of}
use Rattle.world_core.specs.Routed.{IsRoutedTo}
use Rattle.world_core.specs.Worlds.{WorldValue, StandsAfter, IsWorld, IsAnswered, IsUnread, history_after}
use Rattle.world_core.specs.Answering.{Answers, IsTakenIn}

-- ---- the lanes that events go to

-- an event goes to a lane that the entity has
pub lane_at : (config : ConfigValue) (place : Place) (event : Event) → IsTrue (is_config config) → IsRoutedTo config place.user place.lane event
    → IsLaneIn (layout_of config) place.user place.lane
lane_at config place (Put put params) kept routed = record { user_is = routed.0; lane_is = omega (arith, routed.1) }
lane_at config place (On key happens) kept routed =
    let within = places_within config key place kept routed in
    record { user_is = within.user; lane_is = within.lane }

-- the lane of a transaction is one
pub lane_of_key : (config : ConfigValue) (key : TxnKey) (place : Place) → IsTrue (is_config config) → key_place config key ≡ Ok place
    → IsLaneIn (layout_of config) place.user place.lane
lane_of_key config key place kept is =
    let within = places_within config key place kept (place_is config key place is) in
    record { user_is = within.user; lane_is = within.lane }

pub routed_by_key : (config : ConfigValue) (key : TxnKey) (happens : What) (place : Place) → key_place config key ≡ Ok place
    → IsRoutedTo config place.user place.lane (On key happens)
routed_by_key config key happens place is = place_is config key place is

pub routed_by_own : (config : ConfigValue) (user : ℕ) (key : TxnKey) (happens : What) (place : Place) → own_place config user key ≡ Ok place
    → IsRoutedTo config place.user place.lane (On key happens)
routed_by_own config user key happens place is = place_is config key place (own_is config user key place is).0

pub routed_by_pdu : (config : ConfigValue) (pdu : PduValue) (happens : What) (place : Place) → pdu_place config pdu ≡ Ok place
    → IsRoutedTo config place.user place.lane (On (key_of_header pdu.header) happens)
routed_by_pdu config pdu happens place is = place_is config (key_of_header pdu.header) place (pdu_is config pdu place is).0

pub put_refused : (config : ConfigValue) (history : List Happening) (user lane : ℕ) (put : PutValue) (params : ParamsParts) (posts : List Post) (refused : Refused)
    → put_params config put.destination ≡ Ok params → IsRefusedAt (layout_of config) history user lane (Put put params) refused
    → Answers config history (routed_put (record { user = user; lane = lane }) put (put_params config put.destination)) posts (Err (answer.Lane refused))
put_refused config history user lane put params posts refused is why =
    subst (λ found. Answers config history (routed_put (record { user = user; lane = lane }) put found) posts (Err (answer.Lane refused))) (sym is)
    (record { taken = tt; refused = (refused, refl, why) })

-- ---- where the entity stands then

-- a lane took an event
pub taken_in : (config : ConfigValue) (history : List Happening) (place : Place) (event : Event) (old new : List Post) (done : Done)
    → StandsAfter (record { config = config; posts = old }) history → IsRoutedTo config place.user place.lane event
    → IsTakenAt (layout_of config) history place.user place.lane event new done
    → IsTakenIn config history (record { place = place; event = event }) new done
taken_in config history place event old new done stands routed taken = record {
  takes_it = taken.takes_it;
  stands = record { stand = taken.stand; routed = (routed, stands.routed) };
}

-- a user took a bundle
pub taken_front : (config : ConfigValue) (history : List Happening) (user : ℕ) (old new : List Post) (bundle : Bundle)
    → StandsAfter (record { config = config; posts = old }) history → IsTakenFrom (layout_of config) history user new bundle
    → StandsAfter (record { config = config; posts = new }) (takes user ∷ history)
taken_front config history user old new bundle stands taken = record { stand = taken.stand; routed = stands.routed }

-- what is public of an answer
pub answered_by : (config : ConfigValue) (history : List Happening) (found : Result Routed RouteRefusal) (posts : List Post) (result : Result Done EntityRefusal)
    → Answers config history found posts result → IsAnswered config history found result
answered_by config history (Err why) posts result answers = answers
answered_by config history (Ok routed) posts result answers = record {
  taken = ok_then result answers.taken (λ done taken. taken.takes_it);
  refused = answers.refused;
}

read_done : (event : WorldEvent) (done : Done) → IsUnread event (Ok done) → ⊥
read_done (events.Deliver octets) done unread = absurd cc
read_done (events.Request user request) done unread = unread
read_done (events.Pump key) done unread = unread
read_done (events.Timer key kind stamp) done unread = unread
read_done (events.Stored key stamp kept) done unread = unread

done_stands : (config : ConfigValue) (history : List Happening) (found : Result Routed RouteRefusal) (posts : List Post) (done : Done)
    → Answers config history found posts (Ok done) → StandsAfter (record { config = config; posts = posts }) (history_after history found (Ok done))
done_stands config history (Err why) posts done answers = absurd cc
done_stands config history (Ok routed) posts done answers = answers.taken.stands

pub stands_then : (old new : WorldValue) (event : WorldEvent) (result : Result Done EntityRefusal) (history : List Happening) → StandsAfter old history
    → Answers old.config history (route old.config event) new.posts result ⊎ IsUnread event result
    → new.config ≡ old.config → OnErr result (new ≡ old) → StandsAfter new (history_after history (route old.config event) result)
stands_then old new event (Err why) history stands answers same left = subst (λ w. StandsAfter w history) (sym left) stands
stands_then old new event (Ok done) history stands answers same left =
    subst (λ config. StandsAfter (record { config = config; posts = new.posts }) (history_after history (route old.config event) (Ok done))) (sym same)
    (⊎_elim
    (λ (is : Answers old.config history (route old.config event) new.posts (Ok done)).
    done_stands old.config history (route old.config event) new.posts done is)
    (λ (unread : IsUnread event (Ok done)). absurd (read_done event done unread))
    answers)

-- ---- some history has still led there

-- a lane's answer was given
pub still_told : (config : ConfigValue) (old new : List Post) (routed : Routed) (result : Result Done Refused) → IsWorld (record { config = config; posts = old })
    → ((history : List Happening) → StandsAfter (record { config = config; posts = old }) history → IfOk result (IsTakenIn config history routed new))
    → OnErr result (new ≡ old) → IsWorld (record { config = config; posts = new })
still_told config old new routed (Err why) world taken left = subst (λ posts. IsWorld (record { config = config; posts = posts })) (sym left) world
still_told config old new routed (Ok done) world taken left = record {
  kept = world.kept;
  history = steps routed.place.user routed.place.lane routed.event ∷ world.history;
  stands = (taken world.history world.stands).stands;
}

pub still_taken : (config : ConfigValue) (old new : List Post) (user : ℕ) (result : Option Bundle) → IsWorld (record { config = config; posts = old })
    → ((history : List Happening) → UsersStandAfter (layout_of config) history old → IfSome result (IsTakenFrom (layout_of config) history user new))
    → IfNone result (new ≡ old) → IsWorld (record { config = config; posts = new })
still_taken config old new user None world front left = subst (λ posts. IsWorld (record { config = config; posts = posts })) (sym left) world
still_taken config old new user (Some bundle) world front left = record {
  kept = world.kept;
  history = takes user ∷ world.history;
  stands = taken_front config world.history user old new bundle world.stands (front world.history world.stands.stand);
}
