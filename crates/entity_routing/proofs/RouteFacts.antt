-- What the pieces of a route tell.
use Rattle.std.proofs.Common.{◌≡◌, ℕ, Bool, true, false, not, ◌&&◌, ◌==◌, if◌then◌else◌, Option, Some, None, Result, Ok, Err, refl, sym, ap, ◌∙◌}
use Rattle.std.proofs.lemmas.Bool.{eqb-true}
use Rattle.cfdp_types.specs.declared.key.TxnKey.{TxnKey}
use Rattle.pdu_values.specs.declared.pdu.Direction.{Direction}
use Rattle.pdu_values.specs.declared.pdu.Direction.TheVariants.{TowardReceiver, TowardSender}
use Rattle.pdu_values.specs.declared.pdu.Header.{Header}
use Rattle.txn_events.specs.declared.event.Event.{Event}
use Rattle.txn_events.specs.declared.event.Event.TheVariants.{On}
use Rattle.txn_events.specs.declared.event.What.{What}
use Rattle.txn_events.specs.declared.event.What.TheVariants as what
use Rattle.config_reading.specs.Values.{ConfigValue}
use Rattle.entity_routing.specs.declared.place.Place.{Place}
use Rattle.entity_routing.specs.declared.refusal.RouteRefusal.{RouteRefusal}
use Rattle.entity_routing.specs.declared.refusal.RouteRefusal.TheVariants as refusals
use Rattle.entity_routing.specs.RouteLaws.{PdusGoTheirWay, PdusKeepKeys}
use Rattle.entity_routing.specs.Places.{is_local, place_of}
use Rattle.entity_routing.specs.Routes.{Routed, goes_back, if_own, is_direction_of, is_for_us, is_from_itself, key_place, or_no_route, own_place, key_of_header, pdu_place, routed_on}

abbrev event_or : Event → Result Routed RouteRefusal → Event
event_or otherwise (Err why) = otherwise
event_or otherwise (Ok routed) = routed.event

told_on : (key : TxnKey) (happens : What) (place : Result Place RouteRefusal) (routed : Routed) → routed_on key happens place ≡ Ok routed → routed.event ≡ On key happens
told_on key happens (Err why) routed is = absurd cc
told_on key happens (Ok place) routed is = sym (ap (event_or (On key happens)) is)

pub pdu_keyed : PdusKeepKeys
pdu_keyed config pdu routed is = told_on (key_of_header pdu.header) (what.Pdu pdu) (pdu_place config pdu) routed is

abbrev place_in : Result Place RouteRefusal → Option Place
place_in (Err why) = None
place_in (Ok place) = Some place

-- a transaction's lane is where the transaction is
pub place_is : (config : ConfigValue) (key : TxnKey) (place : Place) → key_place config key ≡ Ok place → place_of config key ≡ Some place
place_is config key place is = by (place_of config key) is
  where
    by : (found : Option Place) → or_no_route found ≡ Ok place → found ≡ Some place
    by None is = absurd cc
    by (Some other) is = ap place_in is

-- behind a test that refuses
behind : (refuses : Bool) (why : RouteRefusal) (rest : Result Place RouteRefusal) (place : Place) → (if refuses then Err why else rest) ≡ Ok place → (refuses ≡ false) × (rest ≡ Ok place)
behind true why rest place is = absurd cc
behind false why rest place is = (refl, is)

behind_not : (passes : Bool) (why : RouteRefusal) (rest : Result Place RouteRefusal) (place : Place) → (if not passes then Err why else rest) ≡ Ok place → (passes ≡ true) × (rest ≡ Ok place)
behind_not true why rest place is = (refl, is)
behind_not false why rest place is = absurd cc

own_by : (user : ℕ) (other place : Place) (same : Bool) → (other.user == user) ≡ same → (if same then Ok other else Err refusals.NotYours) ≡ Ok place → (let found : Result Place RouteRefusal = Ok other in found ≡ Ok place) × (place.user ≡ user)
own_by user other place true same is =
    let one : Some other ≡ Some place = ap place_in is in
    let one_place : other ≡ place = cc one in
    (is, ap (λ (p : Place). p.user) (sym one_place) ∙ eqb-true other.user user same)
own_by user other place false same is = absurd cc

own_from : (user : ℕ) (place : Place) (found : Result Place RouteRefusal) → if_own user found ≡ Ok place → (found ≡ Ok place) × (place.user ≡ user)
own_from user place (Err why) is = absurd cc
own_from user place (Ok other) is = own_by user other place (other.user == user) refl is

-- a user who may ask about a transaction is the one whose lane it is in
pub own_is : (config : ConfigValue) (user : ℕ) (key : TxnKey) (place : Place) → own_place config user key ≡ Ok place → (key_place config key ≡ Ok place) × (place.user ≡ user)
own_is config user key place is = own_from user place (key_place config key) is

way_is : (config : ConfigValue) (header : Header) (direction : Direction) → is_local config (if goes_back direction then header.source else header.destination) ≡ true
    → (not (goes_back direction) && is_local config header.source) ≡ false → is_local config header.source ≡ goes_back direction
way_is config header TowardReceiver for_us not_itself = not_itself
way_is config header TowardSender for_us not_itself = for_us

-- a PDU that goes somewhere goes where its transaction is; toward the sender alone that is the entity's own
pub pdu_is : PdusGoTheirWay
pdu_is config pdu place is =
    let header = pdu.header in
    let end = key_place config (key_of_header header) in
    let itself = (if is_from_itself config header then Err refusals.NoRoute else end) in
    let ours = behind_not (is_for_us config header) refusals.NotForUs (if not (is_direction_of pdu.body header.direction) then Err refusals.WrongDirection else itself) place is in
    let right = behind_not (is_direction_of pdu.body header.direction) refusals.WrongDirection itself place ours.1 in
    let known = behind (is_from_itself config header) refusals.NoRoute end place right.1 in
    (known.1, way_is config header header.direction ours.0 known.0)
