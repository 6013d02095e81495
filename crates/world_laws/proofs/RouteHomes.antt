-- What may come to an entity goes where it belongs.
use Rattle.std.proofs.Common.{◌≡◌, ℕ, ◌<◌, length, Result, Ok, Err, refl, subst}
use Rattle.cfdp_types.specs.declared.key.TxnKey.{TxnKey}
use Rattle.cfdp_types.specs.declared.params.ParamsParts.{ParamsParts}
use Rattle.cfdp_types.specs.Put.{PutValue}
use Rattle.config_reading.specs.Values.{ConfigValue}
use Rattle.pdu_reading.specs.Reading.{reading}
use Rattle.pdu_reading.specs.declared.fault.DecodeFault.{DecodeFault}
use Rattle.pdu_values.specs.Pdu.{PduValue}
use Rattle.txn_events.specs.declared.event.Event.TheVariants.{Put, On}
use Rattle.txn_events.specs.declared.event.What.{What}
use Rattle.txn_events.specs.declared.event.What.TheVariants as what
use Rattle.lane_table.specs.Steps.{IsKeyed}
use Rattle.entity_routing.specs.declared.place.Place.{Place}
use Rattle.entity_routing.specs.declared.refusal.RouteRefusal.{RouteRefusal}
use Rattle.entity_routing.specs.declared.world_event.Request.TheVariants as requests
use Rattle.entity_routing.specs.declared.world_event.WorldEvent.TheVariants as events
use Rattle.entity_routing.specs.Routes.{Routed, key_of_header, key_place, own_place, pdu_place, put_params, routed_on, routed_own, routed_key, routed_put, routed_reading}
use Rattle.world_core.specs.Routed.{IsRoutedTo}
use Rattle.world_core.proofs.WorldFacts.{routed_by_key, routed_by_own, routed_by_pdu}
use Rattle.world_laws.specs.EntityLaws.{RoutesHome}

-- it belongs where it goes
abbrev pub IsHome : ConfigValue → Routed → Type 0
IsHome config routed = IsRoutedTo config routed.place.user routed.place.lane routed.event × IsKeyed routed.event

same_routed : (one other : Routed) → (let found : Result Routed RouteRefusal = Ok one in found ≡ Ok other) → one ≡ other
same_routed one other e = cc

-- something happens to a transaction
on_home : (config : ConfigValue) (key : TxnKey) (happens : What) (found : Result Place RouteRefusal) (routed : Routed)
    → ((place : Place) → found ≡ Ok place → IsRoutedTo config place.user place.lane (On key happens)) → IsKeyed (On key happens)
    → routed_on key happens found ≡ Ok routed → IsHome config routed
on_home config key happens (Err why) routed home keyed is = absurd cc
on_home config key happens (Ok place) routed home keyed is =
    subst (IsHome config) (same_routed (record { place = place; event = On key happens }) routed is) (home place refl, keyed)

own_home : (config : ConfigValue) (user : ℕ) (key : TxnKey) (happens : What) (routed : Routed) → IsKeyed (On key happens)
    → routed_own config user key happens ≡ Ok routed → IsHome config routed
own_home config user key happens routed keyed is =
    on_home config key happens (own_place config user key) routed (λ place found. routed_by_own config user key happens place found) keyed is

key_home : (config : ConfigValue) (key : TxnKey) (happens : What) (routed : Routed) → IsKeyed (On key happens)
    → routed_key config key happens ≡ Ok routed → IsHome config routed
key_home config key happens routed keyed is =
    on_home config key happens (key_place config key) routed (λ place found. routed_by_key config key happens place found) keyed is

-- a file is to be sent
put_home : (config : ConfigValue) (user lane : ℕ) (put : PutValue) (found : Result ParamsParts RouteRefusal) (routed : Routed)
    → user < length config.users → lane < config.entity.put_lanes → routed_put (record { user = user; lane = lane }) put found ≡ Ok routed → IsHome config routed
put_home config user lane put (Err why) routed below within is = absurd cc
put_home config user lane put (Ok params) routed below within is =
    subst (IsHome config) (same_routed (record { place = record { user = user; lane = lane }; event = Put put params }) routed is) ((below, within), tt)

-- a datagram comes
read_home : (config : ConfigValue) (read : Result PduValue DecodeFault) (routed : Routed) → routed_reading config read ≡ Ok routed → IsHome config routed
read_home config (Err fault) routed is = absurd cc
read_home config (Ok pdu) routed is =
    on_home config (key_of_header pdu.header) (what.Pdu pdu) (pdu_place config pdu) routed
    (λ place found. routed_by_pdu config pdu (what.Pdu pdu) place found) (refl, refl) is

pub routes_home : RoutesHome
routes_home config (events.Request user (requests.Put lane put)) routed may is =
    put_home config user lane put (put_params config put.destination) routed may.0 may.1 is
routes_home config (events.Request user (requests.Cancel key)) routed may is = own_home config user key what.Cancel routed tt is
routes_home config (events.Request user (requests.Suspend key)) routed may is = own_home config user key what.Suspend routed tt is
routes_home config (events.Request user (requests.Resume key)) routed may is = own_home config user key what.Resume routed tt is
routes_home config (events.Request user (requests.Report key)) routed may is = own_home config user key what.Report routed tt is
routes_home config (events.Request user (requests.Abandon key)) routed may is = own_home config user key what.Abandon routed tt is
routes_home config (events.Deliver octets) routed may is = read_home config (reading octets) routed is
routes_home config (events.Pump key) routed may is = key_home config key what.Pump routed tt is
routes_home config (events.Timer key kind stamp) routed may is = key_home config key (what.Timer kind stamp) routed tt is
routes_home config (events.Stored key stamp keeps) routed may is = key_home config key (what.Stored stamp keeps) routed tt is
