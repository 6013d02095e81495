-- Meaning. Which lane gets an event of the entity, and as which event of the lane; or why none does.
use Rattle.std.specs.Prelude.{ℕ, Bool, true, false, not, ◌==◌, ◌&&◌, if◌then◌else◌, find, Option, Some, None, Result, Ok, Err}
use Rattle.cfdp_types.specs.declared.key.TxnKey.{TxnKey}
use Rattle.cfdp_types.specs.declared.key.EntityId.{EntityId}
use Rattle.cfdp_types.specs.declared.params.ParamsParts.{ParamsParts}
use Rattle.cfdp_types.specs.Put.{PutValue}
use Rattle.pdu_values.specs.declared.pdu.Direction.{Direction}
use Rattle.pdu_values.specs.declared.pdu.Direction.TheVariants.{TowardReceiver, TowardSender}
use Rattle.pdu_values.specs.declared.pdu.Body.{Body}
use Rattle.pdu_values.specs.declared.pdu.Header.{Header}
use Rattle.pdu_values.specs.Pdu.{PduValue, is_toward_sender}
use Rattle.pdu_reading.specs.declared.fault.DecodeFault.{DecodeFault}
use Rattle.pdu_reading.specs.Reading.{reading}
use Rattle.txn_events.specs.declared.event.Event.{Event}
use Rattle.txn_events.specs.declared.event.Event.TheVariants.{Put, On}
use Rattle.txn_events.specs.declared.event.What.{What}
use Rattle.txn_events.specs.declared.event.What.TheVariants as what
use Rattle.config_reading.specs.Values.{ConfigValue, PeerValue, has_id}
use Rattle.entity_routing.specs.declared.place.Place.{Place}
use Rattle.entity_routing.specs.declared.refusal.RouteRefusal.{RouteRefusal}
use Rattle.entity_routing.specs.declared.refusal.RouteRefusal.TheVariants as refusals
use Rattle.entity_routing.specs.declared.world_event.Request.{Request}
use Rattle.entity_routing.specs.declared.world_event.Request.TheVariants as requests
use Rattle.entity_routing.specs.declared.world_event.WorldEvent.{WorldEvent}
use Rattle.entity_routing.specs.declared.world_event.WorldEvent.TheVariants as events
use Rattle.entity_routing.specs.Places.{is_local, place_of}

-- a lane, and the event that it gets
pub record Routed : Type 0 where
  pub place : Place
  pub event : Event

-- ---- places

-- the place, or NoRoute
abbrev pub or_no_route : Option Place → Result Place RouteRefusal
or_no_route None = Err refusals.NoRoute
or_no_route (Some place) = Ok place

-- the lane that a transaction belongs to
abbrev pub key_place : ConfigValue → TxnKey → Result Place RouteRefusal
key_place config key = or_no_route (place_of config key)

-- the place, unless it is another user's: then NotYours
abbrev pub if_own : ℕ → Result Place RouteRefusal → Result Place RouteRefusal
if_own user (Err why) = Err why
if_own user (Ok place) = if place.user == user then Ok place else Err refusals.NotYours

-- the lane of a transaction, if it belongs to this user
abbrev pub own_place : ConfigValue → ℕ → TxnKey → Result Place RouteRefusal
own_place config user key = if_own user (key_place config key)

-- ---- PDUs

-- the key of the transaction that a PDU belongs to
abbrev pub key_of_header : Header → TxnKey
key_of_header header = record { source = header.source; seq = header.sequence }

-- whether a direction is toward the sender
abbrev pub goes_back : Direction → Bool
goes_back TowardReceiver = false
goes_back TowardSender = true

-- whether a direction fits the kind of body
abbrev pub is_direction_of : Body → Direction → Bool
is_direction_of body TowardReceiver = not (is_toward_sender body)
is_direction_of body TowardSender = is_toward_sender body

-- whether a PDU is for the entity: by its destination or, toward the sender, by its source
abbrev pub is_for_us : ConfigValue → Header → Bool
is_for_us config header = is_local config (if goes_back header.direction then header.source else header.destination)

-- whether a PDU toward the receiver names the entity itself as its source; the entity receives nothing from itself
abbrev pub is_from_itself : ConfigValue → Header → Bool
is_from_itself config header = not (goes_back header.direction) && is_local config header.source

-- the lane that gets a PDU
abbrev pub pdu_place : ConfigValue → PduValue → Result Place RouteRefusal
pdu_place config pdu =
    if not (is_for_us config pdu.header) then Err refusals.NotForUs
    else (if not (is_direction_of pdu.body pdu.header.direction) then Err refusals.WrongDirection
    else (if is_from_itself config pdu.header then Err refusals.NoRoute
    else key_place config (key_of_header pdu.header)))

-- ---- Puts

-- the parameters of transactions with a remote entity, if there is one
abbrev pub params_of_peer : Option PeerValue → Result ParamsParts RouteRefusal
params_of_peer None = Err refusals.UnknownRemote
params_of_peer (Some peer) = Ok peer.remote.params

-- the parameters of transactions with a destination
abbrev pub put_params : ConfigValue → EntityId → Result ParamsParts RouteRefusal
put_params config destination = params_of_peer (find (has_id destination) config.peers)

-- ---- the whole

-- an event of a transaction, for the lane at a place, if there is one
abbrev pub routed_on : TxnKey → What → Result Place RouteRefusal → Result Routed RouteRefusal
routed_on key happens (Err why) = Err why
routed_on key happens (Ok place) = Ok (record { place = place; event = On key happens })

-- a Put, for the lane at a place, with parameters, if there are any
abbrev pub routed_put : Place → PutValue → Result ParamsParts RouteRefusal → Result Routed RouteRefusal
routed_put place put (Err why) = Err why
routed_put place put (Ok params) = Ok (record { place = place; event = Put put params })

-- a received PDU
abbrev pub routed_pdu : ConfigValue → PduValue → Result Routed RouteRefusal
routed_pdu config pdu = routed_on (key_of_header pdu.header) (what.Pdu pdu) (pdu_place config pdu)

-- a received PDU as read from octets, or the fault
abbrev pub routed_reading : ConfigValue → Result PduValue DecodeFault → Result Routed RouteRefusal
routed_reading config (Err fault) = Err (refusals.DecodeFault fault)
routed_reading config (Ok pdu) = routed_pdu config pdu

-- a user's request on a transaction
abbrev pub routed_own : ConfigValue → ℕ → TxnKey → What → Result Routed RouteRefusal
routed_own config user key happens = routed_on key happens (own_place config user key)

-- a user's request
abbrev pub routed_request : ConfigValue → ℕ → Request → Result Routed RouteRefusal
routed_request config user (requests.Put lane put) = routed_put (record { user = user; lane = lane }) put (put_params config put.destination)
routed_request config user (requests.Cancel key) = routed_own config user key what.Cancel
routed_request config user (requests.Suspend key) = routed_own config user key what.Suspend
routed_request config user (requests.Resume key) = routed_own config user key what.Resume
routed_request config user (requests.Report key) = routed_own config user key what.Report
routed_request config user (requests.Abandon key) = routed_own config user key what.Abandon

-- an event of a transaction that arises inside the entity
abbrev pub routed_key : ConfigValue → TxnKey → What → Result Routed RouteRefusal
routed_key config key happens = routed_on key happens (key_place config key)

-- the lane that gets an event of the entity, and the lane's event; or why none does
abbrev pub route : ConfigValue → WorldEvent → Result Routed RouteRefusal
route config (events.Request user request) = routed_request config user request
route config (events.Deliver octets) = routed_reading config (reading octets)
route config (events.Pump key) = routed_key config key what.Pump
route config (events.Timer key kind stamp) = routed_key config key (what.Timer kind stamp)
route config (events.Stored key stamp keeps) = routed_key config key (what.Stored stamp keeps)
