-- Meaning. The laws of every route.
use Rattle.std.specs.Prelude.{◌≡◌, ◌-◌, ◌%◌, ◌<◌, ◌↔◌, true, false, IsTrue, length, Some, None, Ok}
use Rattle.cfdp_types.specs.declared.key.TxnKey.{TxnKey}
use Rattle.cfdp_types.specs.declared.key.EntityId.{EntityId}
use Rattle.pdu_values.specs.Pdu.{PduValue}
use Rattle.txn_events.specs.declared.event.Event.TheVariants.{On}
use Rattle.txn_events.specs.declared.event.What.TheVariants as what
use Rattle.config_reading.specs.Values.{ConfigValue, PeerValue, is_config}
use Rattle.entity_routing.specs.declared.place.Place.{Place}
use Rattle.entity_routing.specs.Places.{is_local, lanes_of, place_of, source_of_lane}
use Rattle.entity_routing.specs.Routes.{Routed, goes_back, key_of_header, key_place, pdu_place, routed_pdu}

-- ---- places

-- the place is a lane of a user in the configuration
pub record IsWithin (config : ConfigValue) (place : Place) : Type 0 where
  pub user : place.user < length config.users
  pub lane : place.lane < lanes_of config place.user

-- every place is such a lane
abbrev pub PlacesAreWithin : Type 0
PlacesAreWithin = (config : ConfigValue) (key : TxnKey) (place : Place) → IsTrue (is_config config) → place_of config key ≡ Some place → IsWithin config place

-- the lane receives from the remote entity with this ID
pub record IsFrom (config : ConfigValue) (source : EntityId) (place : Place) : Type 0 where
  pub peer : PeerValue
  pub found : source_of_lane config place.user place.lane ≡ Some peer
  pub id : peer.remote.id ≡ source

-- the entity's own transactions are in sending lanes
abbrev pub OwnAreSent : Type 0
OwnAreSent = (config : ConfigValue) (key : TxnKey) (place : Place) → IsTrue (is_config config) → is_local config key.source ≡ true → place_of config key ≡ Some place
    → (place.lane < config.entity.put_lanes) × (source_of_lane config place.user place.lane ≡ None)

-- all others are in lanes that receive from their source
abbrev pub OthersAreReceived : Type 0
OthersAreReceived = (config : ConfigValue) (key : TxnKey) (place : Place) → IsTrue (is_config config) → is_local config key.source ≡ false → place_of config key ≡ Some place
    → IsFrom config key.source place

-- among the lanes that receive from a source, the number of a transaction determines its lane
abbrev pub NumbersTellLanes : Type 0
NumbersTellLanes = (config : ConfigValue) (key : TxnKey) (place : Place) → IsTrue (is_config config) → IsFrom config key.source place
    → (place_of config key ≡ Some place)
    ↔ (key.seq % config.entity.receive_lanes ≡ (place.lane - config.entity.put_lanes) % config.entity.receive_lanes)

-- ---- what a lane gets

-- a lane gets each PDU with the PDU's own key
abbrev pub PdusKeepKeys : Type 0
PdusKeepKeys = (config : ConfigValue) (pdu : PduValue) (routed : Routed) → routed_pdu config pdu ≡ Ok routed
    → routed.event ≡ On (key_of_header pdu.header) (what.Pdu pdu)

-- a PDU goes to its transaction's lane; it goes toward the sender exactly where the transaction is the entity's own
abbrev pub PdusGoTheirWay : Type 0
PdusGoTheirWay = (config : ConfigValue) (pdu : PduValue) (place : Place) → pdu_place config pdu ≡ Ok place
    → (key_place config (key_of_header pdu.header) ≡ Ok place) × (is_local config pdu.header.source ≡ goes_back pdu.header.direction)
