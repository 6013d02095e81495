-- Meaning. Which lane of which user a transaction belongs to, from the configuration alone.
use Rattle.std.specs.Prelude.{ℕ, ◌+◌, ◌*◌, ◌-◌, ◌/◌, ◌%◌, Bool, ◌==◌, nat_lt, if◌then◌else◌, List, length, find, position, slice_get, Option, Some, None}
use Rattle.std.specs.List.{filter}
use Rattle.std.specs.Option.{option_map}
use Rattle.cfdp_types.specs.declared.key.EntityId.{EntityId}
use Rattle.cfdp_types.specs.declared.key.TxnKey.{TxnKey}
use Rattle.config_reading.specs.Values.{ConfigValue, PeerValue, goes_to, has_id, route_of}
use Rattle.entity_routing.specs.declared.place.Place.{Place}

-- an ID is the entity's own
abbrev pub is_local : ConfigValue → EntityId → Bool
is_local config id = id.0 == config.entity.local.0

-- ---- the entity's own transactions

-- the user and the sending lane of one of the entity's own sequence numbers
abbrev pub sending_place : ConfigValue → ℕ → Place
sending_place config seq = record { user = seq % length config.users; lane = seq / length config.users % config.entity.put_lanes }

-- ---- transactions from a remote entity

-- the files of a remote entity go to the user
abbrev pub is_source_of : ℕ → PeerValue → Bool
is_source_of user peer = goes_to user (route_of peer)

-- all remote entities that deliver to the user, in the order of the configuration
abbrev pub sources_of : ConfigValue → ℕ → List PeerValue
sources_of config user = filter (is_source_of user) config.peers

-- the lane for a sequence number, after the sending lanes and the lanes of the user's earlier sources
abbrev pub receiving_lane : ConfigValue → ℕ → ℕ → ℕ
receiving_lane config place seq = config.entity.put_lanes + place * config.entity.receive_lanes + seq % config.entity.receive_lanes

-- the user that a remote entity's files go to, if there is one
abbrev pub user_of_peer : Option PeerValue → Option ℕ
user_of_peer None = None
user_of_peer (Some peer) = peer.remote.user

-- the user that a source's files go to, if there is one
abbrev pub user_of_source : ConfigValue → EntityId → Option ℕ
user_of_source config source = user_of_peer (find (has_id source) config.peers)

-- the lane of a source's transaction, where the source's files go to this user
abbrev pub place_of_user : ConfigValue → TxnKey → Option ℕ → Option Place
place_of_user config key None = None
place_of_user config key (Some user) =
    option_map (λ place. record { user = user; lane = receiving_lane config place key.seq }) (position (has_id key.source) (sources_of config user))

-- the lane of a remote entity's transaction, if its files go to a user
abbrev pub receiving_place : ConfigValue → TxnKey → Option Place
receiving_place config key = place_of_user config key (user_of_source config key.source)

-- ---- both

-- the lane that a transaction belongs to, if there is one
abbrev pub place_of : ConfigValue → TxnKey → Option Place
place_of config key = if is_local config key.source then Some (sending_place config key.seq) else receiving_place config key

-- how many lanes a user has
abbrev pub lanes_of : ConfigValue → ℕ → ℕ
lanes_of config user = config.entity.put_lanes + length (sources_of config user) * config.entity.receive_lanes

-- the remote entity whose transactions a user's lane receives; None for a sending lane, or beyond the last lane
abbrev pub source_of_lane : ConfigValue → ℕ → ℕ → Option PeerValue
source_of_lane config user lane =
    if nat_lt lane config.entity.put_lanes then None
    else slice_get (sources_of config user) ((lane - config.entity.put_lanes) / config.entity.receive_lanes)
