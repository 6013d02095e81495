-- Meaning. What a configuration holds, and the limits that it must keep.
use Rattle.std.specs.Prelude.{ℕ, ◌^◌, Bool, true, false, not, ◌&&◌, ◌==◌, nat_le, nat_lt, List, [], ◌∷◌, length, map, count_by, Option, Some, None}
use Rattle.config_reading.specs.Texts.{is_address, is_same_text, is_user_name, is_within}
use Rattle.std.specs.List.{list_all, list_any}
use Rattle.cfdp_types.specs.declared.key.EntityId.{EntityId}
use Rattle.cfdp_types.specs.declared.limits.TheConstants.{CONFIGURED_NUMBER, ID_OCTETS, QUEUE_BUNDLES, RECEIVING_LANES, REMOTES, SEGMENT_OCTETS_LEAST, SEGMENT_OCTETS_MOST, SENDING_LANES, SOURCES_OF_A_USER, USERS}
use Rattle.cfdp_types.specs.declared.params.ParamsParts.{ParamsParts}
use Rattle.config_reading.specs.declared.entity.EntitySettings.{EntitySettings}
use Rattle.config_reading.specs.declared.remote.Remote.{Remote}

-- a remote entity, and its address as written
pub record PeerValue : Type 0 where
  pub remote : Remote
  pub address : List ℕ

-- the entity itself, the names of its users, and the remote entities in order
pub record ConfigValue : Type 0 where
  pub entity : EntitySettings
  pub users : List (List ℕ)
  pub peers : List PeerValue

-- an ID that a configuration may name, where IDs have this many octets
abbrev pub is_id : ℕ → ℕ → Bool
is_id octets id = nat_le id CONFIGURED_NUMBER && nat_lt id (256 ^ octets)

-- the entity's settings are within their limits
abbrev pub is_entity : EntitySettings → Bool
is_entity entity =
    is_within 1 ID_OCTETS entity.lengths.entity_octets
    && is_within 1 ID_OCTETS entity.lengths.sequence_octets
    && is_id entity.lengths.entity_octets entity.local.0
    && nat_le entity.first CONFIGURED_NUMBER
    && is_within 1 SENDING_LANES entity.put_lanes
    && is_within 1 RECEIVING_LANES entity.receive_lanes
    && is_within 1 QUEUE_BUNDLES entity.capacity
    && is_within SEGMENT_OCTETS_LEAST SEGMENT_OCTETS_MOST entity.segment_octets

-- no item is equal to a later one
abbrev pub are_distinct : {A : Type 0} → (A → A → Bool) → List A → Bool
are_distinct eq [] = true
are_distinct eq (x ∷ xs) = not (list_any (eq x) xs) && are_distinct eq xs

-- the users' names are valid, distinct, and not too many
abbrev pub are_users : List (List ℕ) → Bool
are_users users = is_within 1 USERS (length users) && list_all is_user_name users && are_distinct is_same_text users

-- the remote entity has this ID
abbrev pub has_id : EntityId → PeerValue → Bool
has_id id peer = peer.remote.id.0 == id.0

-- a remote entity without its parameters
pub record Route : Type 0 where
  pub id : EntityId
  pub user : Option ℕ
  pub address : List ℕ

abbrev pub route_of : PeerValue → Route
route_of peer = record { id = peer.remote.id; user = peer.remote.user; address = peer.address }

-- the files of the remote entity go to the user
abbrev pub goes_to : ℕ → Route → Bool
goes_to user route = user_is route.user
  where
    user_is : Option ℕ → Bool
    user_is None = false
    user_is (Some other) = other == user

-- its user, if there is one, doesn't have too many sources
abbrev pub has_room : List Route → Route → Bool
has_room routes route = of_user route.user
  where
    of_user : Option ℕ → Bool
    of_user None = true
    of_user (Some user) = nat_le (count_by (goes_to user) routes) SOURCES_OF_A_USER

-- its user, if there is one, is one of this many
abbrev pub has_user : ℕ → Route → Bool
has_user users route = is_below route.user
  where
    is_below : Option ℕ → Bool
    is_below None = true
    is_below (Some user) = nat_lt user users

-- two routes have the same ID
abbrev pub is_same_id : Route → Route → Bool
is_same_id route other = route.id.0 == other.id.0

-- a remote entity that this entity may have
abbrev pub is_route : EntitySettings → ℕ → Route → Bool
is_route entity users route =
    is_id entity.lengths.entity_octets route.id.0
    && not (route.id.0 == entity.local.0)
    && is_address route.address
    && has_user users route

-- the remote entities are valid, distinct, and not too many
abbrev pub are_routes : EntitySettings → ℕ → List Route → Bool
are_routes entity users routes =
    nat_le (length routes) REMOTES
    && list_all (is_route entity users) routes
    && are_distinct is_same_id routes
    && list_all (has_room routes) routes

-- the parameters agree with the entity's settings
abbrev pub are_of : EntitySettings → ParamsParts → Bool
are_of entity params =
    params.local.0 == entity.local.0
    && params.lengths.entity_octets == entity.lengths.entity_octets
    && params.lengths.sequence_octets == entity.lengths.sequence_octets
    && params.segment_octets == entity.segment_octets

-- a configuration within all limits; the type of its parameters keeps their ranges
abbrev pub is_config : ConfigValue → Bool
is_config config =
    is_entity config.entity
    && are_users config.users
    && are_routes config.entity (length config.users) (map route_of config.peers)
    && list_all (λ peer. are_of config.entity peer.remote.params) config.peers
