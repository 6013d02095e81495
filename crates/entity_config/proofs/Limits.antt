-- What a configuration keeps, one limit at a time.
use Rattle.std.proofs.Common.{◌≡◌, ℕ, ◌≤◌, ◌<◌, Bool, true, false, IsTrue, ◌&&◌, nat_le, nat_lt, length, map, position, Some, None, IfSome, cond, refl, sym, subst, arith}
use Rattle.std.specs.List.{filter, list_all}
use Rattle.std.proofs.lemmas.Bool.{and_parts, leb-true, ltb-true}
use Rattle.std.proofs.lemmas.List.Sums.{count_by-le-length, length-filter}
use Rattle.std.specs.List.{position_or_len}
use Rattle.cfdp_types.specs.declared.limits.TheConstants.{CONFIGURED_NUMBER, ID_OCTETS, QUEUE_BUNDLES, RECEIVING_LANES, REMOTES, SEGMENT_OCTETS_LEAST, SEGMENT_OCTETS_MOST, SENDING_LANES, USERS}
use Rattle.config_reading.specs.declared.entity.EntitySettings.{EntitySettings}
use Rattle.config_reading.specs.Texts.{is_same_text, is_user_name, is_within}
use Rattle.config_reading.specs.Values.{ConfigValue, PeerValue, are_distinct, are_of, are_routes, are_users, is_id, has_room, is_config, is_entity, is_route, is_same_id, route_of}
use Rattle.config_reading.proofs.Lists.{length-seen}

-- what it keeps, part by part
pub record Kept (config : ConfigValue) : Type 0 where
  pub entity : is_entity config.entity ≡ true
  pub users : are_users config.users ≡ true
  pub routes : are_routes config.entity (length config.users) (map route_of config.peers) ≡ true

pub kept : (config : ConfigValue) → IsTrue (is_config config) → Kept config
kept config holds =
    let all = and_parts (is_entity config.entity && are_users config.users && are_routes config.entity (length config.users) (map route_of config.peers))
    (list_all (λ peer. are_of config.entity peer.remote.params) config.peers) holds in
    let three = and_parts (is_entity config.entity && are_users config.users) (are_routes config.entity (length config.users) (map route_of config.peers)) all.0 in
    let two = and_parts (is_entity config.entity) (are_users config.users) three.0 in
    record { entity = two.0; users = two.1; routes = three.1 }

-- ---- remote entities

-- there are at most so many
pub few_remotes : (config : ConfigValue) → IsTrue (is_config config) → length config.peers ≤ REMOTES
few_remotes config holds =
    let routes = map route_of config.peers in
    let three = and_parts (nat_le (length routes) REMOTES && list_all (is_route config.entity (length config.users)) routes && are_distinct is_same_id routes) (list_all (has_room routes) routes) (kept config holds).routes in
    let two = and_parts (nat_le (length routes) REMOTES && list_all (is_route config.entity (length config.users)) routes) (are_distinct is_same_id routes) three.0 in
    let one = and_parts (nat_le (length routes) REMOTES) (list_all (is_route config.entity (length config.users)) routes) two.0 in
    subst (λ (n : ℕ). n ≤ REMOTES) (length-seen route_of config.peers) (leb-true (length routes) REMOTES one.0)

-- and so are those that pass a test
pub few_pass : (config : ConfigValue) (test : PeerValue → Bool) → IsTrue (is_config config) → length (filter test config.peers) ≤ REMOTES
few_pass config test holds =
    subst (λ (n : ℕ). n ≤ REMOTES) (sym (length-filter test config.peers)) (omega (arith, count_by-le-length test config.peers, few_remotes config holds))

place_within : (is_within : Bool) (place size : ℕ) → nat_lt place size ≡ is_within → size ≤ REMOTES → IfSome (cond is_within (Some place) None) (λ place. place < REMOTES)
place_within true place size within few = omega (arith, ltb-true place size within, few)
place_within false place size within few = tt

-- a place among those that pass a test
pub places_within : (config : ConfigValue) (test first : PeerValue → Bool) → IsTrue (is_config config) → IfSome (position first (filter test config.peers)) (λ place. place < REMOTES)
places_within config test first holds =
    place_within (nat_lt (position_or_len first (filter test config.peers)) (length (filter test config.peers))) (position_or_len first (filter test config.peers)) (length (filter test config.peers)) refl (few_pass config test holds)

-- ---- users and lanes

pub has_users : (config : ConfigValue) → IsTrue (is_config config) → 0 < length config.users
has_users config holds =
    let two = and_parts (is_within 1 USERS (length config.users) && list_all is_user_name config.users) (are_distinct is_same_text config.users) (kept config holds).users in
    let one = and_parts (is_within 1 USERS (length config.users)) (list_all is_user_name config.users) two.0 in
    let least = and_parts (nat_le 1 (length config.users)) (nat_le (length config.users) USERS) one.0 in
    omega (arith, leb-true 1 (length config.users) least.0)

-- lanes of both kinds
pub record HasLanes (entity : EntitySettings) : Type 0 where
  pub put : 0 < entity.put_lanes
  pub receive : 0 < entity.receive_lanes

pub has_lanes : (config : ConfigValue) → IsTrue (is_config config) → HasLanes config.entity
has_lanes config holds =
    let entity = config.entity in
    let lengths = is_within 1 ID_OCTETS entity.lengths.entity_octets && is_within 1 ID_OCTETS entity.lengths.sequence_octets in
    let front = lengths && is_id entity.lengths.entity_octets entity.local.0 && nat_le entity.first CONFIGURED_NUMBER in
    let put = is_within 1 SENDING_LANES entity.put_lanes in
    let receive = is_within 1 RECEIVING_LANES entity.receive_lanes in
    let all = and_parts (front && put && receive && is_within 1 QUEUE_BUNDLES entity.capacity) (is_within SEGMENT_OCTETS_LEAST SEGMENT_OCTETS_MOST entity.segment_octets) (kept config holds).entity in
    let both = and_parts (front && put) receive (and_parts (front && put && receive) (is_within 1 QUEUE_BUNDLES entity.capacity) all.0).0 in
    let least_put = and_parts (nat_le 1 entity.put_lanes) (nat_le entity.put_lanes SENDING_LANES) (and_parts front put both.0).1 in
    let least_receive = and_parts (nat_le 1 entity.receive_lanes) (nat_le entity.receive_lanes RECEIVING_LANES) both.1 in
    record { put = omega (arith, leb-true 1 entity.put_lanes least_put.0); receive = omega (arith, leb-true 1 entity.receive_lanes least_receive.0) }

-- each remote entity is one that the entity can have
pub are_kept : (config : ConfigValue) → IsTrue (is_config config) → list_all (is_route config.entity (length config.users)) (map route_of config.peers) ≡ true
are_kept config holds =
    let routes = map route_of config.peers in
    let three = and_parts (nat_le (length routes) REMOTES && list_all (is_route config.entity (length config.users)) routes && are_distinct is_same_id routes) (list_all (has_room routes) routes) (kept config holds).routes in
    let two = and_parts (nat_le (length routes) REMOTES && list_all (is_route config.entity (length config.users)) routes) (are_distinct is_same_id routes) three.0 in
    (and_parts (nat_le (length routes) REMOTES) (list_all (is_route config.entity (length config.users)) routes) two.0).1
