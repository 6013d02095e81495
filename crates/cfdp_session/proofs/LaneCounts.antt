-- How many sending lanes an entity has: at least one, and few.
use Rattle.std.proofs.Common.{◌≡◌, ℕ, ◌*◌, ◌≤◌, ◌<◌, IsTrue, ◌&&◌, nat_le, length, arith}
use Rattle.std.specs.List.{list_all}
use Rattle.std.proofs.Math.Nat.{le-mul_of_pos_right, mul-le-mul_left}
use Rattle.std.proofs.lemmas.Bool.{and_parts, leb-true}
use Rattle.cfdp_types.specs.declared.limits.TheConstants.{CONFIGURED_NUMBER, ID_OCTETS, QUEUE_BUNDLES, RECEIVING_LANES, SEGMENT_OCTETS_LEAST, SEGMENT_OCTETS_MOST, SENDING_LANES, USERS}
use Rattle.config_reading.specs.Texts.{is_same_text, is_user_name, is_within}
use Rattle.config_reading.specs.Values.{ConfigValue, are_distinct, is_config, is_id}
use Rattle.entity_config.proofs.Limits.{has_lanes, has_users, kept}

few_users : (config : ConfigValue) → IsTrue (is_config config) → length config.users ≤ USERS
few_users config holds =
    let two = and_parts (is_within 1 USERS (length config.users) && list_all is_user_name config.users) (are_distinct is_same_text config.users) (kept config holds).users in
    let one = and_parts (is_within 1 USERS (length config.users)) (list_all is_user_name config.users) two.0 in
    let both = and_parts (nat_le 1 (length config.users)) (nat_le (length config.users) USERS) one.0 in
    leb-true (length config.users) USERS both.1

few_lanes : (config : ConfigValue) → IsTrue (is_config config) → config.entity.put_lanes ≤ SENDING_LANES
few_lanes config holds =
    let entity = config.entity in
    let lengths = is_within 1 ID_OCTETS entity.lengths.entity_octets && is_within 1 ID_OCTETS entity.lengths.sequence_octets in
    let front = lengths && is_id entity.lengths.entity_octets entity.local.0 && nat_le entity.first CONFIGURED_NUMBER in
    let put = is_within 1 SENDING_LANES entity.put_lanes in
    let receive = is_within 1 RECEIVING_LANES entity.receive_lanes in
    let all = and_parts (front && put && receive && is_within 1 QUEUE_BUNDLES entity.capacity) (is_within SEGMENT_OCTETS_LEAST SEGMENT_OCTETS_MOST entity.segment_octets) (kept config holds).entity in
    let both = and_parts (front && put) receive (and_parts (front && put && receive) (is_within 1 QUEUE_BUNDLES entity.capacity) all.0).0 in
    let within = and_parts (nat_le 1 entity.put_lanes) (nat_le entity.put_lanes SENDING_LANES) (and_parts front put both.0).1 in
    leb-true entity.put_lanes SENDING_LANES within.1

bounded : (users lanes : ℕ) → 0 < users → users ≤ 16 → 0 < lanes → lanes ≤ 32 → (0 < users * lanes) × (users * lanes ≤ 512)
bounded users lanes some_users few some_lanes few_too =
    (omega (arith, some_users, le-mul_of_pos_right users some_lanes), omega (arith, few, mul-le-mul_left users few_too))

pub lane_count : (config : ConfigValue) → IsTrue (is_config config)
    → (0 < length config.users * config.entity.put_lanes) × (length config.users * config.entity.put_lanes ≤ 512)
lane_count config holds =
    bounded (length config.users) config.entity.put_lanes (has_users config holds) (few_users config holds) (has_lanes config holds).put (few_lanes config holds)
