-- The remote entities that are read keep their limits, and so does a whole configuration.
use Rattle.std.proofs.Common.{◌≡◌, ℕ, ◌+◌, ◌<◌, ◌≤◌, Bool, true, false, cond, not, ◌&&◌, ◌==◌, nat_le, le-leb, IsTrue, List, [], ◌∷◌, ◌++◌, length, length-append, map, count_by, position, Option, Some, None, Ok, IfOk, refl, ◌∙◌, arith}
use Rattle.std.specs.Cmp.Derive.{both_true}
use Rattle.std.specs.List.{list_all, list_any}
use Rattle.std.proofs.lemmas.Bool.{and_parts, leb-true, not-true}
use Rattle.std.proofs.lemmas.Bool.Decides.{nat_tests}
use Rattle.std.proofs.lemmas.List.{map-append}
use Rattle.std.proofs.lemmas.List.Quantifiers.{position-Some}
use Rattle.std.proofs.lemmas.List.Sums.{sum_by-append}
use Rattle.std.proofs.lemmas.Result.{IfOk-at_ok}
use Rattle.cfdp_types.proofs.PutLemmas.{list_any-map}
use Rattle.cfdp_types.specs.declared.params.ParamsParts.{ParamsParts}
use Rattle.cfdp_types.specs.declared.limits.TheConstants.{REMOTES, USERS}
use Rattle.toml.specs.Data.{Data, Members}
use Rattle.config_reading.specs.declared.entity.EntitySettings.{EntitySettings}
use Rattle.config_reading.specs.declared.fault.ConfigFault.TheVariants as fault
use Rattle.config_reading.specs.declared.fault.Key.TheVariants as key
use Rattle.config_reading.specs.Texts.{is_address, is_same_text, is_within}
use Rattle.config_reading.specs.Values.{ConfigValue, PeerValue, Route, are_distinct, are_of, goes_to, has_id, has_room, has_user, is_config, is_entity, is_route, is_same_id, route_of}
use Rattle.config_reading.specs.Walk.{address_in, checksum_at, counted, entity_in, greatest_id, has_only, known_user, limits_in, name_of, optional, params_in, remote_in, remote_keys, remotes_in, required, tables_in, takes_source, text_of, timers_in, user_named, users_in, value_at}
use Rattle.config_reading.proofs.Lists.{length-seen}
use Rattle.config_reading.proofs.Distinct.{are_distinct-last, list_all-last}
use Rattle.config_reading.proofs.ReadLimits.{AreNames, counted-limits, entity_in-limits, id_fits, ok_always, ok_number, ok_required, ok_then, ok_unless, users_in-limits}

-- a user that is one of so many, or none
abbrev IsUserBelow : ℕ → Option ℕ → Type 0
IsUserBelow users None = Unit {0}
IsUserBelow users (Some user) = user < users

has_user-below : (users : ℕ) (route : Route) (user : Option ℕ) → route.user ≡ user → IsUserBelow users user → has_user users route ≡ true
has_user-below users route None is below = rw is
has_user-below users route (Some user) is below = rw is (grind (arith, nat_tests))

known_user-below : (same : List ℕ → Bool) (users : List (List ℕ)) (found : Option ℕ) → position same users ≡ found → IfOk (known_user found) (IsUserBelow (length users))
known_user-below same users None is = tt
known_user-below same users (Some user) is = (position-Some same users user [] is).0

user_named-below : (users : List (List ℕ)) (d : Data) → IfOk (user_named users d) (IsUserBelow (length users))
user_named-below users d =
    ok_always (name_of key.User d) _ (IsUserBelow (length users)) (λ name. known_user-below (is_same_text name) users (position (is_same_text name) users) refl)

user-below : (users : List (List ℕ)) (d : Option Data) → IfOk (optional None (user_named users) d) (IsUserBelow (length users))
user-below users None = tt
user-below users (Some d) = user_named-below users d

address_in-limits : (d : Data) → IfOk (address_in d) (λ address. is_address address ≡ true)
address_in-limits d =
    let Q : List ℕ → Type 0 = λ address. is_address address ≡ true in
    ok_always (text_of key.Address d) _ Q (λ text. ok_unless (is_address text) fault.BadAddress (Ok text) Q (λ e. e))

same_number : (n : ℕ) → (n == n) ≡ true
same_number n = grind (arith, nat_tests)

params_in-limits : (entity : EntitySettings) (ms : Members) → IfOk (params_in entity ms) (λ params. are_of entity params ≡ true)
params_in-limits entity ms =
    let Q : ParamsParts → Type 0 = λ params. are_of entity params ≡ true in
    ok_always (timers_in ms) _ Q (λ timers. ok_always (limits_in ms) _ Q (λ limits. ok_always (tables_in ms) _ Q (λ tables. ok_always (checksum_at ms) _ Q (λ checksum.
    both_true (both_true (both_true (same_number entity.local.0) (same_number entity.lengths.entity_octets)) (same_number entity.lengths.sequence_octets)) (same_number entity.segment_octets)))))

-- a remote entity that can stand after some others
record Joins (entity : EntitySettings) (users : ℕ) (before : List PeerValue) (peer : PeerValue) : Type 0 where
  fits : is_route entity users (route_of peer) ≡ true
  new : list_any (has_id peer.remote.id) before ≡ false
  room : takes_source before peer.remote.user ≡ true
  own : are_of entity peer.remote.params ≡ true

remote_in-limits : (entity : EntitySettings) (users : List (List ℕ)) (before : List PeerValue) (ms : Members) → IfOk (remote_in entity users before ms) (Joins entity (length users) before)
remote_in-limits entity users before ms =
    let greatest = greatest_id entity.lengths.entity_octets in
    let Q : PeerValue → Type 0 = Joins entity (length users) before in
    let A : List ℕ → Type 0 = λ address. is_address address ≡ true in
    let P : ParamsParts → Type 0 = λ params. are_of entity params ≡ true in
    ok_unless (has_only remote_keys ms) _ _ Q (λ known.
    ok_number key.Id 0 greatest ms _ Q (λ id id_within.
    ok_then (required key.Address address_in (value_at key.Address ms)) _ A Q (ok_required key.Address address_in A (value_at key.Address ms) address_in-limits) (λ address address_fits.
    ok_then (optional None (user_named users) (value_at key.User ms)) _ (IsUserBelow (length users)) Q (user-below users (value_at key.User ms)) (λ user below.
    ok_then (params_in entity ms) _ P Q (params_in-limits entity ms) (λ params own.
    ok_unless (not (id == entity.local.0) && not (list_any (has_id (record { 0 = id })) before)) _ _ Q (λ new.
    ok_unless (takes_source before user) _ _ Q (λ room.
    let route : Route = record { id = record { 0 = id }; user = user; address = address } in
    let (another, alone) = and_parts (not (id == entity.local.0)) (not (list_any (has_id (record { 0 = id })) before)) new in
    let fits = id_fits entity.lengths.entity_octets id (and_parts (nat_le 0 id) (nat_le id greatest) id_within).1 in
    record {
      fits = both_true (both_true (both_true fits another) address_fits) (has_user-below (length users) route user refl below);
      new = not-true _ alone;
      room = room;
      own = own;
    })))))))

-- remote entities that keep their limits, but for their count
record AreRemotes (entity : EntitySettings) (users : ℕ) (peers : List PeerValue) : Type 0 where
  fit : list_all (is_route entity users) (map route_of peers) ≡ true
  distinct : are_distinct is_same_id (map route_of peers) ≡ true
  room : (user : ℕ) → count_by (goes_to user) (map route_of peers) ≤ 8
  own : list_all (λ peer. are_of entity peer.remote.params) peers ≡ true

-- one more for a user that has room
one_more : (count : ℕ → ℕ) (goes user : ℕ) → ((other : ℕ) → count other ≤ 8) → nat_le (count goes + 1) 8 ≡ true → count user + (0 + cond (goes == user) 1 0) ≤ 8
one_more count goes user room takes =
    let here = room user in
    let there = leb-true (count goes + 1) 8 takes in
    grind (arith, nat_tests)

room_left : (before : List PeerValue) (user : ℕ) (route : Route) (goes : Option ℕ) → route.user ≡ goes → ((other : ℕ) → count_by (goes_to other) (map route_of before) ≤ 8)
    → takes_source before goes ≡ true → count_by (goes_to user) (map route_of before ++ route ∷ []) ≤ 8
room_left before user route None is room takes =
    let more = sum_by-append (λ x. cond (goes_to user x) 1 0) (map route_of before) (route ∷ []) in
    let last : cond {A = ℕ} (goes_to user route) 1 0 ≡ 0 = rw is in
    omega (arith, more, last, room user)
room_left before user route (Some goes) is room takes =
    let more = sum_by-append (λ x. cond (goes_to user x) 1 0) (map route_of before) (route ∷ []) in
    let last : cond {A = ℕ} (goes_to user route) 1 0 ≡ cond (goes == user) 1 0 = rw is in
    omega (arith, more, last, one_more (λ other. count_by (goes_to other) (map route_of before)) goes user room takes)

one_joins : (entity : EntitySettings) (users : ℕ) (before : List PeerValue) (peer : PeerValue) → AreRemotes entity users before → Joins entity users before peer
    → AreRemotes entity users (before ++ peer ∷ [])
one_joins entity users before peer are joins =
    let split = map-append route_of before (peer ∷ []) in record {
      fit = rw split (list_all-last (is_route entity users) (map route_of before) (route_of peer) are.fit joins.fits);
      distinct = rw split (are_distinct-last is_same_id (map route_of before) (route_of peer) are.distinct
          (list_any-map (λ other. is_same_id other (route_of peer)) route_of before ∙ joins.new));
      room = λ user. rw split (room_left before user (route_of peer) peer.remote.user refl are.room joins.room);
      own = list_all-last (λ other. are_of entity other.remote.params) before peer are.own joins.own;
    }

-- so many remote entities
record AreCounted (entity : EntitySettings) (users count : ℕ) (peers : List PeerValue) : Type 0 where
  count_is : length peers ≡ count
  are : AreRemotes entity users peers

remotes_in-limits : (entity : EntitySettings) (users : List (List ℕ)) (count : ℕ) (before : List PeerValue) (tables : List Members) → length before + length tables ≡ count
    → AreRemotes entity (length users) before → IfOk (remotes_in entity users before tables) (AreCounted entity (length users) count)
remotes_in-limits entity users count before [] counts are = record { count_is = omega arith; are = are }
remotes_in-limits entity users count before (ms ∷ tables) counts are =
    ok_then (remote_in entity users before ms) (λ peer. remotes_in entity users (before ++ peer ∷ []) tables) (Joins entity (length users) before) (AreCounted entity (length users) count)
    (remote_in-limits entity users before ms) (λ peer joins.
    remotes_in-limits entity users count (before ++ peer ∷ []) tables (omega (arith, length-append before (peer ∷ []))) (one_joins entity (length users) before peer are joins))

has_room-if : (routes : List Route) (route : Route) (goes : Option ℕ) → route.user ≡ goes → ((user : ℕ) → count_by (goes_to user) routes ≤ 8) → has_room routes route ≡ true
has_room-if routes route None is room = rw is
has_room-if routes route (Some user) is room = rw is (le-leb _ 8 (room user))

all_have_room : (routes left : List Route) → ((user : ℕ) → count_by (goes_to user) routes ≤ 8) → list_all (has_room routes) left ≡ true
all_have_room routes [] room = refl
all_have_room routes (route ∷ left) room = both_true (has_room-if routes route route.user refl room) (all_have_room routes left room)

-- a configuration whose parts were read keeps all limits
pub read_is_config : (entity_table : Members) (user_value remote_value : Data) (user_tables remote_tables : List Members) (config : ConfigValue)
    → entity_in entity_table ≡ Ok config.entity
    → counted key.User 1 USERS user_value ≡ Ok user_tables
    → counted key.Remote 0 REMOTES remote_value ≡ Ok remote_tables
    → users_in [] user_tables ≡ Ok config.users
    → remotes_in config.entity config.users [] remote_tables ≡ Ok config.peers
    → IsTrue (is_config config)
read_is_config entity_table user_value remote_value user_tables remote_tables config entity_is users_counted remotes_counted users_are peers_are =
    let entity = config.entity in
    let users = config.users in
    let within : is_entity entity ≡ true = IfOk-at_ok (λ e. IsTrue (is_entity e)) entity_is (entity_in-limits entity_table) in
    let user_count : is_within 1 USERS (length user_tables) ≡ true = IfOk-at_ok (λ ts. is_within 1 USERS (length ts) ≡ true) users_counted (counted-limits key.User 1 USERS user_value) in
    let remote_count : is_within 0 REMOTES (length remote_tables) ≡ true = IfOk-at_ok (λ ts. is_within 0 REMOTES (length ts) ≡ true) remotes_counted (counted-limits key.Remote 0 REMOTES remote_value) in
    let names : AreNames (length user_tables) users = IfOk-at_ok (AreNames (length user_tables)) users_are (users_in-limits (length user_tables) [] user_tables (omega arith) refl refl) in
    let none : AreRemotes entity (length users) [] = record { fit = refl; distinct = refl; room = λ user. omega arith; own = refl } in
    let remotes : AreCounted entity (length users) (length remote_tables) config.peers =
    IfOk-at_ok (AreCounted entity (length users) (length remote_tables)) peers_are (remotes_in-limits entity users (length remote_tables) [] remote_tables (omega arith) none) in
    let routes = map route_of config.peers in
    let few : nat_le (length routes) REMOTES ≡ true = rw (length-seen route_of config.peers ∙ remotes.count_is) ((and_parts (nat_le 0 (length remote_tables)) (nat_le (length remote_tables) REMOTES) remote_count).1) in
    both_true (both_true (both_true within
    (both_true (both_true (rw names.count_is user_count) names.named) names.distinct))
    (both_true (both_true (both_true few remotes.are.fit) remotes.are.distinct) (all_have_room routes routes remotes.are.room)))
    remotes.are.own
