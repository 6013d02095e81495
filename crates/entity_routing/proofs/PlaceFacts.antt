-- A place is a lane that the configuration has, and the lane is of the transaction's source.
use Rattle.std.proofs.Common.{◌≡◌, ℕ, ◌+◌, ◌*◌, ◌-◌, ◌/◌, ◌%◌, ◌<◌, Bool, true, false, IsTrue, ◌&&◌, ◌==◌, not, nat_lt, List, [], ◌∷◌, length, map, find, position, slice_get, get_or, Option, Some, None, option_map, refl, sym, ap, ◌∙◌, subst, arith}
use Rattle.std.specs.List.{list_all}
use Rattle.std.proofs.lemmas.Bool.{and_parts, eqb-true, le-ltb, lt-ltb, ltb-true}
use Rattle.std.proofs.lemmas.List.Quantifiers.{position-Some}
use Rattle.std.proofs.lemmas.Nat.{div-mul-add, mod_below, mul-add-lt}
use Rattle.std.proofs.lemmas.Option.{slice_get-get_or}
use Rattle.cfdp_types.specs.declared.key.EntityId.{EntityId}
use Rattle.cfdp_types.specs.declared.key.TxnKey.{TxnKey}
use Rattle.config_reading.specs.Texts.{is_address}
use Rattle.config_reading.specs.Values.{ConfigValue, PeerValue, Route, has_id, has_user, is_config, is_id, is_route, route_of}
use Rattle.entity_config.proofs.Limits.{are_kept, has_lanes, has_users}
use Rattle.entity_routing.specs.declared.place.Place.{Place}
use Rattle.entity_routing.specs.Places.{is_local, place_of, place_of_user, receiving_lane, sending_place, source_of_lane, sources_of, user_of_peer, user_of_source}
use Rattle.entity_routing.specs.RouteLaws.{IsFrom, IsWithin, OthersAreReceived, OwnAreSent, PlacesAreWithin}

-- ---- lists

-- what stands at a position
record IsAt {A : Type 0} (test : A → Bool) (xs : List A) (place : ℕ) : Type 0 where
  item : A
  within : place < length xs
  is : slice_get xs place ≡ Some item
  passes : test item ≡ true

no_position : (place : ℕ) → (let none : Option ℕ = None in none) ≡ Some place → ⊥
no_position place e = cc

at_position : {A : Type 0} (test : A → Bool) (xs : List A) (place : ℕ) → position test xs ≡ Some place → IsAt test xs place
at_position test [] place is = absurd (no_position place is)
at_position test (x ∷ xs) place is =
    let found = position-Some test (x ∷ xs) place x is in
    record { item = get_or (x ∷ xs) place x; within = found.0; is = slice_get-get_or (x ∷ xs) place x found.0; passes = found.1 }

first_or_later : (test : Route → Bool) (id : EntityId) (first : PeerValue) (peers : List PeerValue) (peer : PeerValue) (here : Bool) → has_id id first ≡ here → test (route_of first) ≡ true
    → (find (has_id id) peers ≡ Some peer → test (route_of peer) ≡ true) → find (has_id id) (first ∷ peers) ≡ Some peer → test (route_of peer) ≡ true
first_or_later test id first peers peer true here passes later is =
    let found : Some first ≡ Some peer = (rw here at is) in
    let same : first ≡ peer = cc found in
    subst (λ (p : PeerValue). test (route_of p) ≡ true) same passes
first_or_later test id first peers peer false here passes later is = later (rw here at is)

-- the remote entity with an ID is one of those that the configuration keeps
pub found_keeps : (test : Route → Bool) (id : EntityId) (peers : List PeerValue) (peer : PeerValue) → list_all test (map route_of peers) ≡ true → find (has_id id) peers ≡ Some peer → test (route_of peer) ≡ true
found_keeps test id [] peer all is = absurd cc
found_keeps test id (first ∷ peers) peer all is =
    let both = and_parts (test (route_of first)) (list_all test (map route_of peers)) all in
    first_or_later test id first peers peer (has_id id first) refl both.0 (found_keeps test id peers peer both.1) is

-- ---- users

user_below : (users : ℕ) (route : Route) (user : ℕ) → route.user ≡ Some user → has_user users route ≡ true → nat_lt user users ≡ true
user_below users route user is holds = subst (λ (to : Option ℕ). has_user users (record { id = route.id; user = to; address = route.address }) ≡ true) is holds

-- the user that a source's files go to is one of the users
routed_below : (config : ConfigValue) (source : EntityId) (user : ℕ) → IsTrue (is_config config) → user_of_source config source ≡ Some user → user < length config.users
routed_below config source user holds is = by (find (has_id source) config.peers) refl is
  where
    by : (found : Option PeerValue) → find (has_id source) config.peers ≡ found → user_of_peer found ≡ Some user → user < length config.users
    by None found is = absurd cc
    by (Some peer) found is =
        let route = route_of peer in
        let keeps = found_keeps (is_route config.entity (length config.users)) source config.peers peer (are_kept config holds) found in
        let has = and_parts (is_id config.entity.lengths.entity_octets route.id.0 && not (route.id.0 == config.entity.local.0) && is_address route.address) (has_user (length config.users) route) keeps in
        ltb-true user (length config.users) (user_below (length config.users) route user is has.1)

-- ---- receiving lanes

-- what a receiving place is made of
record IsReceived (config : ConfigValue) (key : TxnKey) (place : Place) : Type 0 where
  user : ℕ
  index : ℕ
  routed : user_of_source config key.source ≡ Some user
  at : IsAt (has_id key.source) (sources_of config user) index
  is : place ≡ record { user = user; lane = receiving_lane config index key.seq }

received_at : (config : ConfigValue) (key : TxnKey) (place : Place) (user : ℕ) → user_of_source config key.source ≡ Some user → (index : Option ℕ)
    → position (has_id key.source) (sources_of config user) ≡ index
    → option_map (λ (place : ℕ). let p : Place = record { user = user; lane = receiving_lane config place key.seq } in p) index ≡ Some place → IsReceived config key place
received_at config key place user routed None at is = absurd cc
received_at config key place user routed (Some index) at is =
    record { user = user; index = index; routed = routed; at = at_position (has_id key.source) (sources_of config user) index at; is = cc is }

received_by : (config : ConfigValue) (key : TxnKey) (place : Place) (to : Option ℕ) → user_of_source config key.source ≡ to → place_of_user config key to ≡ Some place → IsReceived config key place
received_by config key place None routed is = absurd cc
received_by config key place (Some user) routed is = received_at config key place user routed (position (has_id key.source) (sources_of config user)) refl is

received : (config : ConfigValue) (key : TxnKey) (place : Place) → is_local config key.source ≡ false → place_of config key ≡ Some place → IsReceived config key place
received config key place other is = received_by config key place (user_of_source config key.source) refl (rw other at is)

-- ---- sending lanes

sent : (config : ConfigValue) (key : TxnKey) (place : Place) → is_local config key.source ≡ true → place_of config key ≡ Some place → sending_place config key.seq ≡ place
sent config key place own is =
    let here : Some (sending_place config key.seq) ≡ Some place = (rw own at is) in
    cc here

-- ---- the laws

sending_within : (config : ConfigValue) (seq : ℕ) → IsTrue (is_config config) → IsWithin config (sending_place config seq)
sending_within config seq holds =
    record {
      user = mod_below seq (length config.users) (has_users config holds);
      lane = omega (arith, mod_below (seq / length config.users) config.entity.put_lanes (has_lanes config holds).put);
    }

receiving_within : (config : ConfigValue) (key : TxnKey) (place : Place) → IsTrue (is_config config) → IsReceived config key place → IsWithin config place
receiving_within config key place holds received =
    let below = mod_below key.seq config.entity.receive_lanes (has_lanes config holds).receive in
    subst (λ (p : Place). IsWithin config p) (sym received.is)
    (record {
      user = routed_below config key.source received.user holds received.routed;
      lane = omega (arith, mul-add-lt received.index config.entity.receive_lanes (key.seq % config.entity.receive_lanes) (length (sources_of config received.user)) received.at.within below);
    })

within_by : (config : ConfigValue) (key : TxnKey) (place : Place) (own : Bool) → is_local config key.source ≡ own → IsTrue (is_config config) → place_of config key ≡ Some place → IsWithin config place
within_by config key place true own holds is = subst (λ (p : Place). IsWithin config p) (sent config key place own is) (sending_within config key.seq holds)
within_by config key place false own holds is = receiving_within config key place holds (received config key place own is)

pub places_within : PlacesAreWithin
places_within config key place holds is = within_by config key place (is_local config key.source) refl holds is

pub own_sent : OwnAreSent
own_sent config key place holds own is =
    subst (λ (p : Place). (p.lane < config.entity.put_lanes) × (source_of_lane config p.user p.lane ≡ None)) (sent config key place own is)
    (let below = mod_below (key.seq / length config.users) config.entity.put_lanes (has_lanes config holds).put in
    (below, rw (lt-ltb (key.seq / length config.users % config.entity.put_lanes) config.entity.put_lanes below) refl))

-- the remote entity of a receiving lane
source_found : (config : ConfigValue) (user index seq : ℕ) → 0 < config.entity.receive_lanes
    → source_of_lane config user (receiving_lane config index seq) ≡ slice_get (sources_of config user) index
source_found config user index seq some =
    let lanes = config.entity.receive_lanes in
    let put = config.entity.put_lanes in
    let behind : receiving_lane config index seq - put ≡ index * lanes + seq % lanes = omega arith in
    let back : (receiving_lane config index seq - put) / lanes ≡ index = ap (λ (n : ℕ). n / lanes) behind ∙ div-mul-add index lanes (seq % lanes) (mod_below seq lanes some) in
    let not_sending : nat_lt (receiving_lane config index seq) put ≡ false = le-ltb (receiving_lane config index seq) put (omega arith) in
    rw (not_sending, back) refl

pub others_received : OthersAreReceived
others_received config key place holds other is =
    let way = received config key place other is in
    subst (λ (p : Place). IsFrom config key.source p) (sym way.is)
    (record {
      peer = way.at.item;
      found = source_found config way.user way.index key.seq (has_lanes config holds).receive ∙ way.at.is;
      id = ap (λ (n : ℕ). let id : EntityId = record { 0 = n } in id) (eqb-true way.at.item.remote.id.0 key.source.0 way.at.passes);
    })
