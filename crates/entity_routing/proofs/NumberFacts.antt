-- Of the lanes that receive from a source, the number of its transaction tells the one that it is in.
use Rattle.std.proofs.Common.{◌≡◌, ℕ, zero, suc, ◌+◌, ◌*◌, ◌-◌, ◌/◌, ◌%◌, ◌<◌, ◌≤◌, Bool, true, false, cond, IsTrue, ◌&&◌, ◌==◌, not, nat_lt, nat_le, if◌then◌else◌, List, [], ◌∷◌, length, map, find, position, slice_get, Option, Some, None, option_map, refl, sym, ap, ◌∙◌, subst, arith}
use Rattle.std.specs.List.{filter, list_all, list_any, position_or_len}
use Rattle.std.proofs.lemmas.Bool.{and_parts, eq-eqb, eqb-true, false≢true, lt-ltb, ltb-false, ne_eqb, or_left, or_right}
use Rattle.std.proofs.lemmas.Nat.{div-add-mod', mod-mul-add, mod_below}
use Rattle.cfdp_types.specs.declared.key.EntityId.{EntityId}
use Rattle.cfdp_types.specs.declared.key.TxnKey.{TxnKey}
use Rattle.cfdp_types.specs.declared.limits.TheConstants.{REMOTES}
use Rattle.config_reading.specs.Texts.{is_address}
use Rattle.config_reading.specs.Values.{ConfigValue, PeerValue, are_distinct, goes_to, has_id, has_room, has_user, is_config, is_id, is_route, is_same_id, route_of}
use Rattle.entity_config.proofs.Limits.{are_kept, has_lanes, kept}
use Rattle.entity_routing.specs.declared.place.Place.{Place}
use Rattle.entity_routing.specs.Places.{is_local, is_source_of, place_of, place_of_user, receiving_lane, sources_of, user_of_peer, user_of_source}
use Rattle.entity_routing.specs.RouteLaws.{IsFrom, NumbersTellLanes}
use Rattle.entity_routing.proofs.PlaceFacts.{found_keeps}

-- ---- a remote entity among those that pass a test

-- no two have one ID
are_apart : (config : ConfigValue) → IsTrue (is_config config) → are_distinct is_same_id (map route_of config.peers) ≡ true
are_apart config holds =
    let routes = map route_of config.peers in
    let three = and_parts (nat_le (length routes) REMOTES && list_all (is_route config.entity (length config.users)) routes && are_distinct is_same_id routes) (list_all (has_room routes) routes) (kept config holds).routes in
    (and_parts (nat_le (length routes) REMOTES && list_all (is_route config.entity (length config.users)) routes) (are_distinct is_same_id routes) three.0).1

-- one that is found has the ID
found_by : (first : PeerValue) (id : EntityId) (x : PeerValue) (xs : List PeerValue) (peer : PeerValue) → first.remote.id.0 ≡ id.0
    → (find (has_id id) xs ≡ Some peer → list_any (is_same_id (route_of first)) (map route_of xs) ≡ true)
    → (here : Bool) → has_id id x ≡ here → find (has_id id) (x ∷ xs) ≡ Some peer → list_any (is_same_id (route_of first)) (map route_of (x ∷ xs)) ≡ true
found_by first id x xs peer same later true here is =
    or_left (first.remote.id.0 == x.remote.id.0) (list_any (is_same_id (route_of first)) (map route_of xs))
    (eq-eqb first.remote.id.0 x.remote.id.0 (same ∙ sym (eqb-true x.remote.id.0 id.0 here)))
found_by first id x xs peer same later false here is =
    or_right (first.remote.id.0 == x.remote.id.0) (list_any (is_same_id (route_of first)) (map route_of xs)) (later (rw here at is))

found_same : (first : PeerValue) (id : EntityId) (peers : List PeerValue) (peer : PeerValue) → first.remote.id.0 ≡ id.0 → find (has_id id) peers ≡ Some peer
    → list_any (is_same_id (route_of first)) (map route_of peers) ≡ true
found_same first id [] peer same is = absurd cc
found_same first id (x ∷ xs) peer same is = found_by first id x xs peer same (found_same first id xs peer same) (has_id id x) refl is

-- what stands at a place of a list, where it is the first that has its ID
record IsFirstAt (test : PeerValue → Bool) (id : EntityId) (peers : List PeerValue) (index : ℕ) (peer : PeerValue) : Type 0 where
  passes : test peer ≡ true
  found : find (has_id id) peers ≡ Some peer
  at : position_or_len (has_id id) (filter test peers) ≡ index
  within : index < length (filter test peers)

-- it is not the one before, which has another ID
other_first : (first : PeerValue) (id : EntityId) (rest : List PeerValue) (peer : PeerValue) → are_distinct is_same_id (map route_of (first ∷ rest)) ≡ true
    → find (has_id id) rest ≡ Some peer → has_id id first ≡ false
other_first first id rest peer apart found =
    ne_eqb first.remote.id.0 id.0 (λ (same : first.remote.id.0 ≡ id.0).
    both_ways (list_any (is_same_id (route_of first)) (map route_of rest))
    (and_parts (not (list_any (is_same_id (route_of first)) (map route_of rest))) (are_distinct is_same_id (map route_of rest)) apart).0
    (found_same first id rest peer same found))
  where
    both_ways : (b : Bool) → not b ≡ true → b ≡ true → ⊥
    both_ways true fails passes = false≢true fails
    both_ways false fails passes = false≢true passes

-- behind one that passes, and behind one that does not
behind_passing : (test : PeerValue → Bool) (id : EntityId) (first : PeerValue) (rest : List PeerValue) (index : ℕ) (peer : PeerValue) → test first ≡ true
    → has_id id first ≡ false → IsFirstAt test id rest index peer → IsFirstAt test id (first ∷ rest) (suc index) peer
behind_passing test id first rest index peer here other was = record {
  passes = was.passes;
  found = rw other was.found;
  at = rw here (rw other (omega (arith, was.at)));
  within = rw here (omega (arith, was.within));
}

behind_failing : (test : PeerValue → Bool) (id : EntityId) (first : PeerValue) (rest : List PeerValue) (index : ℕ) (peer : PeerValue) → test first ≡ false
    → has_id id first ≡ false → IsFirstAt test id rest index peer → IsFirstAt test id (first ∷ rest) index peer
behind_failing test id first rest index peer here other was = record {
  passes = was.passes;
  found = rw other was.found;
  at = rw here was.at;
  within = rw here was.within;
}

at_front : (test : PeerValue → Bool) (id : EntityId) (first : PeerValue) (rest : List PeerValue) (peer : PeerValue) → test first ≡ true
    → has_id id first ≡ true → first ≡ peer → IsFirstAt test id (first ∷ rest) 0 peer
at_front test id first rest peer here own same = record {
  passes = ap test (sym same) ∙ here;
  found = rw own (ap Some same);
  at = rw here (rw own refl);
  within = rw here (omega arith);
}

some_peer : (one other : PeerValue) → Some one ≡ Some other → one ≡ other
some_peer one other e = cc

first_by : (test : PeerValue → Bool) (id : EntityId) (first : PeerValue) (rest : List PeerValue) (peer : PeerValue) → peer.remote.id ≡ id
    → are_distinct is_same_id (map route_of (first ∷ rest)) ≡ true
    → ((index : ℕ) → slice_get (filter test rest) index ≡ Some peer → IsFirstAt test id rest index peer)
    → (here : Bool) → test first ≡ here → (index : ℕ) → slice_get (filter test (first ∷ rest)) index ≡ Some peer → IsFirstAt test id (first ∷ rest) index peer
first_by test id first rest peer of_id apart later true here zero is =
    let same : first ≡ peer = some_peer first peer (rw here at is) in
    at_front test id first rest peer here
    (eq-eqb first.remote.id.0 id.0 (ap (λ (p : PeerValue). p.remote.id.0) same ∙ ap (λ (i : EntityId). i.0) of_id)) same
first_by test id first rest peer of_id apart later true here (suc i) is =
    let was = later i (rw here at is) in
    behind_passing test id first rest i peer here (other_first first id rest peer apart was.found) was
first_by test id first rest peer of_id apart later false here index is =
    let was = later index (rw here at is) in
    behind_failing test id first rest index peer here (other_first first id rest peer apart was.found) was

first_at : (test : PeerValue → Bool) (id : EntityId) (peers : List PeerValue) (index : ℕ) (peer : PeerValue) → peer.remote.id ≡ id
    → are_distinct is_same_id (map route_of peers) ≡ true → slice_get (filter test peers) index ≡ Some peer → IsFirstAt test id peers index peer
first_at test id [] index peer of_id apart is = absurd cc
first_at test id (first ∷ rest) index peer of_id apart is =
    let both = and_parts (not (list_any (is_same_id (route_of first)) (map route_of rest))) (are_distinct is_same_id (map route_of rest)) apart in
    first_by test id first rest peer of_id apart (λ i there. first_at test id rest i peer of_id both.1 there) (test first) refl index is

-- ---- a lane that receives from a source

behind_test : (sending : Bool) (found : Option PeerValue) (peer : PeerValue) → (if sending then (let none : Option PeerValue = None in none) else found) ≡ Some peer
    → (sending ≡ false) × (found ≡ Some peer)
behind_test true found peer is = absurd cc
behind_test false found peer is = (refl, is)

-- its user is the one that the remote entity's files go to
user_by : (to : Option ℕ) (user : ℕ) (peer : PeerValue) → peer.remote.user ≡ to → is_source_of user peer ≡ true → peer.remote.user ≡ Some user
user_by None user peer to passes =
    absurd (false≢true (subst (λ (o : Option ℕ). goes_to user (record { id = peer.remote.id; user = o; address = peer.address }) ≡ true) to passes))
user_by (Some other) user peer to passes =
    let same = subst (λ (o : Option ℕ). goes_to user (record { id = peer.remote.id; user = o; address = peer.address }) ≡ true) to passes in
    to ∙ ap Some (eqb-true other user same)

-- where its transactions are
record IsBlock (config : ConfigValue) (key : TxnKey) (place : Place) (index : ℕ) : Type 0 where
  behind : config.entity.put_lanes ≤ place.lane
  is : place_of config key ≡ Some (record { user = place.user; lane = receiving_lane config index key.seq })

is_remote : (config : ConfigValue) (id : EntityId) (peer : PeerValue) → peer.remote.id ≡ id → is_route config.entity (length config.users) (route_of peer) ≡ true
    → is_local config id ≡ false
is_remote config id peer of_id keeps =
    let route = route_of peer in
    let octets = is_id config.entity.lengths.entity_octets route.id.0 in
    let another = not (route.id.0 == config.entity.local.0) in
    let three = and_parts (octets && another && is_address route.address) (has_user (length config.users) route) keeps in
    let two = and_parts (octets && another) (is_address route.address) three.0 in
    let one = and_parts octets another two.0 in
    subst (λ (i : EntityId). is_local config i ≡ false) of_id (by (is_local config peer.remote.id) one.1)
  where
    by : (b : Bool) → not b ≡ true → b ≡ false
    by true fails = absurd (false≢true fails)
    by false passes = refl

placed : (config : ConfigValue) (key : TxnKey) (user index : ℕ) (peer : PeerValue) → is_local config key.source ≡ false → peer.remote.user ≡ Some user
    → IsFirstAt (is_source_of user) key.source config.peers index peer
    → place_of config key ≡ Some (record { user = user; lane = receiving_lane config index key.seq })
placed config key user index peer other to first =
    let found : user_of_source config key.source ≡ Some user = ap user_of_peer first.found ∙ to in
    let at : position (has_id key.source) (sources_of config user) ≡ Some index =
    ap (λ (n : ℕ). cond (nat_lt n (length (sources_of config user))) (Some n) None) first.at
    ∙ ap (λ (b : Bool). cond b (Some index) None) (lt-ltb index (length (sources_of config user)) first.within) in
    rw other (ap (place_of_user config key) found
    ∙ ap (option_map (λ (place : ℕ). let p : Place = record { user = user; lane = receiving_lane config place key.seq } in p)) at)

block_of : (config : ConfigValue) (key : TxnKey) (place : Place) → IsTrue (is_config config) → IsFrom config key.source place
    → IsBlock config key place ((place.lane - config.entity.put_lanes) / config.entity.receive_lanes)
block_of config key place holds from =
    let index = (place.lane - config.entity.put_lanes) / config.entity.receive_lanes in
    let there = behind_test (nat_lt place.lane config.entity.put_lanes) (slice_get (sources_of config place.user) index) from.peer from.found in
    let first = first_at (is_source_of place.user) key.source config.peers index from.peer from.id (are_apart config holds) there.1 in
    let keeps = found_keeps (is_route config.entity (length config.users)) key.source config.peers from.peer (are_kept config holds) first.found in
    record {
      behind = ltb-false place.lane config.entity.put_lanes there.0;
      is =
          placed config key place.user index from.peer (is_remote config key.source from.peer from.id keeps)
          (user_by from.peer.remote.user place.user from.peer refl first.passes) first;
    }

-- ---- the number

told_by : (lane put lanes seq : ℕ) → 0 < lanes → put ≤ lane → put + (lane - put) / lanes * lanes + seq % lanes ≡ lane
    → seq % lanes ≡ (lane - put) % lanes
told_by lane put lanes seq some behind is =
    let rest : lane - put ≡ (lane - put) / lanes * lanes + seq % lanes = omega (arith, is) in
    sym (mod-mul-add ((lane - put) / lanes) lanes (seq % lanes) (mod_below seq lanes some)) ∙ ap (λ (n : ℕ). n % lanes) (sym rest)

tells_by : (lane put lanes seq : ℕ) → 0 < lanes → put ≤ lane → seq % lanes ≡ (lane - put) % lanes
    → put + (lane - put) / lanes * lanes + seq % lanes ≡ lane
tells_by lane put lanes seq some behind is =
    let whole = div-add-mod' (lane - put) lanes in omega (arith, whole, is)

pub numbers_tell : NumbersTellLanes
numbers_tell config key place holds from =
    let lanes = config.entity.receive_lanes in
    let put = config.entity.put_lanes in
    let block = block_of config key place holds from in
    let some = (has_lanes config holds).receive in (
      λ is. told_by place.lane put lanes key.seq some block.behind
          (ap (λ (p : Place). p.lane) (some_place _ place (sym block.is ∙ is))),
      λ is. block.is
          ∙ ap (λ (n : ℕ). let p : Place = record { user = place.user; lane = n } in Some p) (tells_by place.lane put lanes key.seq some block.behind is),
    )
  where
    some_place : (one other : Place) → Some one ≡ Some other → one ≡ other
    some_place one other e = cc
