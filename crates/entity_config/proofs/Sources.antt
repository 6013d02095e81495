-- The sources of a user, in the code's lists as in what contracts see.
use Rattle.std.proofs.Common.{◌≡◌, ℕ, zero, suc, ◌<◌, Bool, true, false, cond, drop, get_or, List, [], ◌∷◌, map, length, position, slice_get, Option, Some, None, option_map, refl, sym, ap, ◌∙◌, arith}
use Rattle.std.specs.List.{filter}
use Rattle.std.proofs.lemmas.Option.{slice_get-map}
use Rattle.cfdp_types.specs.declared.key.EntityId.{EntityId}
use Rattle.config_reading.specs.declared.remote.Peer.{Peer}
use Rattle.config_reading.specs.Shown.{peer_shown}
use Rattle.config_reading.specs.Values.{goes_to, has_id, route_of}
use Rattle.config_reading.proofs.Lists.{length-seen, position-map}

one_kept : {A B : Type 0} (f : A → B) (x : A) (b : Bool) (more : List A) → cond b (f x ∷ map f more) (map f more) ≡ map f (cond b (x ∷ more) more)
one_kept f x true more = refl
one_kept f x false more = refl

filter-seen : {A B : Type 0} (f : A → B) (test : B → Bool) (xs : List A) → filter test (map f xs) ≡ map f (filter (λ x. test (f x)) xs)
filter-seen f test [] = refl
filter-seen f test (x ∷ xs) = ap (λ more. cond (test (f x)) (f x ∷ more) more) (filter-seen f test xs) ∙ one_kept f x (test (f x)) (filter (λ y. test (f y)) xs)

-- the sources of a user among some
abbrev among : ℕ → List Peer → List Peer
among user peers = filter (λ peer. goes_to user (route_of (peer_shown peer))) peers

are_seen : (user : ℕ) (peers : List Peer) → filter (λ peer. goes_to user (route_of peer)) (map peer_shown peers) ≡ map peer_shown (among user peers)
are_seen user peers = filter-seen peer_shown (λ peer. goes_to user (route_of peer)) peers

pub sources_counted : (user : ℕ) (peers : List Peer) → length (filter (λ peer. goes_to user (route_of peer)) (map peer_shown peers)) ≡ length (among user peers)
sources_counted user peers = ap length (are_seen user peers) ∙ length-seen peer_shown (among user peers)

pub source_placed : (user : ℕ) (id : EntityId) (peers : List Peer)
    → position (has_id id) (filter (λ peer. goes_to user (route_of peer)) (map peer_shown peers)) ≡ position (λ peer. has_id id (peer_shown peer)) (among user peers)
source_placed user id peers = ap (position (has_id id)) (are_seen user peers) ∙ position-map peer_shown (has_id id) (among user peers)

remote_seen : (found : Option Peer) → option_map (λ peer. peer.remote) (option_map peer_shown found) ≡ option_map (λ peer. peer.remote) found
remote_seen None = refl
remote_seen (Some peer) = refl

pub source_found : (user place : ℕ) (peers : List Peer)
    → option_map (λ peer. peer.remote) (slice_get (filter (λ peer. goes_to user (route_of peer)) (map peer_shown peers)) place) ≡ option_map (λ peer. peer.remote) (slice_get (among user peers) place)
source_found user place peers =
    ap (λ sources. option_map (λ peer. peer.remote) (slice_get sources place)) (are_seen user peers)
    ∙ ap (option_map (λ peer. peer.remote)) (slice_get-map peer_shown (among user peers) place)
    ∙ remote_seen (slice_get (among user peers) place)

-- ---- one by one

head_of : {A : Type 0} (xs : List A) (i : ℕ) (x : A) → i < length xs → x ≡ get_or xs i x → drop i xs ≡ x ∷ drop (suc i) xs
head_of [] i x within is = absurd (omega arith)
head_of (y ∷ ys) zero x within is = ap (λ z. z ∷ ys) (sym is)
head_of (y ∷ ys) (suc i) x within is = head_of ys i x (omega arith) is

-- one that passes leaves one less to pass
pub passed : {A : Type 0} (test : A → Bool) (xs : List A) (i : ℕ) (x : A) (left less : ℕ) → i < length xs → x ≡ get_or xs i x → test x ≡ true → left ≡ suc less
    → slice_get (filter test (drop (suc i) xs)) less ≡ slice_get (filter test (drop i xs)) left
passed test xs i x left less within is passes one = rw (head_of xs i x within is, passes, one) refl

-- one that does not pass is left out
pub left_out : {A : Type 0} (test : A → Bool) (xs : List A) (i : ℕ) (x : A) (left : ℕ) → i < length xs → x ≡ get_or xs i x → test x ≡ false
    → slice_get (filter test (drop (suc i) xs)) left ≡ slice_get (filter test (drop i xs)) left
left_out test xs i x left within is fails = rw (head_of xs i x within is, fails) refl
