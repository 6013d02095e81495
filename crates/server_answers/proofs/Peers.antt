-- The notes on the remote entities that are left.
use Rattle.std.proofs.Common.{◌≡◌, ℕ, zero, suc, ◌+◌, List, [], ◌∷◌, ◌++◌, drop, Option, Some, None, ap, append_assoc, arith, refl, rules, subst, sym}
use Rattle.std.specs.Prelude.{option_map, slice_get}
use Rattle.config_reading.specs.Values.{PeerValue}
use Rattle.config_reading.specs.declared.remote.Remote.{Remote}
use Rattle.server_answers.specs.declared.note.Note.{Note}
use Rattle.server_answers.specs.Notes.{peers_notes, remote_notes}

one_before : (peers : List PeerValue) (i : ℕ) (remote : Remote) → option_map (λ peer. peer.remote) (slice_get peers i) ≡ Some remote
    → peers_notes (drop i peers) ≡ remote_notes remote ++ peers_notes (drop (suc i) peers)
one_before [] i remote is = search rules
one_before (peer ∷ peers) zero remote is = search rules
one_before (peer ∷ peers) (suc i) remote is = one_before peers i remote is

none_before : (peers : List PeerValue) (i : ℕ) → option_map (λ peer. peer.remote) (slice_get peers i) ≡ None
    → peers_notes (drop i peers) ≡ peers_notes (drop (suc i) peers)
none_before [] zero is = refl
none_before [] (suc i) is = refl
none_before (peer ∷ peers) zero is = search rules
none_before (peer ∷ peers) (suc i) is = none_before peers i is

-- one of them
one_left : (peers : List PeerValue) (i : ℕ) (remote : Remote) → option_map (λ peer. peer.remote) (slice_get peers i) ≡ Some remote
    → peers_notes (drop i peers) ≡ remote_notes remote ++ peers_notes (drop (i + 1) peers)
one_left peers i remote is =
    let next : suc i ≡ i + 1 = omega arith in
    subst (λ n. peers_notes (drop i peers) ≡ remote_notes remote ++ peers_notes (drop n peers)) next (one_before peers i remote is)

-- none is left
none_left : (peers : List PeerValue) (i : ℕ) → option_map (λ peer. peer.remote) (slice_get peers i) ≡ None
    → peers_notes (drop i peers) ≡ peers_notes (drop (i + 1) peers)
none_left peers i is =
    let next : suc i ≡ i + 1 = omega arith in
    subst (λ n. peers_notes (drop i peers) ≡ peers_notes (drop n peers)) next (none_before peers i is)

-- notes, with those on one of them
pub one_more : (notes new : List Note) (peers : List PeerValue) (i : ℕ) (remote : Remote) → option_map (λ peer. peer.remote) (slice_get peers i) ≡ Some remote
    → new ≡ notes ++ remote_notes remote → new ++ peers_notes (drop (i + 1) peers) ≡ notes ++ peers_notes (drop i peers)
one_more notes new peers i remote is added = rw (added, one_left peers i remote is, append_assoc)

-- notes, where none is left
pub no_more : (notes : List Note) (peers : List PeerValue) (i : ℕ) → option_map (λ peer. peer.remote) (slice_get peers i) ≡ None
    → notes ++ peers_notes (drop (i + 1) peers) ≡ notes ++ peers_notes (drop i peers)
no_more notes peers i is = ap (λ rest. notes ++ rest) (sym (none_left peers i is))
