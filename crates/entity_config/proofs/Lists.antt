-- Lists that are seen through a function: what is found in them, and how they change one by one.
use Rattle.std.proofs.Common.{◌≡◌, ℕ, suc, zero, ◌<◌, Bool, true, false, cond, List, [], ◌∷◌, map, length, find, Option, Some, None, option_map, option_copied, Bor, get_or, set, take, drop, refl, ap, subst, ◌∙◌, arith}
use Rattle.config_reading.specs.declared.remote.Peer.{Peer}
use Rattle.config_reading.specs.Shown.{peer_shown}
use Rattle.config_reading.specs.Values.{has_id}
use Rattle.cfdp_types.specs.declared.key.EntityId.{EntityId}

one_found : {A B : Type 0} (f : A → B) (x : A) (b : Bool) (more : Option A) → cond b (Some (f x)) (option_map f more) ≡ option_map f (cond b (Some x) more)
one_found f x true more = refl
one_found f x false more = refl

pub find-map : {A B : Type 0} (f : A → B) (test : B → Bool) (xs : List A) → find test (map f xs) ≡ option_map f (find (λ x. test (f x)) xs)
find-map f test [] = refl
find-map f test (x ∷ xs) = ap (λ more. cond (test (f x)) (Some (f x)) more) (find-map f test xs) ∙ one_found f x (test (f x)) (find (λ y. test (f y)) xs)

-- the remote entity with an ID, as a contract sees it
pub peer_found : (id : EntityId) (peers : List Peer) → find (has_id id) (map peer_shown peers) ≡ option_map peer_shown (find (λ peer. has_id id (peer_shown peer)) peers)
peer_found id peers = find-map peer_shown (has_id id) peers

pub shown_of_found : (r : Option (Bor Peer)) → option_map (λ peer. peer_shown peer.now) r ≡ option_map peer_shown (option_copied r)
shown_of_found None = refl
shown_of_found (Some peer) = refl

-- the first so many items of xs are those of ys, seen by s and changed by f; the others are the same
pub record AreChanged {A B : Type 0} (s : A → B) (f : B → B) (i : ℕ) (xs ys : List A) : Type 0 where
  pub done : map s (take i xs) ≡ map f (map s (take i ys))
  pub left : drop i xs ≡ drop i ys

no_items : {B : Type 0} {x : B} {xs : List B} → x ∷ xs ≡ [] → ⊥
no_items e = cc

-- one more item
pub changed_step : {A B : Type 0} (s : A → B) (f : B → B) (i : ℕ) (xs ys : List A) (v d : A) → i < length xs → AreChanged s f i xs ys → s v ≡ f (s (get_or xs i d)) → AreChanged s f (suc i) (set xs i v) ys
changed_step s f i [] ys v d within before new = absurd (omega arith)
changed_step {A} {B} s f zero (x ∷ xs) ys v d within before new =
    let P : List A → Type 0 = λ zs. AreChanged s f 1 (v ∷ xs) zs in
    subst P before.left (record { done = ap (λ b. b ∷ []) new; left = refl })
changed_step s f (suc i) (x ∷ xs) [] v d within before new = absurd (no_items before.done)
changed_step s f (suc i) (x ∷ xs) (y ∷ ys) v d within before new =
    let head : s x ≡ f (s y) = cc (before.done) in
    let tail : map s (take i xs) ≡ map f (map s (take i ys)) = cc (before.done) in
    let rest = changed_step s f i xs ys v d (omega arith) (record { done = tail; left = before.left }) new in
    record { done = (λ j. head j ∷ rest.done j); left = rest.left }
