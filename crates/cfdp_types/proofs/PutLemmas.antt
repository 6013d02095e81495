-- Tests of the messages of a Put request.
use Rattle.std.proofs.Common.{◌≡◌, ℕ, Bool, List, [], ◌∷◌, ◌||◌, map, refl, ap}
use Rattle.std.specs.Borrow.{Bor}
use Rattle.std.specs.List.{list_any}
pub use Rattle.std.proofs.lemmas.List.{length-map}
use Rattle.cfdp_types.specs.declared.limits.TheConstants.{MESSAGE_OCTETS}
use Rattle.cfdp_types.specs.Put.{is_longer}

-- a test of what a list's items are made into
pub list_any-map : {A B : Type 0} (test : B → Bool) (f : A → B) → (xs : List A) → list_any test (map f xs) ≡ list_any (λ x. test (f x)) xs
list_any-map test f [] = refl
list_any-map test f (x ∷ xs) = ap (λ (b : Bool). test (f x) || b) (list_any-map test f xs)

-- a message that is too long, among messages that are borrowed
pub long_among : (messages : List (Bor (List ℕ))) → list_any (is_longer MESSAGE_OCTETS) (map (λ m. m.now) messages) ≡ list_any (λ m. is_longer MESSAGE_OCTETS m.now) messages
long_among messages = list_any-map (is_longer MESSAGE_OCTETS) (λ m. m.now) messages

-- what is asked of messages, where they are borrowed
pub ruleset borrowed = (long_among, length-map)
