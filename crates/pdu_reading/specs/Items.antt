-- Of the code. Readers: a reader gives a value and the octets after it, or nothing.
use Rattle.std.specs.Prelude.{ℕ, zero, suc, List, [], ◌∷◌, length, Option, Some, None, ◌==◌, if◌then◌else◌}

-- two readers in sequence, the second of which depends on what the first one read
infixl 10 ◌>>=◌
abbrev pub ◌>>=◌ : {A B : Type 0} → Option A → (A → Option B) → Option B
(Some x) >>= f = f x
None >>= f = None

-- a list of at most this many items, up to the end of the octets
unfoldable pub items_within : {A : Type 0} → (List ℕ → Option (A × List ℕ)) → ℕ → List ℕ → Option (List A)
items_within item most [] = Some []
items_within item zero (octet ∷ octets) = None
items_within item (suc most) (octet ∷ octets) = do
  first ← item (octet ∷ octets)
  others ← items_within item most first.1
  Some (first.0 ∷ others)

-- a list of items of at least one octet each, up to the end of the octets
unfoldable pub items_to_end : {A : Type 0} → (List ℕ → Option (A × List ℕ)) → List ℕ → Option (List A)
items_to_end item octets = items_within item (length octets) octets

-- the value, if no octets are left
abbrev pub closed : {A : Type 0} → List ℕ → A → Option A
closed left x = if length left == 0 then Some x else None
