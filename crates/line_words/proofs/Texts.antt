-- Words of ASCII are texts.
use Rattle.std.proofs.Common.{◌≡◌, ℕ, zero, suc, ◌<◌, true, false, Bool, nat_lt, List, [], ◌∷◌, Some, None, slice_index, refl, sym, subst, if◌then◌else◌, arith}
use Rattle.std.specs.List.{list_all}
use Rattle.std.specs.Str.{IsUtf8}
use Rattle.std.proofs.lemmas.Str.{IsUtf8-from_ascii}
use Rattle.line_words.specs.Operands.{name_of}

each_ascii : (word : List ℕ) → list_all (λ octet. nat_lt octet 128) word ≡ true → (i : ℕ) → slice_index word i < 128
each_ascii [] all i = omega arith
each_ascii (octet ∷ word) all zero = grind arith
each_ascii (octet ∷ word) all (suc i) = each_ascii word (grind arith) i

some_ascii : (b : Bool) (word name : List ℕ) → Some name ≡ (if b then Some word else None) → (b ≡ true) × (name ≡ word)
some_ascii true word name is = (refl, cc)
some_ascii false word name is = absurd cc

pub name_is_text : (word name : List ℕ) → Some name ≡ name_of word → IsUtf8 name
name_is_text word name is =
    let its = some_ascii (list_all (λ octet. nat_lt octet 128) word) word name is in
    subst IsUtf8 (sym its.1) (IsUtf8-from_ascii word (each_ascii word its.0))
