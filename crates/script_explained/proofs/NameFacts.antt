-- Names that can be shown are texts.
use Rattle.std.proofs.Common.{◌≡◌, ℕ, zero, suc, ◌<◌, ◌&&◌, true, nat_lt, List, [], ◌∷◌, slice_index, arith}
use Rattle.std.specs.List.{list_all}
use Rattle.std.specs.Str.{IsUtf8}
use Rattle.std.proofs.lemmas.Bool.{and_parts, ltb-true}
use Rattle.std.proofs.lemmas.Str.{IsUtf8-from_ascii}
use Rattle.script_explained.specs.Words.{is_shown}

each_ascii : (name : List ℕ) → is_shown name ≡ true → (i : ℕ) → slice_index name i < 128
each_ascii [] shown i = omega arith
each_ascii (octet ∷ octets) shown zero =
    let both = and_parts (nat_lt octet 127 && nat_lt 32 octet) (is_shown octets) shown in
    let below : octet < 127 = ltb-true octet 127 (and_parts (nat_lt octet 127) (nat_lt 32 octet) both.0).0 in
    omega arith
each_ascii (octet ∷ octets) shown (suc i) = each_ascii octets (and_parts (nat_lt octet 127 && nat_lt 32 octet) (is_shown octets) shown).1 i

pub shown_is_text : (name : List ℕ) → is_shown name ≡ true → IsUtf8 name
shown_is_text name shown = IsUtf8-from_ascii name (each_ascii name shown)
