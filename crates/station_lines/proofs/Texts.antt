-- How octets stand in a line, by whether they are text.
use Rattle.std.proofs.Common.{◌≡◌, ◌++◌, ℕ, List, true, false, if◌then◌else◌, codes, refl}
use Rattle.std.specs.Str.{IsUtf8, is_utf8}
use Rattle.std.proofs.lemmas.Str.{IsUtf8-from_is_utf8, is_utf8-from_IsUtf8}
use Rattle.station_lines.specs.Members.{octets_member, text_member, hex_member}

-- as they are, where they are text
pub octets_as_text : (name octets : List ℕ) → IsUtf8 octets → octets_member name octets ≡ text_member name octets
unfolding octets_member
octets_as_text name octets is_text = rw (is_utf8-from_IsUtf8 octets is_text) refl

-- in hex, where they are none
pub octets_as_hex : (name octets : List ℕ) → ¬ (IsUtf8 octets)
    → octets_member name octets ≡ hex_member (name ++ codes "_hex") octets
unfolding octets_member
octets_as_hex name octets no_text =
    elim (is_utf8 octets) as (λ b. is_utf8 octets ≡ b
    → (if b then text_member name octets else hex_member (name ++ codes "_hex") octets)
    ≡ hex_member (name ++ codes "_hex") octets)
    [ true ↦ λ e. absurd (no_text (IsUtf8-from_is_utf8 octets e)) | false ↦ λ e. refl ] refl

pub ruleset octets_facts = (octets_as_text, octets_as_hex)
