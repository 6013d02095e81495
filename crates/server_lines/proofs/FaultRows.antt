-- Worked rows: what is wrong with the operands of lines, by the reference configuration.
use Rattle.std.proofs.Common.{◌≡◌, [], ◌∷◌, map, codes, refl}
use Rattle.entity_config.specs.Reference.{reference_config}
use Rattle.server_lines.specs.LineFaults.{operands_fault}
use Rattle.server_lines.specs.declared.faults.Wanted.TheVariants as wanted

rates : map (operands_fault reference_config (wanted.Entity ∷ wanted.Rate ∷ [])) ((codes "2" ∷ []) ∷ (codes "2" ∷ codes "8k" ∷ []) ∷ (codes "2" ∷ codes "8" ∷ codes "x" ∷ []) ∷ [])
    ≡ codes "a number of octets a second, 1 to 1000000000, or off is missing"
    ∷ codes "\"8k\" is not a number of octets a second, 1 to 1000000000, or off"
    ∷ codes "\"x\" is one word too many"
    ∷ []
rates = refl

users : map (operands_fault reference_config (wanted.User ∷ wanted.Lane ∷ [])) ((codes "carol" ∷ codes "0" ∷ []) ∷ (codes "bob" ∷ codes "2" ∷ []) ∷ [])
    ≡ codes "\"carol\" is not a user of the configuration" ∷ codes "\"2\" is not one of the user's sending lanes" ∷ []
users = refl
