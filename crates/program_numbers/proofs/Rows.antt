-- What a run begins with, computed.
use Rattle.std.proofs.Common.{◌≡◌, [], ◌∷◌, map, codes, refl}
use Rattle.config_reading.specs.Values.{ConfigValue}
use Rattle.entity_config.specs.Reference.{reference_config}
use Rattle.program_numbers.specs.declared.held.Puts.TheVariants.{One, Many}
use Rattle.program_numbers.specs.Held.{block_of, name_of, width_of, with_first}

names : map name_of (codes "/var/lib/numbers" ∷ codes "numbers" ∷ codes "/n" ∷ codes "a/" ∷ []) ≡ codes "numbers" ∷ codes "numbers" ∷ codes "n" ∷ [] ∷ []
names = refl

-- the reference with three sending lanes, and with numbers of three octets
abbrev other : ConfigValue
other = record reference_config {
  entity = record (reference_config.entity) { put_lanes = 3; lengths = record { entity_octets = 1; sequence_octets = 3 } };
  users = codes "alice" ∷ codes "bob" ∷ [];
}

width : width_of other ≡ 6
width = refl

-- short numbers, and a single Put, take one round at a time
blocks : block_of Many other ∷ block_of One other ∷ block_of Many reference_config ∷ [] ≡ 64 ∷ 1 ∷ 1 ∷ []
blocks = refl

first : (with_first 7 other).entity.first ∷ (with_first 7 other).entity.put_lanes ∷ [] ≡ 7 ∷ 3 ∷ []
first = refl
