-- Worked tables of the entity itself and of users, and short texts: what is read, and which fault comes first.
use Rattle.std.proofs.Common.{◌≡◌, ℕ, [], ◌∷◌, map, replicate, Ok, Err, codes, pos, refl}
use Rattle.toml.specs.Data.{Data, string, integer, array, no_items, Members, no_members, member}
use Rattle.toml.proofs.OnLiterals.{toml_on_literals}
use Rattle.config_reading.specs.declared.fault.ConfigFault.TheVariants as fault
use Rattle.config_reading.specs.declared.fault.Key.TheVariants as key
use Rattle.config_reading.specs.declared.fault.Section.TheVariants as section
use Rattle.entity_config.specs.Reference.{reference_config}
use Rattle.config_reading.specs.Walk.{config_of, counted, entity_in, greatest_id, user_in, users_in}

not_toml : config_of (codes "[") ≡ Err fault.BadToml
unfolding toml_on_literals
not_toml = refl

empty_text : config_of [] ≡ Err (fault.MissingKey key.Entity)
unfolding toml_on_literals
empty_text = refl

unknown_first : config_of (codes "color = 1\n") ≡ Err (fault.UnknownKey section.Top)
unfolding toml_on_literals
unknown_first = refl

no_table : config_of (codes "entity = 1\n") ≡ Err (fault.WrongType key.Entity)
unfolding toml_on_literals
no_table = refl

-- tables by themselves, with members in the order of their keys
abbrev number : ℕ → Data
number n = integer (pos n)

abbrev entity_table : Data → Data → Data → Members
entity_table capacity first segment =
    member (codes "capacity") capacity (member (codes "first") first (member (codes "id") (number 2) (member (codes "id_octets") (number 1)
    (member (codes "put_lanes") (number 2) (member (codes "recv_lanes") (number 2) (member (codes "segment") segment (member (codes "seq_octets") (number 1) no_members)))))))

entity_read : entity_in (entity_table (number 8) (number 1) (number 256)) ≡ Ok reference_config.entity
entity_read = refl

short_segment : entity_in (entity_table (number 8) (number 1) (number 255)) ≡ Err (fault.OutOfRange key.Segment)
short_segment = refl

text_as_first : entity_in (entity_table (number 8) (string (codes "1")) (number 256)) ≡ Err (fault.WrongType key.First)
text_as_first = refl

-- the order of the keys decides, not that of the text
first_of_two : entity_in (entity_table (number 0) (string (codes "1")) (number 255)) ≡ Err (fault.WrongType key.First)
first_of_two = refl

-- an ID that its octets do not hold is told at their count, before the keys that follow
abbrev with_id : ℕ → ℕ → ℕ → Members
with_id id octets sequence =
    member (codes "id") (number id) (member (codes "id_octets") (number octets) (member (codes "seq_octets") (number sequence) (member (codes "first") (number 1)
    (member (codes "put_lanes") (number 2) (member (codes "recv_lanes") (number 2) (member (codes "capacity") (number 8) (member (codes "segment") (number 256) no_members)))))))

long_ids : map entity_in (with_id 256 1 1 ∷ with_id 65536 2 9 ∷ with_id 9223372036854775808 9 1 ∷ []) ≡ replicate 3 (Err (fault.OutOfRange key.Id))
long_ids = refl

octets_refused : map entity_in (with_id 256 9 9 ∷ with_id 256 0 1 ∷ with_id 256 2 9 ∷ []) ≡ map (λ k. Err (fault.OutOfRange k)) (key.IdOctets ∷ key.IdOctets ∷ key.SequenceOctets ∷ [])
octets_refused = refl

greatest_ids : map (λ octets. entity_in (with_id (greatest_id octets) octets 1)) (1 ∷ 2 ∷ 8 ∷ [])
    ≡ map (λ octets. Ok (record reference_config.entity { local = record { 0 = greatest_id octets }; lengths = record { entity_octets = octets; sequence_octets = 1 } })) (1 ∷ 2 ∷ 8 ∷ [])
greatest_ids = refl

greatest_of : map greatest_id (1 ∷ 2 ∷ 7 ∷ 8 ∷ []) ≡ 255 ∷ 65535 ∷ 72057594037927935 ∷ 9223372036854775807 ∷ []
greatest_of = refl

same_user : users_in [] (member (codes "name") (string (codes "alice")) no_members ∷ member (codes "name") (string (codes "alice")) no_members ∷ []) ≡ Err fault.DuplicateUser
same_user = refl

user_read : user_in (codes "alice" ∷ []) (member (codes "name") (string (codes "bob")) no_members) ≡ Ok (codes "bob")
user_read = refl

capital_letter : user_in [] (member (codes "name") (string (codes "Alice")) no_members) ≡ Err (fault.OutOfRange key.Name)
capital_letter = refl

name_of_32_letters : user_in [] (member (codes "name") (string (replicate 32 97)) no_members) ≡ Ok (replicate 32 97)
name_of_32_letters = refl

name_of_33_letters : user_in [] (member (codes "name") (string (replicate 33 97)) no_members) ≡ Err (fault.OutOfRange key.Name)
name_of_33_letters = refl

user_key : user_in [] (member (codes "color") (number 1) (member (codes "name") (string (codes "alice")) no_members)) ≡ Err (fault.UnknownKey section.User)
user_key = refl

nameless_user : user_in [] no_members ≡ Err (fault.MissingKey key.Name)
nameless_user = refl

no_users : counted key.User 1 16 (array no_items) ≡ Err (fault.OutOfRange key.User)
no_users = refl
