-- Worked configurations as whole texts.
use Rattle.std.proofs.Common.{◌≡◌, ℕ, List, [], ◌∷◌, ◌++◌, Ok, Err, codes, refl}
use Rattle.toml.proofs.OnLiterals.{toml_on_literals}
use Rattle.config_reading.specs.declared.fault.ConfigFault.TheVariants as fault
use Rattle.config_reading.specs.declared.fault.Key.TheVariants as key
use Rattle.config_reading.specs.declared.fault.Section.TheVariants as section
use Rattle.entity_config.specs.Reference.{reference_config}
use Rattle.config_reading.specs.Walk.{config_of}

abbrev entity_text : List ℕ → List ℕ → List ℕ → List ℕ
entity_text first capacity segment =
    codes "[entity]\nid = 2\nid_octets = 1\nseq_octets = 1\nfirst = " ++ first ++ codes "\nput_lanes = 2\nrecv_lanes = 2\n" ++ capacity ++ codes "segment = " ++ segment ++ codes "\n"

abbrev entity : List ℕ
entity = entity_text (codes "1") (codes "capacity = 8\n") (codes "256")

abbrev user_text : List ℕ → List ℕ
user_text name = codes "[[user]]\nname = \"" ++ name ++ codes "\"\n"

abbrev users : List ℕ
users = user_text (codes "alice") ++ user_text (codes "bob")

abbrev remote_text : List ℕ → List ℕ → List ℕ → List ℕ → List ℕ
remote_text id address user handlers =
    codes "[[remote]]\nid = " ++ id ++ codes "\naddress = \"" ++ address ++ codes "\"\nuser = \"" ++ user
    ++ codes "\"\nack_ms = 1000\nnak_ms = 1000\ncheck_ms = 1000\ninactivity_ms = 1000\nack_limit = 2\nnak_limit = 2\ncheck_limit = 2\n" ++ handlers

abbrev home : List ℕ
home = codes "127.0.0.1:7001"

abbrev remote : List ℕ
remote = remote_text (codes "1") home (codes "alice") []

reference_read : config_of (entity ++ users ++ remote) ≡ Ok reference_config
unfolding toml_on_literals
reference_read = refl

short_segment : config_of (entity_text (codes "1") (codes "capacity = 8\n") (codes "255") ++ users ++ remote) ≡ Err (fault.OutOfRange key.Segment)
unfolding toml_on_literals
short_segment = refl

unknown_key : config_of (entity_text (codes "1") (codes "capacity = 8\ncolor = 1\n") (codes "256") ++ users ++ remote) ≡ Err (fault.UnknownKey section.Entity)
unfolding toml_on_literals
unknown_key = refl

missing_key : config_of (entity_text (codes "1") [] (codes "256") ++ users ++ remote) ≡ Err (fault.MissingKey key.Capacity)
unfolding toml_on_literals
missing_key = refl

wrong_type : config_of (entity_text (codes "\"1\"") (codes "capacity = 8\n") (codes "256") ++ users ++ remote) ≡ Err (fault.WrongType key.First)
unfolding toml_on_literals
wrong_type = refl

negative : config_of (entity_text (codes "-1") (codes "capacity = 8\n") (codes "256") ++ users ++ remote) ≡ Err (fault.OutOfRange key.First)
unfolding toml_on_literals
negative = refl

same_user : config_of (entity ++ user_text (codes "alice") ++ user_text (codes "alice") ++ remote) ≡ Err fault.DuplicateUser
unfolding toml_on_literals
same_user = refl

same_remote : config_of (entity ++ users ++ remote ++ remote) ≡ Err fault.DuplicateRemote
unfolding toml_on_literals
same_remote = refl

own_id : config_of (entity ++ users ++ remote_text (codes "2") home (codes "alice") []) ≡ Err fault.DuplicateRemote
unfolding toml_on_literals
own_id = refl

unknown_user : config_of (entity ++ users ++ remote_text (codes "1") home (codes "carol") []) ≡ Err fault.UnknownUser
unfolding toml_on_literals
unknown_user = refl

bad_address : config_of (entity ++ users ++ remote_text (codes "1") (codes "host:1") (codes "alice") []) ≡ Err fault.BadAddress
unfolding toml_on_literals
bad_address = refl

handler_refused : config_of (entity ++ users ++ remote_text (codes "1") home (codes "alice") (codes "recv1 = { inactivity = \"suspend\" }\n")) ≡ Err (fault.HandlerNotAllowed key.ReceiveOne)
unfolding toml_on_literals
handler_refused = refl

abbrev remotes_from : List (List ℕ) → List ℕ
remotes_from [] = []
remotes_from (id ∷ ids) = remote_text id home (codes "alice") [] ++ remotes_from ids

nine_sources : config_of (entity ++ users ++ remotes_from (codes "1" ∷ codes "3" ∷ codes "4" ∷ codes "5" ∷ codes "6" ∷ codes "7" ∷ codes "8" ∷ codes "9" ∷ codes "10" ∷ [])) ≡ Err fault.TooManySources
unfolding toml_on_literals
nine_sources = refl
