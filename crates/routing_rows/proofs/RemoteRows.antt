-- Worked tables of remote entities, and of whole configurations: what is read, and which fault comes first.
use Rattle.std.proofs.Common.{◌≡◌, ℕ, zero, suc, List, [], ◌∷◌, map, replicate, Option, Some, None, Ok, Err, codes, pos, refl}
use Rattle.cfdp_types.specs.declared.names.Checksum.TheVariants.{Modular, Null}
use Rattle.cfdp_types.specs.declared.names.Handler.TheVariants.{Cancel, Suspend, Ignore, Abandon}
use Rattle.cfdp_types.specs.declared.names.Role.TheVariants.{Send, RecvOne, RecvTwo}
use Rattle.cfdp_types.specs.Reference.{all_cancel, reference}
use Rattle.toml.specs.Data.{Data, string, integer, array, table, Items, no_items, item, Members, no_members, member}
use Rattle.config_reading.specs.declared.fault.ConfigFault.TheVariants as fault
use Rattle.config_reading.specs.declared.fault.Key.TheVariants as key
use Rattle.config_reading.specs.declared.fault.Section.TheVariants as section
use Rattle.entity_config.specs.Reference.{reference_config}
use Rattle.config_reading.specs.Values.{PeerValue}
use Rattle.config_reading.specs.Walk.{Read, checksum_at, config_in, handler_named, handlers_of, limits_in, remote_in, remotes_in, timers_in}

abbrev number : ℕ → Data
number n = integer (pos n)

abbrev word : Data
word = string (codes "cancel")

abbrev timers_table : ℕ → ℕ → ℕ → ℕ → Members → Members
timers_table ack nak check inactivity more =
    member (codes "ack_ms") (number ack) (member (codes "nak_ms") (number nak) (member (codes "check_ms") (number check) (member (codes "inactivity_ms") (number inactivity) more)))

abbrev limits_table : ℕ → ℕ → ℕ → Members → Members
limits_table ack nak check more = member (codes "ack_limit") (number ack) (member (codes "nak_limit") (number nak) (member (codes "check_limit") (number check) more))

-- timers, from one millisecond to a day
short_timers : map timers_in (timers_table 0 1 1 1 no_members ∷ timers_table 1 0 1 1 no_members ∷ timers_table 1 1 0 1 no_members ∷ timers_table 1 1 1 0 no_members ∷ [])
    ≡ map (λ k. Err (fault.OutOfRange k)) (key.AckMilliseconds ∷ key.NakMilliseconds ∷ key.CheckMilliseconds ∷ key.InactivityMilliseconds ∷ [])
short_timers = refl

long_timers : map timers_in (timers_table 86400001 1 1 1 no_members ∷ timers_table 1 86400001 1 1 no_members ∷ timers_table 1 1 86400001 1 no_members ∷ timers_table 1 1 1 86400001 no_members ∷ [])
    ≡ map (λ k. Err (fault.OutOfRange k)) (key.AckMilliseconds ∷ key.NakMilliseconds ∷ key.CheckMilliseconds ∷ key.InactivityMilliseconds ∷ [])
long_timers = refl

timers_read : map timers_in (timers_table 1 1 1 1 no_members ∷ timers_table 86400000 86400000 86400000 86400000 no_members ∷ timers_table 1 2 3 4 no_members ∷ [])
    ≡ Ok (record { ack = 1; nak = 1; check = 1; inactivity = 1 })
    ∷ Ok (record { ack = 86400000; nak = 86400000; check = 86400000; inactivity = 86400000 })
    ∷ Ok (record { ack = 1; nak = 2; check = 3; inactivity = 4 })
    ∷ []
timers_read = refl

-- limits, from 1 to 255
limits_refused : map limits_in (limits_table 0 1 1 no_members ∷ limits_table 1 0 1 no_members ∷ limits_table 1 1 0 no_members ∷ limits_table 256 1 1 no_members ∷ limits_table 1 256 1 no_members ∷ limits_table 1 1 256 no_members ∷ [])
    ≡ map (λ k. Err (fault.OutOfRange k)) (key.AckLimit ∷ key.NakLimit ∷ key.CheckLimit ∷ key.AckLimit ∷ key.NakLimit ∷ key.CheckLimit ∷ [])
limits_refused = refl

limits_read : map limits_in (limits_table 1 1 1 no_members ∷ limits_table 255 255 255 no_members ∷ limits_table 1 2 3 no_members ∷ [])
    ≡ Ok (record { ack = 1; nak = 1; check = 1 }) ∷ Ok (record { ack = 255; nak = 255; check = 255 }) ∷ Ok (record { ack = 1; nak = 2; check = 3 }) ∷ []
limits_read = refl

-- handlers
words : map (λ text. handler_named text) (codes "cancel" ∷ codes "suspend" ∷ codes "ignore" ∷ codes "abandon" ∷ codes "Cancel" ∷ codes "stop" ∷ [] ∷ [])
    ≡ Some Cancel ∷ Some Suspend ∷ Some Ignore ∷ Some Abandon ∷ None ∷ None ∷ None ∷ []
words = refl

handlers_read : handlers_of RecvTwo (table (member (codes "inactivity") (string (codes "ignore")) (member (codes "filestore_rejection") (string (codes "abandon")) (member (codes "nak_limit") (string (codes "suspend")) no_members))))
    ≡ Ok (record {
      role = RecvTwo;
      handlers = record (all_cancel RecvTwo).handlers { inactivity = Ignore; filestore_rejection = Abandon; nak_limit = Suspend };
    })
handlers_read = refl

-- an unknown condition, an unknown word, a word that the condition or the role does not allow, and a number
handlers_refused : map (handlers_of RecvOne)
    (table (member (codes "no_error") word no_members) ∷ table (member (codes "inactivity") (string (codes "stop")) no_members) ∷ table (member (codes "file_size_error") (string (codes "ignore")) no_members)
    ∷ table (member (codes "nak_limit") (string (codes "suspend")) no_members) ∷ [])
    ≡ replicate 4 (Err (fault.HandlerNotAllowed key.ReceiveOne))
handlers_refused = refl

handlers_mistyped : map (handlers_of Send) (number 1 ∷ table (member (codes "check_limit") (number 1) no_members) ∷ []) ≡ Err (fault.WrongType key.Send) ∷ Err (fault.WrongType key.CheckLimitReached) ∷ []
handlers_mistyped = refl

-- checksums: modular where none is named
abbrev with_checksum : Data → Members
with_checksum d = member (codes "checksum") d no_members

checksums_read : map checksum_at (no_members ∷ with_checksum (string (codes "modular")) ∷ with_checksum (string (codes "null")) ∷ [])
    ≡ Ok Modular ∷ Ok Modular ∷ Ok Null ∷ []
checksums_read = refl

checksums_refused : map checksum_at (with_checksum (string (codes "crc")) ∷ with_checksum (string []) ∷ with_checksum (string (codes "Null")) ∷ with_checksum (number 0) ∷ [])
    ≡ Err (fault.OutOfRange key.Checksum) ∷ Err (fault.OutOfRange key.Checksum) ∷ Err (fault.OutOfRange key.Checksum) ∷ Err (fault.WrongType key.Checksum) ∷ []
checksums_refused = refl

-- remote entities
abbrev users : List (List ℕ)
users = codes "alice" ∷ codes "bob" ∷ []

abbrev home : List ℕ
home = codes "127.0.0.1:7001"

abbrev remote_table : ℕ → Members → Members
remote_table id more = member (codes "id") (number id) (member (codes "address") (string home) (timers_table 1000 1000 1000 1000 (limits_table 2 2 2 more)))

abbrev with_user : List ℕ → Members
with_user name = remote_table 1 (member (codes "user") (string name) no_members)

abbrev peer : ℕ → Option ℕ → PeerValue
peer id user = record { remote = record { id = record { 0 = id }; user = user; params = reference }; address = home }

abbrev read_alone : Members → Read PeerValue
read_alone ms = remote_in reference_config.entity users [] ms

without_user : read_alone (remote_table 1 no_members) ≡ Ok (peer 1 None)
without_user = refl

second_user : read_alone (with_user (codes "bob")) ≡ Ok (peer 1 (Some 1))
second_user = refl

-- a name that none can have, and one that none has
user_refused : map read_alone (with_user (codes "Bob") ∷ with_user [] ∷ with_user (codes "carol") ∷ []) ≡ Err (fault.OutOfRange key.User) ∷ Err (fault.OutOfRange key.User) ∷ Err fault.UnknownUser ∷ []
user_refused = refl

null_checksum : read_alone (remote_table 1 (with_checksum (string (codes "null"))))
    ≡ Ok (record { remote = record { id = record { 0 = 1 }; user = None; params = record reference { checksum = Null } }; address = home })
null_checksum = refl

-- the checksum comes behind the tables of handlers, and before an ID that stands twice
checksum_later : read_alone (remote_table 2 (member (codes "checksum") (number 1) (member (codes "recv2") (number 1) no_members))) ≡ Err (fault.WrongType key.ReceiveTwo)
checksum_later = refl

own_id_after_checksum : read_alone (remote_table 2 (with_checksum (number 1))) ≡ Err (fault.WrongType key.Checksum)
own_id_after_checksum = refl

remote_key : read_alone (remote_table 1 (member (codes "color") (number 1) no_members)) ≡ Err (fault.UnknownKey section.Remote)
remote_key = refl

long_id : map read_alone (remote_table 255 no_members ∷ remote_table 256 no_members ∷ []) ≡ Ok (peer 255 None) ∷ Err (fault.OutOfRange key.Id) ∷ []
long_id = refl

-- an ID that stands twice is told after all keys of its remote entity
same_id : remotes_in reference_config.entity users [] (remote_table 1 no_members ∷ remote_table 1 no_members ∷ []) ≡ Err fault.DuplicateRemote
same_id = refl

same_id_later : remotes_in reference_config.entity users [] (remote_table 1 no_members ∷ remote_table 1 (member (codes "recv2") (number 1) no_members) ∷ []) ≡ Err (fault.WrongType key.ReceiveTwo)
same_id_later = refl

own_id_later : read_alone (remote_table 2 (member (codes "recv2") (number 1) no_members)) ≡ Err (fault.WrongType key.ReceiveTwo)
own_id_later = refl

-- whole configurations
abbrev entity_table : Data
entity_table = table
    (member (codes "id") (number 2) (member (codes "id_octets") (number 1) (member (codes "seq_octets") (number 1) (member (codes "first") (number 1)
    (member (codes "put_lanes") (number 2) (member (codes "recv_lanes") (number 2) (member (codes "capacity") (number 8) (member (codes "segment") (number 256) no_members))))))))

abbrev user_table : List ℕ → Data
user_table name = table (member (codes "name") (string name) no_members)

abbrev user_tables : Items
user_tables = item (user_table (codes "alice")) (item (user_table (codes "bob")) no_items)

abbrev copies : ℕ → Data → Items
copies zero d = no_items
copies (suc n) d = item d (copies n d)

abbrev config_table : Items → Items → Members
config_table users remotes = member (codes "entity") entity_table (member (codes "user") (array users) (member (codes "remote") (array remotes) no_members))

reference_read : config_in (config_table user_tables (item (table (with_user (codes "alice"))) no_items)) ≡ Ok reference_config
reference_read = refl

no_remotes : config_in (config_table user_tables no_items) ≡ Ok (record reference_config { peers = [] })
no_remotes = refl

missing_user : config_in (member (codes "entity") entity_table (member (codes "remote") (array no_items) no_members)) ≡ Err (fault.MissingKey key.User)
missing_user = refl

missing_remote : config_in (member (codes "entity") entity_table (member (codes "user") (array user_tables) no_members)) ≡ Err (fault.MissingKey key.Remote)
missing_remote = refl

seventeen_users : config_in (config_table (copies 17 (user_table (codes "alice"))) no_items) ≡ Err (fault.OutOfRange key.User)
seventeen_users = refl

many_remotes : config_in (config_table user_tables (copies 129 (table no_members))) ≡ Err (fault.OutOfRange key.Remote)
many_remotes = refl

-- as many as there may be are counted, and then looked at
most_users : config_in (config_table (copies 16 (user_table (codes "alice"))) no_items) ≡ Err fault.DuplicateUser
most_users = refl

most_remotes : config_in (config_table user_tables (copies 128 (table no_members))) ≡ Err (fault.MissingKey key.Id)
most_remotes = refl
