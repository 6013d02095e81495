-- Meaning. How a configuration is read: the tables of the text in order, and in each table its keys in order.
-- The first fault is reported.
use Rattle.std.specs.Prelude.{ℕ, ◌+◌, ◌-◌, ◌^◌, Bool, true, false, not, ◌&&◌, nat_le, min, if◌then◌else◌, ℤ, pos, negsuc, List, [], ◌∷◌, ◌++◌, length, map, position, count_by, Option, Some, None, Result, Ok, Err, codes}
use Rattle.std.specs.List.{list_any}
use Rattle.toml.specs.Data.{Data, Items, no_items, item, Members, no_members, member, as_array, as_integer, as_str, as_table, get_member}
use Rattle.toml.specs.Parse.{parse_document}
use Rattle.cfdp_types.specs.Condition as condition
use Rattle.cfdp_types.specs.Handlers.{FaultTableValue, is_allowed, with_handler}
use Rattle.cfdp_types.specs.declared.params.ParamsParts.{ParamsParts}
use Rattle.cfdp_types.specs.Reference.{all_cancel}
use Rattle.cfdp_types.specs.declared.limits.TheConstants.{CONFIGURED_NUMBER, EXPIRATIONS, ID_OCTETS, QUEUE_BUNDLES, RECEIVING_LANES, REMOTES, SEGMENT_OCTETS_LEAST, SEGMENT_OCTETS_MOST, SENDING_LANES, SOURCES_OF_A_USER, TIMER_MILLISECONDS, USERS}
use Rattle.cfdp_types.specs.declared.names.Checksum.{Checksum}
use Rattle.cfdp_types.specs.declared.names.Checksum.TheVariants.{Modular, Null}
use Rattle.cfdp_types.specs.declared.names.Handler.{Handler}
use Rattle.cfdp_types.specs.declared.names.Handler.TheVariants.{Cancel, Suspend, Ignore, Abandon}
use Rattle.cfdp_types.specs.declared.names.Role.{Role}
use Rattle.cfdp_types.specs.declared.names.Role.TheVariants.{Send, RecvOne, RecvTwo}
use Rattle.cfdp_types.specs.declared.params.ExpirationLimits.{ExpirationLimits}
use Rattle.cfdp_types.specs.declared.params.FaultTables.{FaultTables}
use Rattle.cfdp_types.specs.declared.params.TimerLengths.{TimerLengths}
use Rattle.config_reading.specs.declared.entity.EntitySettings.{EntitySettings}
use Rattle.config_reading.specs.declared.fault.ConfigFault.{ConfigFault}
use Rattle.config_reading.specs.declared.fault.ConfigFault.TheVariants as fault
use Rattle.config_reading.specs.declared.fault.Key.{Key}
use Rattle.config_reading.specs.declared.fault.Key.TheVariants as key
use Rattle.config_reading.specs.declared.fault.Section.TheVariants as section
use Rattle.config_reading.specs.Faults.{key_text}
use Rattle.config_reading.specs.Faults.{table_key}
use Rattle.config_reading.specs.Texts.{is_address, is_same_text, is_user_name, is_within}
use Rattle.config_reading.specs.Values.{ConfigValue, PeerValue, goes_to, has_id, route_of}

-- what is read, or the first fault
abbrev pub Read : Type 0 → Type 0
Read A = Result A ConfigFault

-- the next step, where nothing was wrong before it
abbrev pub and_then : {A B : Type 0} → Read A → (A → Read B) → Read B
and_then (Ok x) next = next x
and_then (Err f) next = Err f

-- a fault where the test is false
abbrev pub unless : {A : Type 0} → Bool → ConfigFault → Read A → Read A
unless true f next = next
unless false f next = Err f

-- a number in a range
abbrev pub number_from : Key → ℕ → ℕ → Option ℤ → Read ℕ
number_from k least most None = Err (fault.WrongType k)
number_from k least most (Some (pos n)) = if is_within least most n then Ok n else Err (fault.OutOfRange k)
number_from k least most (Some (negsuc n)) = Err (fault.OutOfRange k)

abbrev pub number_of : Key → ℕ → ℕ → Data → Read ℕ
number_of k least most d = number_from k least most (as_integer d)

-- the value, or WrongType where it has another type
abbrev pub typed : {A : Type 0} → Key → Option A → Read A
typed k None = Err (fault.WrongType k)
typed k (Some x) = Ok x

-- a text
abbrev pub text_of : Key → Data → Read (List ℕ)
text_of k d = typed k (as_str d)

-- a table
abbrev pub table_of : Key → Data → Read Members
table_of k d = typed k (as_table d)

-- the items as tables, where each is one
abbrev pub tables_from : Key → Items → Read (List Members)
tables_from k no_items = Ok []
tables_from k (item d ds) = and_then (table_of k d) (λ first. and_then (tables_from k ds) (λ rest. Ok (first ∷ rest)))

-- an array of tables
abbrev pub tables_of : Key → Data → Read (List Members)
tables_of k d = and_then (typed k (as_array d)) (tables_from k)

-- the value of a required key, as read
abbrev pub required : {A : Type 0} → Key → (Data → Read A) → Option Data → Read A
required k read None = Err (fault.MissingKey k)
required k read (Some d) = read d

-- the value of a key, as read, or a default where the key is absent
abbrev pub optional : {A : Type 0} → A → (Data → Read A) → Option Data → Read A
optional absent read None = Ok absent
optional absent read (Some d) = read d

-- the value of a key
abbrev pub value_at : Key → Members → Option Data
value_at k ms = get_member (key_text k) ms

abbrev pub number_at : Key → ℕ → ℕ → Members → Read ℕ
number_at k least most ms = required k (number_of k least most) (value_at k ms)

-- the table has no keys but these
abbrev pub has_only : List Key → Members → Bool
has_only keys no_members = true
has_only keys (member k d ms) = list_any (λ known. is_same_text (key_text known) k) keys && has_only keys ms

-- the greatest ID of this many octets that a configuration can name
abbrev pub greatest_id : ℕ → ℕ
greatest_id octets = min CONFIGURED_NUMBER (256 ^ octets - 1)

-- the table of the entity itself
abbrev pub entity_keys : List Key
entity_keys = key.Id ∷ key.IdOctets ∷ key.SequenceOctets ∷ key.First ∷ key.PutLanes ∷ key.ReceiveLanes ∷ key.Capacity ∷ key.Segment ∷ []

abbrev pub entity_in : Members → Read EntitySettings
entity_in ms =
    unless (has_only entity_keys ms) (fault.UnknownKey section.Entity)
    (and_then (number_at key.Id 0 CONFIGURED_NUMBER ms) (λ id.
    and_then (number_at key.IdOctets 1 ID_OCTETS ms) (λ octets.
    unless (nat_le id (greatest_id octets)) (fault.OutOfRange key.Id)
    (and_then (number_at key.SequenceOctets 1 ID_OCTETS ms) (λ sequence.
    and_then (number_at key.First 0 CONFIGURED_NUMBER ms) (λ first.
    and_then (number_at key.PutLanes 1 SENDING_LANES ms) (λ put_lanes.
    and_then (number_at key.ReceiveLanes 1 RECEIVING_LANES ms) (λ receive_lanes.
    and_then (number_at key.Capacity 1 QUEUE_BUNDLES ms) (λ capacity.
    and_then (number_at key.Segment SEGMENT_OCTETS_LEAST SEGMENT_OCTETS_MOST ms) (λ segment.
    Ok (record {
      local = record { 0 = id };
      lengths = record { entity_octets = octets; sequence_octets = sequence };
      first = first;
      put_lanes = put_lanes;
      receive_lanes = receive_lanes;
      capacity = capacity;
      segment_octets = segment;
    })))))))))))

-- the name of a user, in its range
abbrev pub name_of : Key → Data → Read (List ℕ)
name_of k d = and_then (text_of k d) (λ name. unless (is_user_name name) (fault.OutOfRange k) (Ok name))

-- one user's table, after those before it
abbrev pub user_in : List (List ℕ) → Members → Read (List ℕ)
user_in before ms =
    unless (has_only (key.Name ∷ []) ms) (fault.UnknownKey section.User)
    (and_then (required key.Name (name_of key.Name) (value_at key.Name ms)) (λ name.
    unless (not (list_any (is_same_text name) before)) fault.DuplicateUser (Ok name)))

-- the tables of the users
abbrev pub users_in : List (List ℕ) → List Members → Read (List (List ℕ))
users_in before [] = Ok before
users_in before (ms ∷ rest) = and_then (user_in before ms) (λ name. users_in (before ++ name ∷ []) rest)

-- the handler that a word names
abbrev pub handler_named : List ℕ → Option Handler
handler_named word =
    if is_same_text word (codes "cancel") then Some Cancel
    else (if is_same_text word (codes "suspend") then Some Suspend
    else (if is_same_text word (codes "ignore") then Some Ignore
    else (if is_same_text word (codes "abandon") then Some Abandon else None)))

-- the fault table with one more handler, which must be known and allowed for the role
abbrev pub with_named : Key → Role → ℕ → FaultTableValue → Option Handler → Read FaultTableValue
with_named k role condition so_far None = Err (fault.HandlerNotAllowed k)
with_named k role condition so_far (Some handler) =
    unless (is_allowed role condition handler) (fault.HandlerNotAllowed k) (Ok (with_handler so_far condition handler))

-- one key of a handler table
abbrev pub handler_at : Key → Role → Members → Key → ℕ → FaultTableValue → Read FaultTableValue
handler_at k role ms condition_key condition so_far =
    optional so_far (λ d. and_then (text_of condition_key d) (λ word. with_named k role condition so_far (handler_named word))) (value_at condition_key ms)

-- the conditions that have handlers, and their keys
abbrev pub handler_keys : List (Key × ℕ)
handler_keys =
    (key.PositiveAckLimit, condition.positive_ack_limit)
    ∷ (key.FilestoreRejection, condition.filestore_rejection)
    ∷ (key.ChecksumFailure, condition.file_checksum_failure)
    ∷ (key.FileSizeError, condition.file_size_error)
    ∷ (key.NakLimitReached, condition.nak_limit)
    ∷ (key.Inactivity, condition.inactivity)
    ∷ (key.CheckLimitReached, condition.check_limit)
    ∷ (key.UnsupportedChecksum, condition.unsupported_checksum_type)
    ∷ []

abbrev pub handlers_from : Key → Role → Members → List (Key × ℕ) → FaultTableValue → Read FaultTableValue
handlers_from k role ms [] so_far = Ok so_far
handlers_from k role ms (pair ∷ pairs) so_far = and_then (handler_at k role ms pair.0 pair.1 so_far) (handlers_from k role ms pairs)

-- the handler table of a role
abbrev pub handlers_of : Role → Data → Read FaultTableValue
handlers_of role d =
    and_then (table_of (table_key role) d) (λ ms.
    unless (has_only (map (λ pair. pair.0) handler_keys) ms) (fault.HandlerNotAllowed (table_key role))
    (handlers_from (table_key role) role ms handler_keys (all_cancel role)))

abbrev pub handlers_at : Role → Members → Read FaultTableValue
handlers_at role ms = optional (all_cancel role) (handlers_of role) (value_at (table_key role) ms)

-- an address
abbrev pub address_in : Data → Read (List ℕ)
address_in d = and_then (text_of key.Address d) (λ text. unless (is_address text) fault.BadAddress (Ok text))

-- the number of the user that was found, or UnknownUser
abbrev pub known_user : Option ℕ → Read (Option ℕ)
known_user None = Err fault.UnknownUser
known_user (Some user) = Ok (Some user)

abbrev pub user_named : List (List ℕ) → Data → Read (Option ℕ)
user_named users d = and_then (name_of key.User d) (λ name. known_user (position (is_same_text name) users))

-- a remote entity's timers
abbrev pub timers_in : Members → Read TimerLengths
timers_in ms =
    and_then (number_at key.AckMilliseconds 1 TIMER_MILLISECONDS ms) (λ ack.
    and_then (number_at key.NakMilliseconds 1 TIMER_MILLISECONDS ms) (λ nak.
    and_then (number_at key.CheckMilliseconds 1 TIMER_MILLISECONDS ms) (λ check.
    and_then (number_at key.InactivityMilliseconds 1 TIMER_MILLISECONDS ms) (λ inactivity.
    Ok (record { ack = ack; nak = nak; check = check; inactivity = inactivity })))))

-- a remote entity's limits of expirations
abbrev pub limits_in : Members → Read ExpirationLimits
limits_in ms =
    and_then (number_at key.AckLimit 1 EXPIRATIONS ms) (λ ack.
    and_then (number_at key.NakLimit 1 EXPIRATIONS ms) (λ nak.
    and_then (number_at key.CheckLimit 1 EXPIRATIONS ms) (λ check.
    Ok (record { ack = ack; nak = nak; check = check }))))

-- a remote entity's fault tables
abbrev pub tables_in : Members → Read FaultTables
tables_in ms =
    and_then (handlers_at Send ms) (λ send.
    and_then (handlers_at RecvOne ms) (λ receive_one.
    and_then (handlers_at RecvTwo ms) (λ receive_two.
    Ok (record { send = send; receive_one = receive_one; receive_two = receive_two }))))

-- the checksum that a word names
abbrev pub checksum_named : List ℕ → Option Checksum
checksum_named word =
    if is_same_text word (codes "modular") then Some Modular
    else (if is_same_text word (codes "null") then Some Null else None)

-- the checksum that was found, or OutOfRange
abbrev pub named_checksum : Option Checksum → Read Checksum
named_checksum None = Err (fault.OutOfRange key.Checksum)
named_checksum (Some checksum) = Ok checksum

abbrev pub checksum_of : Data → Read Checksum
checksum_of d = and_then (text_of key.Checksum d) (λ word. named_checksum (checksum_named word))

-- a remote entity's checksum: modular where none is named
abbrev pub checksum_at : Members → Read Checksum
checksum_at ms = optional Modular checksum_of (value_at key.Checksum ms)

-- all parameters of a remote entity
abbrev pub params_in : EntitySettings → Members → Read ParamsParts
params_in entity ms =
    and_then (timers_in ms) (λ timers.
    and_then (limits_in ms) (λ limits.
    and_then (tables_in ms) (λ tables.
    and_then (checksum_at ms) (λ checksum.
    Ok (record {
      local = entity.local;
      lengths = entity.lengths;
      segment_octets = entity.segment_octets;
      timers = timers;
      limits = limits;
      tables = tables;
      checksum = checksum;
    })))))

-- the user may have one more source
abbrev pub takes_source : List PeerValue → Option ℕ → Bool
takes_source before None = true
takes_source before (Some user) = nat_le (count_by (goes_to user) (map route_of before) + 1) SOURCES_OF_A_USER

-- one remote entity's table, after those before it
abbrev pub remote_keys : List Key
remote_keys =
    key.Id ∷ key.Address ∷ key.User ∷ key.AckMilliseconds ∷ key.NakMilliseconds ∷ key.CheckMilliseconds ∷ key.InactivityMilliseconds
    ∷ key.AckLimit ∷ key.NakLimit ∷ key.CheckLimit ∷ key.Send ∷ key.ReceiveOne ∷ key.ReceiveTwo ∷ key.Checksum ∷ []

abbrev pub remote_in : EntitySettings → List (List ℕ) → List PeerValue → Members → Read PeerValue
remote_in entity users before ms =
    unless (has_only remote_keys ms) (fault.UnknownKey section.Remote)
    (and_then (number_at key.Id 0 (greatest_id entity.lengths.entity_octets) ms) (λ id.
    and_then (required key.Address address_in (value_at key.Address ms)) (λ address.
    and_then (optional None (user_named users) (value_at key.User ms)) (λ user.
    and_then (params_in entity ms) (λ params.
    unless (not (has_id entity.local (peer id user params address)) && not (list_any (has_id (record { 0 = id })) before)) fault.DuplicateRemote
    (unless (takes_source before user) fault.TooManySources
    (Ok (peer id user params address))))))))
  where
    peer : ℕ → Option ℕ → ParamsParts → List ℕ → PeerValue
    peer id user params address = record { remote = record { id = record { 0 = id }; user = user; params = params }; address = address }

-- the tables of the remote entities
abbrev pub remotes_in : EntitySettings → List (List ℕ) → List PeerValue → List Members → Read (List PeerValue)
remotes_in entity users before [] = Ok before
remotes_in entity users before (ms ∷ rest) = and_then (remote_in entity users before ms) (λ peer. remotes_in entity users (before ++ peer ∷ []) rest)

-- an array of tables, whose number is from `least` to `most`
abbrev pub counted : Key → ℕ → ℕ → Data → Read (List Members)
counted k least most d = and_then (tables_of k d) (λ ts. unless (is_within least most (length ts)) (fault.OutOfRange k) (Ok ts))

-- the whole configuration, from the top-level table
abbrev pub config_in : Members → Read ConfigValue
config_in ms =
    unless (has_only (key.Entity ∷ key.User ∷ key.Remote ∷ []) ms) (fault.UnknownKey section.Top)
    (and_then (required key.Entity (table_of key.Entity) (value_at key.Entity ms)) (λ entity_table.
    and_then (required key.User (counted key.User 1 USERS) (value_at key.User ms)) (λ user_tables.
    and_then (required key.Remote (counted key.Remote 0 REMOTES) (value_at key.Remote ms)) (λ remote_tables.
    and_then (entity_in entity_table) (λ entity.
    and_then (users_in [] user_tables) (λ users.
    and_then (remotes_in entity users [] remote_tables) (λ peers.
    Ok (record { entity = entity; users = users; peers = peers }))))))))

-- the configuration in the table, or BadToml where there is none
abbrev pub config_from : Option Members → Read ConfigValue
config_from None = Err fault.BadToml
config_from (Some ms) = config_in ms

-- the configuration that a text gives, or its first fault
abbrev pub config_of : List ℕ → Read ConfigValue
config_of text = config_from (parse_document text)
