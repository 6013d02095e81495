-- The limits of the profile, as they stand in the code.
use Rattle.std.proofs.Common.{◌≡◌, ◌^◌, refl}
use Rattle.cfdp_types.specs.declared.limits.TheConstants.{FILE_OCTETS, SEGMENT_OCTETS_LEAST, SEGMENT_OCTETS_MOST, JOURNAL_ENTRIES, JOURNAL_ENTRIES_KEPT, USERS, SOURCES_OF_A_USER, REMOTES, RECEIVING_LANES, SENDING_LANES, QUEUE_BUNDLES, NAK_REQUESTS, EXPIRATIONS, TIMER_MILLISECONDS, NAME_OCTETS, MESSAGE_OCTETS, MESSAGES, ID_OCTETS, CONFIGURED_NUMBER, USER_NAME_OCTETS, QUEUE_PUSHES}

file_octets : FILE_OCTETS ≡ 16777216
file_octets = refl

segment_octets_least : SEGMENT_OCTETS_LEAST ≡ 256
segment_octets_least = refl

segment_octets_most : SEGMENT_OCTETS_MOST ≡ 1400
segment_octets_most = refl

journal_entries : JOURNAL_ENTRIES ≡ 262144
journal_entries = refl

journal_entries_kept : JOURNAL_ENTRIES_KEPT ≡ 2
journal_entries_kept = refl

users : USERS ≡ 16
users = refl

sources_of_a_user : SOURCES_OF_A_USER ≡ 8
sources_of_a_user = refl

remotes : REMOTES ≡ 128
remotes = refl

receiving_lanes : RECEIVING_LANES ≡ 8
receiving_lanes = refl

sending_lanes : SENDING_LANES ≡ 32
sending_lanes = refl

queue_bundles : QUEUE_BUNDLES ≡ 1024
queue_bundles = refl

nak_requests : NAK_REQUESTS ≡ 64
nak_requests = refl

expirations : EXPIRATIONS ≡ 255
expirations = refl

timer_milliseconds : TIMER_MILLISECONDS ≡ 86400000
timer_milliseconds = refl

name_octets : NAME_OCTETS ≡ 255
name_octets = refl

message_octets : MESSAGE_OCTETS ≡ 255
message_octets = refl

messages : MESSAGES ≡ 4
messages = refl

id_octets : ID_OCTETS ≡ 8
id_octets = refl

configured_number : CONFIGURED_NUMBER ≡ 9223372036854775807
configured_number = refl

user_name_octets : USER_NAME_OCTETS ≡ 32
user_name_octets = refl

queue_pushes : QUEUE_PUSHES ≡ 2 ^ 62
queue_pushes = refl
