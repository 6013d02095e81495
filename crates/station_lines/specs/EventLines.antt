-- Meaning. The lines of events.
use Rattle.std.specs.Prelude.{ℕ, Bool, true, false, if◌then◌else◌, List, [], ◌++◌, Option, Some, None, codes}
use Rattle.std.specs.Option.{option_copied}
use Rattle.cfdp_types.specs.declared.key.EntityId.{EntityId}
use Rattle.cfdp_types.specs.declared.key.TxnKey.{TxnKey}
use Rattle.cfdp_types.specs.declared.names.FileStatus.{FileStatus}
use Rattle.cfdp_types.specs.declared.names.FileStatus.TheVariants.{Retained, Rejected}
use Rattle.indications.specs.declared.indication.Indication.{Indication}
use Rattle.indications.specs.declared.indication.Indication.TheVariants.{Transaction, EofSent, EofRecv, TransactionFinished, MetadataRecv, FileSegmentRecv, Suspended, Resumed, Report, Fault, Abandoned}
use Rattle.answer_texts.specs.ToldTexts.{indication_name, phase_name, status_name}
use Rattle.json.specs.Token.{Token}
use Rattle.station_lines.specs.Members.{flag_member, text_member, number_member, octets_member, moment_member, hexes_member, line_of}
use Rattle.station_lines.specs.Shared.{key_members, finished_members, case_members, datagram_members, class_number}
use Rattle.station_lines.specs.declared.moment.Moment.{Moment}
use Rattle.station_lines.specs.declared.event.EventHead.{EventHead}
use Rattle.station_lines.specs.declared.event.IndicationEvent.{IndicationEvent}
use Rattle.station_lines.specs.declared.event.PutEvent.{PutEvent}
use Rattle.station_lines.specs.declared.event.CommandEvent.{CommandEvent}
use Rattle.station_lines.specs.declared.event.SkippedEvent.{SkippedEvent}
use Rattle.station_lines.specs.declared.event.UnsentEvent.{UnsentEvent}
use Rattle.station_lines.specs.declared.members.RefusedCase.{RefusedCase}

-- what each event begins with
abbrev pub head_members : EventHead → List ℕ → List Token
head_members head kind =
    moment_member (codes "at") head.at ++ (number_member (codes "number") head.number ++ text_member (codes "kind") kind)

-- the line of a server's start
abbrev pub start_line : EventHead → EntityId → List ℕ → List ℕ
start_line head id version =
    line_of (head_members head (codes "start") ++ (number_member (codes "id") id.0 ++ text_member (codes "version") version))

-- ---- indications

-- the members of Metadata-Recv: the file's entity and size, its names, and the messages
abbrev pub metadata_members : EntityId → ℕ → List ℕ → List ℕ → List (List ℕ) → List Token
metadata_members source size source_name destination_name messages =
    number_member (codes "origin") source.0 ++ (number_member (codes "size") size
    ++ (octets_member (codes "file") source_name ++ (octets_member (codes "to") destination_name
    ++ hexes_member (codes "messages") messages)))

-- a condition and a progress
abbrev pub fault_members : ℕ → ℕ → List Token
fault_members condition progress =
    number_member (codes "condition") condition ++ number_member (codes "progress") progress

-- an indication's members, after its name
abbrev pub said_members : Indication → List Token
said_members Transaction = []
said_members EofSent = []
said_members EofRecv = []
said_members (TransactionFinished condition delivery status) = finished_members condition delivery status
said_members (MetadataRecv metadata) =
    metadata_members metadata.source metadata.size metadata.source_name metadata.destination_name metadata.messages
said_members (FileSegmentRecv offset octets) =
    number_member (codes "offset") offset ++ number_member (codes "length") octets
said_members (Suspended condition) = number_member (codes "condition") condition
said_members (Resumed progress) = number_member (codes "progress") progress
said_members (Report phase progress) =
    text_member (codes "phase") (phase_name phase) ++ number_member (codes "progress") progress
said_members (Fault condition progress) = fault_members condition progress
said_members (Abandoned condition progress) = fault_members condition progress

-- the line of an indication
abbrev pub indication_line : EventHead → IndicationEvent → List ℕ
indication_line head event =
    line_of (head_members head (codes "indication") ++ (text_member (codes "user") event.user.now
    ++ (key_members event.key ++ (text_member (codes "name") (indication_name event.indication.now)
    ++ said_members event.indication.now))))

-- ---- Puts, the outbox, the store, refusals

-- the Put's user and transaction, its remote entity and its class
abbrev pub put_head : PutEvent → List Token
put_head put =
    text_member (codes "user") put.user.now ++ (key_members put.key
    ++ (number_member (codes "peer") put.peer.0 ++ number_member (codes "class") (class_number put.class)))

-- the number in the outbox, if a file waited there
abbrev pub queued_members : Option ℕ → List Token
queued_members None = []
queued_members (Some number) = number_member (codes "queued") number

-- the Put's file
abbrev pub put_file : PutEvent → List Token
put_file put =
    octets_member (codes "file") put.file.now ++ (octets_member (codes "to") put.to.now
    ++ (number_member (codes "size") put.size ++ queued_members put.queued))

-- the line of a Put
abbrev pub put_line : EventHead → PutEvent → List ℕ
put_line head put = line_of (head_members head (codes "put") ++ (put_head put ++ put_file put))

-- why a file can't be read, if that is said
abbrev pub reason_members : Option (List ℕ) → List Token
reason_members None = []
reason_members (Some reason) = text_member (codes "reason") reason

-- which file of the outbox was given up, and why
abbrev pub unsent_members : UnsentEvent → List Token
unsent_members unsent =
    number_member (codes "queued") unsent.queued ++ (text_member (codes "user") unsent.user.now
    ++ (number_member (codes "destination") unsent.destination.0 ++ (octets_member (codes "file") unsent.file.now
    ++ (text_member (codes "why") unsent.why.now ++ reason_members (option_copied unsent.reason)))))

-- the line of a file of the outbox that was given up
abbrev pub unsent_line : EventHead → UnsentEvent → List ℕ
unsent_line head unsent = line_of (head_members head (codes "unsent") ++ unsent_members unsent)

-- the file status for a file that the store kept, or did not
abbrev pub stored_status : Bool → FileStatus
stored_status is_retained = if is_retained then Retained else Rejected

-- the path in the store of a file that it kept, or why it didn't keep one, if that is known
abbrev pub detail_members : Bool → Option (List ℕ) → List Token
detail_members is_retained None = []
detail_members true (Some path) = text_member (codes "as") path
detail_members false (Some why) = text_member (codes "why") why

-- the line of a store's answer
abbrev pub stored_line : EventHead → TxnKey → Bool → Option (List ℕ) → List ℕ
stored_line head key is_retained detail =
    line_of (head_members head (codes "stored") ++ (key_members key
    ++ (text_member (codes "status") (status_name (stored_status is_retained)) ++ detail_members is_retained detail)))

-- the line of refusals of one kind
abbrev pub refused_line : EventHead → RefusedCase → List ℕ
refused_line head case =
    line_of (head_members head (codes "refused") ++ (case_members (codes "refusal") case ++ datagram_members case.datagram))

-- ---- holds

-- the line of an event about a remote entity
abbrev pub about_remote_line : EventHead → List ℕ → EntityId → List ℕ
about_remote_line head kind id = line_of (head_members head kind ++ number_member (codes "id") id.0)

-- the line of a hold
abbrev pub hold_line : EventHead → EntityId → List ℕ
hold_line head id = about_remote_line head (codes "hold") id

-- the line of a hold at the end of a pass
abbrev pub planned_hold_line : EventHead → EntityId → List ℕ
planned_hold_line head id =
    line_of (head_members head (codes "hold") ++ (number_member (codes "id") id.0 ++ flag_member (codes "planned") true))

-- the line of a hold's end
abbrev pub release_line : EventHead → EntityId → List ℕ
release_line head id = about_remote_line head (codes "release") id

-- ---- commands

-- who gave a command: a client, by its seat, or somebody at the standard input
abbrev pub asker_members : Option ℕ → List Token
asker_members None = text_member (codes "by") (codes "input")
asker_members (Some seat) = text_member (codes "by") (codes "client") ++ number_member (codes "seat") seat

-- the words of a command, the first line of its answer, and who gave it
abbrev pub command_members : CommandEvent → List Token
command_members given =
    text_member (codes "words") given.words.now ++ (text_member (codes "answer") given.answer.now
    ++ (asker_members given.seat ++ reason_members (option_copied given.reason)))

-- the line of a command
abbrev pub command_line : EventHead → CommandEvent → List ℕ
command_line head given = line_of (head_members head (codes "command") ++ command_members given)

-- ---- lanes that wait

-- the line of parked datagrams that were dropped
abbrev pub unparked_line : EventHead → ℕ → List ℕ
unparked_line head count = line_of (head_members head (codes "unparked") ++ number_member (codes "count") count)

-- whose transaction numbers were skipped, how many, and which is the next one
abbrev pub skipped_members : SkippedEvent → List Token
skipped_members skipped =
    text_member (codes "user") skipped.user.now ++ (number_member (codes "destination") skipped.destination.0
    ++ (number_member (codes "count") skipped.count ++ number_member (codes "next") skipped.next))

-- the line of transaction numbers that were skipped
abbrev pub skipped_line : EventHead → SkippedEvent → List ℕ
skipped_line head skipped = line_of (head_members head (codes "skipped") ++ skipped_members skipped)

-- a user's transaction
abbrev pub journal_full_members : List ℕ → TxnKey → List Token
journal_full_members user key = text_member (codes "user") user ++ key_members key

-- the line of a transaction that was abandoned because its journal is full
abbrev pub journal_full_line : EventHead → List ℕ → TxnKey → List ℕ
journal_full_line head user key = line_of (head_members head (codes "journal-full") ++ journal_full_members user key)

-- the line that a log has after events that were lost
abbrev pub lost_line : Moment → ℕ → List ℕ
lost_line at count =
    line_of (moment_member (codes "at") at ++ (text_member (codes "kind") (codes "lost") ++ number_member (codes "count") count))

-- ---- events that have no further members

-- the line of such an event
abbrev pub plain_line : EventHead → List ℕ → List ℕ
plain_line head kind = line_of (head_members head kind)

-- the line of a server's end
abbrev pub end_line : EventHead → List ℕ
end_line head = plain_line head (codes "end")
