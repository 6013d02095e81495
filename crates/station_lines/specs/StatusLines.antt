-- Meaning. The lines of a status.
use Rattle.std.specs.Prelude.{ℕ, true, false, if◌then◌else◌, List, [], ◌++◌, Option, Some, None, codes}
use Rattle.std.specs.Option.{option_copied}
use Rattle.indications.specs.declared.side.Side.{Side}
use Rattle.indications.specs.declared.side.Side.TheVariants.{Sender, Receiver}
use Rattle.lane_table.specs.declared.glance.Glance.{Glance}
use Rattle.lane_table.specs.declared.glance.GlancedFile.{GlancedFile}
use Rattle.answer_texts.specs.ToldTexts.{phase_name}
use Rattle.json.specs.Token.{Token}
use Rattle.station_lines.specs.Members.{text_member, flag_member, number_member, octets_member, moment_member, numbers_member, object_member, line_of}
use Rattle.station_lines.specs.Shared.{key_members, finished_members, case_members, datagram_members, class_number, pdu_members}
use Rattle.station_lines.specs.declared.moment.Moment.{Moment}
use Rattle.station_lines.specs.declared.members.RefusedCase.{RefusedCase}
use Rattle.station_lines.specs.declared.members.RefusedPdu.{RefusedPdu}
use Rattle.station_lines.specs.declared.status.Counters.{Counters}
use Rattle.station_lines.specs.declared.status.Ending.{Ending}
use Rattle.station_lines.specs.declared.status.Ending.TheVariants.{Finished, Abandoned}
use Rattle.station_lines.specs.declared.status.EntityStatus.{EntityStatus}
use Rattle.station_lines.specs.declared.status.Heard.{Heard}
use Rattle.station_lines.specs.declared.status.LogStatus.{LogStatus}
use Rattle.station_lines.specs.declared.status.Notice.{Notice}
use Rattle.station_lines.specs.declared.status.Notice.TheVariants.{JournalFull, LastNumbers}
use Rattle.station_lines.specs.declared.status.NoteStatus.{NoteStatus}
use Rattle.station_lines.specs.declared.status.ParkedStatus.{ParkedStatus}
use Rattle.station_lines.specs.declared.status.QueuedStatus.{QueuedStatus}
use Rattle.station_lines.specs.declared.status.ReadingStatus.{ReadingStatus}
use Rattle.station_lines.specs.declared.status.RemoteStatus.{RemoteStatus}
use Rattle.station_lines.specs.declared.status.StoringStatus.{StoringStatus}
use Rattle.station_lines.specs.declared.status.TransactionStatus.{TransactionStatus}
use Rattle.station_lines.specs.declared.status.UserStatus.{UserStatus}

-- ---- the entity

-- the entity, and since when it runs
abbrev pub entity_head : EntityStatus → List Token
entity_head e =
    text_member (codes "kind") (codes "entity") ++ (number_member (codes "id") e.id.0
    ++ (text_member (codes "version") e.version.now ++ moment_member (codes "started") e.started))

-- the entity's state
abbrev pub entity_state : EntityStatus → List Token
entity_state e =
    moment_member (codes "now") e.now ++ (number_member (codes "workers") e.workers
    ++ (number_member (codes "clients") e.clients ++ number_member (codes "events") e.events))

-- the counters of what is received and sent
abbrev pub traffic_members : Counters → List Token
traffic_members c =
    number_member (codes "datagrams_in") c.datagrams_in ++ (number_member (codes "octets_in") c.octets_in
    ++ (number_member (codes "datagrams_out") c.datagrams_out ++ number_member (codes "octets_out") c.octets_out))

-- the counters of failures on the way
abbrev pub trouble_members : Counters → List Token
trouble_members c =
    number_member (codes "failed_sends") c.failed_sends ++ (number_member (codes "failed_reads") c.failed_reads
    ++ (number_member (codes "foreign_datagrams") c.foreign_datagrams
    ++ number_member (codes "decode_faults") c.decode_faults))

-- the counters of what became of it
abbrev pub outcome_members : Counters → List Token
outcome_members c =
    number_member (codes "refused") c.refused ++ (number_member (codes "stored") c.stored
    ++ (number_member (codes "failed_stores") c.failed_stores
    ++ number_member (codes "dropped_clients") c.dropped_clients))

-- the counters
abbrev pub counter_members : Counters → List Token
counter_members counters = traffic_members counters ++ (trouble_members counters ++ outcome_members counters)

-- the line of the entity
abbrev pub entity_line : EntityStatus → List ℕ
entity_line e =
    line_of (entity_head e ++ (entity_state e ++ object_member (codes "counters") (counter_members e.counters)))

-- ---- the log and users

-- the line of the file that events are written to
abbrev pub log_line : LogStatus → List ℕ
log_line log =
    line_of (text_member (codes "kind") (codes "log") ++ (flag_member (codes "failing") log.failing
    ++ (number_member (codes "written") log.written ++ number_member (codes "lost") log.lost)))

-- the line of a user
abbrev pub user_line : UserStatus → List ℕ
user_line user =
    line_of (text_member (codes "kind") (codes "user") ++ (text_member (codes "name") user.name.now
    ++ (number_member (codes "waiting") user.waiting ++ number_member (codes "capacity") user.capacity)))

-- ---- transactions

-- the role of this end in a transaction that a lane runs
abbrev pub role_name : Side → List ℕ
role_name Sender = codes "sender"
role_name Receiver = codes "receiver"

-- a transaction's phase, as in a Report indication, or that it has ended
abbrev pub state_name : Glance → List ℕ
state_name glance = if glance.has_ended then codes "ended" else phase_name glance.phase

-- a transaction's key and its user
abbrev pub transaction_head : TransactionStatus → List Token
transaction_head t =
    text_member (codes "kind") (codes "transaction") ++ (key_members t.glance.now.key
    ++ (text_member (codes "user") t.user.now ++ number_member (codes "lane") t.lane))

-- this end's role, the other end, the class and the state
abbrev pub transaction_part : Glance → List Token
transaction_part glance =
    text_member (codes "role") (role_name glance.end) ++ (number_member (codes "peer") glance.peer.0
    ++ (number_member (codes "class") (class_number glance.class) ++ text_member (codes "state") (state_name glance)))

-- a file's names and its size, if they are known
abbrev pub file_members : Option GlancedFile → List Token
file_members None = []
file_members (Some file) =
    octets_member (codes "file") file.source_name
    ++ (octets_member (codes "to") file.destination_name ++ number_member (codes "size") file.size)

-- the transaction's file and its progress
abbrev pub transaction_file : Glance → List Token
transaction_file glance =
    file_members glance.file
    ++ (number_member (codes "octets") glance.progress ++ number_member (codes "events") glance.entries)

-- when its last indication was issued, if the server saw one
abbrev pub last_members : Option Moment → List Token
last_members None = []
last_members (Some last) = moment_member (codes "last") last

-- how it ended
abbrev pub end_members : Ending → List Token
end_members (Finished condition delivery status) = finished_members condition delivery status
end_members (Abandoned condition) = number_member (codes "condition") condition

-- the same, if the server saw the end
abbrev pub ending_members : Option Ending → List Token
ending_members None = []
ending_members (Some ending) = end_members ending

-- the name of a notice
abbrev pub notice_name : Notice → List ℕ
notice_name JournalFull = codes "journal-full"
notice_name LastNumbers = codes "last-numbers"

-- what an operator should know, if anything
abbrev pub notice_members : Option Notice → List Token
notice_members None = []
notice_members (Some notice) = text_member (codes "notice") (notice_name notice)

-- how many octets the file lacks, if that is counted
abbrev pub missing_members : Option ℕ → List Token
missing_members None = []
missing_members (Some missing) = number_member (codes "missing") missing

-- what the server saw of the transaction, a notice, and what its file lacks
abbrev pub transaction_end : TransactionStatus → List Token
transaction_end t =
    last_members t.last ++ (ending_members t.ending ++ (notice_members t.notice ++ missing_members t.missing))

-- the line of a transaction
abbrev pub transaction_line : TransactionStatus → List ℕ
transaction_line t =
    line_of (transaction_head t ++ (transaction_part t.glance.now ++ (transaction_file t.glance.now ++ transaction_end t)))

-- ---- the outbox

-- a waiting file, its user and its destination
abbrev pub queued_head : QueuedStatus → List Token
queued_head q =
    text_member (codes "kind") (codes "queued") ++ (number_member (codes "number") q.number
    ++ (text_member (codes "user") q.user.now ++ (number_member (codes "class") (class_number q.class)
    ++ number_member (codes "destination") q.destination.0)))

-- the file's names, and since when it waits
abbrev pub queued_file : QueuedStatus → List Token
queued_file q =
    octets_member (codes "file") q.file.now ++ (octets_member (codes "to") q.to.now
    ++ moment_member (codes "since") q.since)

-- the line of a file that waits
abbrev pub queued_line : QueuedStatus → List ℕ
queued_line q = line_of (queued_head q ++ queued_file q)

-- ---- files that are being read

-- which file is being read, and since when
abbrev pub reading_members : ReadingStatus → List Token
reading_members r =
    text_member (codes "kind") (codes "reading") ++ (octets_member (codes "file") r.file.now
    ++ moment_member (codes "since") r.since)

-- the line of a file that is being read
abbrev pub reading_line : ReadingStatus → List ℕ
reading_line r = line_of (reading_members r)

-- ---- received files that are to be stored

-- which file it is, and since when it is to be stored
abbrev pub storing_members : StoringStatus → List Token
storing_members s =
    text_member (codes "kind") (codes "storing") ++ (number_member (codes "source") s.source.0
    ++ (number_member (codes "seq") s.seq ++ moment_member (codes "since") s.since))

-- what hindered the last try, if there was one
abbrev pub why_members : Option (List ℕ) → List Token
why_members None = []
why_members (Some why) = text_member (codes "why") why

-- the line of a received file that is being stored, or couldn't be stored so far
abbrev pub storing_line : StoringStatus → List ℕ
storing_line s = line_of (storing_members s ++ why_members (option_copied s.why))

-- ---- lanes for which datagrams wait

-- which lane it is
abbrev pub parked_head : ParkedStatus → List Token
parked_head p =
    text_member (codes "kind") (codes "parked") ++ (text_member (codes "user") p.user.now
    ++ number_member (codes "lane") p.lane)

-- how much waits for it, and how much was dropped
abbrev pub parked_amounts : ParkedStatus → List Token
parked_amounts p =
    number_member (codes "datagrams") p.datagrams ++ (number_member (codes "transactions") p.transactions
    ++ (number_member (codes "octets") p.octets ++ number_member (codes "dropped") p.dropped))

-- since when the oldest waits, if one waits
abbrev pub since_members : Option Moment → List Token
since_members None = []
since_members (Some since) = moment_member (codes "since") since

-- the line of a lane for which datagrams wait or were dropped
abbrev pub parked_line : ParkedStatus → List ℕ
parked_line p = line_of (parked_head p ++ (parked_amounts p ++ since_members p.since))

-- ---- remote entities and refusals

-- the address of a remote entity, if it has one
abbrev pub address_members : Option (List ℕ) → List Token
address_members None = []
address_members (Some address) = text_member (codes "address") address

-- a remote entity and its address
abbrev pub remote_head : RemoteStatus → List Token
remote_head r =
    text_member (codes "kind") (codes "remote") ++ (number_member (codes "id") r.id.0
    ++ address_members (option_copied r.address))

-- whether it is held, and since when
abbrev pub held_members : Option Moment → List Token
held_members None = flag_member (codes "held") false
held_members (Some since) = flag_member (codes "held") true ++ moment_member (codes "held_since") since

-- until when its link is open, where that is for a time
abbrev pub open_members : Option Moment → List Token
open_members None = []
open_members (Some until) = moment_member (codes "open_until") until

-- how many octets a second leave for it at most, where that is limited
abbrev pub rate_members : Option ℕ → List Token
rate_members None = []
rate_members (Some rate) = number_member (codes "rate") rate

-- the counters of what is received from a remote entity and sent to it
abbrev pub crossing_members : RemoteStatus → List Token
crossing_members r =
    number_member (codes "datagrams_in") r.datagrams_in ++ (number_member (codes "octets_in") r.octets_in
    ++ (number_member (codes "datagrams_out") r.datagrams_out ++ number_member (codes "octets_out") r.octets_out))

-- when it was heard last, and how many milliseconds ago that was, if that is noted
abbrev pub heard_members : Option Heard → List Token
heard_members None = []
heard_members (Some heard) = moment_member (codes "heard") heard.at ++ number_member (codes "silence") heard.silence

-- the PDUs that weren't sent to a remote entity, and when it was heard last
abbrev pub remote_tail : RemoteStatus → List Token
remote_tail r = number_member (codes "failed_sends") r.failed_sends ++ heard_members r.heard

-- the line of a remote entity
abbrev pub remote_line : RemoteStatus → List ℕ
remote_line r =
    line_of (remote_head r ++ (held_members r.held_since ++ (open_members r.open_until
    ++ (rate_members r.rate ++ (crossing_members r ++ remote_tail r)))))

-- the line of a kind of refusal
abbrev pub refusal_line : RefusedCase → Moment → Option RefusedPdu → List ℕ
refusal_line case last pdu =
    line_of (text_member (codes "kind") (codes "refusal") ++ (case_members (codes "number") case
    ++ (moment_member (codes "last") last ++ (datagram_members case.datagram ++ pdu_members pdu))))

-- ---- notes

-- how many lanes send, how many receive, and which numbers of sending lanes would be better
abbrev pub note_members : NoteStatus → List Token
note_members n =
    text_member (codes "kind") (codes "note") ++ (number_member (codes "remote") n.remote.0
    ++ (number_member (codes "sending_lanes") n.sending_lanes
    ++ (number_member (codes "receiving_lanes") n.receiving_lanes ++ numbers_member (codes "better") n.better.now)))

-- the line of a note on a remote entity's lanes
abbrev pub note_line : NoteStatus → List ℕ
note_line n = line_of (note_members n)
