-- Meaning. The families of numbers, each with its name, its type, its help, and where its numbers stand.
use Rattle.std.specs.Prelude.{ℕ, List, [], ◌∷◌, ◌++◌, map, codes}
use Rattle.web_lines.specs.declared.families.Family.{Family}
use Rattle.web_lines.specs.declared.told.Told.{Told}
use Rattle.web_lines.specs.declared.families.Family.TheVariants.{Counter, Gauge}
use Rattle.web_lines.specs.declared.kind.Kind.{Kind}
use Rattle.web_lines.specs.declared.kind.Kind.TheVariants.{Delivered, Ended, Entity, Log, Parked, Recorder, Refusal, Remote, Store, Transaction, User}
use Rattle.web_lines.specs.Numbers.{Spot, at_counter, at_known, at_member, at_truth, spot_of}

-- what is said of a family above its numbers
pub record Head : Type 0 where
  pub name : List ℕ
  pub form : List ℕ
  pub help : List ℕ

-- numbers that only rise
abbrev pub counter : List ℕ → List ℕ → Head
counter name help = record { name = name; form = codes "counter"; help = help }

-- numbers that rise and fall
abbrev pub gauge : List ℕ → List ℕ → Head
gauge name help = record { name = name; form = codes "gauge"; help = help }

-- what is said of a family of the code
abbrev pub head_of : Family → Head
head_of (Counter name help) = counter name.now help.now
head_of (Gauge name help) = gauge name.now help.now

-- whether the station answers
abbrev pub up_head : Head
up_head = gauge (codes "cfdp_up") (codes "Whether the station answers.")

-- a family, the kind of the lines that have its numbers, and where they are there
pub record Row : Type 0 where
  pub head : Head
  pub kind : Kind
  pub spot : Spot

-- such a family
abbrev pub told_row : Head → Kind → Spot → Row
told_row head kind spot = record { head = head; kind = kind; spot = spot }

-- a row of the code's table
abbrev pub row_of : Told → Row
row_of told = told_row (head_of told.0) told.1 (spot_of told.2)

-- the families whose numbers are in lines
unfoldable pub told_rows : List Row
told_rows =
    told_row (gauge (codes "cfdp_entity_info") (codes "The entity by its number and version; always 1."))
    Entity (at_known (codes "version")) ∷
    told_row (gauge (codes "cfdp_workers") (codes "Threads that work on transactions."))
    Entity (at_member (codes "workers")) ∷
    told_row (gauge (codes "cfdp_control_clients") (codes "Clients of the control socket."))
    Entity (at_member (codes "clients")) ∷
    told_row (counter (codes "cfdp_events_total") (codes "Events since the start."))
    Entity (at_member (codes "events")) ∷
    told_row (counter (codes "cfdp_datagrams_received_total") (codes "Datagrams read from the socket."))
    Entity (at_counter (codes "datagrams_in")) ∷
    told_row (counter (codes "cfdp_received_bytes_total") (codes "Octets read from the socket."))
    Entity (at_counter (codes "octets_in")) ∷
    told_row (counter (codes "cfdp_datagrams_sent_total") (codes "Datagrams sent."))
    Entity (at_counter (codes "datagrams_out")) ∷
    told_row (counter (codes "cfdp_sent_bytes_total") (codes "Octets sent."))
    Entity (at_counter (codes "octets_out")) ∷
    told_row (counter (codes "cfdp_failed_sends_total") (codes "PDUs that were not sent."))
    Entity (at_counter (codes "failed_sends")) ∷
    told_row (counter (codes "cfdp_failed_reads_total") (codes "Reads from the socket that failed."))
    Entity (at_counter (codes "failed_reads")) ∷
    told_row (counter (codes "cfdp_foreign_datagrams_total") (codes "Datagrams from addresses that the configuration does not have."))
    Entity (at_counter (codes "foreign_datagrams")) ∷
    told_row (counter (codes "cfdp_decode_faults_total") (codes "Datagrams that are no PDU."))
    Entity (at_counter (codes "decode_faults")) ∷
    told_row (counter (codes "cfdp_refusals_total") (codes "Datagrams, commands and timers that the entity refused."))
    Entity (at_counter (codes "refused")) ∷
    told_row (counter (codes "cfdp_stored_files_total") (codes "Received files that the store kept."))
    Entity (at_counter (codes "stored")) ∷
    told_row (counter (codes "cfdp_failed_stores_total") (codes "Received files that the store did not keep."))
    Entity (at_counter (codes "failed_stores")) ∷
    told_row (counter (codes "cfdp_dropped_clients_total") (codes "Clients of the control socket that were cut because they did not read."))
    Entity (at_counter (codes "dropped_clients")) ∷
    told_row (gauge (codes "cfdp_log_failing") (codes "Whether events do not reach the log."))
    Log (at_truth (codes "failing")) ∷
    told_row (counter (codes "cfdp_log_events_written_total") (codes "Events written to the log."))
    Log (at_member (codes "written")) ∷
    told_row (counter (codes "cfdp_log_events_lost_total") (codes "Events lost because the log could not be written."))
    Log (at_member (codes "lost")) ∷
    told_row (gauge (codes "cfdp_queue_bundles") (codes "Bundles that wait in a user's queue."))
    User (at_member (codes "waiting")) ∷
    told_row (gauge (codes "cfdp_queue_capacity_bundles") (codes "Bundles that a user's queue can hold."))
    User (at_member (codes "capacity")) ∷
    told_row (gauge (codes "cfdp_parked_datagrams") (codes "Datagrams that wait until their lane can take them."))
    Parked (at_member (codes "datagrams")) ∷
    told_row (gauge (codes "cfdp_parked_transactions") (codes "Transactions of which datagrams wait for a lane."))
    Parked (at_member (codes "transactions")) ∷
    told_row (gauge (codes "cfdp_parked_octets") (codes "Room that the datagrams that wait for a lane take up."))
    Parked (at_member (codes "octets")) ∷
    told_row (counter (codes "cfdp_parked_dropped_total") (codes "Datagrams for a lane that were dropped for want of room."))
    Parked (at_member (codes "dropped")) ∷
    told_row (gauge (codes "cfdp_remote_held") (codes "Whether sending to a remote entity is held."))
    Remote (at_truth (codes "held")) ∷
    told_row (counter (codes "cfdp_remote_datagrams_received_total") (codes "Datagrams from a remote entity."))
    Remote (at_member (codes "datagrams_in")) ∷
    told_row (counter (codes "cfdp_remote_received_bytes_total") (codes "Octets from a remote entity."))
    Remote (at_member (codes "octets_in")) ∷
    told_row (counter (codes "cfdp_remote_datagrams_sent_total") (codes "Datagrams to a remote entity."))
    Remote (at_member (codes "datagrams_out")) ∷
    told_row (counter (codes "cfdp_remote_sent_bytes_total") (codes "Octets to a remote entity."))
    Remote (at_member (codes "octets_out")) ∷
    told_row (counter (codes "cfdp_remote_failed_sends_total") (codes "PDUs for a remote entity that were not sent."))
    Remote (at_member (codes "failed_sends")) ∷
    told_row (counter (codes "cfdp_refused_datagrams_total") (codes "Refusals by reason."))
    Refusal (at_member (codes "count")) ∷
    told_row (counter (codes "cfdp_recordings_kept_total") (codes "Recordings that were written."))
    Recorder (at_member (codes "kept")) ∷
    told_row (counter (codes "cfdp_recordings_missed_total") (codes "Transactions that were not recorded because their journal was gone."))
    Recorder (at_member (codes "missed")) ∷
    told_row (counter (codes "cfdp_recordings_failed_total") (codes "Recordings that could not be made or written."))
    Recorder (at_member (codes "failed")) ∷ []

-- the families of a station that counts
unfoldable pub count_rows : List Row
count_rows =
    told_row (counter (codes "cfdp_ended_transactions_total") (codes "Transactions that ended, by role, class and condition code."))
    Ended (at_member (codes "count")) ∷
    told_row (counter (codes "cfdp_delivered_files_total") (codes "Files that came whole and were retained."))
    Delivered (at_member (codes "files")) ∷
    told_row (counter (codes "cfdp_delivered_bytes_total") (codes "Octets of these files."))
    Delivered (at_member (codes "octets")) ∷
    told_row (gauge (codes "cfdp_missing_bytes") (codes "Octets that the file lacks which a lane receives."))
    Transaction (at_member (codes "missing")) ∷
    told_row (gauge (codes "cfdp_remote_silence_milliseconds") (codes "How long ago a PDU came from a remote entity."))
    Remote (at_member (codes "silence")) ∷
    told_row (gauge (codes "cfdp_last_store_microseconds") (codes "How long storing the last received file took."))
    Store (at_member (codes "microseconds")) ∷ []

-- how many transactions are in each state
abbrev pub states_head : Head
states_head =
    gauge (codes "cfdp_transactions") (codes "Transactions by state: of each lane, the one that it runs or ran last.")

-- how many files wait in the outbox
abbrev pub outbox_head : Head
outbox_head = gauge (codes "cfdp_outbox_files") (codes "Files that wait in the outbox.")

-- how many files are being read
abbrev pub reading_head : Head
reading_head = gauge (codes "cfdp_reading_files") (codes "Files that are being read for Puts.")

-- how many received files are being stored, or couldn't be stored so far
abbrev pub storing_head : Head
storing_head = gauge (codes "cfdp_storing_files") (codes "Received files that are being stored, or could not be stored so far.")

-- how many of them couldn't be stored so far
abbrev pub hindered_head : Head
hindered_head = gauge (codes "cfdp_hindered_files") (codes "Received files that could not be stored so far.")

-- the families that count lines
abbrev pub counted_heads : List Head
counted_heads = states_head ∷ outbox_head ∷ reading_head ∷ storing_head ∷ hindered_head ∷ []

-- all of them
abbrev pub all_heads : List Head
all_heads = (up_head ∷ []) ++ map (λ row. row.head) told_rows ++ counted_heads ++ map (λ row. row.head) count_rows
