-- Rows. Rows on faults: which one is declared, and what each handler does.
use Rattle.std.specs.Prelude.{◌≡◌, true, false, [], ◌∷◌, Some, refl}
use Rattle.cfdp_types.specs.declared.names.Class.TheVariants.{One, Two}
use Rattle.cfdp_types.specs.declared.names.Delivery.TheVariants.{Incomplete}
use Rattle.cfdp_types.specs.declared.names.FileStatus.TheVariants.{Discarded, Rejected}
use Rattle.cfdp_types.specs.declared.names.Handler.TheVariants.{Suspend, Ignore, Abandon}
use Rattle.cfdp_types.specs.declared.names.TimerKind.TheVariants.{Nak, Check, Inactivity}
use Rattle.cfdp_types.specs.declared.timer_op.TimerOp.TheVariants as op
use Rattle.txn_events.specs.declared.event.What.TheVariants as what
use Rattle.pdu_values.specs.Numbers.{digits}
use Rattle.pdu_values.specs.Spelling.{spelling, written}
use Rattle.pdu_values.specs.Tlvs.{width_from}
use Rattle.indications.specs.declared.indication.Indication.TheVariants as told
use Rattle.gap_list.specs.Runs.{runs_of, runs_from}
use Rattle.receiver_table.specs.Reception.{initial, step, state_of}
use Rattle.receiver_table.specs.Answers.{answer_at}
use Rattle.receiver_rows.specs.ReceptionRows.{metadata_of, file_data, eof_of, metadata, part, eof, finished_acknowledged, some_octets, after, last, tells, sends, operates, class_one, class_two, one_with, two_with, two_at}

-- ---- faults of the file, with handler Cancel

-- more octets than the EOF's size
pub beyond_the_size : tells (last class_one (file_data One 0 (some_octets 5) ∷ []) (eof One))
    ≡ Some (told.EofRecv ∷ told.TransactionFinished 6 Incomplete Discarded ∷ [])
unfolding initial step state_of answer_at runs_of runs_from digits
beyond_the_size = refl

pub beyond_the_size_finished : sends (last class_two (file_data Two 0 (some_octets 5) ∷ []) (eof Two))
    ≡ Some (digits 10 0x28000300010502064001 ∷ digits 12 0x280005000105020564060102 ∷ [])
unfolding initial step state_of answer_at runs_of runs_from written spelling digits width_from
beyond_the_size_finished = refl

pub beyond_by_a_later_part : tells (last class_one (metadata One ∷ eof One ∷ []) (file_data One 3 (0 ∷ [])))
    ≡ Some (told.FileSegmentRecv 3 1 ∷ told.TransactionFinished 6 Incomplete Discarded ∷ [])
unfolding initial step state_of answer_at runs_of runs_from digits
beyond_by_a_later_part = refl

-- also where the checksum is wrong too
pub beyond_before_checksum : tells (last class_one (metadata One ∷ file_data One 0 (some_octets 5) ∷ []) (eof One))
    ≡ Some (told.EofRecv ∷ told.TransactionFinished 6 Incomplete Discarded ∷ [])
unfolding initial step state_of answer_at runs_of runs_from digits
beyond_before_checksum = refl

-- a wrong checksum
pub other_checksum : tells (last class_one (metadata One ∷ part One ∷ []) (eof_of One 0 0x6162_6301 3))
    ≡ Some (told.EofRecv ∷ told.TransactionFinished 5 Incomplete Discarded ∷ [])
unfolding initial step state_of answer_at runs_of runs_from digits
other_checksum = refl

pub other_checksum_finished : sends (last class_two (metadata Two ∷ part Two ∷ []) (eof_of Two 0 0x6162_6301 3))
    ≡ Some (digits 10 0x28000300010502064001 ∷ digits 12 0x280005000105020554060102 ∷ [])
unfolding initial step state_of answer_at runs_of runs_from written spelling digits width_from
other_checksum_finished = refl

-- a checksum type that is not supported: the Finished PDU names no entity
pub other_type : tells (last class_one [] (metadata_of One 1 3))
    ≡ Some (told.MetadataRecv (record { source = record { 0 = 1 }; size = 3; source_name = 97 ∷ []; destination_name = 98 ∷ []; messages = [] }) ∷ told.TransactionFinished 11 Incomplete Discarded ∷ [])
unfolding initial step state_of answer_at runs_of runs_from digits
other_type = refl

pub other_type_finished : sends (last class_two [] (metadata_of Two 14 3)) ≡ Some (digits 9 0x2800020001050205b4 ∷ [])
unfolding initial step state_of answer_at runs_of runs_from written spelling digits width_from
other_type_finished = refl

-- of several faults the first is declared
pub other_type_first : tells (last class_two (part Two ∷ what.Suspend ∷ metadata_of Two 1 3 ∷ eof_of Two 0 0 2 ∷ []) what.Resume)
    ≡ Some (told.Resumed 3 ∷ [])
unfolding initial step state_of answer_at runs_of runs_from digits
other_type_first = refl

pub other_type_first_finished : sends (last class_two (part Two ∷ what.Suspend ∷ metadata_of Two 1 3 ∷ eof_of Two 0 0 2 ∷ []) what.Resume)
    ≡ Some (digits 9 0x2800020001050205b4 ∷ [])
unfolding initial step state_of answer_at runs_of runs_from written spelling digits width_from
other_type_first_finished = refl

-- the file store rejects the file
pub rejected : tells (last class_one (metadata One ∷ part One ∷ eof One ∷ []) (what.Stored 2 false))
    ≡ Some (told.TransactionFinished 4 Incomplete Rejected ∷ [])
unfolding initial step state_of answer_at runs_of runs_from digits
rejected = refl

pub rejected_finished : sends (last class_two (metadata Two ∷ part Two ∷ eof Two ∷ []) (what.Stored 2 false))
    ≡ Some (digits 12 0x280005000105020545060102 ∷ [])
unfolding initial step state_of answer_at runs_of runs_from written spelling digits width_from
rejected_finished = refl

pub rejected_acknowledged : tells (last class_two (metadata Two ∷ part Two ∷ eof Two ∷ what.Stored 2 false ∷ []) (finished_acknowledged 4))
    ≡ Some (told.TransactionFinished 4 Incomplete Rejected ∷ [])
unfolding initial step state_of answer_at runs_of runs_from digits
rejected_acknowledged = refl

-- a rejection is handled by its handler too
pub rejection_abandons : tells (last (one_with 4 Abandon) (metadata One ∷ part One ∷ eof One ∷ []) (what.Stored 2 false)) ≡ Some (told.Abandoned 4 3 ∷ [])
unfolding initial step state_of answer_at runs_of runs_from digits
rejection_abandons = refl

-- ---- limits, with handler Cancel

-- the sender is inactive
pub inactive : tells (last class_one (metadata One ∷ []) (what.Timer Inactivity 0))
    ≡ Some (told.TransactionFinished 8 Incomplete Discarded ∷ [])
unfolding initial step state_of answer_at runs_of runs_from digits
inactive = refl

pub inactive_finished : sends (last class_two (metadata Two ∷ []) (what.Timer Inactivity 0))
    ≡ Some (digits 12 0x280005000105020584060102 ∷ [])
unfolding initial step state_of answer_at runs_of runs_from written spelling digits width_from
inactive_finished = refl

-- the Finished PDU names this entity by its configured ID, not by the header's destination
pub location_is_this_entity : sends (last (two_at 7) (metadata Two ∷ []) (what.Timer Inactivity 0))
    ≡ Some (digits 12 0x280005000105020584060107 ∷ [])
unfolding initial step state_of answer_at runs_of runs_from written spelling digits width_from
location_is_this_entity = refl

pub location_of_a_cancel : sends (last (two_at 7) (metadata Two ∷ []) what.Cancel) ≡ Some (digits 12 0x2800050001050205f4060107 ∷ [])
unfolding initial step state_of answer_at runs_of runs_from written spelling digits width_from
location_of_a_cancel = refl

pub location_of_two_octets : sends (last (two_at 300) (metadata Two ∷ []) (what.Timer Inactivity 0))
    ≡ Some (digits 13 0x2800060001050205840602012c ∷ [])
unfolding initial step state_of answer_at runs_of runs_from written spelling digits width_from
location_of_two_octets = refl

pub no_location_without_a_fault : sends (last (two_at 7) (metadata Two ∷ part Two ∷ eof Two ∷ []) (what.Stored 2 true))
    ≡ Some (digits 9 0x280002000105020502 ∷ [])
unfolding initial step state_of answer_at runs_of runs_from written spelling digits width_from
no_location_without_a_fault = refl

-- the rest of the file is never received, in class 1 and in class 2
pub check_limit_reached : tells (last class_one (eof One ∷ what.Timer Check 0 ∷ []) (what.Timer Check 1))
    ≡ Some (told.TransactionFinished 10 Incomplete Discarded ∷ [])
unfolding initial step state_of answer_at runs_of runs_from digits
check_limit_reached = refl

pub check_counted_on_with_more : tells (last class_one (metadata One ∷ eof_of One 0 0 5 ∷ what.Timer Check 1 ∷ part One ∷ []) (what.Timer Check 2))
    ≡ Some (told.TransactionFinished 10 Incomplete Discarded ∷ [])
unfolding initial step state_of answer_at runs_of runs_from digits
check_counted_on_with_more = refl

-- neither Metadata nor an EOF begins the count of Check again
pub check_counted_on_with_metadata : tells (last class_one (eof One ∷ what.Timer Check 0 ∷ metadata One ∷ []) (what.Timer Check 1))
    ≡ Some (told.TransactionFinished 10 Incomplete Discarded ∷ [])
unfolding initial step state_of answer_at runs_of runs_from digits
check_counted_on_with_metadata = refl

pub check_counted_on_with_eof : tells (last class_one (eof One ∷ what.Timer Check 0 ∷ eof One ∷ []) (what.Timer Check 1))
    ≡ Some (told.TransactionFinished 10 Incomplete Discarded ∷ [])
unfolding initial step state_of answer_at runs_of runs_from digits
check_counted_on_with_eof = refl

-- expirations of Check send nothing
pub check_sends_nothing : sends (last class_one (eof One ∷ []) (what.Timer Check 0)) ≡ Some []
unfolding initial step state_of answer_at runs_of runs_from written spelling digits width_from
check_sends_nothing = refl

pub nak_limit_reached : sends (last class_two (part Two ∷ eof Two ∷ what.Timer Nak 1 ∷ []) (what.Timer Nak 2))
    ≡ Some (digits 12 0x280005000105020574060102 ∷ [])
unfolding initial step state_of answer_at runs_of runs_from written spelling digits width_from
nak_limit_reached = refl

-- ---- handler Ignore: the fault is indicated, with the progress

-- the fault comes at the limit, and then the count begins again
pub below_the_check_limit : tells (last (one_with 10 Ignore) (eof One ∷ []) (what.Timer Check 0)) ≡ Some []
unfolding initial step state_of answer_at runs_of runs_from digits
below_the_check_limit = refl

pub at_the_check_limit : tells (last (one_with 10 Ignore) (eof One ∷ what.Timer Check 0 ∷ []) (what.Timer Check 1))
    ≡ Some (told.Fault 10 0 ∷ [])
unfolding initial step state_of answer_at runs_of runs_from digits
at_the_check_limit = refl

pub counted_again : tells (last (one_with 10 Ignore) (eof One ∷ what.Timer Check 0 ∷ what.Timer Check 1 ∷ []) (what.Timer Check 2))
    ≡ Some []
unfolding initial step state_of answer_at runs_of runs_from digits
counted_again = refl

pub inactivity_ignored : tells (last (two_with 8 Ignore) (metadata Two ∷ part Two ∷ []) (what.Timer Inactivity 1))
    ≡ Some (told.Fault 8 3 ∷ [])
unfolding initial step state_of answer_at runs_of runs_from digits
inactivity_ignored = refl

-- the ignored fault's timer is armed again
pub inactivity_ignored_arms : operates (last (two_with 8 Ignore) (metadata Two ∷ part Two ∷ []) (what.Timer Inactivity 1))
    ≡ Some (op.Arm class_two.key Inactivity 2 1000 ∷ [])
unfolding initial step state_of answer_at runs_of runs_from digits
inactivity_ignored_arms = refl

-- an ignored fault of Nak sends no NAK
pub nak_ignored_sends_nothing : sends (last (two_with 7 Ignore) (part Two ∷ eof Two ∷ what.Timer Nak 1 ∷ []) (what.Timer Nak 2)) ≡ Some []
unfolding initial step state_of answer_at runs_of runs_from written spelling digits width_from
nak_ignored_sends_nothing = refl

pub nak_ignored_arms : operates (last (two_with 7 Ignore) (part Two ∷ eof Two ∷ what.Timer Nak 1 ∷ []) (what.Timer Nak 2))
    ≡ Some (op.Arm class_two.key Nak 3 1000 ∷ [])
unfolding initial step state_of answer_at runs_of runs_from digits
nak_ignored_arms = refl

pub check_ignored_arms : operates (last (one_with 10 Ignore) (eof One ∷ what.Timer Check 0 ∷ []) (what.Timer Check 1))
    ≡ Some (op.Arm class_one.key Check 2 1000 ∷ [])
unfolding initial step state_of answer_at runs_of runs_from digits
check_ignored_arms = refl

-- ---- handler Abandon: the transaction is over at once, and nothing is sent

pub inactivity_abandons : tells (last (one_with 8 Abandon) (metadata One ∷ []) (what.Timer Inactivity 0)) ≡ Some (told.Abandoned 8 0 ∷ [])
unfolding initial step state_of answer_at runs_of runs_from digits
inactivity_abandons = refl

pub inactivity_abandons_with_progress : tells (last (two_with 8 Abandon) (metadata Two ∷ part Two ∷ []) (what.Timer Inactivity 1))
    ≡ Some (told.Abandoned 8 3 ∷ [])
unfolding initial step state_of answer_at runs_of runs_from digits
inactivity_abandons_with_progress = refl

pub abandoned_sends_nothing : sends (last (two_with 8 Abandon) (metadata Two ∷ part Two ∷ []) (what.Timer Inactivity 1)) ≡ Some []
unfolding initial step state_of answer_at runs_of runs_from written spelling digits width_from
abandoned_sends_nothing = refl

-- also for a fault of the file: its EOF is acknowledged as that of a terminated transaction
pub checksum_abandons : tells (last (two_with 5 Abandon) (metadata Two ∷ part Two ∷ []) (eof_of Two 0 0x6162_6301 3))
    ≡ Some (told.EofRecv ∷ told.Abandoned 5 3 ∷ [])
unfolding initial step state_of answer_at runs_of runs_from digits
checksum_abandons = refl

pub checksum_abandoned_acknowledged : sends (last (two_with 5 Abandon) (metadata Two ∷ part Two ∷ []) (eof_of Two 0 0x6162_6301 3))
    ≡ Some (digits 10 0x28000300010502064002 ∷ [])
unfolding initial step state_of answer_at runs_of runs_from written spelling digits width_from
checksum_abandoned_acknowledged = refl

-- ---- handler Suspend

-- the reception is suspended, and nothing is sent
pub nak_limit_suspends : tells (last (two_with 7 Suspend) (part Two ∷ eof Two ∷ what.Timer Nak 1 ∷ []) (what.Timer Nak 2))
    ≡ Some (told.Suspended 7 ∷ [])
unfolding initial step state_of answer_at runs_of runs_from digits
nak_limit_suspends = refl

pub nothing_sent_suspending : sends (last (two_with 7 Suspend) (part Two ∷ eof Two ∷ what.Timer Nak 1 ∷ []) (what.Timer Nak 2)) ≡ Some []
unfolding initial step state_of answer_at runs_of runs_from written spelling digits width_from
nothing_sent_suspending = refl

-- no timer runs while it is suspended
pub nak_limit_suspended_disarms : operates (last (two_with 7 Suspend) (part Two ∷ eof Two ∷ what.Timer Nak 1 ∷ []) (what.Timer Nak 2))
    ≡ Some (op.Disarm class_two.key Nak 3 ∷ op.Disarm class_two.key Inactivity 3 ∷ [])
unfolding initial step state_of answer_at runs_of runs_from digits
nak_limit_suspended_disarms = refl

-- PDUs received while it is suspended leave the count of Inactivity, and Resume begins it again
pub inactivity_counted_on_with_metadata : (state_of (after (two_with 8 Suspend) (part Two ∷ what.Timer Inactivity 0 ∷ metadata Two ∷ []))).tries Inactivity
    ≡ 1
unfolding initial step state_of runs_of runs_from
inactivity_counted_on_with_metadata = refl

pub inactivity_counted_on_with_eof : (state_of (after (two_with 8 Suspend) (part Two ∷ what.Timer Inactivity 0 ∷ eof Two ∷ []))).tries Inactivity ≡ 1
unfolding initial step state_of runs_of runs_from
inactivity_counted_on_with_eof = refl

pub inactivity_counted_on_with_a_part : (state_of (after (two_with 8 Suspend) (metadata Two ∷ what.Timer Inactivity 0 ∷ part Two ∷ []))).tries Inactivity
    ≡ 1
unfolding initial step state_of runs_of runs_from
inactivity_counted_on_with_a_part = refl

pub inactivity_counted_anew : (state_of (after (two_with 8 Suspend) (metadata Two ∷ what.Timer Inactivity 0 ∷ what.Resume ∷ []))).tries Inactivity
    ≡ 0
unfolding initial step state_of runs_of runs_from
inactivity_counted_anew = refl

-- ---- which table is used

-- class 2 uses its own table, and class 1 its own
pub table_of_class_two : tells (last (two_with 8 Abandon) (metadata Two ∷ []) (what.Timer Inactivity 0)) ≡ Some (told.Abandoned 8 0 ∷ [])
unfolding initial step state_of answer_at runs_of runs_from digits
table_of_class_two = refl

pub table_of_class_one : tells (last (record class_one { params = (two_with 8 Abandon).params }) (metadata One ∷ []) (what.Timer Inactivity 0))
    ≡ Some (told.TransactionFinished 8 Incomplete Discarded ∷ [])
unfolding initial step state_of answer_at runs_of runs_from digits
table_of_class_one = refl
