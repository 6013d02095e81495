-- Rows. Rows on a class 1 reception whose sender requests transaction closure.
use Rattle.std.specs.Prelude.{◌≡◌, true, List, [], ◌∷◌, Some, refl}
use Rattle.cfdp_types.specs.declared.names.Class.TheVariants.{One, Two}
use Rattle.cfdp_types.specs.declared.names.Delivery.TheVariants.{Complete, Incomplete}
use Rattle.cfdp_types.specs.declared.names.FileStatus.TheVariants.{Discarded, Retained}
use Rattle.cfdp_types.specs.declared.names.Handler.TheVariants.{Abandon}
use Rattle.cfdp_types.specs.declared.names.TimerKind.TheVariants.{Check, Inactivity}
use Rattle.txn_events.specs.declared.event.What.{What}
use Rattle.txn_events.specs.declared.event.What.TheVariants as what
use Rattle.txn_events.specs.Examples.{metadata_value}
use Rattle.pdu_values.specs.Numbers.{digits}
use Rattle.pdu_values.specs.Spelling.{spelling, written}
use Rattle.pdu_values.specs.Tlvs.{width_from}
use Rattle.pdu_values.specs.declared.pdu.Body.TheVariants as body
use Rattle.indications.specs.declared.indication.Indication.TheVariants as told
use Rattle.gap_list.specs.Runs.{runs_of, runs_from}
use Rattle.receiver_table.specs.Reception.{initial, step, state_of, issued}
use Rattle.receiver_table.specs.Answers.{answer_at}
use Rattle.receiver_laws.specs.LegalReceptions.{IsLegal}
use Rattle.receiver_rows.specs.ReceptionRows.{class_one, class_two, one_with, pdu, metadata, part, eof, eof_of, after, last, tells, sends, hands_out}

-- Metadata that requests closure
abbrev pub closing_metadata : What
closing_metadata = pdu One (body.Metadata (record (metadata_value 0 3) { closure = true }))

abbrev pub closed_one : List What
closed_one = closing_metadata ∷ part One ∷ eof One ∷ what.Stored 2 true ∷ []

pub stored_sends_finished : sends (last class_one (closing_metadata ∷ part One ∷ eof One ∷ []) (what.Stored 2 true)) ≡ Some (digits 9 0x2c0002000105020502 ∷ [])
unfolding initial step state_of answer_at runs_of runs_from written spelling digits width_from
stored_sends_finished = refl

pub closed_one_told : issued (after class_one closed_one)
    ≡ told.MetadataRecv (record { source = record { 0 = 1 }; size = 3; source_name = 97 ∷ []; destination_name = 98 ∷ []; messages = [] }) ∷ told.FileSegmentRecv 0 3 ∷ told.EofRecv ∷ told.TransactionFinished 0 Complete Retained ∷ []
unfolding initial step state_of runs_of runs_from
closed_one_told = refl

pub closed_one_legal : IsLegal class_one (after class_one closed_one)
unfolding initial step state_of answer_at runs_of runs_from
closed_one_legal = (refl, tt, refl, (refl, tt, refl, (refl, tt, refl, (refl, (refl, refl, refl, refl), refl, tt))))

-- a wrong checksum
pub fault_sends_finished : sends (last class_one (closing_metadata ∷ part One ∷ []) (eof_of One 0 0x6162_6301 3)) ≡ Some (digits 12 0x2c0005000105020554060102 ∷ [])
unfolding initial step state_of answer_at runs_of runs_from written spelling digits width_from
fault_sends_finished = refl

pub fault_told : tells (last class_one (closing_metadata ∷ part One ∷ []) (eof_of One 0 0x6162_6301 3)) ≡ Some (told.EofRecv ∷ told.TransactionFinished 5 Incomplete Discarded ∷ [])
unfolding initial step state_of answer_at runs_of runs_from
fault_told = refl

pub fault_hands_nothing : hands_out (last class_one (closing_metadata ∷ part One ∷ []) (eof_of One 0 0x6162_6301 3)) ≡ Some []
unfolding initial step state_of answer_at runs_of runs_from
fault_hands_nothing = refl

-- the event's own Metadata counts: here its checksum type is not supported
pub own_metadata_counts : sends (last class_one [] (pdu One (body.Metadata (record (metadata_value 1 3) { closure = true })))) ≡ Some (digits 9 0x2c00020001050205b4 ∷ [])
unfolding initial step state_of answer_at runs_of runs_from written spelling digits width_from
own_metadata_counts = refl

-- the user cancels; an EOF that cancels, and Abandon, send nothing
pub cancel_sends_finished : sends (last class_one (closing_metadata ∷ []) what.Cancel) ≡ Some (digits 12 0x2c00050001050205f4060102 ∷ [])
unfolding initial step state_of answer_at runs_of runs_from written spelling digits width_from
cancel_sends_finished = refl

pub cancelled_by_sender : sends (last class_one (closing_metadata ∷ []) (eof_of One 15 0 0)) ≡ Some []
unfolding initial step state_of answer_at runs_of runs_from written spelling digits width_from
cancelled_by_sender = refl

pub abandoned_silently : sends (last class_one (closing_metadata ∷ []) what.Abandon) ≡ Some []
unfolding initial step state_of answer_at runs_of runs_from written spelling digits width_from
abandoned_silently = refl

-- Metadata may be received after octets of the file, or last of all
pub data_first_sends : sends (last class_one (part One ∷ closing_metadata ∷ eof One ∷ []) (what.Stored 2 true)) ≡ Some (digits 9 0x2c0002000105020502 ∷ [])
unfolding initial step state_of answer_at runs_of runs_from written spelling digits width_from
data_first_sends = refl

pub metadata_last_hands_out : hands_out (last class_one (part One ∷ eof One ∷ []) closing_metadata) ≡ Some (2 ∷ [])
unfolding initial step state_of answer_at runs_of runs_from
metadata_last_hands_out = refl

pub metadata_last_sends : sends (last class_one (part One ∷ eof One ∷ closing_metadata ∷ []) (what.Stored 2 true)) ≡ Some (digits 9 0x2c0002000105020502 ∷ [])
unfolding initial step state_of answer_at runs_of runs_from written spelling digits width_from
metadata_last_sends = refl

-- later Metadata with the other closure bit changes nothing
pub first_asks : sends (last class_one (closing_metadata ∷ metadata One ∷ part One ∷ eof One ∷ []) (what.Stored 3 true)) ≡ Some (digits 9 0x2c0002000105020502 ∷ [])
unfolding initial step state_of answer_at runs_of runs_from written spelling digits width_from
first_asks = refl

pub later_asks_in_vain : sends (last class_one (metadata One ∷ closing_metadata ∷ part One ∷ eof One ∷ []) (what.Stored 3 true)) ≡ Some []
unfolding initial step state_of answer_at runs_of runs_from written spelling digits width_from
later_asks_in_vain = refl

-- without Metadata, no closure is requested
pub cancelled_without_metadata : sends (last class_one (part One ∷ []) what.Cancel) ≡ Some []
unfolding initial step state_of answer_at runs_of runs_from written spelling digits width_from
cancelled_without_metadata = refl

-- ---- each end by a handler that cancels

pub size_fault_sends : sends (last class_one (closing_metadata ∷ part One ∷ []) (eof_of One 0 0x6162_6300 2)) ≡ Some (digits 12 0x2c0005000105020564060102 ∷ [])
unfolding initial step state_of answer_at runs_of runs_from written spelling digits width_from
size_fault_sends = refl

pub inactivity_sends : sends (last class_one (closing_metadata ∷ []) (what.Timer Inactivity 0)) ≡ Some (digits 12 0x2c0005000105020584060102 ∷ [])
unfolding initial step state_of answer_at runs_of runs_from written spelling digits width_from
inactivity_sends = refl

pub check_limit_sends : sends (last class_one (closing_metadata ∷ eof One ∷ what.Timer Check 1 ∷ []) (what.Timer Check 2)) ≡ Some (digits 12 0x2c00050001050205a4060102 ∷ [])
unfolding initial step state_of answer_at runs_of runs_from written spelling digits width_from
check_limit_sends = refl

-- a handler that abandons sends nothing
pub abandoned_by_handler : sends (last (one_with 8 Abandon) (closing_metadata ∷ []) (what.Timer Inactivity 0)) ≡ Some []
unfolding initial step state_of answer_at runs_of runs_from written spelling digits width_from
abandoned_by_handler = refl

-- in class 2 the closure bit changes nothing
abbrev pub closing_in_two : What
closing_in_two = pdu Two (body.Metadata (record (metadata_value 0 3) { closure = true }))

pub same_in_two : last class_two (closing_in_two ∷ part Two ∷ eof Two ∷ []) (what.Stored 2 true) ≡ last class_two (metadata Two ∷ part Two ∷ eof Two ∷ []) (what.Stored 2 true)
unfolding initial step state_of answer_at runs_of runs_from written spelling digits width_from
same_in_two = refl
