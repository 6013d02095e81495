-- Rows. Rows on the file: what is indicated, when the file is handed to the file store, and what is kept of duplicates.
use Rattle.std.specs.Prelude.{◌≡◌, true, List, [], ◌∷◌, ◌++◌, Some, Ok, Err, refl}
use Rattle.cfdp_types.specs.declared.names.Class.{Class}
use Rattle.cfdp_types.specs.declared.names.Class.TheVariants.{One, Two}
use Rattle.cfdp_types.specs.declared.names.Delivery.TheVariants.{Incomplete}
use Rattle.cfdp_types.specs.declared.names.FileStatus.TheVariants.{Discarded}
use Rattle.txn_events.specs.declared.event.What.{What}
use Rattle.txn_events.specs.declared.event.What.TheVariants as what
use Rattle.txn_events.specs.declared.refusal.Refusal.TheVariants as refusal
use Rattle.pdu_values.specs.Numbers.{digits}
use Rattle.pdu_values.specs.Spelling.{spelling, written}
use Rattle.pdu_values.specs.Tlvs.{width_from}
use Rattle.pdu_values.specs.declared.pdu.Body.TheVariants as body
use Rattle.indications.specs.declared.indication.Indication.TheVariants as told
use Rattle.indications.specs.declared.indication.Phase.TheVariants as phase
use Rattle.gap_list.specs.Runs.{runs_of, runs_from}
use Rattle.receiver_table.specs.Reception.{initial, step, state_of, issued}
use Rattle.receiver_table.specs.Answers.{answer_at}
use Rattle.receiver_table.specs.Images.{image_at}
use Rattle.receiver_rows.specs.ReceptionRows.{pdu, metadata_value, metadata_of, file_data, eof_of, abc, metadata, part, eof, some_octets, after, last, tells, sends, hands_out, deposits, class_one, class_two}

-- ---- handing the file to the file store

-- the EOF hands the file over, with its own entry number as the stamp
pub handed_out : hands_out (last class_one (metadata One ∷ part One ∷ []) (eof One)) ≡ Some (2 ∷ [])
unfolding initial step state_of answer_at runs_of runs_from digits
handed_out = refl

-- the deposit has the reception's key
pub deposit_with_key : deposits (last class_one (metadata One ∷ part One ∷ []) (eof One))
    ≡ Some (Some (record { key = record { source = record { 0 = 1 }; seq = 5 }; stamp = 2 }))
unfolding initial step state_of answer_at runs_of runs_from digits
deposit_with_key = refl

pub deposit_on_resume : deposits (last class_two (metadata Two ∷ eof Two ∷ what.Suspend ∷ part Two ∷ []) what.Resume)
    ≡ Some (Some (record { key = record { source = record { 0 = 1 }; seq = 5 }; stamp = 4 }))
unfolding initial step state_of answer_at runs_of runs_from digits
deposit_on_resume = refl

-- so does the last segment, and so does Metadata that is received last: then nothing is sent
pub handed_out_by_part : hands_out (last class_two (metadata Two ∷ eof Two ∷ []) (part Two)) ≡ Some (2 ∷ [])
unfolding initial step state_of answer_at runs_of runs_from digits
handed_out_by_part = refl

pub handed_out_by_metadata : hands_out (last class_two (part Two ∷ eof Two ∷ []) (metadata Two)) ≡ Some (2 ∷ [])
unfolding initial step state_of answer_at runs_of runs_from digits
handed_out_by_metadata = refl

pub nothing_sent_then : sends (last class_two (part Two ∷ eof Two ∷ []) (metadata Two)) ≡ Some []
unfolding initial step state_of answer_at runs_of runs_from written spelling digits width_from
nothing_sent_then = refl

-- an empty file is handed over at once
pub empty_handed_out : hands_out (last class_one (metadata_of One 0 0 ∷ []) (eof_of One 0 0 0)) ≡ Some (1 ∷ [])
unfolding initial step state_of answer_at runs_of runs_from digits
empty_handed_out = refl

pub empty_eof_told : tells (last class_one (metadata_of One 0 0 ∷ []) (eof_of One 0 0 0)) ≡ Some (told.EofRecv ∷ [])
unfolding initial step state_of answer_at runs_of runs_from digits
empty_eof_told = refl

-- not with a wrong checksum
pub nothing_handed_out : hands_out (last class_one (metadata One ∷ part One ∷ []) (eof_of One 0 0x6162_6301 3)) ≡ Some []
unfolding initial step state_of answer_at runs_of runs_from digits
nothing_handed_out = refl

-- nor before its Metadata was received, or while an octet is missing
pub not_handed_out_without_metadata : hands_out (last class_one (part One ∷ []) (eof One)) ≡ Some []
unfolding initial step state_of answer_at runs_of runs_from digits
not_handed_out_without_metadata = refl

pub not_handed_out_with_a_gap : hands_out (last class_one (metadata One ∷ file_data One 0 (97 ∷ []) ∷ file_data One 2 (99 ∷ []) ∷ []) (eof One))
    ≡ Some []
unfolding initial step state_of answer_at runs_of runs_from digits
not_handed_out_with_a_gap = refl

-- nor while only the last octet is missing
pub not_handed_out_without_the_last_octet : hands_out (last class_one (metadata One ∷ file_data One 0 (97 ∷ 98 ∷ []) ∷ []) (eof_of One 0 0x6162_0000 3))
    ≡ Some []
unfolding initial step state_of answer_at runs_of runs_from digits
not_handed_out_without_the_last_octet = refl

pub not_handed_out_without_the_last_octet_in_class_two : hands_out (last class_two (metadata Two ∷ file_data Two 0 (97 ∷ 98 ∷ []) ∷ []) (eof_of Two 0 0x6162_0000 3))
    ≡ Some []
unfolding initial step state_of answer_at runs_of runs_from digits
not_handed_out_without_the_last_octet_in_class_two = refl

-- ---- indications

-- only new octets are indicated: those in the gap between two segments, and those on both sides of one
pub gap_told : tells (last class_one (file_data One 0 (some_octets 4) ∷ file_data One 8 (some_octets 4) ∷ []) (file_data One 2 (some_octets 8)))
    ≡ Some (told.FileSegmentRecv 4 4 ∷ [])
unfolding initial step state_of answer_at runs_of runs_from digits
gap_told = refl

pub two_gaps_told : tells (last class_one (file_data One 0 (some_octets 2) ∷ file_data One 4 (some_octets 2) ∷ []) (file_data One 0 (some_octets 8)))
    ≡ Some (told.FileSegmentRecv 2 2 ∷ told.FileSegmentRecv 6 2 ∷ [])
unfolding initial step state_of answer_at runs_of runs_from digits
two_gaps_told = refl

-- octets received before are not, and File Data without octets gives no indication
pub nothing_new_told : tells (last class_one (part One ∷ []) (part One)) ≡ Some []
unfolding initial step state_of answer_at runs_of runs_from digits
nothing_new_told = refl

pub no_octets : tells (last class_one [] (file_data One 0 [])) ≡ Some []
unfolding initial step state_of answer_at runs_of runs_from digits
no_octets = refl

-- Metadata is indicated with its messages to the user
pub messages_told : tells (last class_two [] (pdu Two (body.Metadata (record (metadata_value 0 3) { closure = true; messages = (109 ∷ []) ∷ [] ∷ [] }))))
    ≡ Some (told.MetadataRecv (record { source = record { 0 = 1 }; size = 3; source_name = 97 ∷ []; destination_name = 98 ∷ []; messages = (109 ∷ []) ∷ [] ∷ [] }) ∷ [])
unfolding initial step state_of answer_at runs_of runs_from digits
messages_told = refl

-- ---- progress

-- one more than the greatest offset received, in whatever order
pub reported : tells (last class_one (metadata One ∷ part One ∷ []) what.Report) ≡ Some (told.Report phase.Active 3 ∷ [])
unfolding initial step state_of answer_at runs_of runs_from digits
reported = refl

pub reported_after_a_lower_part : tells (last class_one (file_data One 8 (some_octets 4) ∷ file_data One 0 (some_octets 4) ∷ []) what.Report)
    ≡ Some (told.Report phase.Active 12 ∷ [])
unfolding initial step state_of answer_at runs_of runs_from digits
reported_after_a_lower_part = refl

pub reported_after_no_octets : tells (last class_one (file_data One 8 [] ∷ []) what.Report) ≡ Some (told.Report phase.Active 0 ∷ [])
unfolding initial step state_of answer_at runs_of runs_from digits
reported_after_no_octets = refl

-- ---- duplicates

-- Metadata and EOF are each indicated only once
pub told_once : issued (after class_two (metadata Two ∷ metadata_of Two 1 9 ∷ eof Two ∷ eof Two ∷ []))
    ≡ told.MetadataRecv (record { source = record { 0 = 1 }; size = 3; source_name = 97 ∷ []; destination_name = 98 ∷ []; messages = [] }) ∷ told.EofRecv ∷ []
unfolding initial step state_of runs_of runs_from
told_once = refl

-- the first Metadata, the first EOF and the first octet of each offset count
pub first_metadata_counts : hands_out (last class_two (metadata Two ∷ metadata_of Two 1 9 ∷ part Two ∷ []) (eof Two)) ≡ Some (3 ∷ [])
unfolding initial step state_of answer_at runs_of runs_from digits
first_metadata_counts = refl

pub first_eof_counts : hands_out (last class_two (metadata Two ∷ eof Two ∷ eof_of Two 0 1 2 ∷ []) (part Two)) ≡ Some (3 ∷ [])
unfolding initial step state_of answer_at runs_of runs_from digits
first_eof_counts = refl

pub first_octets_count : hands_out (last class_two (metadata Two ∷ part Two ∷ file_data Two 0 (1 ∷ 2 ∷ 3 ∷ []) ∷ []) (eof Two))
    ≡ Some (3 ∷ [])
unfolding initial step state_of answer_at runs_of runs_from digits
first_octets_count = refl

-- the octet in the middle first, and then all three with another octet in the middle
abbrev pub middle_first : Class → List What
middle_first class = file_data class 1 (98 ∷ []) ∷ file_data class 0 (97 ∷ 1 ∷ 99 ∷ []) ∷ []

-- the checksum is that of the first octets, not of the later ones
pub first_octets_count_in_the_sum : hands_out (last class_two (metadata Two ∷ middle_first Two) (eof Two))
    ≡ Some (3 ∷ [])
unfolding initial step state_of answer_at runs_of runs_from digits
first_octets_count_in_the_sum = refl

pub later_octets_do_not_count : tells (last class_one (metadata One ∷ middle_first One) (eof_of One 0 0x6101_6300 3))
    ≡ Some (told.EofRecv ∷ told.TransactionFinished 5 Incomplete Discarded ∷ [])
unfolding initial step state_of answer_at runs_of runs_from digits
later_octets_do_not_count = refl

-- a later EOF is acknowledged too
pub later_eof_acknowledged : sends (last class_two (metadata Two ∷ eof Two ∷ []) (eof_of Two 0 1 2))
    ≡ Some (digits 10 0x28000300010502064001 ∷ [])
unfolding initial step state_of answer_at runs_of runs_from written spelling digits width_from
later_eof_acknowledged = refl

-- ---- the image

-- the names and the octets, for the stamp of the waiting deposit
pub image_given : image_at (state_of (after class_one (metadata One ∷ part One ∷ eof One ∷ []))) 2
    ≡ Ok (record { source_name = 97 ∷ []; destination_name = 98 ∷ []; octets = abc })
unfolding initial step state_of runs_of runs_from
image_given = refl

-- up to the EOF's size, whether Metadata gave a greater or a lower one
pub image_of_the_eof_size : image_at (state_of (after class_one (metadata_of One 0 9 ∷ part One ∷ eof One ∷ []))) 2
    ≡ Ok (record { source_name = 97 ∷ []; destination_name = 98 ∷ []; octets = abc })
unfolding initial step state_of runs_of runs_from
image_of_the_eof_size = refl

pub image_past_the_metadata_size : image_at (state_of (after class_one (metadata_of One 0 2 ∷ part One ∷ eof One ∷ []))) 2
    ≡ Ok (record { source_name = 97 ∷ []; destination_name = 98 ∷ []; octets = abc })
unfolding initial step state_of runs_of runs_from
image_past_the_metadata_size = refl

-- Metadata with other names
abbrev pub other_names : What
other_names = pdu Two (body.Metadata (record (metadata_value 0 3) { source_name = 120 ∷ []; destination_name = 121 ∷ [] }))

-- with the names and the octets received first
pub image_of_first_octets : image_at (state_of (after class_two (metadata Two ∷ other_names ∷ (middle_first Two ++ eof Two ∷ [])))) 4
    ≡ Ok (record { source_name = 97 ∷ []; destination_name = 98 ∷ []; octets = abc })
unfolding initial step state_of runs_of runs_from
image_of_first_octets = refl

-- only for that stamp
pub image_of_another_stamp : image_at (state_of (after class_one (metadata One ∷ part One ∷ eof One ∷ []))) 1 ≡ Err refusal.StaleStored
unfolding initial step state_of runs_of runs_from
image_of_another_stamp = refl

-- no longer once the file store has answered
pub image_gone : image_at (state_of (after class_two (metadata Two ∷ part Two ∷ eof Two ∷ what.Stored 2 true ∷ []))) 2 ≡ Err refusal.StaleStored
unfolding initial step state_of runs_of runs_from
image_gone = refl

-- not before the file store was asked, even if Metadata and EOF were received
pub image_unasked : image_at (state_of (after class_one (metadata One ∷ part One ∷ []))) 2 ≡ Err refusal.StaleStored
unfolding initial step state_of runs_of runs_from
image_unasked = refl

pub image_unasked_after_eof : image_at (state_of (after class_one (metadata One ∷ eof One ∷ []))) 1 ≡ Err refusal.StaleStored
unfolding initial step state_of runs_of runs_from
image_unasked_after_eof = refl

-- not for a later stamp
pub image_of_a_later_stamp : image_at (state_of (after class_one (metadata One ∷ part One ∷ eof One ∷ []))) 3 ≡ Err refusal.StaleStored
unfolding initial step state_of runs_of runs_from
image_of_a_later_stamp = refl
