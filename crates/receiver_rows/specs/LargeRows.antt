-- Rows. Rows on receptions of large files, and on files without a checksum.
use Rattle.std.specs.Prelude.{◌≡◌, true, false, ℕ, List, [], ◌∷◌, ◌++◌, Some, None, Err, refl}
use Rattle.std.proofs.Common.{arith}
use Rattle.cfdp_types.specs.declared.names.Class.TheVariants.{One, Two}
use Rattle.cfdp_types.specs.declared.names.Delivery.TheVariants.{Complete}
use Rattle.cfdp_types.specs.declared.names.FileStatus.TheVariants.{Retained}
use Rattle.txn_events.specs.declared.event.What.{What}
use Rattle.txn_events.specs.declared.event.What.TheVariants as what
use Rattle.txn_events.specs.declared.refusal.Refusal.TheVariants as refusal
use Rattle.txn_events.specs.Examples.{metadata_value, eof_value, abc}
use Rattle.pdu_values.specs.Numbers.{digits}
use Rattle.pdu_values.specs.Spelling.{spelling, written}
use Rattle.pdu_values.specs.Tlvs.{width_from}
use Rattle.pdu_values.specs.declared.pdu.Header.{Header}
use Rattle.pdu_values.specs.declared.pdu.Body.{Body}
use Rattle.pdu_values.specs.declared.pdu.Body.TheVariants as body
use Rattle.indications.specs.declared.indication.Indication.TheVariants as told
use Rattle.indications.specs.Words.{IsNext}
use Rattle.gap_list.specs.Runs.{runs_of, runs_from}
use Rattle.receiver_table.specs.Reception.{Reception, initial, step, state_of, issued}
use Rattle.receiver_table.specs.Answers.{answer_at}
use Rattle.receiver_rows.specs.ReceptionRows.{class_one, class_two, header, metadata_of, part, eof_of, after, last, tells, sends, hands_out, echoes}

-- a header with the large file flag
abbrev pub large_header : Header
large_header = record (header Two) { large = true }

abbrev pub large_two : Reception
large_two = record class_two { header = large_header }

abbrev pub large : Body → What
large b = what.Pdu (record { header = large_header; body = b })

abbrev pub large_part : What
large_part = large (body.FileData (record { offset = 0; octets = abc }))

abbrev pub large_eof : What
large_eof = large (body.Eof (eof_value 0 0x6162_6300 3))

-- PDUs are sent with the flag of the PDU that opened the reception
pub large_nak : sends (last large_two (large_part ∷ []) large_eof)
    ≡ Some (digits 10 0x29000300010502064001 ∷ digits 40 0x2900210001050208_0000000000000000_0000000000000003_0000000000000000_0000000000000000 ∷ [])
unfolding initial step state_of answer_at runs_of runs_from written spelling digits width_from
large_nak = refl

-- a later PDU with the other flag is accepted
pub other_flag_taken : hands_out (last large_two (large_part ∷ large_eof ∷ []) (metadata_of Two 0 3)) ≡ Some (2 ∷ [])
unfolding initial step state_of answer_at runs_of runs_from
other_flag_taken = refl

-- an echo has the flag of the PDU that it answers
pub large_echo : echoes large_eof ≡ Some (digits 10 0x29000300010502064002 ∷ [])
unfolding written spelling digits width_from
large_echo = refl

-- sizes and ends that need more than four octets
pub huge_metadata : last large_two [] (large (body.Metadata (metadata_value 0 0x1_0000_0000))) ≡ Err refusal.TooLarge
unfolding initial step state_of answer_at runs_of runs_from
huge_metadata = refl

pub huge_part : last large_two [] (large (body.FileData (record { offset = 0xffff_ffff_ffff_ffff; octets = abc }))) ≡ Err refusal.TooLarge
unfolding initial step state_of answer_at runs_of runs_from
huge_part = refl

-- without a checksum any value in the EOF agrees
pub no_sum_agrees : hands_out (last class_one (metadata_of One 15 3 ∷ part One ∷ []) (eof_of One 0 0x0102_0304 3)) ≡ Some (2 ∷ [])
unfolding initial step state_of answer_at runs_of runs_from
no_sum_agrees = refl

-- the last octets of a file of the largest size may be indicated, and none after them
pub last_octets_told : IsNext [] (told.FileSegmentRecv 16777212 4)
last_octets_told = (omega (arith), omega (arith), λ i from below. refl)

pub none_told_behind : IsNext [] (told.FileSegmentRecv 16777213 4) → ⊥
none_told_behind next = let within = next.1 in omega (arith, within)

pub none_told_at_the_limit : IsNext [] (told.FileSegmentRecv 16777216 1) → ⊥
none_told_at_the_limit next = let within = next.1 in omega (arith, within)
