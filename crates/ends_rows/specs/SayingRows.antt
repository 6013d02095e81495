-- Rows. Rows on what a PDU says of a Put's file, and on what the laws of one end give for the worked run.
use Rattle.std.specs.Prelude.{◌≡◌, ℕ, zero, suc, List, [], ◌∷◌, Ok, Option, unwrap_or, refl}
use Rattle.std.specs.List.{AllByRecursion}
use Rattle.std.proofs.Common.{ap, arith, get_or}
use Rattle.cfdp_types.specs.Put.{PutValue}
use Rattle.cfdp_types.specs.declared.names.Class.TheVariants.{Two}
use Rattle.pdu_values.specs.declared.pdu.Body.{Body}
use Rattle.pdu_values.specs.declared.pdu.Body.TheVariants as body
use Rattle.txn_events.specs.Examples.{abc, eof_value, metadata_value}
use Rattle.txn_events.specs.declared.event.What.TheVariants as what
use Rattle.receiver_table.specs.Reception.{Entry}
use Rattle.receiver_table.specs.Answers.{empty_answer}
use Rattle.receiver_table.specs.Reception as receiver
use Rattle.receiver_table.specs.Images.{image_at}
use Rattle.ends_laws.specs.Agreement.{AgreesWith, image_of_put}
use Rattle.ends_laws.specs.SenderLaws.{IsSaidBySender}
use Rattle.ends_laws.specs.ReceiverLaws.{AllAgree}
use Rattle.ends_laws.proofs.SenderFacts.{sends_its_put}
use Rattle.ends_laws.proofs.ReceiverFacts.{deposits_the_put, gives_the_put}
use Rattle.ends_schedules.specs.Schedules.{sender_log, receiver_log}
use Rattle.ends_schedules.proofs.ScheduleFacts.{images_are_the_put}
use Rattle.ends_rows.specs.WorkedSchedules.{key, sending, reception, metadata_in, nak, finished, after, sent_again, deposited, stored}
use Rattle.ends_rows.specs.ScheduleRows.{told_schedule, deposited_schedule, data_entry, data_deposits, deposit_is, finished_entry, altered}

-- a file "abc", named "a", to be stored as "b"
abbrev pub put : PutValue
put = sending.request

-- ---- Metadata: the size and both names

abbrev pub metadata_as : ℕ → List ℕ → List ℕ → Body
metadata_as size source_name destination_name =
    body.Metadata (record (metadata_value 0 size) { source_name = source_name; destination_name = destination_name })

pub metadata_agrees : AgreesWith put (metadata_as 3 (97 ∷ []) (98 ∷ []))
metadata_agrees = record { size = refl; source_name = refl; destination_name = refl }

pub other_size : AgreesWith put (metadata_as 4 (97 ∷ []) (98 ∷ [])) → ⊥
other_size is = let sizes = is.size in omega (arith, sizes)

pub other_source_name : AgreesWith put (metadata_as 3 (98 ∷ []) (98 ∷ [])) → ⊥
other_source_name is = let names = ap (λ (l : List ℕ). get_or l 0 0) is.source_name in omega (arith, names)

pub other_destination_name : AgreesWith put (metadata_as 3 (97 ∷ []) (97 ∷ [])) → ⊥
other_destination_name is = let names = ap (λ (l : List ℕ). get_or l 0 0) is.destination_name in omega (arith, names)

-- ---- File Data: the octets at their offsets

abbrev pub part_as : ℕ → List ℕ → Body
part_as offset octets = body.FileData (record { offset = offset; octets = octets })

pub part_agrees : AgreesWith put (part_as 1 (98 ∷ 99 ∷ []))
part_agrees zero below = refl
part_agrees (suc zero) below = refl
part_agrees (suc (suc i)) below = absurd (omega (arith, below))

pub whole_agrees : AgreesWith put (part_as 0 abc)
whole_agrees zero below = refl
whole_agrees (suc zero) below = refl
whole_agrees (suc (suc zero)) below = refl
whole_agrees (suc (suc (suc i))) below = absurd (omega (arith, below))

pub other_offset : AgreesWith put (part_as 0 (98 ∷ 99 ∷ [])) → ⊥
other_offset says = let octets = ap (λ (o : Option ℕ). unwrap_or o 0) (says 0 (omega (arith))) in omega (arith, octets)

pub other_octets : AgreesWith put (part_as 1 (98 ∷ 120 ∷ [])) → ⊥
other_octets says = let octets = ap (λ (o : Option ℕ). unwrap_or o 0) (says 1 (omega (arith))) in omega (arith, octets)

pub beyond_the_file : AgreesWith put (part_as 2 (99 ∷ 0 ∷ [])) → ⊥
beyond_the_file says = let none = says 1 (omega (arith)) in absurd cc

-- ---- EOF: the size, where there is no error

pub eof_agrees : AgreesWith put (body.Eof (eof_value 0 0 3))
eof_agrees no_error = refl

pub other_eof_size : AgreesWith put (body.Eof (eof_value 0 0 2)) → ⊥
other_eof_size says = let sizes = says refl in omega (arith, sizes)

pub cancelling_agrees : AgreesWith put (body.Eof (eof_value 15 0 2))
cancelling_agrees no_error = omega (arith, no_error)

-- ---- the other kinds say nothing of the file

pub nak_agrees : AgreesWith put nak.body
nak_agrees = tt

pub finished_agrees : AgreesWith put finished.body
finished_agrees = tt

-- ---- what a sender's PDUs say

pub metadata_said : IsSaidBySender put (metadata_in Two)
metadata_said = (refl, metadata_agrees)

pub altered_unsaid : IsSaidBySender put altered → ⊥
altered_unsaid said = let octets = ap (λ (o : Option ℕ). unwrap_or o 0) (said.1 2 (omega (arith))) in omega (arith, octets)

pub nak_unsaid : IsSaidBySender put nak → ⊥
nak_unsaid said = let goes = said.0 in absurd cc

-- ---- what a receiver received

abbrev pub entry_of : Body → Entry
entry_of b = record { event = what.Pdu (record nak { body = b }); answer = empty_answer }

pub all_agree : AllAgree put (receiver_log (after deposited))
all_agree = (whole_agrees, (metadata_agrees, (λ no_error. refl, tt)))

-- one PDU that doesn't agree is enough, the last or an earlier one
pub last_disagrees : AllAgree put (entry_of (part_as 0 (98 ∷ [])) ∷ entry_of (part_as 0 abc) ∷ []) → ⊥
last_disagrees agree = other_first agree.0
  where
    other_first : AgreesWith put (part_as 0 (98 ∷ [])) → ⊥
    other_first says = let octets = ap (λ (o : Option ℕ). unwrap_or o 0) (says 0 (omega (arith))) in omega (arith, octets)

pub first_disagrees : AllAgree put (entry_of (part_as 0 abc) ∷ entry_of (metadata_as 4 (97 ∷ []) (98 ∷ [])) ∷ []) → ⊥
first_disagrees agree = other_size agree.1.0

-- ---- the laws, for the worked run

pub sent_is_said : AllByRecursion (IsSaidBySender put) finished_entry.answer.pdus
sent_is_said = sends_its_put sending finished_entry (sender_log (after stored)) told_schedule.sender_legal

pub deposit_is_the_put : image_at (receiver.state_of (receiver_log (after deposited))) 2 ≡ Ok (image_of_put put)
deposit_is_the_put =
    deposits_the_put put reception data_entry (receiver_log (after sent_again)) (record { key = key; stamp = 2 }) deposited_schedule.receiver_legal all_agree
    data_deposits

pub image_is_the_put : record { source_name = 97 ∷ []; destination_name = 98 ∷ []; octets = abc } ≡ image_of_put put
image_is_the_put = gives_the_put put reception (receiver_log (after deposited)) 2 _ deposited_schedule.receiver_legal all_agree deposit_is

pub image_on_the_way : record { source_name = 97 ∷ []; destination_name = 98 ∷ []; octets = abc } ≡ image_of_put put
image_on_the_way = images_are_the_put sending reception (after deposited) 2 _ deposited_schedule deposit_is
