-- Rows. Rows on schedules: what the laws give for the worked run, other runs, and what is not a schedule.
use Rattle.std.specs.Prelude.{◌≡◌, ℕ, true, Contains, List, [], ◌∷◌, ◌++◌, length, map, Some, None, Result, Ok, Err, refl}
use Rattle.std.specs.List.{AllByRecursion}
use Rattle.std.proofs.Common.{ap, arith, get_or}
use Rattle.cfdp_types.specs.declared.key.TxnKey.{TxnKey}
use Rattle.cfdp_types.specs.declared.names.Class.TheVariants.{One, Two}
use Rattle.cfdp_types.specs.declared.names.Delivery.TheVariants.{Complete}
use Rattle.cfdp_types.specs.declared.names.FileStatus.TheVariants.{Retained}
use Rattle.gap_list.specs.Runs.{runs_of, runs_from}
use Rattle.indications.specs.declared.indication.Indication.TheVariants as told
use Rattle.pdu_values.specs.Numbers.{digits}
use Rattle.pdu_values.specs.Pdu.{PduValue}
use Rattle.pdu_values.specs.Spelling.{spelling, written}
use Rattle.pdu_values.specs.Tlvs.{width_from}
use Rattle.pdu_values.specs.declared.pdu.Body.{Body}
use Rattle.pdu_values.specs.declared.pdu.Body.TheVariants as body
use Rattle.txn_events.specs.Examples.{abc}
use Rattle.txn_events.specs.declared.answer.Answer.{Answer}
use Rattle.txn_events.specs.declared.event.What.TheVariants as what
use Rattle.txn_events.specs.declared.refusal.Refusal.{Refusal}
use Rattle.sender_table.specs.Sending.{put}
use Rattle.sender_table.specs.Sending as sender
use Rattle.sender_table.specs.Answers as sender_answers
use Rattle.sender_laws.specs.LegalSendings as sender_logs
use Rattle.receiver_table.specs.Reception.{Reception, finished_in}
use Rattle.receiver_table.specs.Reception as receiver
use Rattle.receiver_table.specs.Answers as receiver_answers
use Rattle.receiver_table.specs.Answers.{empty_answer}
use Rattle.receiver_table.specs.Images.{image_at}
use Rattle.receiver_laws.specs.LegalReceptions as receiver_logs
use Rattle.ends_laws.specs.Agreement.{image_of_put}
use Rattle.ends_laws.proofs.EntryFacts.{each_contained}
use Rattle.ends_schedules.specs.Schedules.{Move, receives, echoes, sender_log, receiver_log, sent_by, ever_sent, IsSchedule}
use Rattle.ends_schedules.specs.ScheduleLaws.{HasStored}
use Rattle.ends_schedules.proofs.ScheduleFacts.{schedule_before, begins_as_schedule, deposits_are_the_put, tells_what_was_stored}
use Rattle.ends_rows.specs.WorkedSchedules.{key, sending_in, reception_in, sending, reception, to_receiver, metadata_in, part_in, eof_in, finished, finished_acknowledged, Step, at_sender, at_receiver, came, came_back, pump, move_by, moves_by, after, all_sent, sent_again, deposited, stored, told_kept, whole, whole_schedule}

-- ---- the laws, for the worked run

-- it is a schedule at each moment
pub told_schedule : IsSchedule sending reception (after told_kept)
told_schedule = schedule_before sending reception (move_by sending reception (after told_kept) (came finished_acknowledged)) (after told_kept) whole_schedule

pub stored_schedule : IsSchedule sending reception (after stored)
stored_schedule =
    begins_as_schedule sending reception
    (move_by sending reception (after told_kept) (came finished_acknowledged) ∷ move_by sending reception (after stored) (came_back finished) ∷ [])
    (after stored) whole_schedule

pub deposited_schedule : IsSchedule sending reception (after deposited)
deposited_schedule =
    schedule_before sending reception (move_by sending reception (after deposited) (at_receiver (what.Stored 2 true))) (after deposited) stored_schedule

-- the receiver's entry for the data
abbrev pub data_entry : receiver.Entry
data_entry = record { event = what.Pdu (part_in Two); answer = receiver_logs.answer_behind reception (receiver_log (after sent_again)) (what.Pdu (part_in Two)) }

pub data_deposits : data_entry.answer.deposit ≡ Some (record { key = key; stamp = 2 })
unfolding sender.initial sender.step sender.state_of receiver.initial receiver.step receiver.state_of runs_of runs_from
data_deposits = refl

-- so its file is the one that was put: "a", "b" and "abc"
pub deposit_is : image_at (receiver.state_of (receiver_log (after deposited))) 2 ≡ Ok (record { source_name = 97 ∷ []; destination_name = 98 ∷ []; octets = abc })
deposit_is = deposits_are_the_put sending reception (after sent_again) data_entry (record { key = key; stamp = 2 }) deposited_schedule data_deposits

-- the sender's entry for the Finished
abbrev pub finished_entry : sender.Entry
finished_entry = record { event = sender.happens (what.Pdu finished); answer = sender_logs.answer_behind sending (sender_log (after stored)) (sender.happens (what.Pdu finished)) }

pub tells_complete : Contains finished_entry.answer.inds (told.TransactionFinished 0 Complete Retained)
tells_complete = (0, omega (arith), refl)

-- so the file had been stored
pub was_stored : HasStored sending.request (receiver_log (after stored))
was_stored = tells_what_was_stored sending reception (after stored) finished_entry 0 Retained told_schedule tells_complete

-- ---- other runs

-- the PDUs arrive in any order and any number of times
abbrev pub repeated : List Step
repeated = all_sent ++ came (part_in Two) ∷ came (metadata_in Two) ∷ came (part_in Two) ∷ came (metadata_in Two) ∷ came (eof_in Two) ∷ []

pub repeated_schedule : IsSchedule sending reception (after repeated)
unfolding sender.initial sender.step sender.state_of sender_answers.answer_at receiver.initial receiver.step receiver.state_of receiver_answers.answer_at runs_of runs_from width_from
repeated_schedule = record {
  key = refl;
  sender_legal = (refl, tt, refl, (refl, tt, refl, (refl, tt, refl, (refl, tt, refl, tt))));
  receiver_legal = (refl, tt, refl, (refl, tt, refl, (refl, tt, refl, (refl, tt, refl, (refl, (refl, refl, refl, refl), refl, tt)))));
  unforged = ((0, omega (arith), refl), ((2, omega (arith), refl), ((1, omega (arith), refl), ((2, omega (arith), refl), ((1, omega (arith), refl), (tt, (tt, (tt, (tt, tt)))))))));
}

-- an EOF that arrives after the receiver's end gets an echo
pub late_schedule : IsSchedule sending reception (echoes (eof_in Two) ∷ after whole)
unfolding sender.initial sender.step sender.state_of receiver.initial receiver.step receiver.state_of runs_of runs_from width_from
late_schedule = record {
  key = refl;
  sender_legal = whole_schedule.sender_legal;
  receiver_legal = whole_schedule.receiver_legal;
  unforged = ((6, omega (arith), refl), whole_schedule.unforged);
}

pub late_octets : map written (sent_by (echoes (eof_in Two))) ≡ digits 10 0x28000300020401064002 ∷ []
unfolding written spelling digits width_from
late_octets = refl

-- class 1: the sender ends with its EOF, and receives nothing
abbrev pub in_one : List Step
in_one = all_sent ++ came (eof_in One) ∷ came (part_in One) ∷ came (metadata_in One) ∷ []

abbrev pub after_in_one : List Move
after_in_one = moves_by (sending_in One) (reception_in One) [] in_one

pub one_schedule : IsSchedule (sending_in One) (reception_in One) after_in_one
unfolding sender.initial sender.step sender.state_of sender_answers.answer_at receiver.initial receiver.step receiver.state_of receiver_answers.answer_at runs_of runs_from width_from
one_schedule = record {
  key = refl;
  sender_legal = (refl, tt, refl, (refl, tt, refl, (refl, tt, refl, (refl, tt, refl, tt))));
  receiver_legal = (refl, tt, refl, (refl, tt, refl, (refl, (refl, refl, refl, refl), refl, tt)));
  unforged = ((2, omega (arith), refl), ((1, omega (arith), refl), ((0, omega (arith), refl), (tt, (tt, (tt, (tt, tt)))))));
}

-- the receiver still gives the Put's file
pub one_gives : image_at (receiver.state_of (receiver_log after_in_one)) 2 ≡ Ok (image_of_put (sending_in One).request)
unfolding sender.initial sender.step sender.state_of receiver.initial receiver.step receiver.state_of runs_of runs_from
one_gives = refl

-- ---- not schedules

-- a PDU without a property is not in a list whose PDUs all have it
pub absent : (P : PduValue → Type 0) (pdus : List PduValue) (pdu : PduValue) → AllByRecursion P pdus → (P pdu → ⊥) → Contains pdus pdu → ⊥
absent P pdus pdu each not there = not (each_contained P pdus pdu each there)

-- a Finished that no receiver sent: the sender would accept it, and indicate a complete delivery
abbrev pub forged : List Step
forged = all_sent ++ came_back finished ∷ []

pub forged_is_legal : sender_logs.IsLegal sending (sender_log (after forged))
unfolding sender.initial sender.step sender.state_of sender_answers.answer_at runs_of runs_from width_from
forged_is_legal = (refl, tt, refl, (refl, tt, refl, (refl, tt, refl, (refl, tt, refl, (refl, tt, refl, tt)))))

pub forged_tells : sender.issued (sender_log (after forged)) ≡ told.Transaction ∷ told.EofSent ∷ told.TransactionFinished 0 Complete Retained ∷ []
unfolding sender.initial sender.step sender.state_of runs_of runs_from
forged_tells = refl

pub forged_is_none : IsSchedule sending reception (after forged) → ⊥
unfolding sender.initial sender.step sender.state_of runs_of runs_from
forged_is_none is =
    absent (λ pdu. finished_in pdu.body ≡ None) (ever_sent (after all_sent)) finished (refl, (refl, (refl, tt))) (λ e. absurd cc) is.unforged.0

-- data that was altered on its way
abbrev pub altered : PduValue
altered = to_receiver Two (body.FileData (record { offset = 0; octets = 97 ∷ 98 ∷ 120 ∷ [] }))

abbrev pub octets_in : Body → List ℕ
octets_in (body.FileData d) = d.octets
octets_in _ = abc

pub altered_is_none : IsSchedule sending reception (after (all_sent ++ came altered ∷ [])) → ⊥
unfolding sender.initial sender.step sender.state_of runs_of runs_from
altered_is_none is =
    absent (λ pdu. octets_in pdu.body ≡ abc) (ever_sent (after all_sent)) altered (refl, (refl, (refl, tt)))
    (λ same. let third = ap (λ (l : List ℕ). get_or l 2 0) same in omega (arith, third)) is.unforged.0

-- a PDU that is received before it is sent
pub early_is_none : IsSchedule sending reception (after (at_sender put ∷ came (metadata_in Two) ∷ pump ∷ [])) → ⊥
early_is_none is = let below = is.unforged.1.0.1 in omega (arith, below)

-- a sender without its Put, and one that puts twice
pub unput_is_none : IsSchedule sending reception (after (pump ∷ [])) → ⊥
unput_is_none is = is.sender_legal.1

pub put_twice_is_none : IsSchedule sending reception (after (at_sender put ∷ at_sender put ∷ [])) → ⊥
put_twice_is_none is = is.sender_legal.1

-- a receiver that sends a Finished at an EOF, against its table
abbrev pub finishing : receiver.Entry
finishing = record { event = what.Pdu (eof_in Two); answer = record empty_answer { pdus = finished ∷ [] } }

abbrev pub pdus_in : Result Answer Refusal → ℕ
pdus_in (Ok answer) = length answer.pdus
pdus_in (Err why) = 0

pub finishing_is_none : IsSchedule sending reception (receives finishing ∷ after all_sent) → ⊥
unfolding sender.initial sender.step sender.state_of receiver.initial receiver.step receiver.state_of receiver_answers.answer_at runs_of runs_from
finishing_is_none is = let two_is_one = ap pdus_in is.receiver_legal.2 in omega (arith, two_is_one)

-- the ends of two different transactions
abbrev pub other_reception : Reception
other_reception = record reception { key = record key { seq = 5 } }

pub other_key_is_none : IsSchedule sending other_reception [] → ⊥
other_key_is_none is = let five_is_four = ap (λ (k : TxnKey). k.seq) is.key in omega (arith, five_is_four)
