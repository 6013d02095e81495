-- Rows. A worked run in class 1 whose sender requests transaction closure.
use Rattle.std.specs.Prelude.{◌≡◌, true, Contains, List, [], ◌∷◌, ◌++◌, None, refl}
use Rattle.std.proofs.Common.{arith}
use Rattle.cfdp_types.specs.declared.names.Class.TheVariants.{One}
use Rattle.cfdp_types.specs.declared.names.Delivery.TheVariants.{Complete}
use Rattle.cfdp_types.specs.declared.names.FileStatus.TheVariants.{Retained}
use Rattle.gap_list.specs.Runs.{runs_of, runs_from}
use Rattle.indications.specs.declared.indication.Indication.TheVariants as told
use Rattle.pdu_values.specs.Pdu.{PduValue}
use Rattle.pdu_values.specs.Tlvs.{width_from}
use Rattle.pdu_values.specs.declared.pdu.Body.TheVariants as body
use Rattle.pdu_values.specs.declared.pdu.Direction.TheVariants.{TowardSender}
use Rattle.txn_events.specs.Examples.{metadata_value}
use Rattle.txn_events.specs.declared.event.What.TheVariants as what
use Rattle.sender_table.specs.Sending.{Sending}
use Rattle.sender_table.specs.Sending as sender
use Rattle.sender_table.specs.Answers as sender_answers
use Rattle.sender_laws.specs.LegalSendings as sender_logs
use Rattle.receiver_table.specs.Reception as receiver
use Rattle.receiver_table.specs.Answers as receiver_answers
use Rattle.ends_schedules.specs.Schedules.{Move, sends, sender_log, receiver_log, ever_sent, IsSchedule}
use Rattle.ends_schedules.specs.ScheduleLaws.{HasStored}
use Rattle.ends_schedules.proofs.ScheduleFacts.{tells_what_was_stored}
use Rattle.ends_rows.specs.ScheduleRows.{absent}
use Rattle.ends_rows.specs.WorkedSchedules.{sending_in, reception_in, header_in, to_receiver, part_in, eof_in, Step, at_receiver, came, came_back, moves_by, all_sent}

-- the Put requests closure
abbrev pub closed : Sending
closed = record (sending_in One) { request = record ((sending_in One).request) { closure = true } }

-- its Metadata requests closure too
abbrev pub closing_metadata : PduValue
closing_metadata = to_receiver One (body.Metadata (record (metadata_value 0 3) { closure = true }))

-- what the receiver sends at the end
abbrev pub finished : PduValue
finished = record {
  header = record (header_in One) { direction = TowardSender };
  body = body.Finished (record { condition = 0; delivery = Complete; status = Retained; location = None });
}

abbrev pub after : List Step → List Move
after steps = moves_by closed (reception_in One) [] steps

-- everything is received, and the file is kept
abbrev pub stored : List Step
stored = all_sent ++ came closing_metadata ∷ came (part_in One) ∷ came (eof_in One) ∷ at_receiver (what.Stored 2 true) ∷ []

-- the sender receives the Finished PDU
abbrev pub told_kept : List Step
told_kept = stored ++ came_back finished ∷ []

pub closed_schedule : IsSchedule closed (reception_in One) (after told_kept)
unfolding sender.initial sender.step sender.state_of sender_answers.answer_at receiver.initial receiver.step receiver.state_of receiver_answers.answer_at runs_of runs_from width_from
closed_schedule = record {
  key = refl;
  sender_legal = (refl, tt, refl, (refl, tt, refl, (refl, tt, refl, (refl, tt, refl, (refl, tt, refl, tt)))));
  receiver_legal = (refl, tt, refl, (refl, tt, refl, (refl, tt, refl, (refl, (refl, refl, refl, refl), refl, tt))));
  unforged = (
    (0, omega (arith), refl),
    (tt, ((0, omega (arith), refl), ((1, omega (arith), refl), ((2, omega (arith), refl), (tt, (tt, (tt, (tt, tt)))))))),
  );
}

pub sender_told : sender.issued (sender_log (after told_kept)) ≡ told.Transaction ∷ told.EofSent ∷ told.TransactionFinished 0 Complete Retained ∷ []
unfolding sender.initial sender.step sender.state_of receiver.initial receiver.step receiver.state_of runs_of runs_from
sender_told = refl

-- the sender's entry for the Finished
abbrev pub finished_entry : sender.Entry
finished_entry = record {
  event = sender.happens (what.Pdu finished);
  answer = sender_logs.answer_behind closed (sender_log (after stored)) (sender.happens (what.Pdu finished));
}

pub tells_complete : Contains finished_entry.answer.inds (told.TransactionFinished 0 Complete Retained)
tells_complete = (0, omega (arith), refl)

-- so the file had been stored
pub was_stored : HasStored closed.request (receiver_log (after stored))
was_stored = tells_what_was_stored closed (reception_in One) (after stored) finished_entry 0 Retained closed_schedule tells_complete

-- ---- not a schedule

-- a Finished that no receiver sent: the sender would accept it, and indicate a complete delivery
abbrev pub forged : List Step
forged = all_sent ++ came_back finished ∷ []

pub forged_tells : sender.issued (sender_log (after forged)) ≡ told.Transaction ∷ told.EofSent ∷ told.TransactionFinished 0 Complete Retained ∷ []
unfolding sender.initial sender.step sender.state_of runs_of runs_from
forged_tells = refl

pub forged_is_none : IsSchedule closed (reception_in One) (after forged) → ⊥
unfolding sender.initial sender.step sender.state_of runs_of runs_from
forged_is_none is =
    absent (λ pdu. receiver.finished_in pdu.body ≡ None) (ever_sent (after all_sent)) finished (refl, (refl, (refl, tt))) (λ e. absurd cc) is.unforged.0
