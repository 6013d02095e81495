-- Rows. Other courses of a schedule: with other parameters, expiring timers, suspensions, a cancelled Put, and a file
-- store that rejects the file.
use Rattle.std.specs.Prelude.{◌≡◌, true, false, IfSome, Contains, List, [], ◌∷◌, ◌++◌, Some, Ok, Err, refl}
use Rattle.std.specs.List.{AllByRecursion}
use Rattle.std.proofs.Common.{arith}
use Rattle.cfdp_types.specs.Reference.{reference, all_cancel}
use Rattle.cfdp_types.specs.declared.names.Class.TheVariants.{Two}
use Rattle.cfdp_types.specs.declared.names.Delivery.TheVariants.{Incomplete}
use Rattle.cfdp_types.specs.declared.names.Delivery.TheVariants as delivery
use Rattle.cfdp_types.specs.declared.names.FileStatus.TheVariants.{Discarded, Rejected, Retained, Unreported}
use Rattle.cfdp_types.specs.declared.names.Handler.TheVariants.{Ignore}
use Rattle.cfdp_types.specs.declared.names.Role.TheVariants.{RecvTwo}
use Rattle.cfdp_types.specs.declared.names.TimerKind.TheVariants.{Ack, Nak}
use Rattle.gap_list.specs.Runs.{runs_of, runs_from}
use Rattle.indications.specs.declared.indication.Indication.TheVariants as told
use Rattle.pdu_values.specs.Pdu.{PduValue}
use Rattle.pdu_values.specs.Tlvs.{width_from}
use Rattle.pdu_values.specs.declared.bodies.Acknowledged.TheVariants as acknowledged
use Rattle.pdu_values.specs.declared.bodies.TransactionStatus.TheVariants.{Terminated}
use Rattle.pdu_values.specs.declared.pdu.Body.TheVariants as body
use Rattle.txn_events.specs.Examples.{eof_value}
use Rattle.txn_events.specs.declared.event.What.{What}
use Rattle.txn_events.specs.declared.event.What.TheVariants as what
use Rattle.txn_events.specs.declared.refusal.Refusal.TheVariants.{StaleStored}
use Rattle.sender_table.specs.Sending.{Sending, put, happens}
use Rattle.sender_table.specs.Sending as sender
use Rattle.sender_table.specs.Answers as sender_answers
use Rattle.receiver_table.specs.Reception.{Reception, finished_in}
use Rattle.receiver_table.specs.Reception as receiver
use Rattle.receiver_table.specs.Answers as receiver_answers
use Rattle.receiver_table.specs.Images.{image_at}
use Rattle.ends_laws.specs.Agreement.{image_of_put}
use Rattle.ends_schedules.specs.Schedules.{Move, sender_log, receiver_log, ever_sent, IsSchedule}
use Rattle.ends_rows.specs.WorkedSchedules.{sending, reception, to_receiver, to_sender, metadata_in, part_in, eof_in, finished, Step, at_sender, at_receiver, came, came_back, pump, moves_by, after, all_sent}
use Rattle.ends_rows.specs.ScheduleRows.{absent}

-- an event at the sender after its Put
abbrev pub sender_takes : What → Step
sender_takes event = at_sender (happens event)

-- ---- other parameters at each end, and expiring timers

-- segments of two octets, and three expirations of each timer
abbrev pub sending_parts : Sending
sending_parts = record sending { params = record reference { segment_octets = 2; limits = record { ack = 3; nak = 3; check = 3 } } }

-- one expiration of each timer, and the fault of Nak is ignored
abbrev pub ignoring : Reception
ignoring = record reception {
  params = record reference {
    local = record { 0 = 1 };
    limits = record { ack = 1; nak = 1; check = 1 };
    tables = record (reference.tables) {
      receive_two = record (all_cancel RecvTwo) { handlers = record ((all_cancel RecvTwo).handlers) { nak_limit = Ignore } };
    };
  };
}

abbrev pub first_part : PduValue
first_part = to_receiver Two (body.FileData (record { offset = 0; octets = 97 ∷ 98 ∷ [] }))

abbrev pub second_part : PduValue
second_part = to_receiver Two (body.FileData (record { offset = 2; octets = 99 ∷ [] }))

-- the first segment is late: the receiver's Nak expires, and so does the sender's Ack, before it arrives
abbrev pub in_parts : List Step
in_parts =
    at_sender put ∷ pump ∷ pump ∷ pump ∷ pump ∷ came (metadata_in Two) ∷ came second_part ∷ came (eof_in Two)
    ∷ at_receiver (what.Timer Nak 2) ∷ sender_takes (what.Timer Ack 4) ∷ came first_part ∷ at_receiver (what.Stored 4 true) ∷ came_back finished ∷ []

abbrev pub after_in_parts : List Move
after_in_parts = moves_by sending_parts ignoring [] in_parts

pub in_parts_schedule : IsSchedule sending_parts ignoring after_in_parts
unfolding sender.initial sender.step sender.state_of sender_answers.answer_at receiver.initial receiver.step receiver.state_of receiver_answers.answer_at runs_of runs_from width_from
in_parts_schedule = record {
  key = refl;
  sender_legal = (refl, tt, refl, (refl, tt, refl, (refl, tt, refl, (refl, tt, refl, (refl, tt, refl, (refl, tt, refl, (refl, tt, refl, tt)))))));
  receiver_legal = (refl, tt, refl, (refl, tt, refl, (refl, tt, refl, (refl, tt, refl, (refl, tt, refl, (refl, (refl, refl, refl, refl), refl, tt))))));
  unforged = (
    (0, omega (arith), refl),
    (tt, ((5, omega (arith), refl), (tt, (tt, ((0, omega (arith), refl), ((1, omega (arith), refl), ((3, omega (arith), refl), (tt, (tt, (tt, (tt, (tt, tt)))))))))))),
  );
}

pub in_parts_told : receiver.issued (receiver_log after_in_parts)
    ≡ told.MetadataRecv (record { source = record { 0 = 2 }; size = 3; source_name = 97 ∷ []; destination_name = 98 ∷ []; messages = [] }) ∷ told.FileSegmentRecv 2 1 ∷ told.EofRecv ∷ told.Fault 7 3 ∷ told.FileSegmentRecv 0 2 ∷ []
unfolding sender.initial sender.step sender.state_of receiver.initial receiver.step receiver.state_of runs_of runs_from
in_parts_told = refl

pub in_parts_complete : sender.issued (sender_log after_in_parts) ≡ told.Transaction ∷ told.EofSent ∷ told.TransactionFinished 0 delivery.Complete Retained ∷ []
unfolding sender.initial sender.step sender.state_of receiver.initial receiver.step receiver.state_of runs_of runs_from
in_parts_complete = refl

-- ---- both ends are suspended for a while

-- the whole file arrives meanwhile, and is handed to the file store only after the receiver's Resume
abbrev pub paused : List Step
paused =
    at_sender put ∷ pump ∷ sender_takes what.Suspend ∷ sender_takes what.Resume ∷ pump ∷ pump ∷ came (metadata_in Two) ∷ at_receiver what.Suspend
    ∷ came (part_in Two) ∷ came (eof_in Two) ∷ []

abbrev pub resumed : List Step
resumed = paused ++ at_receiver what.Resume ∷ []

pub resumed_schedule : IsSchedule sending reception (after resumed)
unfolding sender.initial sender.step sender.state_of sender_answers.answer_at receiver.initial receiver.step receiver.state_of receiver_answers.answer_at runs_of runs_from width_from
resumed_schedule = record {
  key = refl;
  sender_legal = (refl, tt, refl, (refl, tt, refl, (refl, tt, refl, (refl, tt, refl, (refl, tt, refl, (refl, tt, refl, tt))))));
  receiver_legal = (refl, tt, refl, (refl, tt, refl, (refl, tt, refl, (refl, tt, refl, (refl, (refl, refl, refl, refl), refl, tt)))));
  unforged = (
    tt,
    ((0, omega (arith), refl), ((1, omega (arith), refl), (tt, ((2, omega (arith), refl), (tt, (tt, (tt, (tt, (tt, (tt, tt)))))))))),
  );
}

pub paused_gives : image_at (receiver.state_of (receiver_log (after paused))) 3 ≡ Err StaleStored
unfolding sender.initial sender.step sender.state_of receiver.initial receiver.step receiver.state_of runs_of runs_from
paused_gives = refl

pub resumed_gives : image_at (receiver.state_of (receiver_log (after resumed))) 4 ≡ Ok (image_of_put sending.request)
unfolding sender.initial sender.step sender.state_of receiver.initial receiver.step receiver.state_of runs_of runs_from
resumed_gives = refl

-- ---- the sender's user cancels the Put

abbrev pub cancelling : PduValue
cancelling = to_receiver Two (body.Eof (record (eof_value 15 0x6162_6300 3) { location = Some (record { 0 = 2 }) }))

abbrev pub cancelling_acknowledged : PduValue
cancelling_acknowledged = to_sender (body.Ack (record { of = acknowledged.Eof; condition = 15; status = Terminated }))

-- its EOF is sent twice, because the Ack timer expires
abbrev pub cancelled : List Step
cancelled =
    at_sender put ∷ pump ∷ pump ∷ sender_takes what.Cancel ∷ sender_takes (what.Timer Ack 3) ∷ came (metadata_in Two) ∷ came (part_in Two)
    ∷ came cancelling ∷ []

abbrev pub cancelled_told : List Step
cancelled_told = cancelled ++ came_back cancelling_acknowledged ∷ []

pub cancelled_schedule : IsSchedule sending reception (after cancelled_told)
unfolding sender.initial sender.step sender.state_of sender_answers.answer_at receiver.initial receiver.step receiver.state_of receiver_answers.answer_at runs_of runs_from width_from
cancelled_schedule = record {
  key = refl;
  sender_legal = (refl, tt, refl, (refl, tt, refl, (refl, tt, refl, (refl, tt, refl, (refl, tt, refl, (refl, tt, refl, tt))))));
  receiver_legal = (refl, tt, refl, (refl, tt, refl, (refl, (refl, refl, refl, refl), refl, tt)));
  unforged = (
    (0, omega (arith), refl),
    ((0, omega (arith), refl), ((2, omega (arith), refl), ((3, omega (arith), refl), (tt, (tt, (tt, (tt, (tt, tt)))))))),
  );
}

pub cancelled_is_told : sender.issued (sender_log (after cancelled_told)) ≡ told.Transaction ∷ told.TransactionFinished 15 Incomplete Unreported ∷ []
unfolding sender.initial sender.step sender.state_of receiver.initial receiver.step receiver.state_of runs_of runs_from
cancelled_is_told = refl

pub cancelled_ends : receiver.issued (receiver_log (after cancelled))
    ≡ told.MetadataRecv (record { source = record { 0 = 2 }; size = 3; source_name = 97 ∷ []; destination_name = 98 ∷ []; messages = [] }) ∷ told.FileSegmentRecv 0 3 ∷ told.TransactionFinished 15 Incomplete Discarded ∷ []
unfolding sender.initial sender.step sender.state_of receiver.initial receiver.step receiver.state_of runs_of runs_from
cancelled_ends = refl

-- ---- the receiver's user cancels

abbrev pub finished_cancelled : PduValue
finished_cancelled =
    to_sender (body.Finished (record { condition = 15; delivery = Incomplete; status = Discarded; location = Some (record { 0 = 1 }) }))

abbrev pub refused_by_user : List Step
refused_by_user = at_sender put ∷ pump ∷ came (metadata_in Two) ∷ at_receiver what.Cancel ∷ []

abbrev pub refused_told : List Step
refused_told = refused_by_user ++ came_back finished_cancelled ∷ []

pub refused_schedule : IsSchedule sending reception (after refused_told)
unfolding sender.initial sender.step sender.state_of sender_answers.answer_at receiver.initial receiver.step receiver.state_of receiver_answers.answer_at runs_of runs_from width_from
refused_schedule = record {
  key = refl;
  sender_legal = (refl, tt, refl, (refl, tt, refl, (refl, tt, refl, tt)));
  receiver_legal = (refl, tt, refl, (refl, (refl, refl, refl, refl), refl, tt));
  unforged = ((0, omega (arith), refl), (tt, ((0, omega (arith), refl), (tt, (tt, tt)))));
}

pub refused_is_told : sender.issued (sender_log (after refused_told)) ≡ told.Transaction ∷ told.TransactionFinished 15 Incomplete Discarded ∷ []
unfolding sender.initial sender.step sender.state_of receiver.initial receiver.step receiver.state_of runs_of runs_from
refused_is_told = refl

-- ---- the file store rejects the file

abbrev pub finished_rejected : PduValue
finished_rejected =
    to_sender (body.Finished (record { condition = 4; delivery = Incomplete; status = Rejected; location = Some (record { 0 = 1 }) }))

abbrev pub rejected : List Step
rejected = all_sent ++ came (metadata_in Two) ∷ came (part_in Two) ∷ came (eof_in Two) ∷ at_receiver (what.Stored 2 false) ∷ []

abbrev pub rejected_told : List Step
rejected_told = rejected ++ came_back finished_rejected ∷ []

pub rejected_schedule : IsSchedule sending reception (after rejected_told)
unfolding sender.initial sender.step sender.state_of sender_answers.answer_at receiver.initial receiver.step receiver.state_of receiver_answers.answer_at runs_of runs_from width_from
rejected_schedule = record {
  key = refl;
  sender_legal = (refl, tt, refl, (refl, tt, refl, (refl, tt, refl, (refl, tt, refl, (refl, tt, refl, tt)))));
  receiver_legal = (refl, tt, refl, (refl, tt, refl, (refl, tt, refl, (refl, (refl, refl, refl, refl), refl, tt))));
  unforged = (
    (0, omega (arith), refl),
    (tt, ((0, omega (arith), refl), ((1, omega (arith), refl), ((2, omega (arith), refl), (tt, (tt, (tt, (tt, tt)))))))),
  );
}

pub rejected_is_told : sender.issued (sender_log (after rejected_told)) ≡ told.Transaction ∷ told.EofSent ∷ told.TransactionFinished 4 Incomplete Rejected ∷ []
unfolding sender.initial sender.step sender.state_of receiver.initial receiver.step receiver.state_of runs_of runs_from
rejected_is_told = refl

-- ---- in none of these may a Finished of a complete delivery be added that no receiver sent

abbrev pub IsIncomplete : PduValue → Type 0
IsIncomplete pdu = IfSome (finished_in pdu.body) (λ f. f.delivery ≡ Incomplete)

forged_is_none : (moves : List Move) → AllByRecursion IsIncomplete (ever_sent moves) → Contains (ever_sent moves) finished → ⊥
forged_is_none moves each there = absent IsIncomplete (ever_sent moves) finished each (λ same. absurd cc) there

pub forged_in_parts : IsSchedule sending_parts ignoring (moves_by sending_parts ignoring [] (at_sender put ∷ pump ∷ came_back finished ∷ [])) → ⊥
unfolding sender.initial sender.step sender.state_of runs_of runs_from width_from
forged_in_parts is = forged_is_none (moves_by sending_parts ignoring [] (at_sender put ∷ pump ∷ [])) (tt, tt) is.unforged.0

pub forged_when_resumed : IsSchedule sending reception (after (resumed ++ came_back finished ∷ [])) → ⊥
unfolding sender.initial sender.step sender.state_of receiver.initial receiver.step receiver.state_of runs_of runs_from
forged_when_resumed is = forged_is_none (after resumed) (tt, (tt, (tt, (tt, tt)))) is.unforged.0

pub forged_when_cancelled : IsSchedule sending reception (after (cancelled ++ came_back finished ∷ [])) → ⊥
unfolding sender.initial sender.step sender.state_of receiver.initial receiver.step receiver.state_of runs_of runs_from
forged_when_cancelled is = forged_is_none (after cancelled) (tt, (tt, (tt, (tt, (tt, tt))))) is.unforged.0

pub forged_when_refused : IsSchedule sending reception (after (refused_by_user ++ came_back finished ∷ [])) → ⊥
unfolding sender.initial sender.step sender.state_of receiver.initial receiver.step receiver.state_of runs_of runs_from
forged_when_refused is = forged_is_none (after refused_by_user) (refl, (tt, tt)) is.unforged.0

pub forged_when_rejected : IsSchedule sending reception (after (rejected ++ came_back finished ∷ [])) → ⊥
unfolding sender.initial sender.step sender.state_of receiver.initial receiver.step receiver.state_of runs_of runs_from
forged_when_rejected is = forged_is_none (after rejected) (refl, (tt, (tt, (tt, (tt, tt))))) is.unforged.0
