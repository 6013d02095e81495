-- Rows. Rows on lanes at the ends of the worked run: what is a move of theirs and what isn't, and echoes.
use Rattle.std.specs.Prelude.{◌≡◌, IfSome, Contains, List, [], ◌∷◌, length, option_to_list, Option, Some, None, refl}
use Rattle.std.specs.List.{AllByRecursion, list_any}
use Rattle.std.proofs.Common.{ap, sym, subst, ◌∙◌, arith}
use Rattle.std.proofs.lemmas.Bool.{false≢true}
use Rattle.cfdp_types.specs.declared.names.Class.TheVariants.{Two}
use Rattle.gap_list.specs.Runs.{runs_of, runs_from}
use Rattle.indications.specs.declared.side.Side.TheVariants.{Sender, Receiver}
use Rattle.pdu_values.specs.Pdu.{PduValue}
use Rattle.pdu_values.specs.Tlvs.{width_from}
use Rattle.txn_events.specs.Events.{echo_of}
use Rattle.txn_events.specs.declared.event.Event.TheVariants.{On}
use Rattle.txn_events.specs.declared.event.What.TheVariants as what
use Rattle.sender_table.specs.Sending as sender
use Rattle.sender_table.specs.Sending.{put}
use Rattle.sender_table.specs.Answers as sender_answers
use Rattle.receiver_table.specs.Reception as receiver
use Rattle.lane_table.specs.Lane.{State, log_of}
use Rattle.lane_table.specs.Logs.{Log, sent, received}
use Rattle.lane_table.specs.Steps.{IsDone}
use Rattle.lane_table.specs.declared.done.Done.{Done}
use Rattle.ends_laws.specs.ReceiverLaws.{HasKept, IsSaidByReceiver}
use Rattle.ends_laws.proofs.EntryFacts.{each_contained}
use Rattle.ends_laws.proofs.KeptFacts.{says_what_is_kept}
use Rattle.ends_schedules.specs.Schedules.{Move, sends, receives, echoes, sent_by, pdu_of, IsSchedule}
use Rattle.ends_lanes.specs.LaneMoves.{log_at, ComesTo, HasMoved, IsEchoed}
use Rattle.ends_rows.specs.WorkedSchedules.{key, sending, reception, metadata_in, eof_in, at_sender, pump, move_by, after, all_sent}
use Rattle.ends_rows.specs.ScheduleRows.{unput_is_none}
use Rattle.ends_rows.specs.LaneEndRows.{sending_lane, receiving_lane, uncarried, the_put, pdu_came, stepped_by, echo, sent_schedule}

-- ---- moves

-- a lane that has sent its Metadata
abbrev pub pumped_lane : State
pumped_lane = stepped_by sending_lane (the_put ∷ On key what.Pump ∷ [])

abbrev pub after_put : List Move
after_put = after (at_sender put ∷ [])

abbrev pub after_pump : List Move
after_pump = after (at_sender put ∷ pump ∷ [])

pub pump_schedule : IsSchedule sending reception after_pump
unfolding sender.initial sender.step sender.state_of sender_answers.answer_at runs_of runs_from width_from
pump_schedule = record { key = refl; sender_legal = (refl, tt, refl, (refl, tt, refl, tt)); receiver_legal = tt; unforged = (tt, (tt, tt)) }

pub pump_moves : HasMoved Sender sending reception after_put pumped_lane
unfolding sender.initial sender.step sender.state_of runs_of runs_from
pump_moves = record { move = move_by sending reception after_put pump; is_schedule = pump_schedule; stands = refl; sends = λ done gives. gives.pdus }

-- a lane in which nothing happened has not moved
pub idle_has_not_moved : HasMoved Sender sending reception [] sending_lane → ⊥
idle_has_not_moved has = let nothing = has.stands in absurd cc

-- nor has a lane whose log is as before, whatever happens at the other end
abbrev sent_log : Option Log → List sender.Entry
sent_log (Some (sent s log)) = log
sent_log _ = []

no_echo : (pdu : PduValue) → Contains (metadata_in Two ∷ []) pdu → echo_of pdu ≡ None
no_echo pdu there = each_contained (λ p. echo_of p ≡ None) (metadata_in Two ∷ []) pdu (refl, tt) there

stays : (move : Move) → IsSchedule sending reception (move ∷ after_pump) → log_of pumped_lane ≡ Some (log_at Sender sending reception (move ∷ after_pump))
    → metadata_in Two ∷ [] ≡ sent_by move → ⊥
unfolding sender.initial sender.step sender.state_of runs_of runs_from width_from
stays (sends entry) is stands same = let longer = ap (λ (o : Option Log). length (sent_log o)) stands in omega (arith, longer)
stays (receives entry) is stands same =
    let said = subst (AllByRecursion (IsSaidByReceiver (HasKept (entry ∷ [])))) (sym same) (says_what_is_kept reception entry [] is.receiver_legal) in
    absurd (false≢true said.0.0)
stays (echoes pdu) is stands same =
    let none = same ∙ ap (λ (o : Option PduValue). option_to_list o) (no_echo pdu is.unforged.0) in
    let one_is_none = ap (λ (l : List PduValue). length l) none in
    omega (arith, one_is_none)

abbrev pub done_pump : Done
done_pump = record { key = key; pdus = metadata_in Two ∷ []; timers = []; deposit = None }

pub done_pumping : IsDone pumped_lane done_pump
unfolding sender.initial sender.step sender.state_of runs_of runs_from width_from
done_pumping = record { key = refl; pdus = refl; timers = refl; deposit = refl }

pub stays_has_not_moved : HasMoved Sender sending reception after_pump pumped_lane → ⊥
stays_has_not_moved has = stays has.move has.is_schedule has.stands (has.sends done_pump done_pumping)

-- nor has a lane that accepted a PDU which nobody sent
abbrev pub unsent_lane : State
unsent_lane = stepped_by receiving_lane (pdu_came (eof_in Two) ∷ [])

abbrev received_log : Option Log → List receiver.Entry
received_log (Some (received r log)) = log
received_log _ = []

abbrev first_pdu : List receiver.Entry → Option PduValue
first_pdu [] = None
first_pdu (entry ∷ front) = pdu_of entry.event

unsent : (move : Move) → IsSchedule sending reception (move ∷ after_put) → log_of unsent_lane ≡ Some (log_at Receiver sending reception (move ∷ after_put)) → ⊥
unfolding receiver.initial receiver.step receiver.state_of
unsent (sends entry) is stands = let longer = ap (λ (o : Option Log). length (received_log o)) stands in omega (arith, longer)
unsent (receives entry) is stands =
    let same = ap (λ (o : Option Log). first_pdu (received_log o)) stands in
    let there : Contains [] (eof_in Two) = subst (λ o. IfSome o (Contains [])) (sym same) is.unforged.0 in
    let below = there.1 in
    omega (arith, below)
unsent (echoes pdu) is stands = let longer = ap (λ (o : Option Log). length (received_log o)) stands in omega (arith, longer)

pub unsent_has_not_moved : HasMoved Receiver sending reception after_put unsent_lane → ⊥
unsent_has_not_moved has = unsent has.move has.is_schedule has.stands

-- ---- events that find a lane's log

-- an event finds the log that the end has, not an earlier one
pub pump_comes : ComesTo Sender sending reception after_pump pumped_lane (On key what.Pump)
unfolding sender.initial sender.step sender.state_of runs_of runs_from
pump_comes = record { is_schedule = pump_schedule; log_is = refl; carried = tt }

pub pump_comes_to_no_earlier : ComesTo Sender sending reception after_put pumped_lane (On key what.Pump) → ⊥
unfolding sender.initial sender.step sender.state_of runs_of runs_from
pump_comes_to_no_earlier comes = let longer = ap (λ (o : Option Log). length (sent_log o)) comes.log_is in omega (arith, longer)

-- no PDU is received before it was sent
pub eof_comes_to_none : ComesTo Receiver sending reception after_put receiving_lane (pdu_came (eof_in Two)) → ⊥
eof_comes_to_none comes = uncarried comes.carried

-- no event finds ends that no schedule has
pub pump_comes_to_none : ComesTo Sender sending reception (after (pump ∷ [])) pumped_lane (On key what.Pump) → ⊥
pump_comes_to_none comes = unput_is_none comes.is_schedule

-- ---- echoes

-- the echo of an EOF that was sent is the ACK of a terminated transaction
pub eof_echoed : IsEchoed sending reception (after all_sent) (pdu_came (eof_in Two)) echo
unfolding sender.initial sender.step sender.state_of runs_of runs_from width_from
eof_echoed = record {
  pdu = eof_in Two;
  pdu_is = refl;
  is_schedule = record {
    key = refl;
    sender_legal = sent_schedule.sender_legal;
    receiver_legal = tt;
    unforged = ((0, omega (arith), refl), sent_schedule.unforged);
  };
  sends = refl;
}

-- no other PDU is its echo
some_pdu : (pdu other : PduValue) → Some pdu ≡ Some other → pdu ≡ other
some_pdu pdu other is = cc

pub echoed_by_metadata : IsEchoed sending reception (after all_sent) (pdu_came (eof_in Two)) (metadata_in Two) → ⊥
echoed_by_metadata is =
    let sends = subst (λ p. sent_by (echoes p) ≡ metadata_in Two ∷ []) (sym (some_pdu (eof_in Two) is.pdu is.pdu_is)) is.sends in
    absurd (false≢true (ap (λ (l : List PduValue). list_any sender.is_metadata l) sends))

-- there is no echo before the EOF was sent
pub echoed_early : IsEchoed sending reception [] (pdu_came (eof_in Two)) echo → ⊥
echoed_early is = let below = is.is_schedule.unforged.0.1 in omega (arith, below)

-- an event without a PDU has no echo
pub abandon_echoed : IsEchoed sending reception (after all_sent) (On key what.Abandon) echo → ⊥
abandon_echoed is = let none = is.pdu_is in absurd cc
