-- Rows. Rows on lanes at the ends of the worked run, whose steps and echo are moves.
use Rattle.std.specs.Prelude.{◌≡◌, ℕ, List, [], ◌∷◌, ◌++◌, Some, None, Ok, refl}
use Rattle.std.proofs.Common.{arith}
use Rattle.cfdp_types.specs.Reference.{reference}
use Rattle.cfdp_types.specs.declared.names.Class.TheVariants.{Two}
use Rattle.gap_list.specs.Runs.{runs_of, runs_from}
use Rattle.indications.specs.declared.side.Side.TheVariants.{Sender, Receiver}
use Rattle.pdu_values.specs.Pdu.{PduValue}
use Rattle.pdu_values.specs.Tlvs.{width_from}
use Rattle.pdu_values.specs.declared.bodies.Acknowledged.TheVariants as acknowledged
use Rattle.pdu_values.specs.declared.bodies.TransactionStatus.TheVariants.{Terminated}
use Rattle.pdu_values.specs.declared.pdu.Body.TheVariants as body
use Rattle.txn_events.specs.Examples.{abc}
use Rattle.txn_events.specs.declared.event.Event.{Event}
use Rattle.txn_events.specs.declared.event.Event.TheVariants.{Put, On}
use Rattle.txn_events.specs.declared.event.What.TheVariants as what
use Rattle.txn_events.specs.declared.refusal.Refusal.TheVariants as refusal
use Rattle.sender_table.specs.Sending as sender
use Rattle.sender_table.specs.Sending.{put}
use Rattle.sender_table.specs.Answers as sender_answers
use Rattle.receiver_table.specs.Reception as receiver
use Rattle.receiver_table.specs.Answers as receiver_answers
use Rattle.lane_table.specs.declared.lane_side.LaneSide.TheVariants.{Sending, Receiving}
use Rattle.lane_table.specs.Lane.{State, idle, log_of}
use Rattle.lane_table.specs.Steps.{refusal_at, stepped, image_of}
use Rattle.lane_table.proofs.StepFacts.{idle_sound}
use Rattle.ends_laws.specs.Agreement.{image_of_put}
use Rattle.ends_schedules.specs.Schedules.{IsSchedule}
use Rattle.world_table.specs.Histories.{steps, lane_after, AreIdle, IsHistory}
use Rattle.ends_lanes.specs.LaneMoves.{log_at, IsCarried, ComesTo, HasMoved, IsEchoed}
use Rattle.ends_lanes.proofs.MoveFacts.{steps_are_moves, echoes_are_moves, lanes_give_the_put, entity_steps_are_moves}
use Rattle.ends_rows.specs.WorkedSchedules.{key, sending, reception, to_sender, metadata_in, part_in, eof_in, Step, at_sender, came, after, all_sent}

-- ---- the lanes

-- lane 0 of user 0 at entity 2, whose first number is 4
abbrev pub sending_lane : State
sending_lane = idle (Sending (record { first = 1; lanes = 2; users = 2 }) 255) 0 0 (record { 0 = 2 })

-- a lane of entity 1 that receives from entity 2
abbrev pub receiving_lane : State
receiving_lane = idle (Receiving reception.params) 0 2 (record { 0 = 2 })

abbrev pub the_put : Event
the_put = Put sending.request reference

abbrev pub pdu_came : PduValue → Event
pdu_came pdu = On key (what.Pdu pdu)

abbrev pub stepped_by : State → List Event → State
stepped_by state [] = state
stepped_by state (event ∷ later) = stepped_by (stepped state event) later

-- ---- steps

-- nothing has happened yet
pub nothing_schedule : IsSchedule sending reception []
nothing_schedule = record { key = refl; sender_legal = tt; receiver_legal = tt; unforged = tt }

-- a Put opens the sender's end
pub put_comes : ComesTo Sender sending reception [] sending_lane the_put
put_comes = record { is_schedule = nothing_schedule; log_is = refl; carried = tt }

pub put_taken : refusal_at sending_lane the_put ≡ None
unfolding sender.initial sender.step sender.state_of
put_taken = refl

pub put_moves : HasMoved Sender sending reception [] (stepped sending_lane the_put)
put_moves =
    steps_are_moves Sender sending reception [] sending_lane the_put (idle_sound sending_lane.side 0 0 (record { 0 = 2 }) (omega (arith), omega (arith)))
    tt put_taken put_comes

-- the lane's log is that of the sender's first move
pub put_log : log_of (stepped sending_lane the_put) ≡ Some (log_at Sender sending reception (after (at_sender put ∷ [])))
unfolding sender.initial sender.step sender.state_of
put_log = refl

-- everything was sent
pub sent_schedule : IsSchedule sending reception (after all_sent)
unfolding sender.initial sender.step sender.state_of sender_answers.answer_at runs_of runs_from width_from
sent_schedule = record {
  key = refl;
  sender_legal = (refl, tt, refl, (refl, tt, refl, (refl, tt, refl, (refl, tt, refl, tt))));
  receiver_legal = tt;
  unforged = (tt, (tt, (tt, (tt, tt))));
}

-- the EOF opens the receiver's end
pub eof_comes : ComesTo Receiver sending reception (after all_sent) receiving_lane (pdu_came (eof_in Two))
unfolding sender.initial sender.step sender.state_of runs_of runs_from width_from
eof_comes = record { is_schedule = sent_schedule; log_is = refl; carried = (0, omega (arith), refl) }

pub eof_taken : refusal_at receiving_lane (pdu_came (eof_in Two)) ≡ None
unfolding receiver.initial receiver.step receiver.state_of
eof_taken = refl

pub eof_moves : HasMoved Receiver sending reception (after all_sent) (stepped receiving_lane (pdu_came (eof_in Two)))
eof_moves =
    steps_are_moves Receiver sending reception (after all_sent) receiving_lane (pdu_came (eof_in Two)) (idle_sound receiving_lane.side 0 2 (record { 0 = 2 }) tt)
    (refl, refl) eof_taken eof_comes

-- a PDU is carried only where it was sent
pub uncarried : IsCarried (after (at_sender put ∷ [])) (pdu_came (eof_in Two)) → ⊥
uncarried there = let below = there.1 in omega (arith, below)

-- ---- echoes

-- the user of the receiving lane abandons the transaction, and the EOF is received again
abbrev pub abandoned : State
abandoned = stepped_by receiving_lane (pdu_came (eof_in Two) ∷ On key what.Abandon ∷ [])

abbrev pub echo : PduValue
echo = to_sender (body.Ack (record { of = acknowledged.Eof; condition = 0; status = Terminated }))

pub echoes_eof : refusal_at abandoned (pdu_came (eof_in Two)) ≡ Some (record { why = refusal.OldTransaction; echo = Some echo })
unfolding receiver.initial receiver.step receiver.state_of runs_of runs_from
echoes_eof = refl

-- so the schedule continues with an echo, whatever happened before
pub echo_moves : IsEchoed sending reception (after all_sent) (pdu_came (eof_in Two)) echo
echo_moves =
    echoes_are_moves sending reception (after all_sent) abandoned (pdu_came (eof_in Two)) (record { why = refusal.OldTransaction; echo = Some echo })
    sent_schedule eof_comes.carried echoes_eof

-- ---- an entity

-- the lanes of an entity, all of them such sending lanes
abbrev pub lanes : ℕ → ℕ → State
lanes user lane = idle (Sending (record { first = 1; lanes = 2; users = 2 }) 255) user lane (record { 0 = 2 })

pub lanes_idle : AreIdle lanes
lanes_idle = record { numbered = λ user lane. (omega (arith), omega (arith)); idle_is = λ user lane. refl }

pub put_history : IsHistory lanes (steps 0 0 the_put ∷ [])
put_history = (tt, put_taken, tt)

pub entity_moves : HasMoved Sender sending reception [] (lane_after lanes (steps 0 0 the_put ∷ []) 0 0)
entity_moves = entity_steps_are_moves lanes [] 0 0 the_put Sender sending reception [] lanes_idle put_history put_comes

-- ---- a file at a lane

-- the receiving lane where all PDUs arrive in order
abbrev pub in_order : List Step
in_order = all_sent ++ came (metadata_in Two) ∷ came (part_in Two) ∷ came (eof_in Two) ∷ []

pub in_order_schedule : IsSchedule sending reception (after in_order)
unfolding sender.initial sender.step sender.state_of sender_answers.answer_at receiver.initial receiver.step receiver.state_of receiver_answers.answer_at runs_of runs_from width_from
in_order_schedule = record {
  key = refl;
  sender_legal = sent_schedule.sender_legal;
  receiver_legal = (refl, tt, refl, (refl, tt, refl, (refl, (refl, refl, refl, refl), refl, tt)));
  unforged = ((0, omega (arith), refl), ((1, omega (arith), refl), ((2, omega (arith), refl), sent_schedule.unforged)));
}

abbrev pub filled_lane : State
filled_lane = stepped_by receiving_lane (pdu_came (metadata_in Two) ∷ pdu_came (part_in Two) ∷ pdu_came (eof_in Two) ∷ [])

pub filled_stands : log_of filled_lane ≡ Some (log_at Receiver sending reception (after in_order))
filled_stands = refl

pub filled_gives : image_of filled_lane key 2 ≡ Ok (record { source_name = 97 ∷ []; destination_name = 98 ∷ []; octets = abc })
unfolding receiver.initial receiver.step receiver.state_of runs_of runs_from
filled_gives = refl

pub filled_put : record { source_name = 97 ∷ []; destination_name = 98 ∷ []; octets = abc } ≡ image_of_put sending.request
filled_put = lanes_give_the_put sending reception (after in_order) filled_lane key 2 _ in_order_schedule filled_stands filled_gives
