-- Steps, echoes and entities: each is a move.
use Rattle.std.proofs.Common.{◌≡◌, Bool, true, false, List, [], ◌∷◌, if◌then◌else◌, option_to_list, IfSome, Contains, Option, Some, None, Result, Ok, Err, ◌⊎◌, inl, inr, refl, sym, ap, ◌∙◌, subst}
use Rattle.std.specs.Option.{option_map, option_or}
use Rattle.indications.specs.declared.side.Side.{Side}
use Rattle.indications.specs.declared.side.Side.TheVariants.{Sender, Receiver}
use Rattle.pdu_values.specs.Pdu.{PduValue}
use Rattle.txn_events.specs.Events.{echo_of}
use Rattle.txn_events.specs.declared.event.Event.{Event}
use Rattle.txn_events.specs.declared.event.Event.TheVariants.{Put, On}
use Rattle.txn_events.specs.declared.event.What.TheVariants as what
use Rattle.txn_events.specs.declared.refusal.Refusal.{Refusal}
use Rattle.txn_events.specs.declared.refusal.Refusal.TheVariants as refusal
use Rattle.sender_table.specs.Sending.{Sending}
use Rattle.sender_table.specs.Sending as sender
use Rattle.sender_table.specs.Answers as sender_answers
use Rattle.receiver_table.specs.Reception.{Reception}
use Rattle.receiver_table.specs.Reception as receiver
use Rattle.receiver_table.specs.Answers as receiver_answers
use Rattle.receiver_table.specs.Images.{image_at}
use Rattle.cfdp_types.specs.declared.image.Image.{Image}
use Rattle.lane_table.specs.declared.done.Done.{Done}
use Rattle.lane_table.specs.declared.refused.Refused.{Refused}
use Rattle.lane_table.specs.Logs.{Log, sent, received, to_sender, IsLegal}
use Rattle.lane_table.specs.Lane.{State, log_of}
use Rattle.lane_table.specs.Steps.{new_transaction, log_before, is_unknown, is_old, is_busy, plainly, echo_to, refused_by_number, refused_by_end, refused_by_lane, refusal_at, stepped, answer_in, IsDone, is_key}
use Rattle.lane_table.proofs.LogFacts.{log_with, HasPlace}
use Rattle.lane_table.proofs.SentFacts.{some_is}
use Rattle.lane_table.proofs.StepFacts.{comes_to, comes_legal}
use Rattle.ends_schedules.specs.Schedules.{Move, sends, receives, sender_log, receiver_log, ever_sent, pdu_to_sender, IsSchedule}
use Rattle.ends_schedules.proofs.ScheduleFacts.{images_are_the_put}
use Rattle.world_table.specs.Histories.{lane_after}
use Rattle.world_table.proofs.HistoryFacts.{lane_here}
use Rattle.world_table.proofs.LogFacts.{logs_are_legal}
use Rattle.ends_lanes.specs.LaneMoves.{log_at, IsCarried, HasMoved, StepsAreMoves, IsEchoed, EchoesAreMoves, LanesGiveThePut}
use Rattle.ends_lanes.specs.EntityMoves.{EntityStepsAreMoves}

-- ---- steps

carried_to_sender : (moves : List Move) (event : Event) → IsCarried moves event → IfSome (pdu_to_sender (to_sender event)) (Contains (ever_sent moves))
carried_to_sender moves (Put request params) carried = tt
carried_to_sender moves (On key event) carried = carried

done_pdus : (next : State) (log : Log) (done : Done) → log_of next ≡ Some log → IsDone next done → done.pdus ≡ (answer_in (Some log)).pdus
done_pdus next log done stands is = is.pdus ∙ ap (λ (o : Option Log). (answer_in o).pdus) stands

moved : (side : Side) (sending : Sending) (reception : Reception) (moves : List Move) (next : State) (event : Event) → IsSchedule sending reception moves
    → IsCarried moves event → HasPlace (log_at side sending reception moves) event → IsLegal (log_with (log_at side sending reception moves) event)
    → log_of next ≡ Some (log_with (log_at side sending reception moves) event) → HasMoved side sending reception moves next
moved Sender sending reception moves next event is carried place legal stands =
    let entry : sender.Entry = record {
      event = to_sender event;
      answer = sender_answers.accepted_at sending (sender.state_of sending (sender_log moves)) (to_sender event);
    } in
    record {
      move = sends entry;
      is_schedule = record { key = is.key; sender_legal = legal; receiver_legal = is.receiver_legal; unforged = (carried_to_sender moves event carried, is.unforged) };
      stands = stands;
      sends = λ done gives. done_pdus next (sent sending (entry ∷ sender_log moves)) done stands gives;
    }
moved Receiver sending reception moves next (On key event) is carried place legal stands =
    let entry : receiver.Entry = record {
      event = event;
      answer = receiver_answers.accepted_at reception (receiver.state_of (receiver_log moves)) event;
    } in
    record {
      move = receives entry;
      is_schedule = record { key = is.key; sender_legal = is.sender_legal; receiver_legal = legal; unforged = (carried, is.unforged) };
      stands = stands;
      sends = λ done gives. done_pdus next (received reception (entry ∷ receiver_log moves)) done stands gives;
    }
moved Receiver sending reception moves next (Put request params) is carried place legal stands = absurd place

pub steps_are_moves : StepsAreMoves
steps_are_moves side sending reception moves state event sound keyed free comes =
    let came = comes_to state event sound keyed free in
    let same : came.log ≡ log_at side sending reception moves =
    some_is came.log (log_at side sending reception moves) (sym came.before ∙ comes.log_is) in
    moved side sending reception moves (stepped state event) event comes.is_schedule comes.carried
    (subst (λ log. HasPlace log event) same came.place)
    (subst (λ log. IsLegal (log_with log event)) same (comes_legal state event free came))
    (came.after ∙ ap (λ log. Some (log_with log event)) same)

-- ---- echoes

-- a refusal echoes nothing, or the event
abbrev Echoes : Event → Option Refused → Type 0
Echoes event why = IfSome why (λ refused. (refused.echo ≡ None) ⊎ (refused.echo ≡ echo_to event))

plain_echoes : (event : Event) (why : Option Refusal) → Echoes event (option_map plainly why)
plain_echoes event None = tt
plain_echoes event (Some why) = inl refl

echoes_if : (event : Event) (b : Bool) (x : Refused) (rest : Option Refused) → (x.echo ≡ None) ⊎ (x.echo ≡ echo_to event) → Echoes event rest
    → Echoes event (if b then Some x else rest)
echoes_if event true x rest first second = first
echoes_if event false x rest first second = second

echoes_or : (event : Event) (x y : Option Refused) → Echoes event x → Echoes event y → Echoes event (option_or x y)
echoes_or event None y first second = second
echoes_or event (Some x) y first second = first

refusal_echoes : (state : State) (event : Event) → Echoes event (refusal_at state event)
refusal_echoes state event =
    echoes_or event (refused_by_lane state event) (option_map plainly (refused_by_end (log_before state (new_transaction state event)) event))
    (echoes_if event (is_unknown state event) (plainly refusal.NoTransaction) _ (inl refl)
    (echoes_if event (is_old state event) (record { why = refusal.OldTransaction; echo = echo_to event }) _ (inr refl)
    (echoes_if event (is_busy state event) (plainly refusal.LaneBusy) _ (inl refl)
    (plain_echoes event (refused_by_number state event)))))
    (plain_echoes event (refused_by_end (log_before state (new_transaction state event)) event))

echo_is : (o : Option PduValue) (pdu : PduValue) → o ≡ Some pdu → option_to_list o ≡ pdu ∷ []
echo_is o pdu is = ap option_to_list is

echoed_by : (sending : Sending) (reception : Reception) (moves : List Move) (event : Event) (echo : PduValue) → IsSchedule sending reception moves
    → IsCarried moves event → echo_to event ≡ Some echo → IsEchoed sending reception moves event echo
echoed_by sending reception moves (On key (what.Pdu pdu)) echo is carried echoed = record {
  pdu = pdu;
  pdu_is = refl;
  is_schedule = record { key = is.key; sender_legal = is.sender_legal; receiver_legal = is.receiver_legal; unforged = (carried, is.unforged) };
  sends = echo_is (echo_of pdu) echo echoed;
}
echoed_by sending reception moves _ echo is carried echoed = absurd cc

each_echo : (sending : Sending) (reception : Reception) (moves : List Move) (event : Event) (given : Option PduValue) → IsSchedule sending reception moves
    → IsCarried moves event → (given ≡ None) ⊎ (given ≡ echo_to event) → IfSome given (IsEchoed sending reception moves event)
each_echo sending reception moves event None is carried which = tt
each_echo sending reception moves event (Some echo) is carried (inl none) = absurd cc
each_echo sending reception moves event (Some echo) is carried (inr same) = echoed_by sending reception moves event echo is carried (sym same)

pub echoes_are_moves : EchoesAreMoves
echoes_are_moves sending reception moves state event refused is carried why =
    each_echo sending reception moves event refused.echo is carried (subst (Echoes event) why (refusal_echoes state event))

-- ---- images

ok_from : (b : Bool) (given : Result Image Refusal) (why : Refusal) (image : Image) → (if b then given else Err why) ≡ Ok image → given ≡ Ok image
ok_from true given why image e = e
ok_from false given why image e = absurd cc

pub lanes_give_the_put : LanesGiveThePut
lanes_give_the_put sending reception moves state key stamp image is stands given =
    images_are_the_put sending reception moves stamp image is
    (ok_from (is_key state key) (image_at (receiver.state_of (receiver_log moves)) stamp) refusal.StaleStored image (rw stands at given))

-- ---- entities

pub entity_steps_are_moves : EntityStepsAreMoves
entity_steps_are_moves lanes history user lane event side sending reception moves idle is comes =
    let sound = (logs_are_legal lanes history user lane idle is.2).0 in
    subst (HasMoved side sending reception moves) (sym (lane_here lanes history user lane event))
    (steps_are_moves side sending reception moves (lane_after lanes history user lane) event sound is.0 is.1 comes)
