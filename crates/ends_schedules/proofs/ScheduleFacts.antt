-- What every PDU of a schedule says, and what the two ends do by it.
use Rattle.std.proofs.Common.{◌≡◌, ℕ, Bool, true, false, List, [], ◌∷◌, ◌++◌, if◌then◌else◌, option_to_list, IfSome, Contains, Some, None, refl, subst}
use Rattle.std.specs.List.{AllByRecursion}
use Rattle.std.proofs.lemmas.Bool.{false≢true, true≢false}
use Rattle.cfdp_types.specs.Put.{PutValue}
use Rattle.cfdp_types.specs.declared.names.Delivery.TheVariants.{Complete}
use Rattle.cfdp_types.specs.declared.names.FileStatus.{FileStatus}
use Rattle.pdu_values.specs.Pdu.{PduValue, is_toward_sender}
use Rattle.pdu_values.specs.declared.pdu.Body.{Body}
use Rattle.pdu_values.specs.declared.pdu.Body.TheVariants as body
use Rattle.pdu_values.specs.declared.pdu.Header.{Header}
use Rattle.txn_events.specs.Events.{is_two, body_of_event, echo_of}
use Rattle.txn_events.specs.declared.event.What.{What}
use Rattle.txn_events.specs.declared.event.What.TheVariants as what
use Rattle.sender_table.specs.Sending as sender
use Rattle.sender_laws.specs.LegalSendings as sender_logs
use Rattle.receiver_table.specs.Reception as receiver
use Rattle.receiver_table.specs.Reception.{finished_in}
use Rattle.receiver_laws.specs.LegalReceptions as receiver_logs
use Rattle.ends_laws.specs.Agreement.{AgreesWith}
use Rattle.ends_laws.specs.SenderLaws.{IsSaidBySender, IsFinished}
use Rattle.ends_laws.specs.ReceiverLaws.{AllAgree, HasKept, IsSaidByReceiver}
use Rattle.ends_laws.proofs.EntryFacts.{each_append, each_contained}
use Rattle.ends_laws.proofs.SenderFacts.{sends_its_put, tells_what_came}
use Rattle.ends_laws.proofs.ReceiverFacts.{deposits_the_put, gives_the_put}
use Rattle.ends_laws.proofs.KeptFacts.{kept_on, says_what_is_kept}
use Rattle.ends_schedules.specs.Schedules.{Move, sends, receives, echoes, sender_log, receiver_log, ever_sent, pdu_of, pdu_to_sender, IsSchedule}
use Rattle.ends_schedules.specs.ScheduleLaws as laws

-- ---- beginnings

legal_before : (sending : sender.Sending) (move : Move) (earlier : List Move) → sender_logs.IsLegal sending (sender_log (move ∷ earlier))
    → sender_logs.IsLegal sending (sender_log earlier)
legal_before sending (sends entry) earlier legal = legal.3
legal_before sending (receives entry) earlier legal = legal
legal_before sending (echoes pdu) earlier legal = legal

received_before : (reception : receiver.Reception) (move : Move) (earlier : List Move) → receiver_logs.IsLegal reception (receiver_log (move ∷ earlier))
    → receiver_logs.IsLegal reception (receiver_log earlier)
received_before reception (sends entry) earlier legal = legal
received_before reception (receives entry) earlier legal = legal.3
received_before reception (echoes pdu) earlier legal = legal

pub schedule_before : (sending : sender.Sending) (reception : receiver.Reception) (move : Move) (earlier : List Move)
    → IsSchedule sending reception (move ∷ earlier) → IsSchedule sending reception earlier
schedule_before sending reception move earlier is = record {
  key = is.key;
  sender_legal = legal_before sending move earlier is.sender_legal;
  receiver_legal = received_before reception move earlier is.receiver_legal;
  unforged = is.unforged.1;
}

pub begins_as_schedule : laws.BeginsAsSchedule
begins_as_schedule sending reception [] earlier is = is
begins_as_schedule sending reception (move ∷ later) earlier is =
    begins_as_schedule sending reception later earlier (schedule_before sending reception move (later ++ earlier) is)

-- ---- what a PDU says, whichever end it is from

-- it agrees with the Put, and is a Finished of a complete delivery only where this is so
abbrev IsKnown : PutValue → Type 0 → PduValue → Type 0
IsKnown put kept pdu = AgreesWith put pdu.body × IfSome (finished_in pdu.body) (λ f. f.delivery ≡ Complete → kept)

by_sender : (put : PutValue) (kept : Type 0) (b : Body) → is_toward_sender b ≡ false → IfSome (finished_in b) (λ f. f.delivery ≡ Complete → kept)
by_sender put kept (body.Finished f) goes = absurd (true≢false goes)
by_sender put kept _ goes = tt

by_receiver : (put : PutValue) (b : Body) → is_toward_sender b ≡ true → AgreesWith put b
by_receiver put (body.Metadata m) goes = absurd (false≢true goes)
by_receiver put (body.FileData d) goes = absurd (false≢true goes)
by_receiver put (body.Eof e) goes = absurd (false≢true goes)
by_receiver put _ goes = tt

sent_known : (put : PutValue) (kept : Type 0) (pdus : List PduValue) → AllByRecursion (IsSaidBySender put) pdus → AllByRecursion (IsKnown put kept) pdus
sent_known put kept [] said = tt
sent_known put kept (pdu ∷ later) said = ((said.0.1, by_sender put kept pdu.body said.0.0), sent_known put kept later said.1)

answered_known : (put : PutValue) (kept : Type 0) (pdus : List PduValue) → AllByRecursion (IsSaidByReceiver kept) pdus → AllByRecursion (IsKnown put kept) pdus
answered_known put kept [] said = tt
answered_known put kept (pdu ∷ later) said = ((by_receiver put pdu.body said.0.0, said.0.1), answered_known put kept later said.1)

-- an echo is an ACK
one_if : (P : PduValue → Type 0) (so : Bool) (pdu : PduValue) → P pdu → AllByRecursion P (option_to_list (if so then Some pdu else None))
one_if P true pdu holds = (holds, tt)
one_if P false pdu holds = tt

none_if : (P : PduValue → Type 0) (so : Bool) → AllByRecursion P (option_to_list (if so then None else None))
none_if P true = tt
none_if P false = tt

echo_known : (put : PutValue) (kept : Type 0) (header : Header) (b : Body) → AllByRecursion (IsKnown put kept) (option_to_list (echo_of (record { header = header; body = b })))
echo_known put kept header (body.Eof e) = one_if (IsKnown put kept) (is_two header.class) _ (tt, tt)
echo_known put kept header (body.Finished f) = one_if (IsKnown put kept) (is_two header.class) _ (tt, tt)
echo_known put kept header (body.Metadata m) = none_if (IsKnown put kept) (is_two header.class)
echo_known put kept header (body.FileData d) = none_if (IsKnown put kept) (is_two header.class)
echo_known put kept header (body.Ack a) = none_if (IsKnown put kept) (is_two header.class)
echo_known put kept header (body.Nak n) = none_if (IsKnown put kept) (is_two header.class)
echo_known put kept header (body.Prompt p) = none_if (IsKnown put kept) (is_two header.class)
echo_known put kept header (body.KeepAlive k) = none_if (IsKnown put kept) (is_two header.class)

-- what was known stays known where more is kept
says_still : (kept more : Type 0) (b : Body) → (kept → more) → IfSome (finished_in b) (λ f. f.delivery ≡ Complete → kept)
    → IfSome (finished_in b) (λ f. f.delivery ≡ Complete → more)
says_still kept more (body.Finished f) grows says = λ complete. grows (says complete)
says_still kept more _ grows says = tt

known_still : (put : PutValue) (kept more : Type 0) (pdus : List PduValue) → (kept → more) → AllByRecursion (IsKnown put kept) pdus
    → AllByRecursion (IsKnown put more) pdus
known_still put kept more [] grows known = tt
known_still put kept more (pdu ∷ later) grows known =
    ((known.0.0, says_still kept more pdu.body grows known.0.1), known_still put kept more later grows known.1)

-- ---- what holds of every schedule

record Holds (put : PutValue) (moves : List Move) : Type 0 where
  -- every PDU that was ever sent says what the Put says, and is a Finished of a complete delivery only where the file was kept
  pub known : AllByRecursion (IsKnown put (HasKept (receiver_log moves))) (ever_sent moves)
  -- so every PDU that came at the receiver agrees with the Put
  pub came : AllAgree put (receiver_log moves)

came_agrees : (put : PutValue) (kept : Type 0) (event : What) (sent : List PduValue) → AllByRecursion (IsKnown put kept) sent
    → IfSome (pdu_of event) (Contains sent) → IfSome (body_of_event event) (AgreesWith put)
came_agrees put kept (what.Pdu pdu) sent known there = (each_contained (IsKnown put kept) sent pdu known there).0
came_agrees put kept _ sent known there = tt

holds : (sending : sender.Sending) (reception : receiver.Reception) (moves : List Move) → IsSchedule sending reception moves → Holds sending.request moves
holds sending reception [] is = record { known = tt; came = tt }
holds sending reception (sends entry ∷ earlier) is =
    let put = sending.request in
    let kept = HasKept (receiver_log earlier) in
    let before = holds sending reception earlier (schedule_before sending reception (sends entry) earlier is) in
    record {
      known = each_append (IsKnown put kept) entry.answer.pdus (ever_sent earlier)
          (sent_known put kept entry.answer.pdus (sends_its_put sending entry (sender_log earlier) is.sender_legal)) before.known;
      came = before.came;
    }
holds sending reception (receives entry ∷ earlier) is =
    let put = sending.request in
    let front = receiver_log earlier in
    let kept = HasKept (entry ∷ front) in
    let before = holds sending reception earlier (schedule_before sending reception (receives entry) earlier is) in
    record {
      known = each_append (IsKnown put kept) entry.answer.pdus (ever_sent earlier)
          (answered_known put kept entry.answer.pdus (says_what_is_kept reception entry front is.receiver_legal))
          (known_still put (HasKept front) kept (ever_sent earlier) (kept_on entry front) before.known);
      came = (came_agrees put (HasKept front) entry.event (ever_sent earlier) before.known is.unforged.0, before.came);
    }
holds sending reception (echoes pdu ∷ earlier) is =
    let put = sending.request in
    let kept = HasKept (receiver_log earlier) in
    let before = holds sending reception earlier (schedule_before sending reception (echoes pdu) earlier is) in
    record {
      known = each_append (IsKnown put kept) (option_to_list (echo_of pdu)) (ever_sent earlier) (echo_known put kept pdu.header pdu.body) before.known;
      came = before.came;
    }

-- ---- the files

pub deposits_are_the_put : laws.DepositsAreThePut
deposits_are_the_put sending reception earlier entry deposit is handed =
    deposits_the_put sending.request reception entry (receiver_log earlier) deposit is.receiver_legal
    (holds sending reception (receives entry ∷ earlier) is).came handed

pub images_are_the_put : laws.ImagesAreThePut
images_are_the_put sending reception moves stamp image is given =
    gives_the_put sending.request reception (receiver_log moves) stamp image is.receiver_legal (holds sending reception moves is).came given

-- ---- what the sender tells

legal_behind : (reception : receiver.Reception) (later front : List receiver.Entry) (entry : receiver.Entry)
    → receiver_logs.IsLegal reception (later ++ entry ∷ front) → receiver_logs.IsLegal reception front
legal_behind reception [] front entry legal = legal.3
legal_behind reception (other ∷ later) front entry legal = legal_behind reception later front entry legal.3

agree_behind : (put : PutValue) (later front : List receiver.Entry) (entry : receiver.Entry) → AllAgree put (later ++ entry ∷ front) → AllAgree put front
agree_behind put [] front entry agree = agree.1
agree_behind put (other ∷ later) front entry agree = agree_behind put later front entry agree.1

-- what was kept is the Put's file
stored_is : (put : PutValue) (reception : receiver.Reception) (log : List receiver.Entry) → receiver_logs.IsLegal reception log → AllAgree put log
    → HasKept log → laws.HasStored put log
stored_is put reception log legal agree kept =
    let entry : receiver.Entry = record { event = what.Stored kept.stamp true; answer = kept.answer } in (
      kept,
      gives_the_put put reception kept.front kept.stamp kept.image
          (legal_behind reception kept.later kept.front entry (subst (receiver_logs.IsLegal reception) kept.log_is legal))
          (agree_behind put kept.later kept.front entry (subst (AllAgree put) kept.log_is agree)) kept.image_is,
    )

finished_came : (event : sender.Event) (condition : ℕ) (status : FileStatus) (sent : List PduValue) (put : PutValue) (kept : Type 0)
    → IsFinished event condition status → IfSome (pdu_to_sender event) (Contains sent) → AllByRecursion (IsKnown put kept) sent → kept
finished_came event condition status sent put kept is there known =
    let at = subst (λ e. IfSome (pdu_to_sender e) (Contains sent)) is.event_is there in
    (each_contained (IsKnown put kept) sent _ known at).1 refl

pub tells_what_was_stored : laws.TellsWhatWasStored
tells_what_was_stored sending reception earlier entry condition status is told =
    let front = receiver_log earlier in
    let before = holds sending reception earlier (schedule_before sending reception (sends entry) earlier is) in
    stored_is sending.request reception front is.receiver_legal before.came
    (finished_came entry.event condition status (ever_sent earlier) sending.request (HasKept front)
    (tells_what_came sending entry (sender_log earlier) condition status is.sender_legal told) is.unforged.0 before.known)
