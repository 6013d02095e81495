-- Rows. Rows on kept files: what the file store accepted, and what each end reports of it.
use Rattle.std.specs.Prelude.{◌≡◌, ℕ, Bool, true, false, List, [], ◌∷◌, ◌++◌, None, Option, Result, Ok, Err, refl}
use Rattle.std.specs.List.{AllByRecursion}
use Rattle.std.specs.Option.{option_map, option_and_then}
use Rattle.std.proofs.Common.{ap, sym, subst, ◌∙◌, arith, get_or}
use Rattle.cfdp_types.specs.Put.{PutValue}
use Rattle.cfdp_types.specs.declared.image.Image.{Image}
use Rattle.cfdp_types.specs.declared.names.Class.TheVariants.{Two}
use Rattle.cfdp_types.specs.declared.names.Delivery.{Delivery}
use Rattle.cfdp_types.specs.declared.names.Delivery.TheVariants.{Complete, Incomplete}
use Rattle.cfdp_types.specs.declared.names.FileStatus.{FileStatus}
use Rattle.cfdp_types.specs.declared.names.FileStatus.TheVariants.{Rejected, Retained}
use Rattle.gap_list.specs.Runs.{runs_of, runs_from}
use Rattle.pdu_values.specs.Pdu.{PduValue}
use Rattle.pdu_values.specs.declared.bodies.Finished.{Finished}
use Rattle.pdu_values.specs.declared.pdu.Body.TheVariants as body
use Rattle.txn_events.specs.Events.{body_of_event}
use Rattle.txn_events.specs.Examples.{abc}
use Rattle.txn_events.specs.declared.answer.Answer.{Answer}
use Rattle.txn_events.specs.declared.event.What.{What}
use Rattle.txn_events.specs.declared.event.What.TheVariants as what
use Rattle.txn_events.specs.declared.refusal.Refusal.{Refusal}
use Rattle.sender_table.specs.Sending as sender
use Rattle.sender_table.specs.Sending.{put, happens}
use Rattle.receiver_table.specs.Reception.{Entry, state_of, initial, step, finished_in}
use Rattle.receiver_table.specs.Answers.{empty_answer}
use Rattle.receiver_table.specs.Images.{image_at}
use Rattle.receiver_laws.specs.LegalReceptions as receiver_logs
use Rattle.ends_laws.specs.SenderLaws.{IsFinished}
use Rattle.ends_laws.specs.ReceiverLaws.{HasKept, IsSaidByReceiver}
use Rattle.ends_laws.proofs.SenderFacts.{tells_what_came}
use Rattle.ends_laws.proofs.KeptFacts.{says_what_is_kept}
use Rattle.ends_schedules.specs.Schedules.{sender_log, receiver_log}
use Rattle.ends_schedules.specs.ScheduleLaws.{HasStored}
use Rattle.ends_rows.specs.WorkedSchedules.{sending, reception, to_sender, metadata_in, nak, finished_acknowledged, after, deposited, stored, told_kept, whole}
use Rattle.ends_rows.specs.ScheduleRows.{stored_schedule, told_schedule, deposit_is, finished_entry, tells_complete}

-- ---- what the file store accepted

-- whether the event is an answer that the file is kept
abbrev pub is_yes : What → Bool
is_yes (what.Stored stamp kept) = kept
is_yes _ = false

abbrev pub IsNoYes : Entry → Type 0
IsNoYes entry = is_yes entry.event ≡ false

abbrev pub answered_by : ℕ → Bool → Answer → Entry
answered_by stamp kept answer = record { event = what.Stored stamp kept; answer = answer }

-- an entry anywhere in a log
each_behind : (P : Entry → Type 0) (later front : List Entry) (entry : Entry) → AllByRecursion P (later ++ entry ∷ front) → P entry
each_behind P [] front entry each = each.0
each_behind P (other ∷ later) front entry each = each_behind P later front entry each.1

no_yes : (log later front : List Entry) (stamp : ℕ) (answer : Answer) → AllByRecursion IsNoYes log → log ≡ later ++ answered_by stamp true answer ∷ front → ⊥
no_yes log later front stamp answer each is =
    let no : true ≡ false = each_behind IsNoYes later front (answered_by stamp true answer) (subst (AllByRecursion IsNoYes) is each) in absurd cc

-- where the file store accepted nothing, nothing is kept
none_kept : (log : List Entry) → AllByRecursion IsNoYes log → HasKept log → ⊥
none_kept log each kept = no_yes log kept.later kept.front kept.stamp kept.answer each kept.log_is

abbrev stamp_of : What → ℕ
stamp_of (what.Stored stamp kept) = stamp
stamp_of _ = 0

abbrev stamp_in : List Entry → ℕ
stamp_in [] = 0
stamp_in (entry ∷ front) = stamp_of entry.event

abbrev front_of : List Entry → List Entry
front_of [] = []
front_of (entry ∷ front) = front

kept_there : (stamp other : ℕ) (answer given : Answer) (front behind later : List Entry) (image : Image) → AllByRecursion IsNoYes front
    → answered_by stamp true answer ∷ front ≡ later ++ answered_by other true given ∷ behind
    → image_at (state_of behind) other ≡ Ok image → image_at (state_of front) stamp ≡ Ok image
kept_there stamp other answer given front behind [] image each is there =
    let fronts : front ≡ behind = ap front_of is in
    let stamps : stamp ≡ other = ap stamp_in is in
    subst (λ f. image_at (state_of f) stamp ≡ Ok image) (sym fronts) (subst (λ s. image_at (state_of behind) s ≡ Ok image) (sym stamps) there)
kept_there stamp other answer given front behind (entry ∷ later) image each is there =
    absurd (no_yes front later behind other given each (ap front_of is))

-- where it accepted once, and last, the file is kept that the stamp gave then
kept_once : (stamp : ℕ) (answer : Answer) (front : List Entry) → AllByRecursion IsNoYes front → (kept : HasKept (answered_by stamp true answer ∷ front))
    → image_at (state_of front) stamp ≡ Ok kept.image
kept_once stamp answer front each kept = kept_there stamp kept.stamp answer kept.answer front kept.front kept.later kept.image each kept.log_is kept.image_is

-- in the worked run the file is kept once the file store has said so, and from then on
abbrev pub kept_image : Image
kept_image = record { source_name = 97 ∷ []; destination_name = 98 ∷ []; octets = abc }

abbrev pub waiting_log : List Entry
waiting_log = receiver_log (after deposited)

abbrev pub kept_answer : Answer
kept_answer = receiver_logs.answer_behind reception waiting_log (what.Stored 2 true)

abbrev pub last_entry : Entry
last_entry = record {
  event = what.Pdu finished_acknowledged;
  answer = receiver_logs.answer_behind reception (receiver_log (after told_kept)) (what.Pdu finished_acknowledged);
}

pub kept_when_stored : HasKept (receiver_log (after stored))
kept_when_stored = record { later = []; stamp = 2; answer = kept_answer; front = waiting_log; log_is = refl; image = kept_image; image_is = deposit_is }

pub kept_from_then_on : HasKept (receiver_log (after whole))
kept_from_then_on =
    record { later = last_entry ∷ []; stamp = 2; answer = kept_answer; front = waiting_log; log_is = refl; image = kept_image; image_is = deposit_is }

-- and it is the Put's file
pub stored_when_stored : HasStored sending.request (receiver_log (after stored))
unfolding kept_when_stored
stored_when_stored = (kept_when_stored, refl)

-- before the file store answers nothing is kept
pub waiting_is_not_kept : HasKept waiting_log → ⊥
waiting_is_not_kept = none_kept waiting_log (refl, (refl, (refl, tt)))

-- nothing is kept where the file store rejects the file
pub rejected_is_not_kept : HasKept (answered_by 2 false empty_answer ∷ waiting_log) → ⊥
rejected_is_not_kept = none_kept (answered_by 2 false empty_answer ∷ waiting_log) (refl, (refl, (refl, (refl, tt))))

-- nothing is kept where it answers for a deposit that isn't waiting
pub stale_is_not_kept : HasKept (answered_by 3 true empty_answer ∷ waiting_log) → ⊥
unfolding sender.initial sender.step sender.state_of initial step state_of runs_of runs_from
stale_is_not_kept kept = let given = kept_once 3 empty_answer waiting_log (refl, (refl, (refl, tt))) kept in absurd cc

-- the kept file belongs to no other Put
abbrev pub renamed : PutValue
renamed = record sending.request { destination_name = 97 ∷ [] }

abbrev name_in : Result Image Refusal → ℕ
name_in (Ok image) = get_or image.destination_name 0 0
name_in (Err why) = 0

pub stored_is_no_other : HasStored renamed (answered_by 2 true empty_answer ∷ waiting_log) → ⊥
stored_is_no_other there =
    let given = kept_once 2 empty_answer waiting_log (refl, (refl, (refl, tt))) there.0 in
    let names = ap name_in (sym deposit_is ∙ given ∙ ap (λ (i : Image). Ok i) there.1) in
    omega (arith, names)

-- ---- what each end reports of it

-- a Finished of a complete delivery is sent only where the file is kept; any other Finished may always be
abbrev pub finished_as : Delivery → PduValue
finished_as delivery = to_sender (body.Finished (record { condition = 0; delivery = delivery; status = Retained; location = None }))

pub says_complete : IsSaidByReceiver (HasKept (receiver_log (after stored))) (finished_as Complete)
says_complete = (refl, λ complete. kept_when_stored)

pub says_incomplete : IsSaidByReceiver ⊥ (finished_as Incomplete)
says_incomplete = (refl, λ complete. absurd cc)

pub says_nothing_of_it : IsSaidByReceiver ⊥ nak
says_nothing_of_it = (refl, tt)

pub says_complete_too_early : IsSaidByReceiver (HasKept waiting_log) (finished_as Complete) → ⊥
says_complete_too_early said = waiting_is_not_kept (said.1 refl)

-- a receiver sends nothing that goes toward the receiver
pub says_no_metadata : (kept : Type 0) → IsSaidByReceiver kept (metadata_in Two) → ⊥
says_no_metadata kept said = let goes = said.0 in absurd cc

-- the PDUs that are sent once the file store has accepted the file keep to this
pub stored_says : AllByRecursion (IsSaidByReceiver (HasKept (receiver_log (after stored)))) kept_answer.pdus
stored_says = says_what_is_kept reception (answered_by 2 true kept_answer) waiting_log stored_schedule.receiver_legal

-- the sender indicates a complete delivery at a Finished with these values
pub told_at_finished : IsFinished finished_entry.event 0 Retained
told_at_finished = tells_what_came sending finished_entry (sender_log (after stored)) 0 Retained told_schedule.sender_legal tells_complete

pub at_finished : IsFinished (happens (what.Pdu (finished_as Complete))) 0 Retained
at_finished = record { header = nak.header; location = None; event_is = refl }

-- not at one with other values, nor at another event
abbrev finished_at : sender.Event → Option Finished
finished_at put = None
finished_at (happens event) = option_and_then finished_in (body_of_event event)

abbrev condition_at : sender.Event → Option ℕ
condition_at event = option_map (λ f. f.condition) (finished_at event)

abbrev delivery_at : sender.Event → Option Delivery
delivery_at event = option_map (λ f. f.delivery) (finished_at event)

abbrev status_at : sender.Event → Option FileStatus
status_at event = option_map (λ f. f.status) (finished_at event)

pub at_another_condition : IsFinished (happens (what.Pdu (finished_as Complete))) 4 Retained → ⊥
at_another_condition is = let conditions = ap condition_at is.event_is in absurd cc

pub at_another_status : IsFinished (happens (what.Pdu (finished_as Complete))) 0 Rejected → ⊥
at_another_status is = let statuses = ap status_at is.event_is in absurd cc

pub at_incomplete : IsFinished (happens (what.Pdu (finished_as Incomplete))) 0 Retained → ⊥
at_incomplete is = let deliveries = ap delivery_at is.event_is in absurd cc

pub at_the_put : IsFinished put 0 Retained → ⊥
at_the_put is = let events = is.event_is in absurd cc
