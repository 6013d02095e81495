-- Worked images of a lane that receives: of which reception each is.
use Rattle.std.proofs.Common.{◌≡◌, ℕ, List, [], ◌∷◌, ◌++◌, length, Option, Some, None, Result, Ok, Err, slice_get, refl, sym, ap, ◌∙◌, subst, append_assoc, arith}
use Rattle.std.proofs.lemmas.List.{append-nil}
use Rattle.cfdp_types.specs.Reference.{reference}
use Rattle.cfdp_types.specs.declared.image.Image.{Image}
use Rattle.cfdp_types.specs.declared.key.TxnKey.{TxnKey}
use Rattle.cfdp_types.specs.declared.names.Class.TheVariants.{One}
use Rattle.gap_list.specs.Runs.{runs_of, runs_from}
use Rattle.indications.specs.declared.bundle.Bundle.{Bundle}
use Rattle.receiver_table.specs.Answers.{answer_at}
use Rattle.receiver_table.specs.Images.{image_at}
use Rattle.receiver_table.specs.Reception.{Reception, Entry, initial, step, state_of}
use Rattle.receiver_laws.specs.LegalReceptions.{log_of, IsLegal}
use Rattle.txn_events.specs.Examples.{header}
use Rattle.txn_events.specs.Logs.{empty_answer}
use Rattle.txn_events.specs.declared.answer.Answer.{Answer}
use Rattle.txn_events.specs.declared.event.Event.{Event}
use Rattle.txn_events.specs.declared.refusal.Refusal.{Refusal}
use Rattle.lane_table.specs.Lane as lanes
use Rattle.lane_table.specs.Logs.{Log, sent, received, to_receiver}
use Rattle.lane_table.specs.Steps.{stepped}
use Rattle.lane_table.specs.Keeping.{Keeps, bundle_of, sent_after, AreTaken}
use Rattle.lane_table.proofs.StepFacts.{idle_keeps, idle_sound}
use Rattle.lane_table.proofs.RunFacts.{steps_keep}
use Rattle.lane_table.proofs.SentFacts.{some_is}
use Rattle.world_rows.specs.ReceivingLaneRows.{fresh, key, metadata, part, eof, after, storing, image, image_waits}
use Rattle.lane_table.specs.Images.{IsOwnFile}
use Rattle.lane_table.proofs.ImageFacts.{gives_own_files}

-- ---- a lane whose deposit waits

-- the Metadata, the octets and the EOF of "abc" came
abbrev pub came : List Event
came = metadata One 5 ∷ part One 5 ∷ eof One 5 ∷ []

came_taken : AreTaken fresh came
unfolding initial step state_of runs_of runs_from
came_taken = ((refl, refl), refl, ((refl, refl), refl, ((refl, refl), refl, tt)))

-- a lane is sound behind events that it takes, and what it sent fits it
all_taken : (state : lanes.State) (events : List Event) (bundles : List Bundle) → lanes.IsSound state → Keeps state bundles → AreTaken state events
    → lanes.IsSound (after state events) × Keeps (after state events) (bundles ++ sent_after state events)
all_taken state [] bundles sound keeps taken = (sound, subst (Keeps state) (sym (append-nil bundles)) keeps)
all_taken state (event ∷ later) bundles sound keeps taken =
    let next : lanes.State = stepped state event in
    let both = steps_keep state event bundles sound keeps taken.0 taken.1 in
    let rest = all_taken next later (bundles ++ bundle_of next) both.0 both.1 taken.2 in
    (rest.0, subst (Keeps (after next later)) (append_assoc bundles (bundle_of next) (sent_after next later)) rest.1)

pub stands : lanes.IsSound storing × Keeps storing (sent_after fresh came)
stands = all_taken fresh came [] (idle_sound fresh.side 0 2 fresh.source tt) (idle_keeps fresh.side 0 2 fresh.source) came_taken

-- its reception, and the log of that
abbrev reception : Reception
reception = record { key = key 5; params = reference; header = record (header One) { sequence = 5 } }

abbrev log : List Entry
log = log_of reception (to_receiver came)

stands_at : lanes.log_of storing ≡ Some (received reception log)
stands_at = refl

-- ---- what is given

-- the lane gives the file of the deposit, so that is the good file of a reception under its key
pub own_file : IsOwnFile storing (key 5) 2 image
own_file = gives_own_files storing (key 5) 2 image stands.0 image_waits

-- that is: names as the Metadata has them, the EOF's size, and the octets that came
names_came : (own : IsOwnFile storing (key 5) 2 image)
    → (own.given.good.metadata.source_name ≡ 97 ∷ []) × (own.given.good.metadata.destination_name ≡ 98 ∷ [])
names_came own = (
  sym own.given.source_name ∙ ap (λ (i : Image). i.source_name) own.image_is,
  sym own.given.destination_name ∙ ap (λ (i : Image). i.destination_name) own.image_is,
)

size_came : (own : IsOwnFile storing (key 5) 2 image) → own.given.good.eof.size ≡ 3
size_came own = sym own.given.size ∙ ap (λ (i : Image). length i.octets) own.image_is

octet_came : (own : IsOwnFile storing (key 5) 2 image) → (state_of own.log).received 1 ≡ Some 98
octet_came own =
    let size : own.given.good.eof.size ≡ 3 = size_came own in
    sym (own.given.octets 1 (omega (arith, size))) ∙ ap (λ (i : Image). slice_get i.octets 1) own.image_is

-- ---- what is not

-- not under another key, or by another stamp
not_under_another_key : (own : IsOwnFile storing (key 6) 2 image) → own.reception ≡ reception → ⊥
not_under_another_key own is =
    let number : 5 ≡ 6 = ap (λ (r : Reception). r.key.seq) (sym is) ∙ ap (λ (k : TxnKey). k.seq) own.key_is in omega (arith, number)

not_by_another_stamp : (own : IsOwnFile storing (key 5) 3 image) → own.log ≡ log → ⊥
unfolding initial step state_of runs_of runs_from
not_by_another_stamp own is =
    let stamp : 2 ≡ 3 = some_is 2 3 (ap (λ (l : List Entry). (state_of l).waiting) (sym is) ∙ own.waits) in omega (arith, stamp)

-- nor of a lane that never had a transaction, and not of a log that is not the lane's own
no_log : (log : Log) → (let none : Option Log = None in none) ≡ Some log → ⊥
no_log log e = cc

not_of_a_fresh_lane : IsOwnFile fresh (key 5) 2 image → ⊥
not_of_a_fresh_lane own = no_log (received own.reception own.log) own.log_is

not_of_a_shorter_log : (own : IsOwnFile storing (key 5) 2 image) → length own.log ≡ 2 → ⊥
not_of_a_shorter_log own is =
    let three : 3 ≡ length own.log = ap entries_in (sym stands_at ∙ own.log_is) in
    let both : 3 ≡ 2 = three ∙ is in omega (arith, both)
  where
    entries_in : Option Log → ℕ
    entries_in (Some (received reception log)) = length log
    entries_in (Some (sent sending log)) = 0
    entries_in None = 0

-- nor where no deposit waits
none_waits : (stamp : ℕ) → None ≡ Some stamp → ⊥
none_waits stamp e = cc

not_before_the_eof : (own : IsOwnFile storing (key 5) 2 image) → own.log ≡ log_of reception (to_receiver (metadata One 5 ∷ part One 5 ∷ [])) → ⊥
unfolding initial step state_of runs_of runs_from
not_before_the_eof own is = none_waits 2 (ap (λ (l : List Entry). (state_of l).waiting) (sym is) ∙ own.waits)

-- nor is another file given
abbrev octets_in : Result Image Refusal → ℕ
octets_in (Ok given) = length given.octets
octets_in (Err why) = 0

not_cut_off : (own : IsOwnFile storing (key 5) 2 (record image { octets = 97 ∷ 98 ∷ [] })) → own.log ≡ log → ⊥
unfolding initial step state_of runs_of runs_from
not_cut_off own is =
    let given : 3 ≡ length own.given.image.octets = ap octets_in (ap (λ (l : List Entry). image_at (state_of l) 2) (sym is) ∙ own.given.given) in
    let size : 3 ≡ 2 = given ∙ ap (λ (i : Image). length i.octets) own.image_is in omega (arith, size)

-- nor one of a log that the end can not have: with an EOF that was not answered
abbrev silenced : List Entry → List Entry
silenced [] = []
silenced (entry ∷ front) = record entry { answer = empty_answer } ∷ front

abbrev told_in : Result Answer Refusal → ℕ
told_in (Ok answer) = length answer.inds
told_in (Err why) = 0

not_illegal : (own : IsOwnFile storing (key 5) 2 image) → own.reception ≡ reception → own.log ≡ silenced log → ⊥
unfolding initial step state_of answer_at runs_of runs_from
not_illegal own is logged =
    let legal : IsLegal reception (silenced log) =
    subst (λ (r : Reception). IsLegal r (silenced log)) is (subst (IsLegal own.reception) logged own.legal) in
    let count : 1 ≡ 0 = ap told_in legal.2 in omega (arith, count)
