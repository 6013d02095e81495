-- What changes bring.
use Rattle.std.proofs.Common.{◌≡◌, ℕ, ◌+◌, ◌-◌, ◌<◌, ◌≤◌, max, Bool, true, false, not, ◌&&◌, ◌||◌, length, Option, Some, None, eqb, refl, sym, ap, ◌∙◌, arith, inl, inr, rules, Ok}
use Rattle.std.proofs.Math.Path.{fun_ext}
use Rattle.std.proofs.lemmas.Bool.{cases_Bool, cases_lt, le-leb, lt-leb, eqb-true}
use Rattle.std.proofs.lemmas.Option.{slice_get_past}
use Rattle.std.specs.Prelude.{is_some}
use Rattle.std.specs.List.{All}
use Rattle.cfdp_types.specs.Steps.{newer_or, older_or}
use Rattle.gap_list.specs.Covered.{covered}
use Rattle.gap_list.specs.Runs.{is_within, new_runs}
use Rattle.gap_list.proofs.SetLemmas.{new_runs-same, filled-runs_of}
use Rattle.modular_sum.specs.Pieces.{IsSumOf}
use Rattle.modular_sum.proofs.PieceLemmas.{IsSumOf-same}
use Rattle.pdu_values.specs.declared.pdu.Body.{Body}
use Rattle.pdu_values.specs.declared.pdu.Body.TheVariants as body
use Rattle.pdu_values.specs.declared.bodies.FileData.{FileData}
use Rattle.txn_events.specs.declared.event.What.{What}
use Rattle.txn_events.specs.Events.{body_of_event}
use Rattle.pdu_values.specs.declared.bodies.Metadata.{Metadata}
use Rattle.receiver_table.specs.Reception.{State, step, is_received, added_runs, octet_at, extent_of, metadata_of, file_data_of, brings_more}
use Rattle.receiver_table.specs.Answers.{answer_at}
use Rattle.receiver_parts.specs.ControlBlock.{state_from, IsSmall}
use Rattle.receiver_core.specs.declared.plan.Plan.{Plan}
use Rattle.receiver_parts.specs.declared.control.ControlBlock.{ControlBlock}
use Rattle.receiver_parts.specs.ReceivedFile.{received_of, received_with, room_of, with_segment, IsSegmentOf}
use Rattle.receiver_parts.specs.Offsets.{IsInside, octet_in}
use Rattle.receiver_parts.specs.Steps.{IsWithEvent}
use Rattle.receiver_parts.specs.FileChange.{received_after, covered_after, word_after, FitsFile, HasRoom, IsReady, runs_in, metadata_after}
use Rattle.receiver_core.specs.Core.{shown, reception_of, IsChange, IsSame, IsPlanOf, plan_answer}
use Rattle.receiver_parts.specs.declared.received_file.ReceivedFile.{ReceivedFile}
use Rattle.receiver_parts.specs.declared.received_file.NewSegment.{NewSegment}
use Rattle.receiver_parts.specs.declared.file_change.FileChange.{FileChange}
use Rattle.receiver_parts.specs.declared.file_change.FileChange.TheVariants as change
use Rattle.receiver_core.specs.declared.receiver.ReceiverCore.{ReceiverCore}
use Rattle.receiver_parts.proofs.SumLemmas.{none_is}

older_none : {A : Type 0} (o : Option A) → o ≡ older_or o None
older_none None = refl
older_none (Some x) = refl

-- the offsets of octets that came are those that are covered
pub covers : (core : ReceiverCore) (i : ℕ) → covered core.file.gaps i ≡ is_received (shown core) i
covers core i = sym (core.file.came i)

runs_are : (core : ReceiverCore) (file_data : FileData) (segment : NewSegment)
    → segment.runs.items ≡ new_runs (covered core.file.gaps) file_data.offset (file_data.offset + length file_data.octets)
    → segment.runs.items ≡ added_runs (shown core) (Some file_data)
runs_are core file_data segment runs =
    runs
    ∙ new_runs-same (covered core.file.gaps) (is_received (shown core)) file_data.offset (file_data.offset + length file_data.octets) (covers core)

-- a segment of the file
pub piece_change : (core : ReceiverCore) (file_data : FileData) (segment : NewSegment)
    → segment.runs.items ≡ new_runs (covered core.file.gaps) file_data.offset (file_data.offset + length file_data.octets)
    → ((i : ℕ) → received_with core.file segment i ≡ with_segment (received_of core.file) (Some file_data) i) → IsSegmentOf core.file segment
    → IsChange core (Some (body.FileData file_data)) (change.NewSegment segment)
piece_change core file_data segment runs received fits = record {
  metadata = older_none core.metadata;
  received = received;
  fits = fits;
  runs = runs_are core file_data segment runs;
  more = ap (λ runs. not (eqb (length runs) 0)) (runs_are core file_data segment runs);
}

-- the new runs of a change have an offset each
pub runs_filled : (core : ReceiverCore) (b : Option Body) (c : FileChange) → IsChange core b c → All (λ run. run.start < run.end) (runs_in c)
runs_filled core b c is = rw is.runs (filled_runs (shown core) _)
  where
    filled_runs : (state : State) (d : Option FileData) → All (λ run. run.start < run.end) (added_runs state d)
    filled_runs state None = search rules
    filled_runs state (Some d) = filled-runs_of (λ i. is_within d.offset (d.offset + length d.octets) i && not (is_received state i)) (d.offset + length d.octets)

-- ---- what came, with a change

-- the offsets of octets that came are those that are covered, after a change
came_after : (file : ReceivedFile) (c : FileChange) → FitsFile file c → (i : ℕ) → is_some (received_after file c i) ≡ covered_after file c i
came_after file change.Nothing fits i = file.came i
came_after file (change.Metadata m) fits i = file.came i
came_after file (change.NewSegment segment) fits i = fits.came i

-- the checksum after a change is that of what came
summed_after : (file : ReceivedFile) (c : FileChange) → FitsFile file c → IsSumOf (received_after file c) (word_after file c)
summed_after file change.Nothing fits = file.summed
summed_after file (change.Metadata m) fits = file.summed
summed_after file (change.NewSegment segment) fits = fits.sum

-- an event brings nothing past its end
octet_past : (d : Option FileData) (i : ℕ) → extent_of d ≤ i → octet_at d i ≡ None
octet_past None i past = refl
octet_past (Some d) i past =
    elim (cases_lt i d.offset) [
      | inl before ↦ rw (lt-leb d.offset i before) refl
      | inr from ↦
          elim (cases_Bool (eqb (length d.octets) 0)) [
            | inl empty ↦ rw (le-leb d.offset i from) (slice_get_past d.octets (i - d.offset) (omega (arith, eqb-true (length d.octets) 0 empty)))
            | inr some ↦ rw (le-leb d.offset i from) (slice_get_past d.octets (i - d.offset) (omega (arith, from, rw some at past)))
          ]
    ]

outside : (limit : ℕ) (set : ℕ → Bool) (i : ℕ) → IsInside limit set → limit ≤ i → set i ≡ false
outside limit set i inside past =
    elim (cases_Bool (set i)) [
      | inl came ↦ absurd (omega (arith, inside i came, past))
      | inr none ↦ none
    ]

-- nothing came past the progress, with what an event brings
past_progress : (core : ReceiverCore) (d : Option FileData) (i : ℕ) → max core.control.progress (extent_of d) ≤ i
    → older_or (received_of core.file i) (octet_at d i) ≡ None
past_progress core d i past =
    let out : covered core.file.gaps i ≡ false = outside core.control.progress (covered core.file.gaps) i core.reached (omega (arith, past)) in
    rw (none_is (received_of core.file i) (core.file.came i ∙ out)) (octet_past d i (omega (arith, past)))

-- what a look goes by
pub ready : (core : ReceiverCore) (event : What) (more : Bool) (now : ControlBlock) (c : FileChange) → IsWithEvent core.control event more now
    → IsChange core (body_of_event event) c → IsSmall now → IsReady core.file now c
ready core event more now c is brings small = record {
  small = small;
  came = came_after core.file c brings.fits;
  summed = summed_after core.file c brings.fits;
  reached = λ i past.
      brings.received i
      ∙ past_progress core (file_data_of (body_of_event event)) i (rw is.progress at past);
}

some_not_none : (o : Option ℕ) → is_some o ≡ true → o ≡ None → ⊥
some_not_none o some none = let no : false ≡ true = sym (ap is_some none) ∙ some in absurd cc

-- what came lies below the progress, once a plan is carried out
pub reached_after : (old : ReceiverCore) (plan : Plan) (event : What) (file : ReceivedFile) → IsPlanOf old plan event
    → ((i : ℕ) → received_of file i ≡ received_after old.file plan.step.value.change i) → IsInside plan.step.value.next.progress (covered file.gaps)
unfolding step
reached_after old plan event file planned received i came =
    let d : Option FileData = file_data_of (body_of_event event) in
    let there_is : is_some (received_of file i) ≡ true = file.came i ∙ came in
    let progress : plan.step.value.next.progress ≡ max old.control.progress (extent_of d) = ap (λ (s : State). s.progress) planned.answered.follows in
    let octets : received_after old.file plan.step.value.change i ≡ older_or (received_of old.file i) (octet_at d i) = ap (λ (s : State). s.received i) planned.answered.follows in
    elim (cases_lt i plan.step.value.next.progress) [
      | inl below ↦ below
      | inr past ↦ absurd (some_not_none (received_of file i) there_is (received i ∙ octets ∙ past_progress old d i (rw progress at past)))
    ]

-- ---- a core with more room

state_with : ReceiverCore → Option Metadata → (ℕ → Option ℕ) → ControlBlock → State
state_with core metadata received control = state_from control metadata received

-- a core with more room shows the same
pub same_shown : (old new : ReceiverCore) → IsSame old new → shown new ≡ shown old
unfolding state_with
same_shown old new same =
    ap (λ s. state_with old new.metadata (received_of new.file) s) same.control
    ∙ ap (λ m. state_with old m (received_of new.file) old.control) same.metadata
    ∙ ap (λ r. state_with old old.metadata r old.control) (fun_ext same.received)

-- a segment is the same in a file with more room
pub segment_still : (old new : ReceivedFile) (segment : NewSegment) → ((i : ℕ) → covered new.gaps i ≡ covered old.gaps i)
    → ((i : ℕ) → received_of new i ≡ received_of old i) → IsSegmentOf old segment → IsSegmentOf new segment
segment_still old new segment same received fits = record {
  came = λ i.
      ap (λ o. is_some (newer_or (octet_in segment.pieces.items i) o)) (received i)
      ∙ fits.came i
      ∙ ap (λ b. b || is_within segment.start segment.end i) (sym (same i));
  sum = IsSumOf-same (received_with old segment) (received_with new segment) segment.sum
      (λ i. ap (λ o. newer_or (octet_in segment.pieces.items i) o) (sym (received i))) fits.sum;
}

-- what came is the same with more room, after a change
received_still : (old new : ReceivedFile) (c : FileChange) → ((i : ℕ) → received_of new i ≡ received_of old i)
    → (i : ℕ) → received_after new c i ≡ received_after old c i
received_still old new change.Nothing received i = received i
received_still old new (change.Metadata m) received i = received i
received_still old new (change.NewSegment segment) received i = ap (λ o. newer_or (octet_in segment.pieces.items i) o) (received i)

pub fits_still : (old new : ReceivedFile) (c : FileChange) → ((i : ℕ) → covered new.gaps i ≡ covered old.gaps i)
    → ((i : ℕ) → received_of new i ≡ received_of old i) → FitsFile old c → FitsFile new c
fits_still old new change.Nothing same received fits = tt
fits_still old new (change.Metadata m) same received fits = tt
fits_still old new (change.NewSegment segment) same received fits = segment_still old new segment same received fits

room_still : (old new : ReceivedFile) (c : FileChange) → room_of old ≤ room_of new → old.gaps.room ≤ new.gaps.room → HasRoom old c → HasRoom new c
room_still old new change.Nothing longer more room = tt
room_still old new (change.Metadata m) longer more room = tt
room_still old new (change.NewSegment segment) longer more room = (omega (arith, longer, room.0), omega (arith, more, room.1))

-- a change of a core is one of the core with more room
pub change_still : (old new : ReceiverCore) (b : Option Body) (c : FileChange) → IsSame old new → IsChange old b c → IsChange new b c
change_still old new b c same is =
    let shows = same_shown old new same in
    record {
      metadata = ap (λ m. metadata_after m c) same.metadata ∙ is.metadata ∙ ap (λ m. older_or m (metadata_of b)) (sym same.metadata);
      received = λ i.
          received_still old.file new.file c same.received i
          ∙ is.received i
          ∙ ap (λ o. older_or o (octet_at (file_data_of b) i)) (sym (same.received i));
      fits = fits_still old.file new.file c same.gaps same.received is.fits;
      runs = is.runs ∙ ap (λ s. added_runs s (file_data_of b)) (sym shows);
      more = is.more ∙ ap (λ s. brings_more s b) (sym shows);
    }

-- a plan of a core is one of the core with more room
pub plan_still : (old new : ReceiverCore) (plan : Plan) (event : What) → IsSame old new → IsPlanOf old plan event → IsPlanOf new plan event
unfolding state_with
plan_still old new plan event same is =
    let shows = same_shown old new same in
    record {
      answered = record {
        accepted = ap (λ r. answer_at r (shown new) event) same.reception ∙ ap (λ s. answer_at (reception_of old) s event) shows ∙ is.answered.accepted;
        follows = ap (λ m. state_with old (metadata_after m plan.step.value.change) (received_after new.file plan.step.value.change) plan.step.value.next) same.metadata
            ∙ ap (λ r. state_with old (metadata_after old.metadata plan.step.value.change) r plan.step.value.next) (fun_ext (received_still old.file new.file plan.step.value.change same.received))
            ∙ is.answered.follows
            ∙ ap (λ s. step s (record { event = event; answer = plan_answer plan })) (sym shows);
      };
      fits = fits_still old.file new.file plan.step.value.change same.gaps same.received is.fits;
      room = room_still old.file new.file plan.step.value.change same.pieces same.room is.room;
      sound = λ runs. is.sound (ap (λ (s : ControlBlock). s.ended) (sym same.control) ∙ runs);
    }

-- what stands after a plan is carried out
pub committed : (old : ReceiverCore) (plan : Plan) (event : What) (metadata : Option Metadata) (received : ℕ → Option ℕ) → metadata ≡ metadata_after old.metadata plan.step.value.change
    → ((i : ℕ) → received i ≡ received_after old.file plan.step.value.change i) → IsPlanOf old plan event
    → state_from plan.step.value.next metadata received ≡ step (shown old) (record { event = event; answer = plan_answer plan })
committed old plan event metadata received m r planned =
    ap (λ x. state_from plan.step.value.next x received) m ∙ ap (λ x. state_from plan.step.value.next (metadata_after old.metadata plan.step.value.change) x) (fun_ext r) ∙ planned.answered.follows

-- what a plan is answered in the core with more room is answered in the core before
pub accepted_before : (old new : ReceiverCore) (plan : Plan) (event : What) → IsSame old new → IsPlanOf new plan event
    → answer_at (reception_of old) (shown old) event ≡ Ok (plan_answer plan)
accepted_before old new plan event same planned =
    ap (λ r. answer_at r (shown old) event) (sym same.reception)
    ∙ ap (λ s. answer_at (reception_of new) s event) (sym (same_shown old new same)) ∙ planned.answered.accepted
