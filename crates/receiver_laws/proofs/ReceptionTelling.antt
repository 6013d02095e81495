-- What a PDU brings is told, and then what the look at the file finds.
use Rattle.std.proofs.Common.{◌≡◌, ℕ, ◌+◌, ◌-◌, ◌<◌, ◌≤◌, Bool, true, false, cond, not, ◌||◌, ◌&&◌, leb, ltb, eqb, List, [], ◌∷◌, length, map, Option, Some, None, refl, sym, ap, ◌∙◌, arith, inl, inr}
use Rattle.std.specs.Prelude.{is_some}
use Rattle.std.specs.List.{list_any}
use Rattle.std.proofs.lemmas.Bool.{cond_both, cases_lt, or_left, or_right, or_from, le-leb, lt-ltb, le-ltb, ltb-true, and_right, and_parts, true≢false}
use Rattle.std.proofs.Math.Bool.{or-false}
use Rattle.cfdp_types.specs.Condition as condition
use Rattle.cfdp_types.specs.Steps.{older_or}
use Rattle.cfdp_types.specs.declared.limits.TheConstants.{FILE_OCTETS}
use Rattle.gap_list.specs.declared.run.Run.{Run}
use Rattle.gap_list.specs.Runs.{is_within, in_runs, runs_of, IsRisingFrom}
use Rattle.gap_list.proofs.RunLemmas.{in_runs-runs_of, IsRisingFrom-runs_of}
use Rattle.gap_list.proofs.SetLemmas.{below_rising}
use Rattle.pdu_values.specs.declared.pdu.Header.{Header}
use Rattle.pdu_values.specs.declared.pdu.Body.TheVariants as body
use Rattle.pdu_values.specs.declared.bodies.Metadata.{Metadata}
use Rattle.pdu_values.specs.declared.bodies.Eof.{Eof}
use Rattle.pdu_values.specs.declared.bodies.FileData.{FileData}
use Rattle.txn_events.specs.declared.event.What.{What}
use Rattle.txn_events.specs.declared.event.What.TheVariants as what
use Rattle.txn_events.specs.Events.{body_of_event}
use Rattle.indications.specs.declared.indication.Indication.{Indication}
use Rattle.indications.specs.declared.indication.Indication.TheVariants as told
use Rattle.indications.specs.Words.{is_end, is_metadata, is_eof, is_paused, tells_of, MayFollow}
use Rattle.indications.specs.Words.{paused_after}
use Rattle.indications.proofs.WordLemmas.{told_onto, list_any-told_onto}
use Rattle.receiver_table.specs.Reception.{Reception, State, step, octet_at, file_data_of, is_received, added_runs}
use Rattle.receiver_table.specs.Answers.{metadata_recv, nothing, tells, segment_told, with_event, examines, on_metadata, on_file_data, acknowledges, ◌and_then◌}
use Rattle.cfdp_types.proofs.StepLemmas.{older_or-none}
use Rattle.indications.proofs.WordLemmas.{is_paused-told_onto}
use Rattle.receiver_laws.proofs.ReceptionFacts.{Fits, Announces, Goes, GoodWith, LateRow, open_goes, reached_then, octet_there, unsaid}
use Rattle.receiver_laws.proofs.ReceptionLate.{examined_late, acknowledged_late}

-- ---- the parts of a file that are new

segment_tells : (run : Run) (i : ℕ) → run.start < run.end → tells_of i (segment_told run) ≡ is_within run.start run.end i
segment_tells run i filled = let e : run.start + (run.end - run.start) ≡ run.end = omega arith in rw e refl

segments_tell : (low : ℕ) (runs : List Run) (i : ℕ) → IsRisingFrom low runs → list_any (tells_of i) (map segment_told runs) ≡ in_runs runs i
segments_tell low [] i rising = refl
segments_tell low (run ∷ runs) i rising =
    ap (λ b. b || list_any (tells_of i) (map segment_told runs)) (segment_tells run i rising.1)
    ∙ ap (λ b. is_within run.start run.end i || b) (segments_tell (run.end + 1) runs i rising.2)

-- they tell nothing else
segments_none : (test : Indication → Bool) (runs : List Run) → ((run : Run) → test (segment_told run) ≡ false)
    → list_any test (map segment_told runs) ≡ false
segments_none test [] none = refl
segments_none test (run ∷ runs) none = or_from (test (segment_told run)) (list_any test (map segment_told runs)) (none run) (segments_none test runs none)

segments_paused : (paused : Bool) (runs : List Run) → paused_after paused (map segment_told runs) ≡ paused
segments_paused paused [] = refl
segments_paused paused (run ∷ runs) = segments_paused paused runs

-- an offset of later runs is in no earlier one
later_out : (run : Run) (runs : List Run) (i : ℕ) → IsRisingFrom (run.end + 1) runs → in_runs runs i ≡ true
    → is_within run.start run.end i ≡ false
later_out run runs i rising later =
    elim (cases_lt i (run.end + 1)) [
      | inl below ↦ absurd (true≢false (sym later ∙ below_rising (run.end + 1) runs i rising below))
      | inr above ↦ and_right (leb run.start i) (ltb i run.end) (le-ltb i run.end (omega arith))
    ]

in_first : (run : Run) (runs : List Run) (i : ℕ) → run.start ≤ i → i < run.end → in_runs (run ∷ runs) i ≡ true
in_first run runs i from below =
    or_left (is_within run.start run.end i) (in_runs runs i) (rw (le-leb run.start i from, lt-ltb i run.end below) refl)

segments_follow : (low : ℕ) (runs : List Run) (before : List Indication) → IsRisingFrom low runs
    → ((i : ℕ) → in_runs runs i ≡ true → (i < FILE_OCTETS) × (list_any (tells_of i) before ≡ false)) → list_any is_end before ≡ false
    → MayFollow before (map segment_told runs)
segments_follow low [] before rising new goes = tt
segments_follow low (run ∷ runs) before rising new goes =
    let filled : run.start < run.end = rising.1 in
    let last : run.end - 1 < FILE_OCTETS = (new (run.end - 1) (in_first run runs (run.end - 1) (omega arith) (omega arith))).0 in (
      goes,
      (omega arith, omega arith, λ i from below. (new i (in_first run runs i from (omega arith))).1),
      segments_follow (run.end + 1) runs (segment_told run ∷ before) (rising.2)
          (λ i later.
          let first = new i (or_right (is_within run.start run.end i) (in_runs runs i) later) in (
            first.0,
            or_from (tells_of i (segment_told run)) (list_any (tells_of i) before)
                (segment_tells run i filled ∙ later_out run runs i (rising.2) later) (first.1),
          ))
          goes,
    )

or_true : (b : Bool) → (b || true) ≡ true
or_true true = refl
or_true false = refl

-- an offset is told of where it was, or is new
told_then : (was new : Option ℕ) (below within : Bool) → is_some new ≡ within → (within ≡ true → below ≡ true)
    → ((below && (within && not (is_some was))) || is_some was) ≡ is_some (older_or was new)
told_then (Some x) new below within is inside = or_true (below && (within && false))
told_then None new below true is inside = rw (inside refl) (sym is)
told_then None new true false is inside = sym is
told_then None new false false is inside = sym is

-- a new offset lies below the end, and was not told of
new_one : (below within was : Bool) → (below && (within && not was)) ≡ true → (below ≡ true) × (was ≡ false)
new_one true true false e = (refl, refl)
new_one true true true e = absurd cc
new_one true false was e = absurd cc
new_one false within was e = absurd cc

pub data_announced : (front : State) (header : Header) (d : FileData) (before : List Indication) → Fits front before
    → front.ended ≡ false → front.finished ≡ None
    → d.offset + length d.octets ≤ FILE_OCTETS
    → Announces front (what.Pdu (record { header = header; body = body.FileData d })) before (map segment_told (added_runs front (Some d)))
data_announced front header d before was runs opened small =
    let end = d.offset + length d.octets in
    let set : ℕ → Bool = λ i. is_within d.offset end i && not (is_received front i) in
    let new = runs_of set end in
    let rising : IsRisingFrom 0 new = IsRisingFrom-runs_of set end in
    let segments = map segment_told new in
    record {
      follows = segments_follow 0 new before rising
          (λ i there.
          let parts = new_one (ltb i end) (is_within d.offset end i) (is_received front i) (sym (in_runs-runs_of set end i) ∙ there) in
          let inside : i < end = ltb-true i end parts.0 in
          (omega arith, was.octets_told i ∙ parts.1))
          (was.ended ∙ runs);
      metadata_told = unsaid is_metadata before [] segments (segments_none is_metadata new (λ run. refl)) ∙ was.metadata_told
          ∙ ap is_some (sym (older_or-none front.metadata));
      eof_told = unsaid is_eof before [] segments (segments_none is_eof new (λ run. refl)) ∙ was.eof_told opened
          ∙ ap is_some (sym (older_or-none front.eof));
      octets_told = λ i.
          list_any-told_onto (tells_of i) before segments
          ∙ ap (λ b. b || list_any (tells_of i) before) (segments_tell 0 new i rising ∙ in_runs-runs_of set end i)
          ∙ ap (λ b. (ltb i end && set i) || b) (was.octets_told i)
          ∙ told_then (front.received i) (octet_at (Some d) i) (ltb i end) (is_within d.offset end i) (octet_there d i)
          (λ within. (and_parts (leb d.offset i) (ltb i end) within).1);
      runs = unsaid is_end before [] segments (segments_none is_end new (λ run. refl)) ∙ was.ended ∙ runs;
    }

-- ---- Metadata and EOF

known_stays : {A : Type 0} (o : Option A) (x : Option A) → is_some o ≡ true → is_some o ≡ is_some (older_or o x)
known_stays None x e = absurd cc
known_stays (Some y) x e = refl

comes : {A : Type 0} (o : Option A) (x : A) → true ≡ is_some (older_or o (Some x))
comes None x = refl
comes (Some y) x = refl

-- the Metadata that was told of before, and the first
metadata_known : (front : State) (header : Header) (m : Metadata) (before : List Indication) → Fits front before → front.ended ≡ false
    → front.finished ≡ None
    → is_some front.metadata ≡ true → Announces front (what.Pdu (record { header = header; body = body.Metadata m })) before []
metadata_known front header m before was runs opened known = record {
  follows = tt;
  metadata_told = was.metadata_told ∙ known_stays front.metadata (Some m) known;
  eof_told = was.eof_told opened ∙ ap is_some (sym (older_or-none front.eof));
  octets_told = λ i. was.octets_told i ∙ ap is_some (sym (older_or-none (front.received i)));
  runs = was.ended ∙ runs;
}

metadata_new : (reception : Reception) (front : State) (header : Header) (m : Metadata) (before : List Indication) → Fits front before
    → front.ended ≡ false
    → front.finished ≡ None → is_some front.metadata ≡ false
    → Announces front (what.Pdu (record { header = header; body = body.Metadata m })) before
    (metadata_recv reception.key.source m ∷ [])
metadata_new reception front header m before was runs opened new = record {
  follows = (was.ended ∙ runs, was.metadata_told ∙ new, tt);
  metadata_told = comes front.metadata m;
  eof_told = was.eof_told opened ∙ ap is_some (sym (older_or-none front.eof));
  octets_told = λ i. was.octets_told i ∙ ap is_some (sym (older_or-none (front.received i)));
  runs = was.ended ∙ runs;
}

-- an EOF without an error that is not the first one is told of no more
eof_known : (front : State) (header : Header) (e : Eof) (before : List Indication) → Fits front before → front.ended ≡ false
    → front.finished ≡ None
    → eqb e.condition condition.no_error ≡ true → is_some front.eof ≡ true
    → Announces front (what.Pdu (record { header = header; body = body.Eof e })) before []
eof_known front header e before was runs opened fine known = record {
  follows = tt;
  metadata_told = was.metadata_told ∙ ap is_some (sym (older_or-none front.metadata));
  eof_told = was.eof_told opened ∙ known_stays front.eof _ known;
  octets_told = λ i. was.octets_told i ∙ ap is_some (sym (older_or-none (front.received i)));
  runs = was.ended ∙ runs;
}

eof_new : (front : State) (header : Header) (e : Eof) (before : List Indication) → Fits front before → front.ended ≡ false
    → front.finished ≡ None
    → eqb e.condition condition.no_error ≡ true → is_some front.eof ≡ false
    → Announces front (what.Pdu (record { header = header; body = body.Eof e })) before (told.EofRecv ∷ [])
eof_new front header e before was runs opened fine new = record {
  follows = (was.ended ∙ runs, was.eof_told opened ∙ new, tt);
  metadata_told = was.metadata_told ∙ ap is_some (sym (older_or-none front.metadata));
  eof_told = rw fine (comes front.eof e);
  octets_told = λ i. was.octets_told i ∙ ap is_some (sym (older_or-none (front.received i)));
  runs = was.ended ∙ runs;
}

-- ---- and then the look at the file

pub looked_late : (reception : Reception) (front : State) (event : What) (before inds : List Indication) → Fits front before
    → front.ended ≡ false
    → front.finished ≡ None → is_paused (told_onto before inds) ≡ front.paused → list_any is_end (told_onto before inds) ≡ false
    → LateRow (GoodWith front event) (told_onto before inds) (examines reception (with_event front event))
unfolding step
looked_late reception front event before inds was lives opened paused runs =
    examined_late reception (with_event front event) (told_onto before inds) paused opened (or-false front.ended ∙ lives)
    (λ i there. reached_then (front.received i) front.progress (file_data_of (body_of_event event)) i (was.reached i) there)
    runs

pub metadata_goes : (reception : Reception) (front : State) (header : Header) (m : Metadata) (before : List Indication)
    → Fits front before → front.ended ≡ false
    → front.finished ≡ None → is_some front.waiting ≡ false
    → Goes front (what.Pdu (record { header = header; body = body.Metadata m })) before
    (on_metadata reception front (with_event front (what.Pdu (record { header = header; body = body.Metadata m }))) m)
metadata_goes reception front header m before was runs opened idle =
    let event = what.Pdu (record { header = header; body = body.Metadata m }) in
    let look = examines reception (with_event front event) in
    let x = metadata_recv reception.key.source m in
    cond_both (is_some front.metadata) nothing (tells (x ∷ [])) (λ first. Goes front event before (first and_then look))
    (λ known.
    open_goes front event before [] look was runs opened idle (metadata_known front header m before was runs opened known)
    (looked_late reception front event before [] was runs opened was.paused (was.ended ∙ runs)))
    (λ new.
    open_goes front event before (x ∷ []) look was runs opened idle (metadata_new reception front header m before was runs opened new)
    (looked_late reception front event before (x ∷ []) was runs opened was.paused (was.ended ∙ runs)))

pub data_goes : (reception : Reception) (front : State) (header : Header) (d : FileData) (before : List Indication) → Fits front before
    → front.ended ≡ false
    → front.finished ≡ None → is_some front.waiting ≡ false → d.offset + length d.octets ≤ FILE_OCTETS
    → Goes front (what.Pdu (record { header = header; body = body.FileData d })) before
    (on_file_data reception front (with_event front (what.Pdu (record { header = header; body = body.FileData d }))) d)
data_goes reception front header d before was runs opened idle small =
    let event = what.Pdu (record { header = header; body = body.FileData d }) in
    let look = examines reception (with_event front event) in
    let new = added_runs front (Some d) in
    let first = data_announced front header d before was runs opened small in
    open_goes front event before (map segment_told new) look was runs opened idle first
    (looked_late reception front event before (map segment_told new) was runs opened
    (is_paused-told_onto before (map segment_told new) ∙ segments_paused (is_paused before) new ∙ was.paused) first.runs)

pub eof_goes : (reception : Reception) (front : State) (header : Header) (e : Eof) (before : List Indication) → Fits front before
    → front.ended ≡ false
    → front.finished ≡ None → is_some front.waiting ≡ false → eqb e.condition condition.no_error ≡ true
    → Goes front (what.Pdu (record { header = header; body = body.Eof e })) before
    ((cond (is_some front.eof) nothing (tells (told.EofRecv ∷ [])))
    and_then acknowledges reception e.condition and_then examines reception (with_event front (what.Pdu (record { header = header; body = body.Eof e }))))
eof_goes reception front header e before was runs opened idle fine =
    let event = what.Pdu (record { header = header; body = body.Eof e }) in
    let look = examines reception (with_event front event) in
    let rest = acknowledges reception e.condition and_then look in
    cond_both (is_some front.eof) nothing (tells (told.EofRecv ∷ [])) (λ first. Goes front event before (first and_then rest))
    (λ known.
    open_goes front event before [] rest was runs opened idle (eof_known front header e before was runs opened fine known)
    (acknowledged_late reception e.condition _ before look (looked_late reception front event before [] was runs opened was.paused (was.ended ∙ runs))))
    (λ new.
    open_goes front event before (told.EofRecv ∷ []) rest was runs opened idle (eof_new front header e before was runs opened fine new)
    (acknowledged_late reception e.condition _ (told.EofRecv ∷ before) look
    (looked_late reception front event before (told.EofRecv ∷ []) was runs opened was.paused (was.ended ∙ runs))))
