-- What fits together after each entry of a reception's log, and which responses keep it so.
use Rattle.std.proofs.Common.{◌≡◌, ℕ, ◌+◌, ◌-◌, ◌<◌, ◌≤◌, max, Bool, true, false, ◌||◌, eqb, List, [], ◌∷◌, ◌++◌, length, Option, Some, None, refl, sym, ap, ◌∙◌, arith, ◌⊎◌, inl, inr}
use Rattle.std.specs.Prelude.{is_some, slice_get}
use Rattle.std.specs.List.{list_any}
use Rattle.std.proofs.lemmas.Bool.{cases_lt, or_left, or_right, ne_eqb, le-leb, lt-leb, lt-ltb, le-ltb, true≢false}
use Rattle.std.proofs.lemmas.Option.{slice_get-get_or, slice_get_past}
use Rattle.std.proofs.lemmas.List.Folds.{list_any-append}
use Rattle.std.proofs.Math.Bool.{or-false}
use Rattle.std.proofs.Math.Path.{fun_ext}
use Rattle.cfdp_types.specs.Steps.{is_kind, older_or, newer_or}
use Rattle.cfdp_types.specs.declared.names.Delivery.TheVariants.{Complete}
use Rattle.cfdp_types.specs.declared.names.TimerKind.{TimerKind}
use Rattle.cfdp_types.specs.declared.names.TimerKind.TheVariants.{Ack}
use Rattle.gap_list.specs.Runs.{is_within}
use Rattle.gap_list.proofs.RunLemmas.{is_within_tells}
use Rattle.pdu_values.specs.declared.bodies.Metadata.{Metadata}
use Rattle.pdu_values.specs.declared.bodies.Eof.{Eof}
use Rattle.pdu_values.specs.declared.bodies.FileData.{FileData}
use Rattle.pdu_values.specs.declared.bodies.Finished.{Finished}
use Rattle.txn_events.specs.declared.event.What.{What}
use Rattle.txn_events.specs.Events.{body_of_event}
use Rattle.indications.specs.declared.indication.Indication.{Indication}
pub use Rattle.indications.specs.Words.{is_complete}
use Rattle.indications.specs.Words.{is_end, is_metadata, is_eof, is_paused, tells_of, MayFollow, MayFinish}
use Rattle.indications.specs.Words.{paused_after}
use Rattle.indications.proofs.WordLemmas.{complete_ends, told_onto, told_onto-append, MayFollow-append, list_any-told_onto}
use Rattle.receiver_table.specs.Reception.{Reception, State, step, metadata_of, eof_of, file_data_of, octet_at, extent_of, waiting_after}
use Rattle.receiver_table.specs.Answers.{Response}
use Rattle.receiver_laws.specs.LegalReceptions.{IsGood}
use Rattle.receiver_laws.proofs.ReceptionSteps.{answered, finished_then, armed_then, waits_then}
use Rattle.cfdp_types.proofs.StepLemmas.{older_or-none, newer_or-none}
use Rattle.indications.proofs.WordLemmas.{is_paused-told_onto}

-- ---- good files, by the parts of a state that say so

abbrev pub with_file : Option Metadata → Option Eof → (ℕ → Option ℕ) → State
with_file metadata eof received = record {
  entries = 0;
  received = received;
  progress = 0;
  metadata = metadata;
  closure = None;
  eof = eof;
  waiting = None;
  finished = None;
  paused = false;
  armed = λ kind. None;
  tries = λ kind. 0;
  ended = false;
}

abbrev pub IsGoodFile : Option Metadata → Option Eof → (ℕ → Option ℕ) → Type 0
IsGoodFile metadata eof received = IsGood (with_file metadata eof received)

-- it stays good where no part of a file comes
pub good_kept : (m other : Option Metadata) (e later : Option Eof) (received : ℕ → Option ℕ) (d : Option FileData) → d ≡ None
    → IsGoodFile m e received → IsGoodFile (older_or m other) (older_or e later) (λ i. older_or (received i) (octet_at d i))
good_kept m other e later received (Some d) none good = absurd cc
good_kept m other e later received None none good =
    let same : (λ (i : ℕ). older_or (received i) None) ≡ received = fun_ext (λ i. older_or-none (received i)) in
    rw same (record {
      metadata = good.metadata;
      eof = good.eof;
      metadata_came = ap (λ o. older_or o other) good.metadata_came;
      eof_came = ap (λ o. older_or o later) good.eof_came;
      supported = good.supported;
      none_missing = good.none_missing;
      none_beyond = good.none_beyond;
      agrees = good.agrees;
    })

-- ---- offsets of a part of a file

is_some-slice_get : (xs : List ℕ) (i : ℕ) → i < length xs → is_some (slice_get xs i) ≡ true
is_some-slice_get xs i lt = rw (slice_get-get_or xs i 0 lt) refl

none-slice_get : (xs : List ℕ) (i : ℕ) → length xs ≤ i → is_some (slice_get xs i) ≡ false
none-slice_get xs i le = rw (slice_get_past xs i le) refl

pub octet_there : (d : FileData) (i : ℕ) → is_some (octet_at (Some d) i) ≡ is_within d.offset (d.offset + length d.octets) i
octet_there d i =
    elim (cases_lt i d.offset) [
      | inl before ↦ rw (lt-leb d.offset i before) refl
      | inr from ↦ rw (le-leb d.offset i from) (elim (cases_lt (i - d.offset) (length d.octets)) [
        | inl lt ↦ is_some-slice_get d.octets (i - d.offset) lt ∙ sym (lt-ltb i (d.offset + length d.octets) (omega arith))
        | inr le ↦ none-slice_get d.octets (i - d.offset) le ∙ sym (le-ltb i (d.offset + length d.octets) (omega arith))
      ])
    ]

extent_is : (d : FileData) (i : ℕ) → i < d.offset + length d.octets → d.offset ≤ i → i < extent_of (Some d)
extent_is d i below from =
    let some : eqb (length d.octets) 0 ≡ false = ne_eqb (length d.octets) 0 (λ none. omega arith) in
    rw some below

reached_by : (d : FileData) (progress i : ℕ) → is_some (octet_at (Some d) i) ≡ true → i < max progress (extent_of (Some d))
reached_by d progress i there =
    let within = sym (octet_there d i) ∙ there in
    elim (is_within_tells d.offset (d.offset + length d.octets) i) [
      | inl is ↦ let e : i < extent_of (Some d) = extent_is d i is.2 is.1 in omega (arith, e)
      | inr out ↦ absurd (true≢false (sym within ∙ out.0))
    ]

-- what is received lies below the progress
pub reached_then : (was : Option ℕ) (progress : ℕ) (d : Option FileData) (i : ℕ) → (is_some was ≡ true → i < progress)
    → is_some (older_or was (octet_at d i)) ≡ true → i < max progress (extent_of d)
reached_then (Some x) progress d i before there = let below : i < progress = before refl in omega arith
reached_then None progress None i before there = absurd cc
reached_then None progress (Some d) i before there = reached_by d progress i there

-- ---- tests of what was told

pub one_of : (a b : Bool) → (a || b) ≡ true → (a ≡ true) ⊎ (b ≡ true)
one_of true b e = inl refl
one_of false b e = inr e

completes_end : (before : List Indication) → list_any is_complete before ≡ true → list_any is_end before ≡ true
completes_end [] e = absurd cc
completes_end (x ∷ before) e =
    elim (one_of (is_complete x) (list_any is_complete before) e) [
      | inl here ↦ or_left (is_end x) (list_any is_end before) (complete_ends x here)
      | inr there ↦ or_right (is_end x) (list_any is_end before) (completes_end before there)
    ]

pub not_complete : (before : List Indication) → list_any is_end before ≡ false → list_any is_complete before ≡ true → ⊥
not_complete before runs e = true≢false (sym (completes_end before e) ∙ runs)

-- a test that finds nothing of what is told
pub unsaid : (test : Indication → Bool) (before inds xs : List Indication) → list_any test xs ≡ false
    → list_any test (told_onto before (inds ++ xs)) ≡ list_any test (told_onto before inds)
unsaid test before inds xs none =
    ap (list_any test) (told_onto-append before inds xs)
    ∙ list_any-told_onto test (told_onto before inds) xs
    ∙ ap (λ b. b || list_any test (told_onto before inds)) none

-- what was told before a complete delivery stays
pub finish_kept : (before xs : List Indication) → MayFinish before Complete → ((i : ℕ) → list_any (tells_of i) xs ≡ false)
    → MayFinish (told_onto before xs) Complete
finish_kept before xs may none = (
  list_any-told_onto is_metadata before xs ∙ or_right (list_any is_metadata xs) (list_any is_metadata before) may.0,
  list_any-told_onto is_eof before xs ∙ or_right (list_any is_eof xs) (list_any is_eof before) may.1,
  (may.2.0, λ i. rw (list_any-told_onto (tells_of i) before xs, none i) (may.2.1 i)),
)

-- ---- what fits together

-- the state and what was told, newest first
pub record Fits (state : State) (before : List Indication) : Type 0 where
  pub metadata_told : list_any is_metadata before ≡ is_some state.metadata
  pub eof_told : state.finished ≡ None → list_any is_eof before ≡ is_some state.eof
  pub octets_told : (i : ℕ) → list_any (tells_of i) before ≡ is_some (state.received i)
  pub reached : (i : ℕ) → is_some (state.received i) ≡ true → i < state.progress
  pub paused : is_paused before ≡ state.paused
  pub ended : list_any is_end before ≡ state.ended
  pub idles : (kind : TimerKind) → is_kind Ack kind ≡ false → (state.paused || is_some state.finished) ≡ true → state.armed kind ≡ None
  pub waits : is_some state.waiting ≡ true → IsGoodFile state.metadata state.eof state.received × (state.paused ≡ false) × (state.finished ≡ None)
  pub closes : (f : Finished) → state.finished ≡ Some f → f.delivery ≡ Complete
      → IsGoodFile state.metadata state.eof state.received × MayFinish before Complete
  pub completes : list_any is_complete before ≡ true → IsGoodFile state.metadata state.eof state.received

-- the file is good with what an event brings
abbrev pub GoodWith : State → What → Type 0
GoodWith front event =
    IsGoodFile (older_or front.metadata (metadata_of (body_of_event event))) (older_or front.eof (eof_of (body_of_event event)))
    (λ i. older_or (front.received i) (octet_at (file_data_of (body_of_event event)) i))

-- what a response tells, sends as a Finished and hands out keeps it so
pub record RowGoes (front : State) (event : What) (before inds : List Indication) (finished : Option Finished) (handed : Bool) : Type 0 where
  pub follows : MayFollow before inds
  pub metadata_told : list_any is_metadata (told_onto before inds) ≡ is_some (older_or front.metadata (metadata_of (body_of_event event)))
  pub eof_told : newer_or finished front.finished ≡ None
      → list_any is_eof (told_onto before inds) ≡ is_some (older_or front.eof (eof_of (body_of_event event)))
  pub octets_told : (i : ℕ) → list_any (tells_of i) (told_onto before inds)
      ≡ is_some (older_or (front.received i) (octet_at (file_data_of (body_of_event event)) i))
  pub waits : (handed ≡ true) ⊎ (is_some (waiting_after front.waiting event None) ≡ true)
      → GoodWith front event × (paused_after front.paused inds ≡ false) × (newer_or finished front.finished ≡ None)
  pub closes : (f : Finished) → newer_or finished front.finished ≡ Some f → f.delivery ≡ Complete
      → GoodWith front event × MayFinish (told_onto before inds) Complete
  pub completes : list_any is_complete inds ≡ true → GoodWith front event

abbrev pub Goes : State → What → List Indication → Response → Type 0
Goes front event before response = RowGoes front event before response.inds response.finished response.deposit

ended_then : (a b e : Bool) → a ≡ false → b ≡ false → (e || a) ≡ (b || e)
ended_then true b e p q = absurd cc
ended_then false true e p q = absurd cc
ended_then false false e p q = or-false e

pub goes_fits : (reception : Reception) (front : State) (event : What) (before : List Indication) (response : Response) → Fits front before
    → front.ended ≡ false
    → Goes front event before response → Fits (step front (answered reception front event response)) (told_onto before response.inds)
unfolding step
goes_fits reception front event before response was runs goes =
    let finished = finished_then reception front event response in
    record {
      metadata_told = goes.metadata_told;
      eof_told = λ opened. goes.eof_told (sym finished ∙ opened);
      octets_told = goes.octets_told;
      reached = λ i there. reached_then (front.received i) front.progress (file_data_of (body_of_event event)) i (was.reached i) there;
      paused = is_paused-told_onto before response.inds ∙ ap (λ p. paused_after p response.inds) was.paused;
      ended = list_any-told_onto is_end before response.inds ∙ ended_then _ _ _ (was.ended ∙ runs) runs;
      idles = λ kind apart idle. armed_then reception front event response kind apart idle;
      waits = λ some.
          let then = goes.waits (waits_then reception front event response some) in
          (then.0, then.1, finished ∙ then.2);
      closes = λ f is complete. goes.closes f (sym finished ∙ is) complete;
      completes = λ e. elim (one_of _ _ (sym (list_any-told_onto is_complete before response.inds) ∙ e)) [
        | inl now ↦ goes.completes now
        | inr earlier ↦ absurd (not_complete before (was.ended ∙ runs) earlier)
      ];
    }

-- ---- responses that tell what an event brings, and then what is found

-- what an event brings is told
pub record Announces (front : State) (event : What) (before inds : List Indication) : Type 0 where
  pub follows : MayFollow before inds
  pub metadata_told : list_any is_metadata (told_onto before inds) ≡ is_some (older_or front.metadata (metadata_of (body_of_event event)))
  pub eof_told : list_any is_eof (told_onto before inds) ≡ is_some (older_or front.eof (eof_of (body_of_event event)))
  pub octets_told : (i : ℕ) → list_any (tells_of i) (told_onto before inds)
      ≡ is_some (older_or (front.received i) (octet_at (file_data_of (body_of_event event)) i))
  pub runs : list_any is_end (told_onto before inds) ≡ false

-- a response that tells nothing of the file, and hands it out where it is good
pub record Late (good : Type 0) (before inds : List Indication) (finished : Option Finished) (handed : Bool) : Type 0 where
  pub follows : MayFollow before inds
  pub no_metadata : list_any is_metadata inds ≡ false
  pub no_eof : list_any is_eof inds ≡ false
  pub no_octets : (i : ℕ) → list_any (tells_of i) inds ≡ false
  pub no_complete : list_any is_complete inds ≡ false
  pub no_finish : (f : Finished) → finished ≡ Some f → f.delivery ≡ Complete → ⊥
  pub hands_out : handed ≡ true → good × (inds ≡ []) × (finished ≡ None) × (is_paused before ≡ false)

abbrev pub LateRow : Type 0 → List Indication → Response → Type 0
LateRow good before response = Late good before response.inds response.finished response.deposit

pub open_goes : (front : State) (event : What) (before inds : List Indication) (late : Response) → Fits front before → front.ended ≡ false
    → front.finished ≡ None
    → is_some (waiting_after front.waiting event None) ≡ false → Announces front event before inds
    → LateRow (GoodWith front event) (told_onto before inds) late
    → RowGoes front event before (inds ++ late.inds) late.finished late.deposit
open_goes front event before inds late was runs opened idle first then = record {
  follows = MayFollow-append before inds late.inds first.follows then.follows;
  metadata_told = unsaid is_metadata before inds late.inds then.no_metadata ∙ first.metadata_told;
  eof_told = λ still. unsaid is_eof before inds late.inds then.no_eof ∙ first.eof_told;
  octets_told = λ i. unsaid (tells_of i) before inds late.inds (then.no_octets i) ∙ first.octets_told i;
  waits = λ some. elim (some) [
    | inl handed ↦
        let out = then.hands_out handed in
        let empty_answer : is_paused (told_onto (told_onto before inds) late.inds) ≡ false = rw (out.1) (out.3) in
        let paused : paused_after front.paused (inds ++ late.inds) ≡ false =
        ap (λ p. paused_after p (inds ++ late.inds)) (sym was.paused) ∙ sym (is_paused-told_onto before (inds ++ late.inds))
        ∙ ap is_paused (told_onto-append before inds late.inds) ∙ empty_answer in
        (out.0, paused, ap (λ f. newer_or f front.finished) (out.2) ∙ opened)
    | inr waiting ↦ absurd (true≢false (sym waiting ∙ idle))
  ];
  closes = λ f is complete.
      absurd (then.no_finish f (sym (newer_or-none late.finished) ∙ ap (newer_or late.finished) (sym opened) ∙ is) complete);
  completes = λ e. elim (one_of _ _ (sym (list_any-append is_complete inds late.inds) ∙ e)) [
    | inl now ↦ absurd (not_complete (told_onto before inds) first.runs (list_any-told_onto is_complete before inds ∙ or_left _ _ now))
    | inr after ↦ absurd (true≢false (sym after ∙ then.no_complete))
  ];
}

-- ---- responses that bring and change nothing

-- an event that brings nothing that is told of
pub record BringsNothing (front : State) (event : What) : Type 0 where
  pub no_metadata : metadata_of (body_of_event event) ≡ None
  pub no_eof : front.finished ≡ None → eof_of (body_of_event event) ≡ None
  pub no_data : file_data_of (body_of_event event) ≡ None
  pub waits : is_some (waiting_after front.waiting event None) ≡ true → is_some front.waiting ≡ true

-- a response that leaves what fits
pub record Still (front : State) (before inds : List Indication) (finished : Option Finished) : Type 0 where
  pub follows : MayFollow before inds
  pub no_metadata : list_any is_metadata inds ≡ false
  pub no_eof : list_any is_eof inds ≡ false
  pub no_octets : (i : ℕ) → list_any (tells_of i) inds ≡ false
  pub same_finished : newer_or finished front.finished ≡ front.finished
  pub same_paused : paused_after front.paused inds ≡ front.paused
  pub completes : list_any is_complete inds ≡ true → IsGoodFile front.metadata front.eof front.received

pub still_goes : (front : State) (event : What) (before inds : List Indication) (finished : Option Finished) → Fits front before
    → BringsNothing front event
    → Still front before inds finished → RowGoes front event before inds finished false
still_goes front event before inds finished was brings still =
    let b = body_of_event event in
    let kept : IsGoodFile front.metadata front.eof front.received → GoodWith front event =
    λ good. good_kept front.metadata (metadata_of b) front.eof (eof_of b) front.received (file_data_of b) brings.no_data good in
    record {
      follows = still.follows;
      metadata_told = unsaid is_metadata before [] inds still.no_metadata ∙ was.metadata_told
          ∙ ap is_some (sym (older_or-none front.metadata) ∙ ap (older_or front.metadata) (sym brings.no_metadata));
      eof_told = λ none.
          let opened = sym still.same_finished ∙ none in
          unsaid is_eof before [] inds still.no_eof ∙ was.eof_told opened
          ∙ ap is_some (sym (older_or-none front.eof) ∙ ap (older_or front.eof) (sym (brings.no_eof opened)));
      octets_told = λ i. unsaid (tells_of i) before [] inds (still.no_octets i) ∙ was.octets_told i
          ∙ ap is_some (sym (older_or-none (front.received i)) ∙ ap (λ d. older_or (front.received i) (octet_at d i)) (sym brings.no_data));
      waits = λ some. elim (some) [
        | inl handed ↦ absurd cc
        | inr waiting ↦
            let w = was.waits (brings.waits waiting) in
            (kept w.0, still.same_paused ∙ w.1, still.same_finished ∙ w.2)
      ];
      closes = λ f is complete.
          let c = was.closes f (sym still.same_finished ∙ is) complete in
          (kept c.0, finish_kept before inds c.1 still.no_octets);
      completes = λ e. kept (still.completes e);
    }
