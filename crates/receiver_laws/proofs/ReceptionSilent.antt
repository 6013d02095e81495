-- Responses without indications, events without a PDU, and what a phase says of the state.
use Rattle.std.proofs.Common.{◌≡◌, ℕ, Bool, true, false, not, ◌||◌, ◌&&◌, List, [], ◌∷◌, Option, Some, None, refl, sym, ap, ◌∙◌}
use Rattle.std.specs.Prelude.{is_some}
use Rattle.std.specs.List.{list_any}
use Rattle.std.proofs.lemmas.Bool.{true≢false}
use Rattle.cfdp_types.specs.Steps.{is_kind, is_stamp, older_or}
use Rattle.cfdp_types.specs.declared.names.Delivery.TheVariants.{Incomplete}
use Rattle.cfdp_types.specs.declared.names.FileStatus.{FileStatus}
use Rattle.cfdp_types.specs.declared.names.TimerKind.{TimerKind}
use Rattle.cfdp_types.specs.declared.names.TimerKind.TheVariants.{Ack}
use Rattle.pdu_values.specs.declared.bodies.Finished.{Finished}
use Rattle.txn_events.specs.declared.event.What.{What}
use Rattle.txn_events.specs.Events.{body_of_event}
use Rattle.indications.specs.declared.indication.Indication.{Indication}
use Rattle.indications.specs.declared.indication.Indication.TheVariants as told
use Rattle.indications.specs.Words.{is_end}
use Rattle.receiver_table.specs.Reception.{State, waiting_after, metadata_of, eof_of, file_data_of, octet_at}
use Rattle.receiver_table.specs.Answers.{Response}
use Rattle.cfdp_types.proofs.StepLemmas.{older_or-none}
use Rattle.receiver_laws.proofs.ReceptionFacts.{Fits, Goes, RowGoes, GoodWith, BringsNothing, Still, still_goes, Announces, LateRow, open_goes}

-- ---- responses without indications, and with one that ends nothing

pub silent_still : (front : State) (before : List Indication) → Still front before [] None
silent_still front before = record {
  follows = tt;
  no_metadata = refl;
  no_eof = refl;
  no_octets = λ i. refl;
  same_finished = refl;
  same_paused = refl;
  completes = λ e. absurd cc;
}

pub silent_goes : (front : State) (event : What) (before : List Indication) → Fits front before → BringsNothing front event
    → RowGoes front event before [] None false
silent_goes front event before was brings = still_goes front event before [] None was brings (silent_still front before)

pub incomplete_still : (front : State) (before : List Indication) (code : ℕ) (status : FileStatus) → list_any is_end before ≡ false
    → Still front before (told.TransactionFinished code Incomplete status ∷ []) None
incomplete_still front before code status runs = record {
  follows = (runs, tt, tt);
  no_metadata = refl;
  no_eof = refl;
  no_octets = λ i. refl;
  same_finished = refl;
  same_paused = refl;
  completes = λ e. absurd cc;
}

-- ---- events without a PDU

pub bodiless_brings : (front : State) (event : What) → body_of_event event ≡ None
    → (is_some (waiting_after front.waiting event None) ≡ true → is_some front.waiting ≡ true) → BringsNothing front event
bodiless_brings front event none waits = record {
  no_metadata = ap metadata_of none;
  no_eof = λ opened. ap eof_of none;
  no_data = ap file_data_of none;
  waits = waits;
}

pub bodiless_announced : (front : State) (event : What) (before : List Indication) → Fits front before → front.ended ≡ false
    → front.finished ≡ None
    → body_of_event event ≡ None → Announces front event before []
bodiless_announced front event before was runs opened none = record {
  follows = tt;
  metadata_told = was.metadata_told ∙ ap is_some (sym (older_or-none front.metadata) ∙ ap (λ b. older_or front.metadata (metadata_of b)) (sym none));
  eof_told = was.eof_told opened ∙ ap is_some (sym (older_or-none front.eof) ∙ ap (λ b. older_or front.eof (eof_of b)) (sym none));
  octets_told = λ i. was.octets_told i
      ∙ ap is_some (sym (older_or-none (front.received i)) ∙ ap (λ b. older_or (front.received i) (octet_at (file_data_of b) i)) (sym none));
  runs = was.ended ∙ runs;
}

-- a response that tells nothing of the file answers them
pub bodiless_goes : (front : State) (event : What) (before : List Indication) (response : Response) → Fits front before → front.ended ≡ false
    → front.finished ≡ None
    → is_some (waiting_after front.waiting event None) ≡ false → body_of_event event ≡ None → LateRow (GoodWith front event) before response
    → Goes front event before response
bodiless_goes front event before response was runs opened idle none late =
    open_goes front event before [] response was runs opened idle (bodiless_announced front event before was runs opened none) late

-- ---- phases

pub opened_is : (finished : Option Finished) (ended : Bool) → ended ≡ false → (is_some finished && not ended) ≡ false → finished ≡ None
opened_is None ended lives e = refl
opened_is (Some f) true lives e = absurd cc
opened_is (Some f) false lives e = absurd cc

pub suspended_is : (paused : Bool) (finished : Option Finished) (ended : Bool) → ((paused && not (is_some finished)) && not ended) ≡ true
    → (paused ≡ true) × (finished ≡ None)
suspended_is true None ended e = (refl, refl)
suspended_is true (Some f) ended e = absurd cc
suspended_is false finished ended e = absurd cc

-- a timer that is not Ack runs neither suspended nor in the closing phase
pub runs_only : (front : State) (before : List Indication) (kind : TimerKind) → Fits front before → is_kind Ack kind ≡ false
    → is_some (front.armed kind) ≡ true
    → (paused finished : Bool) → front.paused ≡ paused → is_some front.finished ≡ finished → (paused ≡ false) × (finished ≡ false)
runs_only front before kind was apart armed false false p q = (refl, refl)
runs_only front before kind was apart armed true finished p q =
    absurd (true≢false (sym armed ∙ ap is_some (was.idles kind apart (ap (λ b. b || is_some front.finished) p))))
runs_only front before kind was apart armed false true p q =
    absurd (true≢false (sym armed ∙ ap is_some (was.idles kind apart (ap (λ b. b || is_some front.finished) p ∙ q))))

pub none_is : {A : Type 0} (o : Option A) → is_some o ≡ false → o ≡ None
none_is None e = refl
none_is (Some x) e = absurd cc

pub stamped : (o : Option ℕ) (stamp : ℕ) → not (is_stamp o stamp) ≡ false → is_some o ≡ true
stamped None stamp e = absurd cc
stamped (Some n) stamp e = refl

pub not_stored : (o : Bool) → (o && true) ≡ false → o ≡ false
not_stored true e = absurd cc
not_stored false e = refl
