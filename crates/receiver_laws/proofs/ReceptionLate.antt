-- Rows that tell nothing of the file: faults, the look at the file, and single indications.
use Rattle.std.proofs.Common.{◌≡◌, ℕ, ◌<◌, ◌≤◌, Bool, true, false, not, ◌||◌, ◌&&◌, if◌then◌else◌, eqb, List, [], ◌∷◌, length, Option, Some, None, refl, sym, ap, ◌∙◌, arith, ◌⊎◌, inl, inr}
use Rattle.std.specs.Prelude.{is_some}
use Rattle.std.specs.List.{list_any}
use Rattle.std.proofs.lemmas.Bool.{cond_both, and_parts, eqb-true, ltb-false, not-false}
use Rattle.cfdp_types.specs.Condition as condition
use Rattle.cfdp_types.specs.ChecksumType as checksum
use Rattle.cfdp_types.specs.declared.names.Class.{Class}
use Rattle.cfdp_types.specs.declared.names.Class.TheVariants.{One, Two}
use Rattle.cfdp_types.specs.declared.names.Delivery.{Delivery}
use Rattle.cfdp_types.specs.declared.names.Delivery.TheVariants.{Complete, Incomplete}
use Rattle.cfdp_types.specs.declared.names.FileStatus.{FileStatus}
use Rattle.cfdp_types.specs.declared.names.Handler.{Handler}
use Rattle.cfdp_types.specs.declared.names.Handler.TheVariants as handler
use Rattle.cfdp_types.specs.declared.names.TimerKind.{TimerKind}
use Rattle.gap_list.proofs.SetLemmas.{full_from_missing_runs}
use Rattle.modular_sum.specs.Sum.{sum}
use Rattle.pdu_values.specs.declared.bodies.Metadata.{Metadata}
use Rattle.pdu_values.specs.declared.bodies.Eof.{Eof}
use Rattle.pdu_values.specs.declared.bodies.Finished.{Finished}
use Rattle.txn_events.specs.Events.{is_two}
use Rattle.indications.specs.declared.indication.Indication.{Indication}
use Rattle.indications.specs.declared.indication.Indication.TheVariants as told
use Rattle.indications.specs.Words.{is_end, is_metadata, is_eof, is_paused, tells_of, IsNext}
use Rattle.receiver_table.specs.Reception.{Reception, State, is_suspended, is_received}
use Rattle.receiver_table.specs.Answers.{Response, nothing, stores, handler_of, asks_closure, finish_response, fault_response, octets_from, missing_below, is_unsupported, is_beyond, is_whole, agrees, waits_for_rest, looks_at_eof, examines, acknowledges, ◌and_then◌}
use Rattle.receiver_laws.proofs.ReceptionFacts.{Late, LateRow, IsGoodFile, is_complete}

-- nothing is told
pub late_none : (good : Type 0) (before : List Indication) → Late good before [] None false
late_none good before = record {
  follows = tt;
  no_metadata = refl;
  no_eof = refl;
  no_octets = λ i. refl;
  no_complete = refl;
  no_finish = λ f is complete. absurd cc;
  hands_out = λ handed. absurd cc;
}

-- one indication that is not of the file
pub record IsPlain (x : Indication) : Type 0 where
  pub no_metadata : is_metadata x ≡ false
  pub no_eof : is_eof x ≡ false
  pub no_octets : (i : ℕ) → tells_of i x ≡ false
  pub no_complete : is_complete x ≡ false

found_no : (b : Bool) → b ≡ false → (b || false) ≡ false
found_no true e = absurd cc
found_no false e = refl

pub late_one : (good : Type 0) (before : List Indication) (x : Indication) → list_any is_end before ≡ false → IsNext before x → IsPlain x
    → Late good before (x ∷ []) None false
late_one good before x runs next plain = record {
  follows = (runs, next, tt);
  no_metadata = found_no _ plain.no_metadata;
  no_eof = found_no _ plain.no_eof;
  no_octets = λ i. found_no _ (plain.no_octets i);
  no_complete = found_no _ plain.no_complete;
  no_finish = λ f is complete. absurd cc;
  hands_out = λ handed. absurd cc;
}

pub plain_finished : (code : ℕ) (status : FileStatus) → IsPlain (told.TransactionFinished code Incomplete status)
plain_finished code status = record { no_metadata = refl; no_eof = refl; no_octets = λ i. refl; no_complete = refl }

pub plain_suspended : (code : ℕ) → IsPlain (told.Suspended code)
plain_suspended code = record { no_metadata = refl; no_eof = refl; no_octets = λ i. refl; no_complete = refl }

plain_fault : (code progress : ℕ) → IsPlain (told.Fault code progress)
plain_fault code progress = record { no_metadata = refl; no_eof = refl; no_octets = λ i. refl; no_complete = refl }

plain_abandoned : (code progress : ℕ) → IsPlain (told.Abandoned code progress)
plain_abandoned code progress = record { no_metadata = refl; no_eof = refl; no_octets = λ i. refl; no_complete = refl }

-- ---- faults

delivery_in : Option Finished → Delivery
delivery_in None = Incomplete
delivery_in (Some f) = f.delivery

-- a Finished PDU without a delivery
late_finished : (good : Type 0) (before : List Indication) (f : Finished) → f.delivery ≡ Incomplete → Late good before [] (Some f) false
unfolding delivery_in
late_finished good before f incomplete = record {
  follows = tt;
  no_metadata = refl;
  no_eof = refl;
  no_octets = λ i. refl;
  no_complete = refl;
  no_finish = λ other is complete. let e : Incomplete ≡ Complete = sym incomplete ∙ ap delivery_in is ∙ complete in absurd cc;
  hands_out = λ handed. absurd cc;
}

-- one indication, and what is sent and says nothing of a complete delivery
late_told : (good : Type 0) (before : List Indication) (x : Indication) (sent : Option Finished) → list_any is_end before ≡ false → IsNext before x
    → IsPlain x → ((f : Finished) → sent ≡ Some f → f.delivery ≡ Complete → ⊥) → Late good before (x ∷ []) sent false
late_told good before x sent runs next plain denies = record {
  follows = (runs, next, tt);
  no_metadata = found_no _ plain.no_metadata;
  no_eof = found_no _ plain.no_eof;
  no_octets = λ i. found_no _ (plain.no_octets i);
  no_complete = found_no _ plain.no_complete;
  no_finish = denies;
  hands_out = λ handed. absurd cc;
}

-- a Finished PDU without a delivery, where it is asked for
asked_denies : (asked : Bool) (f other : Finished) → f.delivery ≡ Incomplete → (if asked then Some f else None) ≡ Some other → other.delivery ≡ Complete → ⊥
unfolding delivery_in
asked_denies true f other incomplete is complete = let e : Incomplete ≡ Complete = sym incomplete ∙ ap delivery_in is ∙ complete in absurd cc
asked_denies false f other incomplete is complete = absurd cc

-- a delivery that is not complete
finishes_late : (reception : Reception) (state : State) (code : ℕ) (status : FileStatus) (good : Type 0) (before : List Indication) (class : Class)
    → reception.header.class ≡ class → list_any is_end before ≡ false → LateRow good before (finish_response reception state code Incomplete status)
finishes_late reception state code status good before One e runs =
    rw e (late_told good before _ _ runs tt (plain_finished code status) (λ f. asked_denies (asks_closure state) _ f refl))
finishes_late reception state code status good before Two e runs = rw e (late_finished good before _ refl)

pub incomplete_late : (reception : Reception) (state : State) (code : ℕ) (status : FileStatus) (good : Type 0) (before : List Indication)
    → list_any is_end before ≡ false → LateRow good before (finish_response reception state code Incomplete status)
incomplete_late reception state code status good before runs = finishes_late reception state code status good before reception.header.class refl runs

-- a fault by its handler
handled_late : (reception : Reception) (state : State) (kinds : List TimerKind) (code : ℕ) (good : Type 0) (before : List Indication) (by : Handler)
    → handler_of reception code ≡ by → is_paused before ≡ false → list_any is_end before ≡ false
    → LateRow good before (fault_response reception state kinds code)
handled_late reception state kinds code good before handler.Cancel e goes runs = rw e (incomplete_late reception state code _ good before runs)
handled_late reception state kinds code good before handler.Suspend e goes runs = rw e (late_one good before _ runs goes (plain_suspended code))
handled_late reception state kinds code good before handler.Ignore e goes runs = rw e (late_one good before _ runs tt (plain_fault code state.progress))
handled_late reception state kinds code good before handler.Abandon e goes runs = rw e (late_one good before _ runs tt (plain_abandoned code state.progress))

pub fault_late : (reception : Reception) (state : State) (kinds : List TimerKind) (code : ℕ) (good : Type 0) (before : List Indication)
    → is_paused before ≡ false → list_any is_end before ≡ false → LateRow good before (fault_response reception state kinds code)
fault_late reception state kinds code good before goes runs =
    handled_late reception state kinds code good before (handler_of reception code) refl goes runs

-- ---- the look at the file

-- one of two types
one_of_two : (n : ℕ) (modular : Bool) → eqb n checksum.modular ≡ modular → (not modular && not (eqb n checksum.null)) ≡ false
    → (n ≡ checksum.modular) ⊎ (n ≡ checksum.null)
one_of_two n true is fine = inl (eqb-true n checksum.modular is)
one_of_two n false is fine = inr (eqb-true n checksum.null (not-false _ fine))

-- Metadata without another type of checksum
supported : (state : State) (m : Metadata) → is_unsupported state ≡ false → state.metadata ≡ Some m → (m.checksum_type ≡ checksum.modular) ⊎ (m.checksum_type ≡ checksum.null)
supported state m fine some =
    let e : (not (eqb m.checksum_type checksum.modular) && not (eqb m.checksum_type checksum.null)) ≡ false = rw some at fine in
    one_of_two m.checksum_type (eqb m.checksum_type checksum.modular) refl e

-- where the type is modular the checksum counts
summed : (n sum kept : ℕ) → (eqb n checksum.null || eqb sum kept) ≡ true → n ≡ checksum.modular → sum ≡ kept
summed n sum kept agree modular =
    let e : (eqb 0 15 || eqb sum kept) ≡ true = rw modular at agree in
    eqb-true sum kept e

empty_is : {A : Type 0} (xs : List A) → eqb (length xs) 0 ≡ true → xs ≡ []
empty_is [] e = refl
empty_is (x ∷ xs) e = let none : length (x ∷ xs) ≡ 0 = eqb-true (length (x ∷ xs)) 0 e in absurd (omega arith)

agrees_then : (whole agree : Bool) → whole ≡ true → (whole && not agree) ≡ false → agree ≡ true
agrees_then true agree w e = not-false agree e
agrees_then false agree w e = absurd cc

-- what is whole and agrees is good
whole_good : (state : State) (e : Eof) (metadata : Option Metadata) → state.metadata ≡ metadata → state.eof ≡ Some e
    → is_unsupported state ≡ false → is_beyond state e ≡ false → is_whole state e ≡ true → agrees state e ≡ true
    → ((i : ℕ) → is_some (state.received i) ≡ true → i < state.progress) → IsGoodFile state.metadata state.eof state.received
whole_good state e None came eof fine within whole agree reached =
    let parts = and_parts (is_some state.metadata) (eqb (length (missing_below state e.size)) 0) whole in
    let none : is_some state.metadata ≡ false = rw came refl in
    absurd cc
whole_good state e (Some m) came eof fine within whole agree reached =
    let parts = and_parts (is_some state.metadata) (eqb (length (missing_below state e.size)) 0) whole in
    let below : state.progress ≤ e.size = ltb-false e.size state.progress within in
    record {
      metadata = m;
      eof = e;
      metadata_came = came;
      eof_came = eof;
      supported = supported state m fine came;
      none_missing = λ i inside. full_from_missing_runs (is_received state) e.size (empty_is _ parts.1) i inside;
      none_beyond = λ i there. let reaches : i < state.progress = reached i there in omega arith;
      agrees = λ modular. summed m.checksum_type (sum (octets_from state.received 0 e.size)) e.checksum (rw came at agree) modular;
    }

stores_late : (good : Type 0) (before : List Indication) → good → is_paused before ≡ false → LateRow good before stores
stores_late good before is goes = record {
  follows = tt;
  no_metadata = refl;
  no_eof = refl;
  no_octets = λ i. refl;
  no_complete = refl;
  no_finish = λ f is complete. absurd cc;
  hands_out = λ handed. (is, refl, refl, goes);
}

rest_late : (reception : Reception) (state : State) (good : Type 0) (before : List Indication) (class : Class)
    → reception.header.class ≡ class
    → LateRow good before (waits_for_rest reception state)
rest_late reception state good before One e =
    rw e (cond_both _ _ _ (LateRow good before) (λ runs. late_none good before) (λ stands. late_none good before))
rest_late reception state good before Two e =
    rw e (cond_both _ _ _ (LateRow good before) (λ runs. late_none good before) (λ stands. late_none good before))

eof_late : (reception : Reception) (state : State) (before : List Indication) (o : Option Eof) → state.eof ≡ o
    → is_unsupported state ≡ false
    → ((i : ℕ) → is_some (state.received i) ≡ true → i < state.progress) → is_paused before ≡ false → list_any is_end before ≡ false
    → LateRow (IsGoodFile state.metadata state.eof state.received) before (looks_at_eof reception state o)
eof_late reception state before None came fine reached goes runs = late_none _ before
eof_late reception state before (Some e) came fine reached goes runs =
    let good = IsGoodFile state.metadata state.eof state.received in
    cond_both (is_beyond state e) _ _ (LateRow good before)
    (λ beyond. fault_late reception state [] condition.file_size_error good before goes runs)
    (λ within. cond_both (is_whole state e && not (agrees state e)) _ _ (LateRow good before)
    (λ differs. fault_late reception state [] condition.file_checksum_failure good before goes runs)
    (λ same. cond_both (is_whole state e) _ _ (LateRow good before)
    (λ whole. stores_late good before
    (whole_good state e state.metadata refl came fine within whole (agrees_then _ _ whole same) reached) goes)
    (λ rest. rest_late reception state good before reception.header.class refl)))

goes_on : (paused finished ended : Bool) → finished ≡ false → ended ≡ false → ((paused && not finished) && not ended) ≡ false
    → paused ≡ false
goes_on true true ended p q e = absurd cc
goes_on true false true p q e = absurd cc
goes_on true false false p q e = absurd cc
goes_on false finished ended p q e = refl

pub examined_late : (reception : Reception) (state : State) (before : List Indication) → is_paused before ≡ state.paused
    → state.finished ≡ None → state.ended ≡ false
    → ((i : ℕ) → is_some (state.received i) ≡ true → i < state.progress) → list_any is_end before ≡ false
    → LateRow (IsGoodFile state.metadata state.eof state.received) before (examines reception state)
examined_late reception state before paused none lives reached runs =
    let good = IsGoodFile state.metadata state.eof state.received in
    cond_both (is_suspended state) _ _ (LateRow good before)
    (λ suspended. late_none good before)
    (λ not_suspended.
    let goes : is_paused before ≡ false = paused ∙ goes_on state.paused (is_some state.finished) state.ended (ap is_some none) lives not_suspended in
    cond_both (is_unsupported state) _ _ (LateRow good before)
    (λ other. fault_late reception state [] condition.unsupported_checksum_type good before goes runs)
    (λ fine. eof_late reception state before state.eof refl fine reached goes runs))

-- the ACK of an EOF tells nothing
pub acknowledged_late : (reception : Reception) (code : ℕ) (good : Type 0) (before : List Indication) (response : Response) → LateRow good before response
    → LateRow good before (acknowledges reception code and_then response)
acknowledged_late reception code good before response late =
    cond_both (is_two reception.header.class) (record nothing { ack = Some code }) nothing (λ first. LateRow good before (first and_then response))
    (λ two. late) (λ one. late)
