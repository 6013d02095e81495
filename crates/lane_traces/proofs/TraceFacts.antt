-- A beginning of a word has an end exactly where its last indication is one; so what a sound lane tells holds of its log.
use Rattle.std.proofs.Common.{◌≡◌, ◌↔◌, ℕ, suc, ◌-◌, ◌==◌, ◌||◌, Bool, true, false, List, [], ◌∷◌, length, slice_get, Option, Some, None, Result, Ok, Err, refl, sym, ap, ◌∙◌, subst, arith, if◌then◌else◌}
use Rattle.std.specs.List.{list_any}
use Rattle.std.specs.Option.{option_map}
use Rattle.std.proofs.lemmas.Bool.{eqb-true}
use Rattle.std.proofs.Math.Bool.{or-false}
use Rattle.cfdp_types.specs.declared.key.EntityId.{EntityId}
use Rattle.cfdp_types.specs.declared.key.TxnKey.{TxnKey}
use Rattle.indications.specs.declared.indication.Indication.{Indication}
use Rattle.indications.specs.declared.side.Side.{Side}
use Rattle.indications.specs.Words.{is_end, MayFollowOf, IsBegunOf, IsWordOf}
use Rattle.txn_events.specs.declared.event.Event.{Event}
use Rattle.txn_events.specs.declared.refusal.Refusal.{Refusal}
use Rattle.txn_events.specs.declared.refusal.Refusal.TheVariants.{NoTransaction, OldTransaction}
use Rattle.lane_table.specs.Logs.{Log, side_of, issued, IsLegal}
use Rattle.lane_table.specs.Lane.{IsRun, key_at, key_of, log_of, entries_in, issued_in, issued_by}
use Rattle.lane_table.proofs.LogFacts.{lane_words}
use Rattle.lane_table.proofs.StepFacts.{both_true}
use Rattle.lane_traces.specs.declared.traced.Traced.{Traced}
use Rattle.lane_traces.specs.Traces.{is_end_told, is_over, traced_by, is_same_key, is_older_than, how_far_by, events_by, TellsHowFar}

-- ---- ends stand last

left_false : (a b : Bool) → (a || b) ≡ false → a ≡ false
left_false false b is = refl
left_false true b is = absurd cc

pub over_is_ended : (side : Side) (before told : List Indication) → MayFollowOf side before told → is_over told ≡ list_any is_end told
over_is_ended side before [] may = refl
over_is_ended side before (x ∷ []) may = sym (or-false (is_end x))
over_is_ended side before (x ∷ y ∷ rest) may =
    let place : length (x ∷ y ∷ rest) - 1 ≡ suc (length (y ∷ rest) - 1) = omega arith in
    ap (λ n. is_end_told (slice_get (x ∷ y ∷ rest) n)) place
    ∙ over_is_ended side (x ∷ before) (y ∷ rest) may.2
    ∙ ap (λ b. b || list_any is_end (y ∷ rest)) (sym (left_false (is_end x) (list_any is_end before) may.2.0))

pub over_is_word : (side : Side) (told : List Indication) → IsBegunOf side told → (is_over told ≡ true) ↔ IsWordOf side told
over_is_word side told begun = (
  λ over. (begun, sym (over_is_ended side [] told begun) ∙ over),
  λ word. over_is_ended side [] told begun ∙ word.1,
)

-- ---- what is told is of the last transaction

told_by : {A : Type 0} (same older : Bool) (here given : A)
    → (if same then (let ok : Result A Refusal = Ok here in ok) else if older then Err OldTransaction else Err NoTransaction) ≡ Ok given
    → (same ≡ true) × (here ≡ given)
told_by true older here given is = (refl, cc)
told_by false true here given is = absurd cc
told_by false false here given is = absurd cc

same_is : (one other : TxnKey) → is_same_key one other ≡ true → one ≡ other
same_is one other is =
    let both = both_true (one.source.0 == other.source.0) (one.seq == other.seq) is in
    let source : one.source.0 ≡ other.source.0 = eqb-true one.source.0 other.source.0 both.0 in
    let seq : one.seq ≡ other.seq = eqb-true one.seq other.seq both.1 in
    λ i. record { source = record { 0 = source i }; seq = seq i }

pub told_of_last : (last : Option TxnKey) (journal : List Event) (told : List Indication) (key : TxnKey) (traced : Traced)
    → how_far_by last journal told key ≡ Ok traced → (last ≡ Some key) × (traced_by journal told ≡ traced)
told_of_last None journal told key traced is = absurd cc
told_of_last (Some last) journal told key traced is =
    let by = told_by (is_same_key last key) (is_older_than last key) (traced_by journal told) traced is in
    (ap Some (same_is last key by.0), by.1)

-- so are the events that are given
pub given_of_last : (last : Option TxnKey) (journal : List Event) (key : TxnKey) (events : List Event)
    → events_by last journal key ≡ Ok events → (last ≡ Some key) × (events ≡ journal)
given_of_last None journal key events is = absurd cc
given_of_last (Some last) journal key events is =
    let by = told_by (is_same_key last key) (is_older_than last key) journal events is in
    (ap Some (same_is last key by.0), sym by.1)

-- ---- the law

found_log : (source : EntityId) (last : Option ℕ) (key : TxnKey) (found : Option Log) → IsRun last found → option_map (key_at source) last ≡ Some key
    → (log : Log) × (found ≡ Some log) × IsLegal log
found_log source None key found run is = absurd cc
found_log source (Some number) key None run is = absurd run
found_log source (Some number) key (Some log) run is = (log, refl, run)

pub tells_how_far : TellsHowFar
tells_how_far state key traced sound is =
    let by = told_of_last (key_of state) state.journal (issued_by state) key traced is in
    let found = found_log state.source state.last key (log_of state) sound.run by.0 in
    let log : Log = found.0 in
    let begun : IsBegunOf (side_of log) (issued log) = (lane_words log found.2).0 in
    let told : issued_by state ≡ issued log = ap issued_in found.1 in
    record {
      log = log;
      log_is = found.1;
      key_is = by.0;
      legal = found.2;
      entries = ap (λ (t : Traced). t.entries) (sym by.1) ∙ sound.counted ∙ ap entries_in found.1;
      begun = begun;
      ended = subst (λ over. (over ≡ true) ↔ IsWordOf (side_of log) (issued log))
          (ap is_over (sym told) ∙ ap (λ (t : Traced). t.ended) by.1)
          (over_is_word (side_of log) (issued log) begun);
    }
