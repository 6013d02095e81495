-- Worked answers of how far a transaction is.
use Rattle.std.proofs.Common.{◌≡◌, ℕ, Bool, true, false, List, [], ◌∷◌, Option, Some, None, Ok, Err, refl, sym, ap, ◌∙◌, arith}
use Rattle.std.specs.List.{list_any}
use Rattle.std.proofs.lemmas.Bool.{false≢true}
use Rattle.cfdp_types.specs.declared.key.TxnKey.{TxnKey}
use Rattle.indications.specs.Words.{is_end}
use Rattle.receiver_table.specs.Reception.{initial, step, state_of}
use Rattle.gap_list.specs.Runs.{runs_of, runs_from}
use Rattle.txn_events.specs.declared.refusal.Refusal.TheVariants as refusal
use Rattle.lane_table.specs.Lane.{State, entries_in, issued_in, issued_by}
use Rattle.world_rows.specs.ReceivingLaneRows.{fresh, key, after, storing, cancelled}
use Rattle.lane_traces.specs.declared.traced.Traced.{Traced}
use Rattle.lane_traces.specs.Traces.{events_of, how_far, IsHowFar}
use Rattle.lane_traces.proofs.TraceFacts.{tells_how_far}
use Rattle.shared_rows.proofs.ImageRows.{stands}

abbrev pub traced : ℕ → Bool → Traced
traced entries ended = record { entries = entries; ended = ended }

-- ---- what is told

pub still_open : how_far storing (key 5) ≡ Ok (traced 3 false)
unfolding initial step state_of runs_of runs_from
still_open = refl

ended_by_cancel : how_far (after fresh cancelled) (key 5) ≡ Ok (traced 2 true)
unfolding initial step state_of runs_of runs_from
ended_by_cancel = refl

pub above_the_last : how_far storing (key 6) ≡ Err refusal.NoTransaction
above_the_last = refl

below_the_last : how_far storing (key 4) ≡ Err refusal.OldTransaction
below_the_last = refl

of_another_source : how_far storing (record { source = record { 0 = 3 }; seq = 4 }) ≡ Err refusal.NoTransaction
of_another_source = refl

of_a_fresh_lane : how_far fresh (key 5) ≡ Err refusal.NoTransaction
of_a_fresh_lane = refl

-- ---- its events

given_here : events_of storing (key 5) ≡ Ok storing.journal
given_here = refl

not_above_the_last : events_of storing (key 6) ≡ Err refusal.NoTransaction
not_above_the_last = refl

not_below_the_last : events_of storing (key 4) ≡ Err refusal.OldTransaction
not_below_the_last = refl

not_of_a_fresh_lane : events_of fresh (key 5) ≡ Err refusal.NoTransaction
not_of_a_fresh_lane = refl

-- ---- what holds of it

so_far : IsHowFar storing (key 5) (traced 3 false)
so_far = tells_how_far storing (key 5) (traced 3 false) stands.0 still_open

not_ended_so_far : IsHowFar storing (key 5) (traced 3 true) → ⊥
unfolding initial step state_of runs_of runs_from
not_ended_so_far is = false≢true (ap (λ log. list_any is_end (issued_in log)) is.log_is ∙ (is.ended.0 refl).1)

not_fewer_so_far : IsHowFar storing (key 5) (traced 2 false) → ⊥
unfolding initial step state_of runs_of runs_from
not_fewer_so_far is = let count : 2 ≡ 3 = is.entries ∙ sym (ap entries_in is.log_is) in omega (arith, count)

not_under_another_key : IsHowFar storing (key 6) (traced 3 false) → ⊥
not_under_another_key is = let number : 5 ≡ 6 = ap seq_in is.key_is in omega (arith, number)
  where
    seq_in : Option TxnKey → ℕ
    seq_in (Some key) = key.seq
    seq_in None = 0
