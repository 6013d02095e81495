-- A user after a step of a lane.
use Rattle.std.proofs.Common.{◌≡◌, ℕ, List, Some, Result, Ok, Err, IfErr, OnErr, slice_get, slice_set, slice_index_or, ap, ◌∙◌, subst}
use Rattle.std.proofs.lemmas.Option.{get_or_from_slice_get}
use Rattle.txn_events.specs.declared.event.Event.{Event}
use Rattle.lane_table.specs.declared.done.Done.{Done}
use Rattle.lane_table.specs.declared.refused.Refused.{Refused}
use Rattle.lane_table.specs.Lane.{State}
use Rattle.user_queues.specs.Queue.{Queue}
use Rattle.world_core.specs.Posts.{Post, IsWhyRefused, IsNoStepOf}
use Rattle.world_core.proofs.ListFacts.{set_same}

-- a lane that did not take an event leaves the user as before
pub not_stepped : (old : Post) (lane : ℕ) (event : Event) (state current next : State) (queue : Queue) (r : Result Done Refused)
    → slice_get old.lanes lane ≡ Some state → current ≡ slice_index_or old.lanes lane current
    → IfErr r (IsWhyRefused current old.queue event) → OnErr r ((next ≡ current) × (queue ≡ old.queue))
    → IfErr r (λ refused. IsNoStepOf old lane event (record { queue = queue; lanes = slice_set old.lanes lane next }) refused)
not_stepped old lane event state current next queue (Ok done) is at why same = tt
not_stepped old lane event state current next queue (Err refused) is at why same =
    let here : current ≡ state = at ∙ get_or_from_slice_get old.lanes lane state current is in
    record {
      state = state;
      is = is;
      why = subst (λ s. IsWhyRefused s old.queue event refused) here why;
      same =
          ap (λ (q : Queue). record { queue = q; lanes = slice_set old.lanes lane next }) same.1
          ∙ ap (λ (l : List State). record { queue = old.queue; lanes = l })
          (ap (slice_set old.lanes lane) (same.0 ∙ here) ∙ set_same old.lanes lane state is);
    }
