-- What a step does to a lane with its outlet.
use Rattle.std.proofs.Common.{◌≡◌, ◌⊎◌, ℕ, List, [], ◌∷◌, Option, Some, None, Result, Ok, Err, IfOk, OnOk, IfErr, refl, sym, ap, ◌∙◌, subst, inl, inr, ⊎_elim}
use Rattle.std.proofs.lemmas.List.{append-nil}
use Rattle.atomic_table.specs.Seated.{TableId}
use Rattle.cfdp_types.specs.declared.key.TxnKey.{TxnKey}
use Rattle.indications.specs.declared.bundle.Bundle.{Bundle}
use Rattle.indications.specs.declared.indication.Indication.{Indication}
use Rattle.txn_events.specs.declared.event.Event.{Event}
use Rattle.lane_table.specs.declared.done.Done.{Done}
use Rattle.lane_table.specs.declared.refused.Refused.{Refused}
use Rattle.lane_table.specs.Keeping.{Keeps, bundle_by}
use Rattle.lane_table.specs.Lane.{State, key_of, IsSound}
use Rattle.lane_table.specs.Steps.{IsKeyed, refusal_at, new_transaction, answer_of, stepped}
use Rattle.lane_table.proofs.RunFacts.{IsSame, same_by}
use Rattle.lane_table.proofs.StepFacts.{stays_sound}
use Rattle.txn_lane.specs.Stepping.{IsOffered, IsTaken, IsHanded, IsLeft, IsWhyNot, RanOut, WasFull}
use Rattle.queue_rule.specs.Views.{with_sent}
use Rattle.queue_rule.specs.declared.view.OutletView.{OutletView}
use Rattle.user_queues.specs.Shared.{OutletEnd}
use Rattle.shared_lanes.specs.Held.{HeldValue, IsBehindLock, with_bundles, HasTaken, HasRefused, HasStepped}

-- what the outlet of threads says of itself
abbrev pub user_in : OutletEnd → ℕ
user_in outlet = outlet.knows.user

abbrev pub lane_in : OutletEnd → ℕ
lane_in outlet = outlet.knows.lane

abbrev pub sends : OutletEnd → Bundle → OutletEnd → Type 0
sends old bundle new = (new.queue ≡ old.queue) × (new.knows ≡ with_sent old.knows bundle)

abbrev pub stays : OutletEnd → OutletEnd → Type 0
stays old new = new ≡ old

abbrev pub has_sent : OutletEnd → List Bundle → Type 0
has_sent outlet bundles = outlet.knows.sent ≡ bundles

end_is : (old new : OutletEnd) (knows : OutletView) → new.queue ≡ old.queue → new.knows ≡ knows → new ≡ record old { knows = knows }
end_is old new knows queue is =
    ap (λ (q : TableId). let o : OutletEnd = record { queue = q; knows = new.knows } in o) queue
    ∙ ap (λ (k : OutletView). let o : OutletEnd = record { queue = old.queue; knows = k } in o) is

none_more : (outlet : OutletEnd) → outlet ≡ with_bundles outlet []
none_more outlet =
    ap (λ (l : List Bundle). let o : OutletEnd = record outlet { knows = record outlet.knows { sent = l } } in o) (sym (append-nil outlet.knows.sent))

-- the one bundle of a step, or none
offered_by : (state : State) (key : Option TxnKey) (inds : List Indication) (old new : OutletEnd) → IsOffered sends old new (bundle_by state key inds)
    → new ≡ with_bundles old (bundle_by state key inds)
offered_by state None [] old new offered = offered ∙ none_more old
offered_by state None (first ∷ rest) old new offered = offered ∙ none_more old
offered_by state (Some key) [] old new offered = offered ∙ none_more old
offered_by state (Some key) (first ∷ rest) old new offered =
    end_is old new (with_sent old.knows (record { user = state.user; lane = state.lane; key = key; inds = first ∷ rest })) offered.0 offered.1

has_taken : (old new : HeldValue) (event : Event) (done : Done) → IsTaken old.lane event new.lane done
    → IsHanded user_in lane_in sends has_sent old.lane new.lane old.outlet new.outlet → HasTaken old event done new
has_taken old new event done taken handed = record {
  taken = taken;
  told = offered_by new.lane (key_of new.lane) (answer_of new.lane).inds old.outlet new.outlet handed.offered;
}

behind_taken : (queue : ℕ → TableId) (old new : HeldValue) (event : Event) (done : Done) → IsBehindLock queue old → IsKeyed event
    → IsTaken old.lane event new.lane done → IsHanded user_in lane_in sends has_sent old.lane new.lane old.outlet new.outlet → IsBehindLock queue new
behind_taken queue old new event done behind keyed taken handed =
    let same : IsSame old.lane (stepped old.lane event) = same_by old.lane event (new_transaction old.lane event) in
    let user : new.lane.user ≡ old.lane.user = ap (λ (s : State). s.user) taken.next_is ∙ same.user in
    let lane : new.lane.lane ≡ old.lane.lane = ap (λ (s : State). s.lane) taken.next_is ∙ same.lane in
    let told = (has_taken old new event done taken handed).told in
    let kept = handed.keeps old.outlet.knows.sent refl behind.kept in
    record {
      sound = subst IsSound (sym taken.next_is) (stays_sound old.lane event behind.sound keyed taken.free);
      of_queue = ap (λ (o : OutletEnd). o.queue) told ∙ behind.of_queue ∙ ap queue (sym user);
      of_user = handed.same_end.of_user ∙ behind.of_user ∙ sym user;
      of_lane = handed.same_end.of_lane ∙ behind.of_lane ∙ sym lane;
      kept = subst (Keeps new.lane) (sym kept.0) kept.1;
    }

why_left : (state : State) (event : Event) (old new : OutletEnd) (refused : Refused) → IsWhyNot stays state event old new refused
    → (new ≡ old) × ((refusal_at state event ≡ Some refused) ⊎ RanOut state event refused ⊎ WasFull state event refused)
why_left state event old new refused why = ⊎_elim
    (λ (left : (new ≡ old) × ((refusal_at state event ≡ Some refused) ⊎ RanOut state event refused)).
    (left.0, ⊎_elim inl (λ (ran : RanOut state event refused). inr (inl ran)) left.1))
    (λ (full : stays old new × WasFull state event refused). (full.0, inr (inr full.1)))
    why

has_refused : (old new : HeldValue) (event : Event) (refused : Refused)
    → IsLeft user_in lane_in stays has_sent old.lane event new.lane old.outlet new.outlet refused → HasRefused old event refused new
has_refused old new event refused left =
    let why = why_left old.lane event old.outlet new.outlet refused left.why in
    record {
      why = why.1;
      same =
          ap (λ (s : State). let h : HeldValue = record { lane = s; outlet = new.outlet } in h) left.same
          ∙ ap (λ (o : OutletEnd). let h : HeldValue = record { lane = old.lane; outlet = o } in h) why.0;
    }

-- whatever the lane answers, what lies behind the lock then is one that may
pub behind_stepped : (queue : ℕ → TableId) (old new : HeldValue) (event : Event) (result : Result Done Refused) → IsBehindLock queue old → IsKeyed event
    → IfOk result (λ done. IsTaken old.lane event new.lane done) → OnOk result (IsHanded user_in lane_in sends has_sent old.lane new.lane old.outlet new.outlet)
    → IfErr result (λ refused. IsLeft user_in lane_in stays has_sent old.lane event new.lane old.outlet new.outlet refused) → IsBehindLock queue new
behind_stepped queue old new event (Ok done) behind keyed taken handed left = behind_taken queue old new event done behind keyed taken handed
behind_stepped queue old new event (Err refused) behind keyed taken handed left =
    subst (IsBehindLock queue) (sym (has_refused old new event refused left).same) behind

-- and so it is with what is answered
pub has_stepped : (old new : HeldValue) (event : Event) (result : Result Done Refused) → IfOk result (λ done. IsTaken old.lane event new.lane done)
    → OnOk result (IsHanded user_in lane_in sends has_sent old.lane new.lane old.outlet new.outlet)
    → IfErr result (λ refused. IsLeft user_in lane_in stays has_sent old.lane event new.lane old.outlet new.outlet refused) → HasStepped old event result new
has_stepped old new event (Ok done) taken handed left = has_taken old new event done taken handed
has_stepped old new event (Err refused) taken handed left = has_refused old new event refused left
