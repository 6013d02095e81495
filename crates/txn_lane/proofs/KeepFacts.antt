-- Every list that an outlet stood after and a lane kept is stood after and kept once more.
use Rattle.std.proofs.Common.{◌≡◌, ℕ, List, [], ◌∷◌, ◌++◌, Option, Some, None, inl, inr, sym, ap, subst}
use Rattle.std.proofs.lemmas.List.{append-nil}
use Rattle.cfdp_types.specs.declared.key.TxnKey.{TxnKey}
use Rattle.indications.specs.declared.bundle.Bundle.{Bundle}
use Rattle.indications.specs.declared.indication.Indication.{Indication}
use Rattle.txn_events.specs.declared.event.Event.{Event}
use Rattle.lane_table.specs.declared.refused.Refused.{Refused}
use Rattle.lane_table.specs.Keeping.{Keeps, bundle_by, bundle_of}
use Rattle.lane_table.specs.Lane.{State, key_of, IsSound}
use Rattle.lane_table.specs.Steps.{IsKeyed, refusal_at, stepped, answer_of}
use Rattle.txn_lane.specs.Stepping.{IsOffered, IsWhyNot, IsSameEnd}
use Rattle.lane_table.proofs.RunFacts.{step_keeps}

-- what was offered stands behind the list
stands_by : {A : Type 0} (takes : A → Bundle → A → Type 0) (stands : A → List Bundle → Type 0) (old new : A) (bundles : List Bundle) (state : State)
    → ((bundle : Bundle) → takes old bundle new → stands new (bundles ++ bundle ∷ []))
    → (key : Option TxnKey) (inds : List Indication) → IsOffered takes old new (bundle_by state key inds) → stands old bundles
    → stands new (bundles ++ bundle_by state key inds)
stands_by takes stands old new bundles state adds None inds offered stood =
    subst (stands new) (sym (append-nil bundles)) (subst (λ a. stands a bundles) (sym offered) stood)
stands_by takes stands old new bundles state adds (Some key) [] offered stood =
    subst (stands new) (sym (append-nil bundles)) (subst (λ a. stands a bundles) (sym offered) stood)
stands_by takes stands old new bundles state adds (Some key) (first ∷ rest) offered stood =
    adds (record { user = state.user; lane = state.lane; key = key; inds = first ∷ rest }) offered

pub keeps_then : {A : Type 0} (takes : A → Bundle → A → Type 0) (stands : A → List Bundle → Type 0) (old new : A)
    (state next : State) (event : Event) (bundles : List Bundle)
    → ((bundle : Bundle) → takes old bundle new → stands new (bundles ++ bundle ∷ []))
    → IsSound state → IsKeyed event → refusal_at state event ≡ None → next ≡ stepped state event
    → IsOffered takes old new (bundle_of next) → stands old bundles → Keeps state bundles
    → stands new (bundles ++ bundle_of next) × Keeps next (bundles ++ bundle_of next)
keeps_then takes stands old new state next event bundles adds sound keyed free is offered stood keeps = (
  stands_by takes stands old new bundles next adds (key_of next) (answer_of next).inds offered stood,
  subst (λ s. Keeps s (bundles ++ bundle_of s)) (sym is) (step_keeps state event bundles sound keeps keyed free),
)

pub still_then : {A : Type 0} (returns : A → A → Type 0) (stands : A → List Bundle → Type 0) (old new : A)
    (state next : State) (event : Event) (refused : Refused) (bundles : List Bundle)
    → (returns old new → stands new bundles)
    → IsWhyNot returns state event old new refused → next ≡ state → stands old bundles → Keeps state bundles
    → stands new bundles × Keeps next bundles
still_then returns stands old new state next event refused bundles keep (inl alone) is stood keeps =
    (subst (λ a. stands a bundles) (sym alone.0) stood, subst (λ s. Keeps s bundles) (sym is) keeps)
still_then returns stands old new state next event refused bundles keep (inr full) is stood keeps =
    (keep full.0, subst (λ s. Keeps s bundles) (sym is) keeps)

-- the outlet is still of its user and lane
pub same_end_then : {A : Type 0} (user lane : A → ℕ) (takes : A → Bundle → A → Type 0) (old new : A) (next : State)
    → ((bundle : Bundle) → takes old bundle new → (user new ≡ user old) × (lane new ≡ lane old))
    → (key : Option TxnKey) (inds : List Indication) → IsOffered takes old new (bundle_by next key inds) → IsSameEnd user lane old new
same_end_then user lane takes old new next adds None inds offered = record { of_user = ap user offered; of_lane = ap lane offered }
same_end_then user lane takes old new next adds (Some key) [] offered = record { of_user = ap user offered; of_lane = ap lane offered }
same_end_then user lane takes old new next adds (Some key) (first ∷ rest) offered =
    let both = adds (record { user = next.user; lane = next.lane; key = key; inds = first ∷ rest }) offered in
    record { of_user = both.0; of_lane = both.1 }

pub same_end_still : {A : Type 0} (user lane : A → ℕ) (returns : A → A → Type 0) (old new : A) (state : State) (event : Event) (refused : Refused)
    → (returns old new → (user new ≡ user old) × (lane new ≡ lane old))
    → IsWhyNot returns state event old new refused → IsSameEnd user lane old new
same_end_still user lane returns old new state event refused keep (inl alone) = record { of_user = ap user alone.0; of_lane = ap lane alone.0 }
same_end_still user lane returns old new state event refused keep (inr full) =
    let both = keep full.0 in record { of_user = both.0; of_lane = both.1 }
