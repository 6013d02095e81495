-- What a lane's step tells may be handed to its outlet.
use Rattle.std.proofs.Common.{◌≡◌, ℕ, List, [], ◌∷◌, ◌++◌, Option, Some, None, refl, sym, ap, subst}
use Rattle.std.specs.Option.{option_map}
use Rattle.cfdp_types.specs.declared.key.EntityId.{EntityId}
use Rattle.cfdp_types.specs.declared.key.TxnKey.{TxnKey}
use Rattle.indications.specs.declared.bundle.Bundle.{Bundle}
use Rattle.indications.specs.declared.indication.Indication.{Indication}
use Rattle.indications.specs.LaneLists.{IsLaneList}
use Rattle.txn_events.specs.declared.event.Event.{Event}
use Rattle.lane_table.specs.Lane.{State, key_at, key_of, IsSound}
use Rattle.lane_table.specs.Steps.{IsKeyed, new_transaction, refusal_at, stepped, answer_of}
use Rattle.lane_table.specs.Keeping.{Keeps}
use Rattle.txn_lane.specs.Handing.{bundle_for, MayHandOver}
use Rattle.lane_table.proofs.SentFacts.{some_is}
use Rattle.lane_table.proofs.StepFacts.{keeps_bundle}
use Rattle.lane_table.proofs.RunFacts.{tells_some, IsSame, same_by}

source_of_key : (source : EntityId) (last : Option ℕ) (key : TxnKey) → option_map (key_at source) last ≡ Some key → source ≡ key.source
source_of_key source None key is = absurd cc
source_of_key source (Some number) key is = ap (λ k. k.source) (some_is (key_at source number) key is)

pub may_hand_over : (state : State) (event : Event) (bundles : List Bundle) (stands : List Bundle → Type 0) (key : TxnKey)
    → IsSound state → IsKeyed event → refusal_at state event ≡ None → Keeps state bundles → stands bundles
    → key_of (stepped state event) ≡ Some key
    → (inds : List Indication) → (answer_of (stepped state event)).inds ≡ inds
    → MayHandOver state.user state.lane stands (bundle_for state.user state.lane key inds)
may_hand_over state event bundles stands key sound keyed free keeps stood of_key [] told = tt
may_hand_over state event bundles stands key sound keyed free keeps stood of_key (first ∷ rest) told =
    let next : State = stepped state event in
    let same : IsSame state next = same_by state event (new_transaction state event) in
    let bundle : Bundle = record { user = state.user; lane = state.lane; key = key; inds = first ∷ rest } in
    let kept : Keeps next (bundles ++ bundle ∷ []) =
    keeps_bundle state event bundles bundle sound keeps keyed free
    (record { user = sym same.user; lane = sym same.lane; key = of_key; inds = sym told }) (tells_some rest) in (
      refl,
      refl,
      (
        bundles,
        stood,
        subst (λ u. IsLaneList u state.lane key.source (bundles ++ bundle ∷ [])) same.user
            (subst (λ l. IsLaneList next.user l key.source (bundles ++ bundle ∷ [])) same.lane
            (subst (λ s. IsLaneList next.user next.lane s (bundles ++ bundle ∷ [])) (source_of_key next.source next.last key of_key) kept.list)),
      ),
    )
