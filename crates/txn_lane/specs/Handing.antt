-- Of the code. How a step's bundle is handed to the user's queue.
use Rattle.std.specs.Prelude.{◌≡◌, ℕ, List, [], ◌∷◌, ◌++◌, Option, Some, None}
use Rattle.cfdp_types.specs.declared.key.TxnKey.{TxnKey}
use Rattle.indications.specs.declared.bundle.Bundle.{Bundle}
use Rattle.indications.specs.declared.indication.Indication.{Indication}
use Rattle.indications.specs.LaneLists.{IsLaneList}

-- the bundle of the indications under a key, if there are any
abbrev pub bundle_for : ℕ → ℕ → TxnKey → List Indication → Option Bundle
bundle_for user lane key [] = None
bundle_for user lane key (first ∷ rest) = Some (record { user = user; lane = lane; key = key; inds = first ∷ rest })

-- the bundle, if there is one, is of this user and lane, and may follow bundles after which the outlet may stand
abbrev pub MayHandOver : ℕ → ℕ → (List Bundle → Type 0) → Option Bundle → Type 0
MayHandOver user lane stands None = Unit {0}
MayHandOver user lane stands (Some bundle) =
    (bundle.user ≡ user) × (bundle.lane ≡ lane)
    × ((bundles : List Bundle) × stands bundles × IsLaneList bundle.user bundle.lane bundle.key.source (bundles ++ bundle ∷ []))

-- the bundle, if there is one, was accepted by the outlet; otherwise nothing happened
abbrev pub IsHandedOver : {A : Type 0} → (A → Bundle → A → Type 0) → A → A → Option Bundle → Type 0
IsHandedOver takes old new None = new ≡ old
IsHandedOver takes old new (Some bundle) = takes old bundle new
