-- Of the code. What a lane has sent ends with what the queue holds of it, after every offer.
use Rattle.std.proofs.Common.{◌≡◌, ℕ, List, [], ◌∷◌, ◌++◌, ap, sym, ◌∙◌, append_assoc, subst}
use Rattle.indications.specs.declared.bundle.Bundle.{Bundle}
use Rattle.indications.specs.LaneLists.{of_lane}
use Rattle.indications.proofs.LaneLemmas.{of_lane-more}
use Rattle.user_queues.specs.Queue.{Queue, EndsInHeld, IsPutIn, IsFull, with_last}

-- appending a bundle of the lane adds it to what the queue holds of the lane
ends_with_last : (queue : Queue) (lane : ℕ) (bundle : Bundle) (bundles : List Bundle) → bundle.lane ≡ lane
    → EndsInHeld queue lane bundles → EndsInHeld (with_last queue bundle) lane (bundles ++ bundle ∷ [])
ends_with_last queue lane bundle bundles is ends = (
  ends.0,
  ap (λ (l : List Bundle). l ++ bundle ∷ []) ends.1
      ∙ append_assoc ends.0 (of_lane lane queue.held) (bundle ∷ [])
      ∙ ap (λ (l : List Bundle). ends.0 ++ l) (sym (of_lane-more lane queue.held bundle is)),
)

-- an accepted bundle of the lane makes the list one bundle longer
pub put_in_ends : (old new : Queue) (lane lane' : ℕ) (bundle : Bundle) → lane' ≡ lane → IsPutIn lane old bundle new
    → (new.user ≡ old.user) × (lane' ≡ lane)
    × ((bundles : List Bundle) → EndsInHeld old lane bundles → EndsInHeld new lane' (bundles ++ bundle ∷ []))
put_in_ends old new lane lane' bundle same put = (
  ap (λ (q : Queue). q.user) put.held,
  same,
  λ bundles ends. subst (λ (l : ℕ). EndsInHeld new l (bundles ++ bundle ∷ [])) (sym same)
      (subst (λ (q : Queue). EndsInHeld q lane (bundles ++ bundle ∷ [])) (sym put.held)
      (ends_with_last old lane bundle bundles put.of_lane ends)),
)

-- a refused bundle leaves the list as it was
pub full_ends : (old new : Queue) (lane lane' : ℕ) → lane' ≡ lane → IsFull old new
    → (new.user ≡ old.user) × (lane' ≡ lane)
    × ((bundles : List Bundle) → EndsInHeld old lane bundles → EndsInHeld new lane' bundles)
full_ends old new lane lane' same full = (
  ap (λ (q : Queue). q.user) full.same,
  same,
  λ bundles ends. subst (λ (l : ℕ). EndsInHeld new l bundles) (sym same)
      (subst (λ (q : Queue). EndsInHeld q lane bundles) (sym full.same) ends),
)
