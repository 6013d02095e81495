-- Of the code. What a lane has sent through an outlet of a queue that threads share.
use Rattle.std.proofs.Common.{◌≡◌, List, [], ◌∷◌, ◌++◌, ap, ◌∙◌}
use Rattle.indications.specs.declared.bundle.Bundle.{Bundle}
use Rattle.queue_rule.specs.declared.view.OutletView.{OutletView}
use Rattle.queue_rule.specs.Views.{with_sent}
use Rattle.user_queues.specs.Shared.{OutletEnd}

-- an accepted bundle is added at the end of what the lane has sent
pub sent_more : (old new : OutletView) (bundle : Bundle) → new ≡ with_sent old bundle
    → (new.user ≡ old.user) × (new.lane ≡ old.lane)
    × ((bundles : List Bundle) → old.sent ≡ bundles → new.sent ≡ bundles ++ bundle ∷ [])
sent_more old new bundle more = (
  ap (λ (o : OutletView). o.user) more,
  ap (λ (o : OutletView). o.lane) more,
  λ bundles is. ap (λ (o : OutletView). o.sent) more ∙ ap (λ (l : List Bundle). l ++ bundle ∷ []) is,
)

-- a refused bundle leaves what the lane has sent as it was
pub sent_same : (old new : OutletEnd) → new ≡ old
    → (new.knows.user ≡ old.knows.user) × (new.knows.lane ≡ old.knows.lane)
    × ((bundles : List Bundle) → old.knows.sent ≡ bundles → new.knows.sent ≡ bundles)
sent_same old new same = (
  ap (λ (o : OutletEnd). o.knows.user) same,
  ap (λ (o : OutletEnd). o.knows.lane) same,
  λ bundles is. ap (λ (o : OutletEnd). o.knows.sent) same ∙ is,
)
