-- All that was ever put into a queue, and the part of each lane.
use Rattle.std.proofs.Common.{◌≡◌, ℕ, List, [], ◌∷◌, ◌++◌, ap, sym, ◌∙◌, append_assoc}
use Rattle.indications.specs.declared.bundle.Bundle.{Bundle}
use Rattle.indications.specs.LaneLists.{of_lane}
use Rattle.indications.proofs.LaneLemmas.{of_lane-append}
use Rattle.user_queues.specs.Queue.{Queue, EndsInHeld, IsPutIn, with_front, all_put}

-- a lane's outlet stands after its part of it
pub ends_in_held : (queue : Queue) (lane : ℕ) (taken : List Bundle) → EndsInHeld queue lane (of_lane lane (all_put taken queue))
ends_in_held queue lane taken = (of_lane lane taken, of_lane-append lane taken queue.held)

-- a bundle that goes in is one more at its end
pub all_put-put_in : (lane : ℕ) (old new : Queue) (bundle : Bundle) (taken : List Bundle) → IsPutIn lane old bundle new
    → all_put taken new ≡ all_put taken old ++ bundle ∷ []
all_put-put_in lane old new bundle taken put =
    ap (λ (q : Queue). taken ++ q.held) put.held ∙ sym (append_assoc taken old.held (bundle ∷ []))

-- one that is taken leaves it as it was
pub all_put-taken : (old new : Queue) (bundle : Bundle) (taken : List Bundle) → old ≡ with_front new bundle
    → all_put (taken ++ bundle ∷ []) new ≡ all_put taken old
all_put-taken old new bundle taken front =
    append_assoc taken (bundle ∷ []) new.held ∙ ap (λ (q : Queue). taken ++ q.held) (sym front)
