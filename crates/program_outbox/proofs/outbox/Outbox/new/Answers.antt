use Rattle.std.proofs.Common.{◌≡◌, ◌+◌, [], ◌∷◌, ◌++◌, ◌∙◌, ap, arith, sym}
use Rattle.program_outbox.proofs.TurnFacts.{one_more}
use Rattle.program_outbox.proofs.outbox.Outbox.new.Goals as goal

pub loop-user-preserved : goal.loop-user-preserved
loop-user-preserved c =
    let here : 0 + c.loop-user.user ≡ c.loop-user.user = omega arith
    in c.in_ok-push.ensures.items ∙ ap (λ turns. turns ++ c.loop-user.user ∷ []) c.loop-user.invariant
    ∙ sym (one_more 0 c.loop-user.user c.loop-user.user here)
