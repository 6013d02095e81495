use Rattle.std.proofs.Common.{◌≡◌, Ok, IfOk, IfErr, subst}
use Rattle.txn_lane.specs.Transactions.{StandsAfter, IsWhy}
use Rattle.txn_lane.proofs.PlanFacts.{image_received}
use Rattle.txn_lane.proofs.transaction.TransactionCore.image.Goals as goal

pub returns-in-Receiver-clause-image : goal.returns-in-Receiver-clause-image
returns-in-Receiver-clause-image c log stood =
    image_received c.in-Receiver.core log c.args.stamp (λ found. IfOk c.image.result (λ image. found ≡ Ok image)) c.image.ensures.image
    (subst (λ s. StandsAfter s log) c.in-Receiver.is stood)

pub returns-in-Receiver-clause-refused : goal.returns-in-Receiver-clause-refused
returns-in-Receiver-clause-refused c log stood =
    image_received c.in-Receiver.core log c.args.stamp (λ found. IfErr c.image.result (λ why. IsWhy found why)) c.image.ensures.refused
    (subst (λ s. StandsAfter s log) c.in-Receiver.is stood)
