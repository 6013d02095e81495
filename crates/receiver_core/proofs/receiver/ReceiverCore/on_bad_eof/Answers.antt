use Rattle.std.proofs.Common.{[], ◌∷◌, List}
use Rattle.cfdp_types.specs.declared.names.Delivery.TheVariants.{Incomplete}
use Rattle.cfdp_types.specs.declared.names.FileStatus.TheVariants.{Discarded}
use Rattle.indications.specs.declared.indication.Indication.{Indication}
use Rattle.indications.specs.declared.indication.Indication.TheVariants as told
use Rattle.receiver_table.specs.Answers.{tells}
use Rattle.receiver_parts.specs.Response.{IsResponse}
use Rattle.receiver_core.specs.Core.{reception_of}
use Rattle.receiver_parts.proofs.ResponseLemmas.{only_is, acknowledged_last}
use Rattle.receiver_core.proofs.receiver.ReceiverCore.on_bad_eof.Goals as goal

pub returns : goal.returns
returns c =
    let inds : List Indication = told.TransactionFinished c.args.condition Incomplete Discarded ∷ [] in
    let telling : IsResponse c.in_ok-response.response (tells inds) = rw c.in_ok-response.ensures (only_is inds) in
    acknowledged_last (reception_of c.args.self.now) c.args.condition inds c.acknowledges.new.response (c.acknowledges.ensures (tells inds) telling)
