use Rattle.std.proofs.Common.{◌≡◌, ◌+◌, false, nat_lt, [], ◌∷◌}
use Rattle.std.proofs.lemmas.Bool.{le-ltb}
use Rattle.cfdp_types.specs.Condition as condition
use Rattle.cfdp_types.specs.declared.names.TimerKind.TheVariants.{Nak}
use Rattle.receiver_table.specs.Answers.{fault_response}
use Rattle.receiver_parts.specs.ControlBlock.{state_from}
use Rattle.receiver_core.specs.Core.{reception_of}
use Rattle.receiver_parts.proofs.ResponseLemmas.{alone}
use Rattle.receiver_core.proofs.receiver.ReceiverCore.on_nak_timer.Goals as goal

pub returns-else-self-from : goal.returns-else-self-from
returns-else-self-from c m octets =
    let core = c.args.self.now in
    let reached : nat_lt (core.control.tries.nak + 1) core.params.limits.nak ≡ false =
    le-ltb (core.control.tries.nak + 1) core.params.limits.nak (rw (c.from.ensures, c.limits.ensures.limits) at c.if-self-from.false) in
    rw reached
    (alone c.fault_response.result c.new-inds.result (fault_response (reception_of core) (state_from c.args.current.now m octets) (Nak ∷ []) condition.nak_limit) c.new-inds.ensures (c.fault_response.ensures.response m octets))
