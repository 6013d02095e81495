use Rattle.std.proofs.Common.{[], ◌∷◌}
use Rattle.cfdp_types.specs.Condition as condition
use Rattle.cfdp_types.specs.declared.names.TimerKind.TheVariants.{Inactivity}
use Rattle.receiver_table.specs.Answers.{fault_response}
use Rattle.receiver_parts.specs.ControlBlock.{state_from}
use Rattle.receiver_core.specs.Core.{reception_of}
use Rattle.receiver_parts.proofs.ResponseLemmas.{alone}
use Rattle.receiver_core.proofs.receiver.ReceiverCore.on_timer.Goals as goal

pub returns-in-Nak : goal.returns-in-Nak
returns-in-Nak c m octets = rw c.in-Nak.is (c.on_nak_timer.ensures m octets)

pub returns-in-Check : goal.returns-in-Check
returns-in-Check c m octets = rw c.in-Check.is (c.on_check_timer.ensures m octets)

pub returns-in-Inactivity : goal.returns-in-Inactivity
returns-in-Inactivity c m octets =
    rw c.in-Inactivity.is
    (alone c.fault_response.result c.new.result (fault_response (reception_of c.args.self.now) (state_from c.args.current.now m octets) (Inactivity ∷ []) condition.inactivity) c.new.ensures (c.fault_response.ensures.response m octets))
