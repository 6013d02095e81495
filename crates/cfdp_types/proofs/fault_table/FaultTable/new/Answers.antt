use Rattle.std.proofs.Common.{refl, arith}
use Rattle.cfdp_types.proofs.HandlerLemmas.{IsTableOf-next}
use Rattle.cfdp_types.proofs.fault_table.FaultTable.new.Goals as goal

pub loop-condition-preserved : goal.loop-condition-preserved
loop-condition-preserved c =
    IsTableOf-next c.args.role c.args.pairs.now c.loop-condition.condition-index c.loop-condition-item.result c.loop-condition.table c.in_ok-table.table (omega arith) c.loop-condition-item.is c.loop-condition.invariant (c.in_ok-table.ensures.allowed.0 refl) c.in_ok-table.ensures.table
