use Rattle.std.proofs.Common.{take}
use Rattle.cfdp_types.proofs.HandlerLemmas.{IsTableOf}
use Rattle.cfdp_types.proofs.fault_table.FaultTable.new.Given as goal

abbrev pub invariant-loop-condition : goal.invariant-loop-condition
invariant-loop-condition l = IsTableOf l.fn.role (take l.condition-index l.pairs) l.table
