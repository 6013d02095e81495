use Rattle.std.proofs.Common.{length}
use Rattle.server_lines.proofs.faults.+push_operands_fault.Given as goal

-- how many operands are still wanted
abbrev pub decreases-push_operands_fault : goal.decreases-push_operands_fault
decreases-push_operands_fault l = length l.wanted.now
