use Rattle.std.proofs.Common.{◌≡◌}
use Rattle.program_outbox.specs.Outboxes.{first_turns}
use Rattle.program_outbox.proofs.outbox.Outbox.new.Given as goal

-- the users so far have their turns
abbrev pub invariant-loop-user : goal.invariant-loop-user
invariant-loop-user l = l.turns.items ≡ first_turns l.user
