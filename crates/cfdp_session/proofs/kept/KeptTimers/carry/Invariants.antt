use Rattle.std.proofs.Common.{◌≡◌, None}
use Rattle.cfdp_session.specs.Running.{ended_in}
use Rattle.cfdp_session.proofs.kept.KeptTimers.carry.Given as goal

-- what is done and what is left makes the same list; nothing else changes
abbrev pub invariant-loop-place : goal.invariant-loop-place
invariant-loop-place l =
    (l.self.held ≡ None) × (l.self.carried ≡ l.place) × (ended_in l.ops l.now l.self ≡ ended_in l.ops l.now l.initial.self)
    × (l.self ≡ record l.initial.self { list = l.self.list; carried = l.self.carried })
