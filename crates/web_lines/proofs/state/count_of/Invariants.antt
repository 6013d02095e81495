use Rattle.std.proofs.Common.{◌≡◌, take}
use Rattle.web_lines.specs.States.{count_in_state}
use Rattle.web_lines.proofs.state.count_of.Given as goal

-- those so far are counted
abbrev pub invariant-loop-other : goal.invariant-loop-other
invariant-loop-other l = l.count ≡ count_in_state l.state (take l.other-index l.states)
