use Rattle.std.proofs.Common.{◌≡◌, take}
use Rattle.web_lines.specs.States.{states_of}
use Rattle.web_lines.proofs.state.states_of.Given as goal

-- the states so far are there
abbrev pub invariant-loop-line : goal.invariant-loop-line
invariant-loop-line l = l.states.items ≡ states_of (take l.line-index l.lines)
