use Rattle.std.proofs.Common.{◌≡◌, ◌++◌, flat_map, take}
use Rattle.web_lines.specs.Metrics.{state_text}
use Rattle.web_lines.proofs.counted.push_each_state.Given as goal

-- the states so far are added
abbrev pub invariant-loop-state : goal.invariant-loop-state
invariant-loop-state l = l.text.items ≡ l.initial.text.items ++ flat_map (state_text l.states) (take l.state-index l.all)
