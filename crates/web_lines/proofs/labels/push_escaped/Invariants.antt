use Rattle.std.proofs.Common.{◌≡◌, ◌++◌, take}
use Rattle.web_lines.specs.Metrics.{escaped}
use Rattle.web_lines.proofs.labels.push_escaped.Given as goal

-- the octets so far are added
abbrev pub invariant-loop-octet : goal.invariant-loop-octet
invariant-loop-octet l = l.text.items ≡ l.initial.text.items ++ escaped (take l.octet-index l.value)
