use Rattle.std.proofs.Common.{◌≡◌, ◌++◌, map, take}
use Rattle.server_lines.specs.LineFaults.{shown_octet}
use Rattle.server_lines.proofs.faults.push_octets.Given as goal

-- the text has what was taken so far
abbrev pub invariant-loop-octet : goal.invariant-loop-octet
invariant-loop-octet l = l.text.items ≡ l.initial.text.items ++ map shown_octet (take l.octet-index l.word)
