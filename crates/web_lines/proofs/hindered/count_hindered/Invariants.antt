use Rattle.std.proofs.Common.{◌≡◌, take}
use Rattle.web_lines.specs.Hindered.{count_of_hindered}
use Rattle.web_lines.proofs.hindered.count_hindered.Given as goal

-- those so far are counted
abbrev pub invariant-loop-line : goal.invariant-loop-line
invariant-loop-line l = l.count ≡ count_of_hindered (take l.line-index l.lines)
