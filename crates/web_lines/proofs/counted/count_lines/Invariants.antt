use Rattle.std.proofs.Common.{◌≡◌, take}
use Rattle.web_lines.specs.Document.{count_of_kind}
use Rattle.web_lines.proofs.counted.count_lines.Given as goal

-- those so far are counted
abbrev pub invariant-loop-line : goal.invariant-loop-line
invariant-loop-line l = l.count ≡ count_of_kind l.kind (take l.line-index l.lines)
