use Rattle.std.proofs.Common.{take}
use Rattle.web_lines.specs.Families.{row_of}
use Rattle.web_lines.specs.Metrics.{AddsLines}
use Rattle.web_lines.proofs.series.push_family.Given as goal

-- the numbers so far are added
abbrev pub invariant-loop-line : goal.invariant-loop-line
invariant-loop-line l = AddsLines (row_of l.told) (take l.line-index l.lines) l.initial.text.items l.text.items
