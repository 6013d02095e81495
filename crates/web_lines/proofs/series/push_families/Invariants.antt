use Rattle.std.proofs.Common.{map, take}
use Rattle.web_lines.specs.Families.{row_of}
use Rattle.web_lines.specs.Metrics.{AddsRows}
use Rattle.web_lines.proofs.series.push_families.Given as goal

-- the families so far are added
abbrev pub invariant-loop-told : goal.invariant-loop-told
invariant-loop-told l = AddsRows (map row_of (take l.told-index l.rows)) l.lines l.initial.text.items l.text.items
