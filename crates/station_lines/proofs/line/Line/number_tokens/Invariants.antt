use Rattle.std.proofs.Common.{◌≡◌, ◌++◌, take}
use Rattle.station_lines.specs.Members.{number_tokens}
use Rattle.station_lines.proofs.line.Line.number_tokens.Given as goal

-- the numbers so far are added
abbrev pub invariant-loop-value : goal.invariant-loop-value
invariant-loop-value l = l.self ≡ l.initial.self ++ number_tokens (take l.value-index l.values)
