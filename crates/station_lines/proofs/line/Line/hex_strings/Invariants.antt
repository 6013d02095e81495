use Rattle.std.proofs.Common.{◌≡◌, ◌++◌, take}
use Rattle.station_lines.specs.Members.{hex_strings}
use Rattle.station_lines.proofs.line.Line.hex_strings.Given as goal

-- the octets so far are added
abbrev pub invariant-loop-octets : goal.invariant-loop-octets
invariant-loop-octets l = l.self ≡ l.initial.self ++ hex_strings (take l.octets-index l.values)
