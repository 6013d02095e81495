use Rattle.std.proofs.Common.{◌≡◌, map, flat_map, take}
use Rattle.web_lines.specs.Document.{known_line, said}
use Rattle.web_lines.proofs.lines.read_lines.Given as goal

-- the lines so far are the known ones of the pieces so far
abbrev pub invariant-loop-piece : goal.invariant-loop-piece
invariant-loop-piece l = map said l.lines.items ≡ flat_map (λ piece. known_line piece.now) (take l.piece-index l.piece-items)
