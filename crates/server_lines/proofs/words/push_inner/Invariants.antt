use Rattle.std.proofs.Common.{◌≡◌, ◌++◌, take, flat_map}
use Rattle.server_lines.specs.Words.{quoted_octet}
use Rattle.server_lines.proofs.words.push_inner.Given as goal

-- what stands for the octets so far is added
abbrev pub invariant-loop-octet : goal.invariant-loop-octet
invariant-loop-octet l = l.words.items ≡ l.initial.words.items ++ flat_map quoted_octet (take l.octet-index l.word)
