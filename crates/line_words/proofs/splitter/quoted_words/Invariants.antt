use Rattle.std.proofs.Common.{◌≡◌, drop}
use Rattle.line_words.specs.Quoted.{start, after}
use Rattle.line_words.proofs.splitter.quoted_words.Given as goal

-- the octets so far are read
abbrev pub invariant-loop-octet : goal.invariant-loop-octet
invariant-loop-octet l = after start l.line ≡ after l.splitter (drop l.octet-index l.line)
