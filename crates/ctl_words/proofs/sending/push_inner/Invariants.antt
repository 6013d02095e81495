use Rattle.std.proofs.Common.{◌≡◌, ◌++◌, take, flat_map}
use Rattle.ctl_words.specs.Commands.{quoted_octet}
use Rattle.ctl_words.proofs.sending.push_inner.Given as goal

-- what stands for the octets so far is added
abbrev pub invariant-loop-octet : goal.invariant-loop-octet
invariant-loop-octet l = l.command.items ≡ l.initial.command.items ++ flat_map quoted_octet (take l.octet-index l.word)
