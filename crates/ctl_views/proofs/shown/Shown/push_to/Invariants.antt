use Rattle.std.proofs.Common.{◌≡◌, ◌++◌, take, flat_map}
use Rattle.std.specs.Char.{encode_utf8}
use Rattle.ctl_views.proofs.shown.Shown.push_to.Given as goal

-- the characters so far are added
abbrev pub invariant-loop-letter : goal.invariant-loop-letter
invariant-loop-letter l = l.octets.items ≡ l.initial.octets.items ++ flat_map encode_utf8 (take l.letter-index l.letter-items)
