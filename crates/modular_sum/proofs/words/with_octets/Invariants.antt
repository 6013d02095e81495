use Rattle.std.proofs.Common.{◌≡◌, ◌+◌, ◌%◌, ◌^◌, drop}
use Rattle.modular_sum.specs.Sum.{total_from}
use Rattle.modular_sum.specs.Pieces.{sum_with}
use Rattle.modular_sum.proofs.words.with_octets.Given as goal

-- the total so far and what the rest adds are the sum
abbrev pub invariant-loop-index : goal.invariant-loop-index
invariant-loop-index l = (l.total + total_from (l.place + l.index) (drop l.index l.octets)) % 2 ^ 32 ≡ sum_with l.word l.place l.octets
