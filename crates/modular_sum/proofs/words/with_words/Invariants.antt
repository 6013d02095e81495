use Rattle.std.proofs.Common.{◌≡◌, ◌+◌, ◌*◌, ◌%◌, ◌^◌, drop}
use Rattle.modular_sum.specs.Sum.{total_from}
use Rattle.modular_sum.specs.Pieces.{sum_with}
use Rattle.modular_sum.proofs.words.with_words.Given as goal

-- the total so far and what the words that are left add are the sum
abbrev pub invariant-loop-index : goal.invariant-loop-index
invariant-loop-index l = (l.total + total_from 0 (drop (4 * l.index) l.octets)) % 2 ^ 32 ≡ sum_with l.word 0 l.octets
