-- Worked sets of offsets.
use Rattle.std.proofs.Common.{◌≡◌, ℕ, ◌≤◌, false, refl, arith}
use Rattle.std.proofs.lemmas.Bool.Decides.{nat_tests}
use Rattle.gap_list.specs.Runs.{two_parts, IsExtent}

-- the greatest offset of two parts is 5
above_two_parts : (offset : ℕ) → 6 ≤ offset → two_parts offset ≡ false
above_two_parts offset beyond = grind (arith, nat_tests)

extent_of_two_parts : IsExtent two_parts 6
extent_of_two_parts = record { above = above_two_parts; last = λ positive. refl }

-- and so neither 5 nor 7 is their extent
less_than_extent : IsExtent two_parts 5 → ⊥
less_than_extent is = let beyond = is.above 5 (omega arith) in absurd cc

more_than_extent : IsExtent two_parts 7 → ⊥
more_than_extent is = let last = is.last (omega arith) in absurd cc
