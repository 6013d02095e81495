-- Rounds, computed.
use Rattle.std.proofs.Common.{◌≡◌, refl}
use Rattle.number_file.specs.declared.rounds.Cover.TheVariants as cover
use Rattle.number_file.specs.Rounds.{begun, cover_of, number_at, written, given, last_number}

-- the higher of both, where all numbers are above what the file says, and something has to be covered before the first Put
file_is_higher : begun 1 397 4 16 ≡ record { next = 100; covered = 100; width = 4; block = 16 }
file_is_higher = refl

first_is_higher : begun 7 3 1 0 ≡ record { next = 7; covered = 7; width = 1; block = 0 }
first_is_higher = refl

first_put_writes : cover_of (begun 1 397 4 16) ≡ cover.Write 116
first_put_writes = refl

-- so the file says
said : number_at 116 (begun 1 397 4 16) ≡ 464
said = refl

-- a block and a round have one at least
no_block : cover_of (begun 7 3 0 0) ≡ cover.Write 8
no_block = refl

-- what is covered needs no writing, and the last one of a block does not cover the next
covered : cover_of (given 114 (written 116 (begun 1 397 4 16))) ≡ cover.Covered
covered = refl

block_is_used_up : cover_of (given 115 (written 116 (begun 1 397 4 16))) ≡ cover.Write 132
block_is_used_up = refl

-- a round that was given before changes nothing
earlier_round : given 3 (begun 1 397 4 16) ≡ begun 1 397 4 16
earlier_round = refl

over : cover_of (begun last_number 0 1 1) ≡ cover.Over
over = refl

too_wide : cover_of (begun 2305843009213693951 0 4 1) ≡ cover.Over
too_wide = refl
