-- Meaning. With how many sending lanes the files toward an entity with receiving lanes don't wait for each other.
use Rattle.std.specs.Prelude.{ℕ, ◌%◌, ◌==◌, ◌&&◌, min, Bool, not, List}
use Rattle.std.specs.List.{filter, range_with_len}

-- a number that isn't 0 divides another
abbrev pub divides : ℕ → ℕ → Bool
divides one other = not (one == 0) && (other % one == 0)

-- there are lanes at both ends, and the number of the sending ones doesn't divide that of the receiving ones: so some
-- receiving lane has the numbers of two sending ones
abbrev pub is_shared : ℕ → ℕ → Bool
is_shared senders lanes = not (lanes == 0) && (not (senders == 0) && not (divides senders lanes))

-- the divisors of a number, of those up to 64
abbrev pub better_counts : ℕ → List ℕ
better_counts lanes = filter (λ count. divides count lanes) (range_with_len 1 (min lanes 64))
