-- Meaning. Sets of offsets, as tests of an offset, and the runs that they consist of.
use Rattle.std.specs.Prelude.{◌≡◌, ℕ, zero, suc, ◌+◌, ◌-◌, ◌<◌, ◌≤◌, Bool, true, false, ◌&&◌, ◌||◌, ◌==◌, not, nat_le, nat_lt, cond, List, [], ◌∷◌, IsTrue, Option, Some, slice_get, take, refl}
use Rattle.std.specs.List.{list_any}
use Rattle.gap_list.specs.declared.run.Run.{Run}

-- whether an offset is from start to end - 1
abbrev pub is_within : ℕ → ℕ → ℕ → Bool
is_within start end offset = nat_le start offset && nat_lt offset end

-- two sets with the same offsets
abbrev pub SameSet : (ℕ → Bool) → (ℕ → Bool) → Type 0
SameSet set other = (offset : ℕ) → set offset ≡ other offset

-- a set and the offsets from start to end - 1
abbrev pub with_range : (ℕ → Bool) → ℕ → ℕ → ℕ → Bool
with_range set start end offset = set offset || is_within start end offset

-- a set without the offsets from start to end - 1
abbrev pub without_range : (ℕ → Bool) → ℕ → ℕ → ℕ → Bool
without_range set start end offset = set offset && not (is_within start end offset)

-- none of the offsets from start to end - 1 is in the set
abbrev pub IsFree : (ℕ → Bool) → ℕ → ℕ → Type 0
IsFree set start end = (offset : ℕ) → start ≤ offset → offset < end → set offset ≡ false

-- whether an offset is in one of the runs
abbrev pub in_runs : List Run → ℕ → Bool
in_runs runs offset = list_any (λ run. is_within run.start run.end offset) runs

-- a set and the offsets of ranges
abbrev pub with_ranges : (ℕ → Bool) → List Run → ℕ → Bool
with_ranges set ranges offset = set offset || in_runs ranges offset

-- an offset added before the runs above it: it joins the first run where that begins right after it
abbrev pub joined : ℕ → List Run → List Run
joined offset [] = record { start = offset; end = offset + 1 } ∷ []
joined offset (run ∷ runs) = cond (run.start == offset + 1)
    (record { start = offset; end = run.end } ∷ runs)
    (record { start = offset; end = offset + 1 } ∷ run ∷ runs)

-- the runs above an offset, with the offset added if it is in the set
abbrev pub joined_if : Bool → ℕ → List Run → List Run
joined_if true offset runs = joined offset runs
joined_if false offset runs = runs

-- the maximal runs of a set among this many offsets from `offset` on, rising
unfoldable pub runs_from : (ℕ → Bool) → ℕ → ℕ → List Run
runs_from set offset zero = []
runs_from set offset (suc count) = joined_if (set offset) offset (runs_from set (offset + 1) count)

-- the maximal runs of a set below a limit, rising
unfoldable pub runs_of : (ℕ → Bool) → ℕ → List Run
runs_of set limit = runs_from set 0 limit

-- the maximal runs of the offsets from start to end - 1 that aren't in the set
abbrev pub new_runs : (ℕ → Bool) → ℕ → ℕ → List Run
new_runs set start end = runs_of (λ offset. is_within start end offset && not (set offset)) end

-- the maximal runs below a limit of the offsets that aren't in the set
abbrev pub missing_runs : (ℕ → Bool) → ℕ → List Run
missing_runs set limit = runs_of (λ offset. not (set offset)) limit

-- the lowest maximal run of a set below a limit
abbrev pub first_run : (ℕ → Bool) → ℕ → Option Run
first_run set limit = slice_get (runs_of set limit) 0

-- one more than the greatest offset of the set, or 0 where the set is empty
pub record IsExtent (set : ℕ → Bool) (extent : ℕ) : Type 0 where
  pub above : (offset : ℕ) → extent ≤ offset → set offset ≡ false
  pub last : 0 < extent → IsTrue (set (extent - 1))

-- the runs aren't empty, rise and don't touch, and the first begins at or above an offset
abbrev pub IsRisingFrom : ℕ → List Run → Type 0
IsRisingFrom offset [] = Unit {0}
IsRisingFrom offset (run ∷ runs) = (offset ≤ run.start) × (run.start < run.end) × IsRisingFrom (run.end + 1) runs

-- two runs with a gap between them
abbrev two_runs : ℕ → Bool
two_runs = in_runs (record { start = 8; end = 12 } ∷ record { start = 0; end = 4 } ∷ [])

-- a range that reaches into both runs adds the gap
new_runs_over_two : new_runs two_runs 2 10 ≡ record { start = 4; end = 8 } ∷ []
unfolding runs_of runs_from
new_runs_over_two = refl

-- with that range nothing is missing up to the end of the second run
missing_runs_after : missing_runs (with_range two_runs 2 10) 13 ≡ record { start = 12; end = 13 } ∷ []
unfolding runs_of runs_from
missing_runs_after = refl

-- a range over everything adds the gap and what lies above
new_runs_over_all : new_runs two_runs 0 14 ≡ record { start = 4; end = 8 } ∷ record { start = 12; end = 14 } ∷ []
unfolding runs_of runs_from
new_runs_over_all = refl

-- a limit cuts a gap
missing_runs_cut : missing_runs two_runs 6 ≡ record { start = 4; end = 6 } ∷ []
unfolding runs_of runs_from
missing_runs_cut = refl

-- two runs again, with a gap between them
abbrev pub two_parts : ℕ → Bool
two_parts = in_runs (record { start = 0; end = 2 } ∷ record { start = 4; end = 6 } ∷ [])

new_runs_between_and_above : new_runs two_parts 0 8 ≡ record { start = 2; end = 4 } ∷ record { start = 6; end = 8 } ∷ []
unfolding runs_of runs_from
new_runs_between_and_above = refl

-- removing a range leaves what lies before and after it
runs_without : runs_of (without_range two_runs 2 10) 13 ≡ record { start = 0; end = 2 } ∷ record { start = 10; end = 12 } ∷ []
unfolding runs_of runs_from
runs_without = refl

-- removing a range within a run splits the run
runs_without_middle : runs_of (without_range two_runs 9 11) 13
    ≡ record { start = 0; end = 4 } ∷ record { start = 8; end = 9 } ∷ record { start = 11; end = 12 } ∷ []
unfolding runs_of runs_from
runs_without_middle = refl

-- a range between two runs that touches neither is free; one that shares an offset with a run isn't
free_between : IsTrue (not (two_runs 4)) × IsTrue (not (two_runs 7)) × IsTrue (two_runs 8)
free_between = (refl, refl, refl)

-- the first run that is missing, once a range is added to two parts
missing_first_with : take 1 (missing_runs (with_range two_parts 2 3) 8) ≡ record { start = 3; end = 4 } ∷ []
unfolding runs_of runs_from
missing_first_with = refl

-- the first run of a set whose front was removed
first_run_without : first_run (without_range two_runs 0 2) 13 ≡ Some (record { start = 2; end = 4 })
unfolding runs_of runs_from
first_run_without = refl
