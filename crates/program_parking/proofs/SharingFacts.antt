-- What the lanes of one source take up.
use Rattle.std.proofs.Common.{◌≡◌, ℕ, zero, suc, ◌+◌, ◌<◌, ◌≤◌, Bool, true, false, nat_eq, List, [], ◌∷◌, length, drop, get_or, set, refl, add-one, drop-cons, arith}
use Rattle.std.proofs.lemmas.Bool.Decides.{nat_tests}
use Rattle.std.proofs.lemmas.List.Sums.{sum_by-cons}
use Rattle.program_parking.specs.declared.sharing.Holder.{Holder}
use Rattle.program_parking.specs.Lanes.{LaneValue}
use Rattle.program_parking.specs.Parkings.{greater_of, greatest, held, lane_costs, larger, larger_of, part, used}

-- a lane's part is what it takes up where the source is its own, and else nothing
pub part_same : (source own : ℕ) (lane : LaneValue) → own ≡ source → part source own lane ≡ lane_costs lane
part_same source own lane same = let yes : nat_eq own source ≡ true = grind (arith, nat_tests) in rw yes refl

pub part_other : (source own : ℕ) (lane : LaneValue) → (own ≡ source → ⊥) → part source own lane ≡ 0
part_other source own lane differ = let no : nat_eq own source ≡ false = grind (arith, nat_tests) in rw no refl

pub part_most : (source own : ℕ) (lane : LaneValue) → part source own lane ≤ lane_costs lane
part_most source own lane = by (nat_eq own source) refl
  where
    by : (b : Bool) → nat_eq own source ≡ b → part source own lane ≤ lane_costs lane
    by true is = rw is (omega arith)
    by false is = rw is (omega arith)

-- from one place on, and from the next
pub held_from : (source : ℕ) (sources : List ℕ) (lanes : List LaneValue) (place : ℕ) (d : LaneValue) → place < length sources → place < length lanes
    → held source (drop place sources) (drop place lanes)
    ≡ part source (get_or sources place 0) (get_or lanes place d) + held source (drop (place + 1) sources) (drop (place + 1) lanes)
held_from source sources lanes place d inside there = rw (add-one, drop-cons sources place 0 inside, drop-cons lanes place d there) refl

-- no source takes up more than all do
pub held_most : (source : ℕ) (sources : List ℕ) (lanes : List LaneValue) → held source sources lanes ≤ used lanes
held_most source [] lanes = omega arith
held_most source (own ∷ sources) [] = omega arith
held_most source (own ∷ sources) (lane ∷ lanes) =
    let rest : held source sources lanes ≤ used lanes = held_most source sources lanes in
    let first : part source own lane ≤ lane_costs lane = part_most source own lane in
    let sums : used (lane ∷ lanes) ≡ lane_costs lane + used lanes = sum_by-cons lane_costs lane lanes in
    let most : part source own lane + held source sources lanes ≤ used (lane ∷ lanes) = omega arith in
    most

-- a lane's part of what its source takes up, and the whole with another lane in its place
pub held_part : (source : ℕ) (sources : List ℕ) (lanes : List LaneValue) (place : ℕ) (d : LaneValue) → place < length sources → place < length lanes
    → part source (get_or sources place 0) (get_or lanes place d) ≤ held source sources lanes
held_part source [] lanes place d inside there = omega arith
held_part source (own ∷ sources) [] place d inside there = omega arith
held_part source (own ∷ sources) (lane ∷ lanes) zero d inside there = omega arith
held_part source (own ∷ sources) (lane ∷ lanes) (suc place) d inside there =
    let rest : part source (get_or sources place 0) (get_or lanes place d) ≤ held source sources lanes = held_part source sources lanes place d (omega arith) (omega arith) in
    omega arith

pub held_set : (source : ℕ) (sources : List ℕ) (lanes : List LaneValue) (place : ℕ) (other d : LaneValue) → place < length sources → place < length lanes
    → held source sources (set lanes place other) + part source (get_or sources place 0) (get_or lanes place d)
    ≡ held source sources lanes + part source (get_or sources place 0) other
held_set source [] lanes place other d inside there = omega arith
held_set source (own ∷ sources) [] place other d inside there = omega arith
held_set source (own ∷ sources) (lane ∷ lanes) zero other d inside there = omega arith
held_set source (own ∷ sources) (lane ∷ lanes) (suc place) other d inside there =
    let rest : held source sources (set lanes place other) + part source (get_or sources place 0) (get_or lanes place d)
    ≡ held source sources lanes + part source (get_or sources place 0) other = held_set source sources lanes place other d (omega arith) (omega arith) in
    omega arith

-- the largest lane from one place on, and from the next
pub larger_from : (source : ℕ) (sources : List ℕ) (lanes : List LaneValue) (place : ℕ) (best : Holder) (d : LaneValue) → place < length sources → place < length lanes
    → larger source place (drop place sources) (drop place lanes) best
    ≡ larger source (place + 1) (drop (place + 1) sources) (drop (place + 1) lanes) (larger_of source place (get_or sources place 0) (get_or lanes place d) best)
larger_from source sources lanes place best d inside there =
    let step : larger source place (drop place sources) (drop place lanes) best
    ≡ larger source (place + 1) (drop (suc place) sources) (drop (suc place) lanes) (larger_of source place (get_or sources place 0) (get_or lanes place d) best) =
    rw (drop-cons sources place 0 inside, drop-cons lanes place d there) refl in
    let one : suc place ≡ place + 1 = omega arith in
    rw one at step

pub greatest_more : (count remotes : ℕ) (sources : List ℕ) (lanes : List LaneValue)
    → greatest (count + 1) remotes sources lanes ≡ greater_of sources lanes (greatest count remotes sources lanes) count
greatest_more count remotes sources lanes = rw add-one refl
