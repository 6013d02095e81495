-- Rising runs, taken apart at a place.
use Rattle.std.proofs.Common.{◌≡◌, ℕ, zero, suc, ◌+◌, ◌<◌, ◌≤◌, Bool, true, false, ◌||◌, nat_le, nat_lt, List, [], ◌∷◌, ◌++◌, length, get_or, take, drop, refl, ap, sym, ◌∙◌, arith, subst, length-drop}
use Rattle.std.specs.List.{All, AllWithin}
use Rattle.std.specs.List.Sorted.{IsPartitionedBy}
use Rattle.std.proofs.lemmas.Bool.{le-ltb, and_right, leb-true, leb-false, ltb-true, ltb-false}
use Rattle.std.proofs.lemmas.List.{take-append-drop, length-take-le, get_or-take, get_or-drop}
use Rattle.std.proofs.lemmas.List.Sorted.{IsPartitionedBy-leb, IsPartitionedBy-ltb}
use Rattle.std.proofs.lemmas.List.Elements.{All-head, All-tail}
use Rattle.std.proofs.lemmas.List.Folds.{list_any-append}
use Rattle.gap_list.specs.declared.run.Run.{Run}
use Rattle.gap_list.specs.Runs.{is_within, in_runs, IsRisingFrom}

-- from where on runs may stand after these, which rise from an offset on
abbrev pub beyond : ℕ → List Run → ℕ
beyond low [] = low
beyond low (run ∷ runs) = beyond (run.end + 1) runs

pub rising_front : (low : ℕ) (xs ys : List Run) → IsRisingFrom low (xs ++ ys) → IsRisingFrom low xs
rising_front low [] ys rising = tt
rising_front low (x ∷ xs) ys rising = (rising.0, rising.1, rising_front (x.end + 1) xs ys rising.2)

pub rising_rest : (low : ℕ) (xs ys : List Run) → IsRisingFrom low (xs ++ ys) → IsRisingFrom (beyond low xs) ys
rising_rest low [] ys rising = rising
rising_rest low (x ∷ xs) ys rising = rising_rest (x.end + 1) xs ys rising.2

pub rising_append : (low : ℕ) (xs ys : List Run) → IsRisingFrom low xs → IsRisingFrom (beyond low xs) ys → IsRisingFrom low (xs ++ ys)
rising_append low [] ys front rest = rest
rising_append low (x ∷ xs) ys front rest = (front.0, front.1, rising_append (x.end + 1) xs ys front.2 rest)

-- the runs from a place on
pub rising_drop : (runs : List Run) (place : ℕ) → IsRisingFrom 0 runs → IsRisingFrom (beyond 0 (take place runs)) (drop place runs)
rising_drop runs place rising =
    rising_rest 0 (take place runs) (drop place runs) (subst (IsRisingFrom 0) (sym (take-append-drop place runs)) rising)

-- after runs that end below an offset
pub beyond_ends : (low offset : ℕ) (xs : List Run) → low ≤ offset → All (λ run. run.end < offset) xs → beyond low xs ≤ offset
beyond_ends low offset [] le ends = le
beyond_ends low offset (x ∷ xs) le ends =
    let first : x.end < offset = All-head (λ (run : Run). run.end < offset) x xs ends in
    beyond_ends (x.end + 1) offset xs (omega arith) (All-tail (λ (run : Run). run.end < offset) x xs ends)

-- runs that end at or below an offset don't have it
pub past_ends : (start offset : ℕ) (runs : List Run) → start ≤ offset + 1 → All (λ run. run.end < start) runs → in_runs runs offset ≡ false
past_ends start offset [] le ends = refl
past_ends start offset (run ∷ runs) le ends =
    let first : run.end < start = All-head (λ (run : Run). run.end < start) run runs ends in
    rw (and_right (nat_le run.start offset) (nat_lt offset run.end) (le-ltb offset run.end (omega arith)))
    (past_ends start offset runs le (All-tail (λ (run : Run). run.end < start) run runs ends))

-- both parts of runs
pub in_parts : (runs : List Run) (place offset : ℕ) → in_runs runs offset ≡ (in_runs (take place runs) offset || in_runs (drop place runs) offset)
in_parts runs place offset =
    ap (λ (l : List Run). in_runs l offset) (sym (take-append-drop place runs))
    ∙ list_any-append (λ run. is_within run.start run.end offset) (take place runs) (drop place runs)

-- what the runs before a place don't have
pub in_rest : (runs : List Run) (place start offset : ℕ) → start ≤ offset + 1 → All (λ run. run.end < start) (take place runs)
    → in_runs runs offset ≡ in_runs (drop place runs) offset
in_rest runs place start offset le below =
    in_parts runs place offset ∙ ap (λ (b : Bool). b || in_runs (drop place runs) offset) (past_ends start offset (take place runs) le below)

-- the starts and the ends of rising runs rise
pub edges_rise : (low : ℕ) (runs : List Run) → IsRisingFrom low runs → (i j : ℕ) (d : Run) → i ≤ j → j < length runs
    → ((get_or runs i d).end ≤ (get_or runs j d).end) × ((get_or runs i d).start ≤ (get_or runs j d).start) × (low ≤ (get_or runs j d).start) × ((get_or runs j d).start < (get_or runs j d).end)
edges_rise low [] rising i j d le within = absurd (omega arith)
edges_rise low (run ∷ runs) rising zero zero d le within = (omega arith, omega arith, rising.0, rising.1)
edges_rise low (run ∷ runs) rising zero (suc j) d le within =
    let next = edges_rise (run.end + 1) runs rising.2 j j d (omega arith) (omega arith) in
    (omega (arith, next.2, next.3), omega (arith, rising.1, next.2), omega (arith, rising.0, rising.1, next.2), next.3)
edges_rise low (run ∷ runs) rising (suc i) zero d le within = absurd (omega arith)
edges_rise low (run ∷ runs) rising (suc i) (suc j) d le within =
    let next = edges_rise (run.end + 1) runs rising.2 i j d (omega arith) (omega arith) in
    (next.0, next.1, omega (arith, rising.0, rising.1, next.2), next.3)

pub partitioned_by_end : (runs : List Run) (offset : ℕ) → IsRisingFrom 0 runs → IsPartitionedBy (λ run. nat_lt run.end offset) runs
partitioned_by_end runs offset rising =
    IsPartitionedBy-ltb (λ run. run.end) runs offset (λ i j d le within. (edges_rise 0 runs rising i j d le within).0)

pub partitioned_by_start : (runs : List Run) (offset : ℕ) → IsRisingFrom 0 runs → IsPartitionedBy (λ run. nat_le run.start offset) runs
partitioned_by_start runs offset rising =
    IsPartitionedBy-leb (λ run. run.start) runs offset (λ i j d le within. (edges_rise 0 runs rising i j d le within).1)

-- what a partition says of both parts
pub below_point : {X : Type 0} (P : X → Type 0) (p : X → Bool) (runs : List X) (place : ℕ) → ((run : X) → p run ≡ true → P run) → place ≤ length runs
    → AllWithin (λ run. p run ≡ true) runs 0 place → All P (take place runs)
below_point P p runs place means within holds k d less =
    let before : k < place = omega (arith, less, length-take-le place runs within) in
    rw (get_or-take place runs k d before) (means (get_or runs k d) (holds k d (omega arith) before))

pub above_point : {X : Type 0} (P : X → Type 0) (p : X → Bool) (runs : List X) (place : ℕ) → ((run : X) → p run ≡ false → P run)
    → AllWithin (λ run. p run ≡ false) runs place (length runs) → All P (drop place runs)
above_point P p runs place means holds k d less =
    rw (get_or-drop place runs k d)
    (means (get_or runs (place + k) d) (holds (place + k) d (omega arith) (omega (arith, less, length-drop place runs))))

pub ends_below_point : (runs : List Run) (place offset : ℕ) → place ≤ length runs
    → AllWithin (λ run. nat_lt run.end offset ≡ true) runs 0 place → All (λ run. run.end < offset) (take place runs)
ends_below_point runs place offset within holds =
    below_point (λ run. run.end < offset) (λ run. nat_lt run.end offset) runs place (λ run e. ltb-true run.end offset e) within holds

pub ends_above_point : (runs : List Run) (place offset : ℕ)
    → AllWithin (λ run. nat_lt run.end offset ≡ false) runs place (length runs) → All (λ run. offset ≤ run.end) (drop place runs)
ends_above_point runs place offset holds =
    above_point (λ run. offset ≤ run.end) (λ run. nat_lt run.end offset) runs place (λ run e. ltb-false run.end offset e) holds

pub starts_below_point : (runs : List Run) (place offset : ℕ) → place ≤ length runs
    → AllWithin (λ run. nat_le run.start offset ≡ true) runs 0 place → All (λ run. run.start ≤ offset) (take place runs)
starts_below_point runs place offset within holds =
    below_point (λ run. run.start ≤ offset) (λ run. nat_le run.start offset) runs place (λ run e. leb-true run.start offset e) within holds

pub starts_above_point : (runs : List Run) (place offset : ℕ)
    → AllWithin (λ run. nat_le run.start offset ≡ false) runs place (length runs) → All (λ run. offset < run.start) (drop place runs)
starts_above_point runs place offset holds =
    above_point (λ run. offset < run.start) (λ run. nat_le run.start offset) runs place (λ run e. leb-false run.start offset e) holds
