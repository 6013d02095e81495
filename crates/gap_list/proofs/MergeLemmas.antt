-- Runs and ranges, merged into new runs.
use Rattle.std.proofs.Common.{◌≡◌, ℕ, ◌+◌, ◌-◌, ◌<◌, ◌≤◌, max, Bool, true, false, ◌||◌, ◌⊎◌, List, [], ◌∷◌, ◌++◌, length, get_or, take, drop, refl, ap, sym, ◌∙◌, arith, subst, ⊎_elim, length-drop}
use Rattle.std.specs.List.{All}
use Rattle.std.proofs.Math.Bool.{or-false}
use Rattle.std.proofs.lemmas.Bool.{cases_lt, or_left, or_from}
use Rattle.std.proofs.lemmas.List.{take-append-drop, drop_more, drop_all, drop-drop, take_all}
use Rattle.std.proofs.lemmas.List.Elements.{All-weaker}
use Rattle.std.proofs.lemmas.List.Folds.{list_any-append, list_any_more}
use Rattle.gap_list.specs.declared.run.Run.{Run}
use Rattle.gap_list.specs.Runs.{is_within, in_runs, with_range, with_ranges, without_range, SameSet, IsRisingFrom}
use Rattle.gap_list.specs.Places.{last_end}
use Rattle.gap_list.proofs.RunLemmas.{IsRisingFrom-lower}
use Rattle.gap_list.proofs.SetLemmas.{below_rising}
use Rattle.gap_list.proofs.RisingLemmas.{beyond, rising_front, rising_append, rising_drop, in_parts}
use Rattle.gap_list.proofs.SearchLemmas.{within_run, below_run, above_run, either_false-left, begun_without, without_below, without_above}
use Rattle.gap_list.proofs.EditLemmas.{or_later, beyond_last, rising_above}

-- a part of rising runs rises
pub rising_part : (runs : List Run) (place count : ℕ) → IsRisingFrom 0 runs → IsRisingFrom 0 (take count (drop place runs))
rising_part runs place count rising =
    let rest : IsRisingFrom 0 (drop place runs) =
    IsRisingFrom-lower 0 (beyond 0 (take place runs)) (drop place runs) (omega arith) (rising_drop runs place rising) in
    rising_front 0 (take count (drop place runs)) (drop count (drop place runs))
    (subst (IsRisingFrom 0) (sym (take-append-drop count (drop place runs))) rest)

-- ---- runs behind others

beyond_after : (runs : List Run) → beyond 0 runs ≤ last_end 0 runs + 1
beyond_after [] = omega arith
beyond_after (run ∷ runs) = omega (arith, beyond_last 0 run runs)

-- runs that begin behind the last one rise with those there
pub behind : (merged runs : List Run) (place : ℕ) (d : Run) → IsRisingFrom 0 merged → IsRisingFrom 0 runs
    → (length runs ≤ place) ⊎ ((place < length runs) × (last_end 0 merged < (get_or runs place d).start))
    → IsRisingFrom 0 (merged ++ drop place runs)
behind merged runs place d rising rest ends = rising_append 0 merged (drop place runs) rising (⊎_elim
    (λ (none : length runs ≤ place). subst (IsRisingFrom (beyond 0 merged)) (sym (drop_all place runs none)) tt)
    (λ (here : (place < length runs) × (last_end 0 merged < (get_or runs place d).start)).
    let more : drop place runs ≡ get_or runs place d ∷ drop (place + 1) runs = drop_more runs place d here.0 in
    let from = subst (IsRisingFrom (beyond 0 (take place runs))) more (rising_drop runs place rest) in
    subst (IsRisingFrom (beyond 0 merged)) (sym more) (omega (arith, beyond_after merged, here.1), from.1, from.2))
    ends)

-- the runs from a place to the last one
pub rest_of : (runs : List Run) (place : ℕ) → take (length runs - place) (drop place runs) ≡ drop place runs
rest_of runs place = take_all (length runs - place) (drop place runs) (omega (arith, length-drop place runs))

pub append_goes : (old merged new runs : List Run) (place : ℕ) (d : Run) → place < length runs
    → SameSet (in_runs new) (with_range (in_runs merged) (get_or runs place d).start (get_or runs place d).end)
    → SameSet (in_runs merged) (with_ranges (in_runs old) (take place runs))
    → SameSet (in_runs new) (with_ranges (in_runs old) (take (place + 1) runs))
append_goes old merged new runs place d within put so_far i =
    let run : Run = get_or runs place d in
    put i
    ∙ ap (λ (b : Bool). b || is_within run.start run.end i) (so_far i)
    ∙ or_later (in_runs old i) (in_runs (take place runs) i) (is_within run.start run.end i)
    ∙ ap (λ (b : Bool). in_runs old i || b) (sym (list_any_more (λ run. is_within run.start run.end i) runs place d within))

pub append_ends : (old merged new runs : List Run) (place : ℕ) → new ≡ merged ++ drop place runs
    → SameSet (in_runs merged) (with_ranges (in_runs old) (take place runs))
    → SameSet (in_runs new) (with_ranges (in_runs old) runs)
append_ends old merged new runs place is so_far i =
    ap (λ (l : List Run). in_runs l i) is
    ∙ list_any-append (λ run. is_within run.start run.end i) merged (drop place runs)
    ∙ ap (λ (b : Bool). b || in_runs (drop place runs) i) (so_far i)
    ∙ or_later (in_runs old i) (in_runs (take place runs) i) (in_runs (drop place runs) i)
    ∙ ap (λ (b : Bool). in_runs old i || b) (sym (in_parts runs place i))

-- ---- the runs from an offset on

module _ (runs : List Run) (place from reached : ℕ) (rising : IsRisingFrom 0 runs)
    (below : All (λ run. run.start ≤ from) (take place runs)) (above : All (λ run. from < run.start) (drop place runs))
    (after : from ≤ reached) (covered : (i : ℕ) → from ≤ i → i < reached → in_runs runs i ≡ true) (stops : in_runs runs reached ≡ false) where
  none_before : (i : ℕ) → i < from → (is_within from reached i || in_runs (drop place runs) i) ≡ false
  none_before i before =
      or_from (is_within from reached i) (in_runs (drop place runs) i) (below_run from reached i before)
      (below_rising (max (beyond 0 (take place runs)) (from + 1)) (drop place runs) i
      (rising_above (beyond 0 (take place runs)) from (drop place runs) (rising_drop runs place rising) above) (omega arith))

  all_from : (i : ℕ) → from ≤ i → (is_within from reached i || in_runs (drop place runs) i) ≡ in_runs runs i
  all_from i at = ⊎_elim
      (λ (inside : i < reached).
      or_left (is_within from reached i) (in_runs (drop place runs) i) (within_run from reached i at inside) ∙ sym (covered i at inside))
      (λ (past : reached ≤ i).
      let front : in_runs (take place runs) reached ≡ false =
      either_false-left (in_runs (take place runs) reached) (in_runs (drop place runs) reached) (sym (in_parts runs place reached) ∙ stops) in
      let begun : All (λ run. run.start ≤ reached) (take place runs) =
      All-weaker (λ (run : Run). run.start ≤ from) (λ (run : Run). run.start ≤ reached) (λ run le. omega arith) (take place runs) below in
      ap (λ (b : Bool). b || in_runs (drop place runs) i)
      (above_run from reached i past ∙ sym (begun_without reached i (take place runs) begun front past))
      ∙ sym (in_parts runs place i))
      (cases_lt i reached)

  -- what is from an offset on is the rest of the run that has it, and the runs that begin above it
  pub merge_begins : (empty new : List Run) → empty ≡ [] → SameSet (in_runs new) (with_range (in_runs empty) from reached)
      → SameSet (with_ranges (in_runs new) (drop place runs)) (with_ranges (without_range (in_runs runs) 0 from) [])
  merge_begins empty new none put i =
      ap (λ (b : Bool). b || in_runs (drop place runs) i) (put i ∙ ap (λ (l : List Run). in_runs l i || is_within from reached i) none)
      ∙ ⊎_elim
      (λ (before : i < from). none_before i before ∙ sym (without_below (in_runs runs) from i before))
      (λ (at : from ≤ i). all_from i at ∙ sym (without_above (in_runs runs) from i at))
      (cases_lt i from)
      ∙ sym (or-false (without_range (in_runs runs) 0 from i))

-- ---- one range more

or_around : (a b c d : Bool) → (((a || b) || c) || d) ≡ ((a || (b || d)) || c)
or_around true b c d = refl
or_around false true c d = refl
or_around false false true true = refl
or_around false false true false = refl
or_around false false false true = refl
or_around false false false false = refl

pub merge_goes : (set : ℕ → Bool) (runs ranges merged appended new : List Run) (place next index : ℕ) (d : Run) → place ≤ next → index < length ranges
    → SameSet (with_ranges (in_runs merged) (drop place runs)) (with_ranges set (take index ranges))
    → SameSet (in_runs appended) (with_ranges (in_runs merged) (take (next - place) (drop place runs)))
    → SameSet (in_runs new) (with_range (in_runs appended) (get_or ranges index d).start (get_or ranges index d).end)
    → SameSet (with_ranges (in_runs new) (drop next runs)) (with_ranges set (take (index + 1) ranges))
merge_goes set runs ranges merged appended new place next index d ordered within so_far append put i =
    let range : Run = get_or ranges index d in
    let here : Bool = is_within range.start range.end i in
    let between : List Run = take (next - place) (drop place runs) in
    let reached : place + (next - place) ≡ next = omega arith in
    let parts : in_runs (drop place runs) i ≡ (in_runs between i || in_runs (drop next runs) i) =
    in_parts (drop place runs) (next - place) i
    ∙ ap (λ (l : List Run). in_runs between i || in_runs l i) (drop-drop (next - place) place runs ∙ ap (λ n. drop n runs) reached) in
    ap (λ (b : Bool). b || in_runs (drop next runs) i) (put i ∙ ap (λ (b : Bool). b || here) (append i))
    ∙ or_around (in_runs merged i) (in_runs between i) here (in_runs (drop next runs) i)
    ∙ ap (λ (b : Bool). (in_runs merged i || b) || here) (sym parts)
    ∙ ap (λ (b : Bool). b || here) (so_far i)
    ∙ or_later (set i) (in_runs (take index ranges) i) here
    ∙ ap (λ (b : Bool). set i || b) (sym (list_any_more (λ run. is_within run.start run.end i) ranges index d within))
