-- What is found at a place among rising runs.
use Rattle.std.proofs.Common.{◌≡◌, ℕ, suc, ◌+◌, ◌-◌, ◌<◌, ◌≤◌, max, min, Bool, true, false, ◌&&◌, ◌||◌, ◌⊎◌, ◌↔◌, IsTrue, not, nat_le, nat_lt, List, [], ◌∷◌, length, get_or, take, drop, refl, ap, sym, ◌∙◌, arith, subst, ⊎_elim, Some, None, slice_get}
use Rattle.std.specs.List.{All}
use Rattle.std.proofs.Math.Bool.{and-false, and-true}
use Rattle.std.proofs.lemmas.Bool.{cases_lt, cond_both, le-leb, lt-leb, lt-ltb, le-ltb, and_right, leb-true, leb-false, or_left, or_right, or_from, true≢false, false≢true}
use Rattle.std.proofs.lemmas.List.{take-append-drop}
use Rattle.std.proofs.lemmas.List.Elements.{All-head, All-tail, All-nil, All-cons}
use Rattle.std.proofs.lemmas.Option.{slice_get_within, get_or_from_slice_get}
use Rattle.gap_list.specs.declared.run.Run.{Run}
use Rattle.gap_list.specs.Runs.{is_within, in_runs, without_range, runs_from, runs_of, first_run, IsFree, IsExtent, IsRisingFrom}
use Rattle.gap_list.specs.Places.{end_or, start_or, begins_from, last_end}
use Rattle.gap_list.proofs.RunLemmas.{is_within_tells, runs_from-none, runs_from-all}
use Rattle.gap_list.proofs.SetLemmas.{below_rising}
use Rattle.gap_list.proofs.RisingLemmas.{beyond, rising_front, rising_drop, in_parts, in_rest}

-- an offset within a run, and one outside
pub within_run : (start end i : ℕ) → start ≤ i → i < end → is_within start end i ≡ true
within_run start end i from to = rw (le-leb start i from, lt-ltb i end to) refl

pub below_run : (start end i : ℕ) → i < start → is_within start end i ≡ false
below_run start end i before = rw (lt-leb start i before) refl

pub above_run : (start end i : ℕ) → end ≤ i → is_within start end i ≡ false
above_run start end i after = and_right (nat_le start i) (nat_lt i end) (le-ltb i end after)

pub either_false-left : (a b : Bool) → (a || b) ≡ false → a ≡ false
either_false-left true b e = e
either_false-left false b e = refl

pub either_false-right : (a b : Bool) → (a || b) ≡ false → b ≡ false
either_false-right true b e = absurd (true≢false e)
either_false-right false b e = e

-- ---- the end of the run that has an offset

pub end_or-after : (offset : ℕ) (runs : List Run) → All (λ run. offset ≤ run.end) runs → offset ≤ end_or offset runs
end_or-after offset [] above = omega arith
end_or-after offset (run ∷ runs) above =
    let first : offset ≤ run.end = All-head (λ (run : Run). offset ≤ run.end) run runs above in
    cond_both (nat_le run.start offset) run.end offset (λ end. offset ≤ end) (λ _. first) (λ _. omega arith)

end_or-covered : (offset i : ℕ) (runs : List Run) → offset ≤ i → i < end_or offset runs → in_runs runs i ≡ true
end_or-covered offset i [] from to = absurd (omega arith)
end_or-covered offset i (run ∷ runs) from to =
    cond_both (nat_le run.start offset) run.end offset (λ end. i < end → in_runs (run ∷ runs) i ≡ true)
    (λ begun less. or_left (is_within run.start run.end i) (in_runs runs i)
    (within_run run.start run.end i (omega (arith, leb-true run.start offset begun)) less))
    (λ _ less. absurd (omega arith))
    to

end_or-stops : (low offset : ℕ) (runs : List Run) → IsRisingFrom low runs → in_runs runs (end_or offset runs) ≡ false
end_or-stops low offset [] rising = refl
end_or-stops low offset (run ∷ runs) rising =
    cond_both (nat_le run.start offset) run.end offset (λ end. in_runs (run ∷ runs) end ≡ false)
    (λ _. or_from (is_within run.start run.end run.end) (in_runs runs run.end)
    (above_run run.start run.end run.end (omega arith)) (below_rising (run.end + 1) runs run.end rising.2 (omega arith)))
    (λ apart. below_rising run.start (run ∷ runs) offset (omega arith, rising.1, rising.2) (leb-false run.start offset apart))

pub end_from-covered : (runs : List Run) (place offset i : ℕ) → All (λ run. run.end < offset) (take place runs)
    → offset ≤ i → i < end_or offset (drop place runs) → in_runs runs i ≡ true
end_from-covered runs place offset i below from to =
    in_rest runs place offset i (omega arith) below ∙ end_or-covered offset i (drop place runs) from to

pub end_from-stops : (runs : List Run) (place offset : ℕ) → IsRisingFrom 0 runs → All (λ run. run.end < offset) (take place runs)
    → All (λ run. offset ≤ run.end) (drop place runs) → in_runs runs (end_or offset (drop place runs)) ≡ false
end_from-stops runs place offset rising below above =
    let after : offset ≤ end_or offset (drop place runs) = end_or-after offset (drop place runs) above in
    in_rest runs place offset (end_or offset (drop place runs)) (omega arith) below
    ∙ end_or-stops (beyond 0 (take place runs)) offset (drop place runs) (rising_drop runs place rising)

-- ---- where the next run begins

pub start_or-after : (offset limit : ℕ) (runs : List Run) → offset < limit → All (λ run. offset < run.start) runs → offset < start_or limit runs
start_or-after offset limit [] below above = below
start_or-after offset limit (run ∷ runs) below above =
    let first : offset < run.start = All-head (λ (run : Run). offset < run.start) run runs above in omega arith

-- runs that begin at or below an offset that they don't have end there
pub begun_without : (offset i : ℕ) (runs : List Run) → All (λ run. run.start ≤ offset) runs → in_runs runs offset ≡ false → offset ≤ i → in_runs runs i ≡ false
begun_without offset i [] begun missing from = refl
begun_without offset i (run ∷ runs) begun missing from =
    let first : run.start ≤ offset = All-head (λ (run : Run). run.start ≤ offset) run runs begun in
    let out : is_within run.start run.end offset ≡ false = either_false-left (is_within run.start run.end offset) (in_runs runs offset) missing in
    let ended : run.end ≤ offset = ⊎_elim
    (λ (has : (is_within run.start run.end offset ≡ true) × (run.start ≤ offset) × (offset < run.end)). absurd (true≢false (sym has.0 ∙ out)))
    (λ (is : (is_within run.start run.end offset ≡ false) × ((offset < run.start) ⊎ (run.end ≤ offset))). ⊎_elim
    (λ (before : offset < run.start). absurd (omega arith))
    (λ (after : run.end ≤ offset). after)
    is.1)
    (is_within_tells run.start run.end offset) in
    or_from (is_within run.start run.end i) (in_runs runs i)
    (above_run run.start run.end i (omega arith))
    (begun_without offset i runs (All-tail (λ (run : Run). run.start ≤ offset) run runs begun)
    (either_false-right (is_within run.start run.end offset) (in_runs runs offset) missing) from)

start_or-missing : (low limit i : ℕ) (runs : List Run) → IsRisingFrom low runs → i < start_or limit runs → in_runs runs i ≡ false
start_or-missing low limit i [] rising to = refl
start_or-missing low limit i (run ∷ runs) rising to =
    below_rising run.start (run ∷ runs) i (omega arith, rising.1, rising.2) (omega arith)

start_or-stops : (low limit : ℕ) (runs : List Run) → IsRisingFrom low runs → start_or limit runs < limit → in_runs runs (start_or limit runs) ≡ true
start_or-stops low limit [] rising to = absurd (omega arith)
start_or-stops low limit (run ∷ runs) rising to =
    let e : min run.start limit ≡ run.start = omega arith in
    subst (λ n. in_runs (run ∷ runs) n ≡ true) (sym e)
    (or_left (is_within run.start run.end run.start) (in_runs runs run.start) (within_run run.start run.end run.start (omega arith) rising.1))

pub gap_end-missing : (runs : List Run) (place offset limit i : ℕ) → IsRisingFrom 0 runs → All (λ run. run.start ≤ offset) (take place runs)
    → in_runs runs offset ≡ false → offset ≤ i → i < start_or limit (drop place runs) → in_runs runs i ≡ false
gap_end-missing runs place offset limit i rising below missing from to =
    let front : in_runs (take place runs) offset ≡ false =
    either_false-left (in_runs (take place runs) offset) (in_runs (drop place runs) offset) (sym (in_parts runs place offset) ∙ missing) in
    in_parts runs place i
    ∙ or_from (in_runs (take place runs) i) (in_runs (drop place runs) i)
    (begun_without offset i (take place runs) below front from)
    (start_or-missing (beyond 0 (take place runs)) limit i (drop place runs) (rising_drop runs place rising) to)

pub gap_end-stops : (runs : List Run) (place limit : ℕ) → IsRisingFrom 0 runs → start_or limit (drop place runs) < limit
    → in_runs runs (start_or limit (drop place runs)) ≡ true
gap_end-stops runs place limit rising to =
    in_parts runs place (start_or limit (drop place runs))
    ∙ or_right (in_runs (take place runs) (start_or limit (drop place runs))) (in_runs (drop place runs) (start_or limit (drop place runs)))
    (start_or-stops (beyond 0 (take place runs)) limit (drop place runs) (rising_drop runs place rising) to)

-- where the runs before a place end at or below an offset, they begin there too
pub begun_where_ended : (low offset : ℕ) (runs : List Run) → IsRisingFrom low runs → All (λ run. run.end < offset + 1) runs → All (λ run. run.start ≤ offset) runs
begun_where_ended low offset [] rising ended = All-nil (λ (run : Run). run.start ≤ offset)
begun_where_ended low offset (run ∷ runs) rising ended =
    let first : run.end < offset + 1 = All-head (λ (run : Run). run.end < offset + 1) run runs ended in
    All-cons (λ (run : Run). run.start ≤ offset) run runs (omega (arith, rising.1))
    (begun_where_ended (run.end + 1) offset runs rising.2 (All-tail (λ (run : Run). run.end < offset + 1) run runs ended))

-- runs that end above an offset that they don't have begin above it
pub begins_where_missing : (offset : ℕ) (runs : List Run) → All (λ run. offset + 1 ≤ run.end) runs → in_runs runs offset ≡ false
    → All (λ run. offset < run.start) runs
begins_where_missing offset [] above missing = All-nil (λ (run : Run). offset < run.start)
begins_where_missing offset (run ∷ runs) above missing =
    let past : offset + 1 ≤ run.end = All-head (λ (run : Run). offset + 1 ≤ run.end) run runs above in
    let out : is_within run.start run.end offset ≡ false = either_false-left (is_within run.start run.end offset) (in_runs runs offset) missing in
    let first : offset < run.start = ⊎_elim
    (λ (less : offset < run.start). less)
    (λ (from : run.start ≤ offset). absurd (true≢false (sym (within_run run.start run.end offset from (omega arith)) ∙ out)))
    (cases_lt offset run.start) in
    All-cons (λ (run : Run). offset < run.start) run runs first
    (begins_where_missing offset runs (All-tail (λ (run : Run). offset + 1 ≤ run.end) run runs above)
    (either_false-right (is_within run.start run.end offset) (in_runs runs offset) missing))

-- an offset that runs don't have is in no part of them
pub missing_rest : (runs : List Run) (place offset : ℕ) → in_runs runs offset ≡ false → in_runs (drop place runs) offset ≡ false
missing_rest runs place offset missing =
    either_false-right (in_runs (take place runs) offset) (in_runs (drop place runs) offset) (sym (in_parts runs place offset) ∙ missing)

pub rising_take : (runs : List Run) (place : ℕ) → IsRisingFrom 0 runs → IsRisingFrom 0 (take place runs)
rising_take runs place rising =
    rising_front 0 (take place runs) (drop place runs) (subst (IsRisingFrom 0) (sym (take-append-drop place runs)) rising)

-- ---- the lowest run

first_run-some : (set : ℕ → Bool) (start end limit : ℕ) → start < end → end ≤ limit
    → ((i : ℕ) → i < start → set i ≡ false) → ((i : ℕ) → start ≤ i → i < end → set i ≡ true) → (end < limit → set end ≡ false)
    → first_run set limit ≡ Some (record { start = start; end = end })
unfolding runs_of
first_run-some set start end limit filled below front has stops =
    let whole : limit - 0 ≡ limit = omega arith in
    let skipped : runs_from set 0 limit ≡ runs_from set start (limit - start) =
    rw whole at (runs_from-none set 0 start limit (omega arith) (omega arith) (λ i from to. front i to)) in
    ap (λ (l : List Run). slice_get l 0) (skipped ∙ runs_from-all set start end limit filled below has stops)

first_run-none : (set : ℕ → Bool) (limit : ℕ) → ((i : ℕ) → i < limit → set i ≡ false) → first_run set limit ≡ None
unfolding runs_of runs_from
first_run-none set limit none =
    let whole : limit - 0 ≡ limit = omega arith in
    let nothing : limit - limit ≡ 0 = omega arith in
    ap (λ (l : List Run). slice_get l 0)
    (rw (whole, nothing) at (runs_from-none set 0 limit limit (omega arith) (omega arith) (λ i from to. none i to)))

-- a set without the offsets below one
pub without_below : (set : ℕ → Bool) (offset i : ℕ) → i < offset → without_range set 0 offset i ≡ false
without_below set offset i below = ap (λ b. set i && not b) (within_run 0 offset i (omega arith) below) ∙ and-false (set i)

pub without_above : (set : ℕ → Bool) (offset i : ℕ) → offset ≤ i → without_range set 0 offset i ≡ set i
without_above set offset i from = ap (λ b. set i && not b) (above_run 0 offset i from) ∙ and-true (set i)

before_begin : (set : ℕ → Bool) (offset start i : ℕ) → ((i : ℕ) → offset ≤ i → i < start → set i ≡ false) → i < start
    → without_range set 0 offset i ≡ false
before_begin set offset start i missing before = ⊎_elim
    (λ (below : i < offset). without_below set offset i below)
    (λ (from : offset ≤ i). without_above set offset i from ∙ missing i from before)
    (cases_lt i offset)

pub first_from-some : (set : ℕ → Bool) (offset start reached limit : ℕ) → offset ≤ start → start < limit → start ≤ reached
    → ((i : ℕ) → offset ≤ i → i < start → set i ≡ false) → set start ≡ true
    → ((i : ℕ) → start ≤ i → i < reached → set i ≡ true) → set reached ≡ false
    → first_run (without_range set 0 offset) limit ≡ Some (record { start = start; end = min reached limit })
first_from-some set offset start reached limit from below after missing begins has stops =
    let filled : start < reached = ⊎_elim
    (λ (less : start < reached). less)
    (λ (le : reached ≤ start).
    let e : reached ≡ start = omega arith in
    absurd (true≢false (sym begins ∙ ap set (sym e) ∙ stops)))
    (cases_lt start reached) in
    first_run-some (without_range set 0 offset) start (min reached limit) limit (omega arith) (omega arith)
    (λ i before. before_begin set offset start i missing before)
    (λ i reach to. without_above set offset i (omega arith) ∙ has i reach (omega arith))
    (λ less.
    let e : min reached limit ≡ reached = omega arith in
    rw e (without_above set offset reached (omega arith) ∙ stops))

pub first_from-none : (set : ℕ → Bool) (offset start limit : ℕ) → limit ≤ start
    → ((i : ℕ) → offset ≤ i → i < start → set i ≡ false) → first_run (without_range set 0 offset) limit ≡ None
first_from-none set offset start limit past missing =
    first_run-none (without_range set 0 offset) limit (λ i below. before_begin set offset start i missing (omega arith))

-- ---- a free range

free_rest : (low start end : ℕ) (runs : List Run) → IsRisingFrom low runs → begins_from end runs ≡ true → IsFree (in_runs runs) start end
free_rest low start end [] rising from i at below = refl
free_rest low start end (run ∷ runs) rising from i at below =
    let le : end ≤ run.start = leb-true end run.start from in
    below_rising run.start (run ∷ runs) i (omega arith, rising.1, rising.2) (omega arith)

taken_rest : (low start end : ℕ) (runs : List Run) → start < end → All (λ run. start + 1 ≤ run.end) runs → IsRisingFrom low runs
    → begins_from end runs ≡ false → IsFree (in_runs runs) start end → ⊥
taken_rest low start end [] filled above rising from free = true≢false from
taken_rest low start end (run ∷ runs) filled above rising from free =
    let lt : run.start < end = leb-false end run.start from in
    let past : start + 1 ≤ run.end = All-head (λ (run : Run). start + 1 ≤ run.end) run runs above in
    let has : in_runs (run ∷ runs) (max start run.start) ≡ true =
    or_left (is_within run.start run.end (max start run.start)) (in_runs runs (max start run.start))
    (within_run run.start run.end (max start run.start) (omega arith) (omega (arith, rising.1))) in
    true≢false (sym has ∙ free (max start run.start) (omega arith) (omega arith))

pub free_exact : (runs : List Run) (place start end : ℕ) (result : Bool) → IsRisingFrom 0 runs → start < end
    → All (λ run. run.end < start + 1) (take place runs) → All (λ run. start + 1 ≤ run.end) (drop place runs)
    → result ≡ begins_from end (drop place runs) → IsTrue result ↔ IsFree (in_runs runs) start end
free_exact runs place start end true rising filled below above is = (
  λ _ i from to. in_rest runs place (start + 1) i (omega arith) below
      ∙ free_rest (beyond 0 (take place runs)) start end (drop place runs) (rising_drop runs place rising) (sym is) i from to,
  λ _. refl,
)
free_exact runs place start end false rising filled below above is = (
  λ wrong. absurd (false≢true wrong),
  λ free. absurd (taken_rest (beyond 0 (take place runs)) start end (drop place runs) filled above (rising_drop runs place rising) (sym is)
      (λ i from to. sym (in_rest runs place (start + 1) i (omega arith) below) ∙ free i from to)),
)

-- ---- the last end

pub last_end-rises : (end : ℕ) (runs : List Run) → IsRisingFrom (end + 1) runs → end ≤ last_end end runs
last_end-rises end [] rising = omega arith
last_end-rises end (run ∷ runs) rising = omega (arith, rising.0, rising.1, last_end-rises run.end runs rising.2)

last_end-above : (low start : ℕ) (runs : List Run) (i : ℕ) → IsRisingFrom low runs → last_end start runs ≤ i → in_runs runs i ≡ false
last_end-above low start [] i rising past = refl
last_end-above low start (run ∷ runs) i rising past =
    or_from (is_within run.start run.end i) (in_runs runs i)
    (above_run run.start run.end i (omega (arith, last_end-rises run.end runs rising.2)))
    (last_end-above (run.end + 1) run.end runs i rising.2 past)

last_end-in : (low : ℕ) (run : Run) (runs : List Run) → IsRisingFrom low (run ∷ runs) → in_runs (run ∷ runs) (last_end run.end runs - 1) ≡ true
last_end-in low run [] rising =
    or_left (is_within run.start run.end (run.end - 1)) false (within_run run.start run.end (run.end - 1) (omega (arith, rising.1)) (omega (arith, rising.1)))
last_end-in low run (next ∷ runs) rising =
    or_right (is_within run.start run.end (last_end next.end runs - 1)) (in_runs (next ∷ runs) (last_end next.end runs - 1))
    (last_end-in (run.end + 1) next runs rising.2)

last_of_positive : (runs : List Run) → IsRisingFrom 0 runs → 0 < last_end 0 runs → in_runs runs (last_end 0 runs - 1) ≡ true
last_of_positive [] rising positive = absurd (omega arith)
last_of_positive (run ∷ runs) rising positive = last_end-in 0 run runs rising

pub IsExtent-last_end : (runs : List Run) → IsRisingFrom 0 runs → IsExtent (in_runs runs) (last_end 0 runs)
IsExtent-last_end runs rising = record {
  above = λ i past. last_end-above 0 0 runs i rising past;
  last = λ positive. last_of_positive runs rising positive;
}

-- the last run's end
pub last_end-at : (start : ℕ) (runs : List Run) (d : Run) → 0 < length runs → last_end start runs ≡ (get_or runs (length runs - 1) d).end
last_end-at start [] d positive = absurd (omega arith)
last_end-at start (run ∷ []) d positive = refl
last_end-at start (run ∷ next ∷ runs) d positive =
    let e : length (run ∷ next ∷ runs) - 1 ≡ suc (length (next ∷ runs) - 1) = omega arith in
    rw e (last_end-at run.end (next ∷ runs) d (omega arith))

pub last_end-read : (runs : List Run) (last : Run) → Some last ≡ slice_get runs (length runs - 1) → last.end ≡ last_end 0 runs
last_end-read runs last read =
    let within : length runs - 1 < length runs = slice_get_within runs (length runs - 1) last (sym read) in
    ap (λ (run : Run). run.end) (sym (get_or_from_slice_get runs (length runs - 1) last last (sym read)))
    ∙ sym (last_end-at 0 runs last (omega arith))
