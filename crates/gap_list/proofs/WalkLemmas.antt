-- The walk over rising runs finds the runs of what they leave out.
use Rattle.std.proofs.Common.{◌≡◌, ℕ, zero, suc, ◌+◌, ◌-◌, ◌<◌, ◌≤◌, max, min, Bool, true, false, ◌&&◌, ◌||◌, ◌⊎◌, not, nat_le, nat_lt, List, [], ◌∷◌, ◌++◌, length, get_or, take, drop, refl, ap, sym, ◌∙◌, eqb, arith, subst, ⊎_elim, append_assoc, append-nil, length-append, inl, Some, None}
use Rattle.std.specs.List.{All}
use Rattle.std.proofs.lemmas.Bool.{cond_both, cond-true, cond-false, cases_lt, lt-ltb, le-ltb, and_right, and_parts, leb-true}
use Rattle.std.proofs.Math.Bool.{or-false}
use Rattle.std.proofs.lemmas.List.Folds.{list_any-append}
use Rattle.std.proofs.lemmas.Bool.Decides.{nat_tests}
use Rattle.std.proofs.lemmas.List.{drop_more, drop_all, take_all}
use Rattle.std.proofs.Math.Seq.{take-nil}
use Rattle.std.proofs.lemmas.List.Elements.{All-weaker}
use Rattle.gap_list.specs.declared.run.Run.{Run}
use Rattle.gap_list.specs.Runs.{is_within, in_runs, with_range, joined, joined_if, runs_from, runs_of, new_runs, missing_runs, IsRisingFrom}
use Rattle.gap_list.specs.Places.{kept}
use Rattle.gap_list.specs.Blocks.{first_of}
use Rattle.gap_list.proofs.RunLemmas.{in_runs-runs_of, IsRisingFrom-runs_of, IsRisingFrom-lower, runs_of-same}
use Rattle.gap_list.proofs.SetLemmas.{below_rising, runs_of-unique, ends-runs_of, filled-runs_of, in_set-runs_of, missing_runs-same}
use Rattle.gap_list.proofs.SearchLemmas.{within_run, below_run, above_run}
use Rattle.gap_list.proofs.RisingLemmas.{beyond, rising_append, beyond_ends, rising_drop, in_rest}
use Rattle.gap_list.proofs.EditLemmas.{no_offset, in_kept, rising_kept, rising_above}
use Rattle.gap_list.proofs.BlockLemmas.{first_is}

-- what runs leave out of the offsets from start to end - 1, run by run
abbrev pub gaps_of : List Run → ℕ → ℕ → List Run
gaps_of [] start end = kept (record { start = start; end = end }) []
gaps_of (run ∷ runs) start end =
    kept (record { start = start; end = min run.start end }) (gaps_of runs (max run.end start) end)

-- ---- they are the runs of what is left out

rising_gaps : (low from start end : ℕ) (runs : List Run) → IsRisingFrom low runs → from ≤ start → IsRisingFrom from (gaps_of runs start end)
rising_gaps low from start end [] rising le =
    rising_kept from (record { start = start; end = end }) [] le tt (λ _. tt)
rising_gaps low from start end (run ∷ runs) rising le =
    rising_kept from (record { start = start; end = min run.start end }) (gaps_of runs (max run.end start) end) le
    (rising_gaps (run.end + 1) from (max run.end start) end runs rising.2 (omega arith))
    (λ _. rising_gaps (run.end + 1) (min run.start end + 1) (max run.end start) end runs rising.2 (omega (arith, rising.1)))

-- before a run, within it and above it
before_run : (start end first past i : ℕ) → i < first → first < past
    → (is_within start (min first end) i || (is_within (max past start) end i && true)) ≡ (is_within start end i && true)
before_run start end first past i a b = grind (arith, nat_tests)

gap_within : (start end first past i : ℕ) → first ≤ i → is_within start (min first end) i ≡ false
gap_within start end first past i a = grind (arith, nat_tests)

past_run : (start end past i : ℕ) → past ≤ i → is_within (max past start) end i ≡ is_within start end i
past_run start end past i a = grind (arith, nat_tests)

not_yet : (start end past i : ℕ) → i < past → is_within (max past start) end i ≡ false
not_yet start end past i a = grind (arith, nat_tests)

in_gaps : (low start end : ℕ) (runs : List Run) (i : ℕ) → IsRisingFrom low runs
    → in_runs (gaps_of runs start end) i ≡ (is_within start end i && not (in_runs runs i))
in_gaps low start end [] i rising =
    in_kept (record { start = start; end = end }) [] i ∙ none_or (is_within start end i)
  where
    none_or : (a : Bool) → (a || false) ≡ (a && true)
    none_or true = refl
    none_or false = refl
in_gaps low start end (run ∷ runs) i rising =
    let later = in_gaps (run.end + 1) (max run.end start) end runs i rising.2 in
    in_kept (record { start = start; end = min run.start end }) (gaps_of runs (max run.end start) end) i
    ∙ ap (λ (b : Bool). is_within start (min run.start end) i || b) later
    ∙ ⊎_elim
    (λ (before : i < run.start).
    let none : in_runs runs i ≡ false = below_rising (run.end + 1) runs i rising.2 (omega (arith, rising.1)) in
    let out : is_within run.start run.end i ≡ false = below_run run.start run.end i before in
    rw (none, out) (before_run start end run.start run.end i before rising.1))
    (λ (reached : run.start ≤ i). ⊎_elim
    (λ (inside : i < run.end).
    let here : is_within run.start run.end i ≡ true = within_run run.start run.end i reached inside in
    rw (gap_within start end run.start run.end i reached, not_yet start end run.end i inside, here) (sym (and_no (is_within start end i))))
    (λ (past : run.end ≤ i).
    let out : is_within run.start run.end i ≡ false = above_run run.start run.end i past in
    rw (gap_within start end run.start run.end i reached, past_run start end run.end i past, out) refl)
    (cases_lt i run.end))
    (cases_lt i run.start)
  where
    and_no : (a : Bool) → (a && false) ≡ false
    and_no true = refl
    and_no false = refl

-- what is within a range is below its end
within_below : (start end i : ℕ) (rest : Bool) → (is_within start end i && rest) ≡ (nat_lt i end && (is_within start end i && rest))
within_below start end i true = grind (arith, nat_tests)
within_below start end i false = grind (arith, nat_tests)

pub gaps_of-new : (runs : List Run) (place start end : ℕ) → IsRisingFrom 0 runs → IsRisingFrom (beyond 0 (take place runs)) (drop place runs)
    → All (λ run. run.end < start) (take place runs)
    → gaps_of (drop place runs) start end ≡ new_runs (in_runs runs) start end
gaps_of-new runs place start end rising rest below =
    let low : ℕ = beyond 0 (take place runs) in
    runs_of-unique (gaps_of (drop place runs) start end) (λ i. is_within start end i && not (in_runs runs i)) end
    (rising_gaps low 0 start end (drop place runs) rest (omega arith))
    (λ i.
    in_gaps low start end (drop place runs) i rest
    ∙ ⊎_elim
    (λ (before : i < start). rw (below_run start end i before) (sym (and_right (nat_lt i end) false refl)))
    (λ (reached : start ≤ i). ap (λ (b : Bool). is_within start end i && not b) (sym (in_rest runs place start i (omega arith) below))
    ∙ within_below start end i (not (in_runs runs i)))
    (cases_lt i start))

-- ---- the walk

-- one more run goes to those that are there
take_kept : (gaps rest : List Run) (run : Run) (most : ℕ) → length gaps < most
    → (gaps ++ kept run []) ++ take (most - length (gaps ++ kept run [])) rest ≡ gaps ++ take (most - length gaps) (kept run rest)
take_kept gaps rest run most few =
    ⊎_elim
    (λ (filled : run.start < run.end).
    let one : kept run [] ≡ run ∷ [] = cond-true (nat_lt run.start run.end) (run ∷ []) [] (lt-ltb run.start run.end filled) in
    let all : kept run rest ≡ run ∷ rest = cond-true (nat_lt run.start run.end) (run ∷ rest) rest (lt-ltb run.start run.end filled) in
    let size : length (gaps ++ run ∷ []) ≡ length gaps + 1 = length-append gaps (run ∷ []) in
    let more : most - length gaps ≡ suc (most - (length gaps + 1)) = omega arith in
    rw (one, all, size, more) (append_assoc gaps (run ∷ []) (take (most - (length gaps + 1)) rest)))
    (λ (empty : run.end ≤ run.start).
    let none : kept run [] ≡ [] = cond-false (nat_lt run.start run.end) (run ∷ []) [] (le-ltb run.start run.end empty) in
    let all : kept run rest ≡ rest = cond-false (nat_lt run.start run.end) (run ∷ rest) rest (le-ltb run.start run.end empty) in
    rw (none, all, append-nil gaps) refl)
    (cases_lt run.start run.end)

pub walk_goes : (gaps new target runs : List Run) (place offset stop next end most : ℕ) (d : Run) → place < length runs → length gaps < most
    → stop ≡ min (get_or runs place d).start end → next ≡ max (get_or runs place d).end offset
    → new ≡ gaps ++ kept (record { start = offset; end = stop }) []
    → gaps ++ take (most - length gaps) (gaps_of (drop place runs) offset end) ≡ target
    → new ++ take (most - length new) (gaps_of (drop (place + 1) runs) next end) ≡ target
walk_goes gaps new target runs place offset stop next end most d within few stop_is next_is new_is so_far =
    let run : Run = get_or runs place d in
    let rest : drop place runs ≡ run ∷ drop (place + 1) runs = drop_more runs place d within in
    let later : List Run = gaps_of (drop (place + 1) runs) next end in
    let step : gaps_of (drop place runs) offset end ≡ kept (record { start = offset; end = stop }) later =
    ap (λ (l : List Run). gaps_of l offset end) rest
    ∙ ap (λ (n : ℕ). kept (record { start = offset; end = n }) (gaps_of (drop (place + 1) runs) (max run.end offset) end)) (sym stop_is)
    ∙ ap (λ (n : ℕ). kept (record { start = offset; end = stop }) (gaps_of (drop (place + 1) runs) n end)) (sym next_is) in
    ap (λ (l : List Run). l ++ take (most - length l) later) new_is
    ∙ take_kept gaps later (record { start = offset; end = stop }) most few
    ∙ ap (λ (l : List Run). gaps ++ take (most - length gaps) l) (sym step)
    ∙ so_far

-- above the end nothing is left out
gaps_past : (start end : ℕ) (runs : List Run) → end ≤ start → gaps_of runs start end ≡ []
gaps_past start end [] past = cond-false (nat_lt start end) (record { start = start; end = end } ∷ []) [] (le-ltb start end past)
gaps_past start end (run ∷ runs) past =
    cond-false (nat_lt start (min run.start end))
    (record { start = start; end = min run.start end } ∷ gaps_of runs (max run.end start) end) (gaps_of runs (max run.end start) end)
    (le-ltb start (min run.start end) (omega arith))
    ∙ gaps_past (max run.end start) end runs (omega arith)

gaps_last : (runs : List Run) (place offset end : ℕ) → (length runs ≤ place) ⊎ (end ≤ offset)
    → gaps_of (drop place runs) offset end ≡ kept (record { start = offset; end = end }) []
gaps_last runs place offset end ends = ⊎_elim
    (λ (none : length runs ≤ place). ap (λ (l : List Run). gaps_of l offset end) (drop_all place runs none))
    (λ (past : end ≤ offset). gaps_past offset end (drop place runs) past ∙ sym (gaps_past offset end [] past))
    ends

pub walk_ends : (gaps new target runs : List Run) (place offset end most : ℕ) → length gaps < most → (length runs ≤ place) ⊎ (end ≤ offset)
    → new ≡ gaps ++ kept (record { start = offset; end = end }) []
    → gaps ++ take (most - length gaps) (gaps_of (drop place runs) offset end) ≡ target
    → new ≡ target
walk_ends gaps new target runs place offset end most few ends new_is so_far =
    let last : Run = record { start = offset; end = end } in
    new_is
    ∙ sym (append-nil (gaps ++ kept last []))
    ∙ ap (λ (l : List Run). (gaps ++ kept last []) ++ l) (sym (take-nil (most - length (gaps ++ kept last []))))
    ∙ take_kept gaps [] last most few
    ∙ ap (λ (l : List Run). gaps ++ take (most - length gaps) l) (sym (gaps_last runs place offset end ends))
    ∙ so_far

pub walk_full : (gaps target runs : List Run) (place offset end most : ℕ) → most ≤ length gaps
    → gaps ++ take (most - length gaps) (gaps_of (drop place runs) offset end) ≡ target → gaps ≡ target
walk_full gaps target runs place offset end most full so_far =
    let none : most - length gaps ≡ 0 = omega arith in
    sym (append-nil gaps) ∙ ap (λ (n : ℕ). gaps ++ take n (gaps_of (drop place runs) offset end)) (sym none) ∙ so_far

-- what the walk began for
pub walk_told : (gaps runs : List Run) (place start end most : ℕ) → IsRisingFrom 0 runs → All (λ run. run.end < start) (take place runs)
    → gaps ++ take (most - length gaps) (gaps_of (drop place runs) start end)
    ≡ gaps ++ take (most - length gaps) (new_runs (in_runs runs) start end)
walk_told gaps runs place start end most rising below =
    ap (λ (l : List Run). gaps ++ take (most - length gaps) l) (gaps_of-new runs place start end rising (rising_drop runs place rising) below)

-- ---- how many runs there are

length-joined : (offset : ℕ) (runs : List Run) → length (joined offset runs) ≤ length runs + 1
length-joined offset [] = omega arith
length-joined offset (run ∷ runs) =
    cond_both (eqb run.start (offset + 1))
    (record { start = offset; end = run.end } ∷ runs)
    (record { start = offset; end = offset + 1 } ∷ run ∷ runs)
    (λ (l : List Run). length l ≤ length (run ∷ runs) + 1)
    (λ _. omega arith)
    (λ _. omega arith)

length-joined_if : (here : Bool) (offset : ℕ) (runs : List Run) → length (joined_if here offset runs) ≤ length runs + 1
length-joined_if true offset runs = length-joined offset runs
length-joined_if false offset runs = omega arith

length-runs_from : (set : ℕ → Bool) (offset count : ℕ) → length (runs_from set offset count) ≤ count
unfolding runs_from
length-runs_from set offset zero = omega arith
length-runs_from set offset (suc count) =
    omega (arith, length-joined_if (set offset) offset (runs_from set (offset + 1) count), length-runs_from set (offset + 1) count)

-- a set has no more runs below a limit than offsets
pub length-runs_of : (set : ℕ → Bool) (limit : ℕ) → length (runs_of set limit) ≤ limit
unfolding runs_of
length-runs_of set limit = length-runs_from set 0 limit

pub all_of_new : (set : ℕ → Bool) (start end : ℕ) (empty all : List Run) → empty ≡ []
    → all ≡ empty ++ take (end - length empty) (new_runs set start end) → all ≡ new_runs set start end
all_of_new set start end empty all none all_is =
    all_is ∙ ap (λ (l : List Run). l ++ take (end - length l) (new_runs set start end)) none
    ∙ take_all (end - 0) (new_runs set start end) (omega (arith, length-runs_of (λ i. is_within start end i && not (set i)) end))

pub all_missing : (set : ℕ → Bool) (limit : ℕ) → take limit (missing_runs set limit) ≡ missing_runs set limit
all_missing set limit = take_all limit (missing_runs set limit) (length-runs_of (λ i. not (set i)) limit)

-- below a limit, what is new from 0 on is what is missing
pub new_from_first : (set : ℕ → Bool) (limit : ℕ) → new_runs set 0 limit ≡ missing_runs set limit
new_from_first set limit =
    runs_of-same (λ i. is_within 0 limit i && not (set i)) (λ i. not (set i)) limit
    (λ i below. rw (within_run 0 limit i (omega arith) below) refl)

-- ---- with a range

take_both : (n : ℕ) (xs ys : List Run) → take n xs ++ take (n - length (take n xs)) ys ≡ take n (xs ++ ys)
take_both zero xs ys = refl
take_both (suc n) [] ys = let e : suc n - 0 ≡ suc n = omega arith in ap (λ (m : ℕ). take m ys) e
take_both (suc n) (x ∷ xs) ys =
    let e : suc n - length (x ∷ take n xs) ≡ n - length (take n xs) = omega arith in
    ap (λ (l : List Run). x ∷ l) (ap (λ (m : ℕ). take n xs ++ take m ys) e ∙ take_both n xs ys)

in_new_runs : (set : ℕ → Bool) (start end i : ℕ) → in_runs (new_runs set start end) i ≡ (is_within start end i && not (set i))
in_new_runs set start end i =
    in_runs-runs_of (λ i. is_within start end i && not (set i)) end i ∙ sym (within_below start end i (not (set i)))

-- what is new from an offset on rises from there
new_runs-rising : (set : ℕ → Bool) (start end : ℕ) → 0 < start → IsRisingFrom start (new_runs set start end)
new_runs-rising set start end positive =
    let e : max 0 (start - 1 + 1) ≡ start = omega arith in
    subst (λ low. IsRisingFrom low (new_runs set start end)) e
    (rising_above 0 (start - 1) (new_runs set start end) (IsRisingFrom-runs_of (λ i. is_within start end i && not (set i)) end)
    (λ place d within.
    let run : Run = get_or (new_runs set start end) place d in
    let filled : run.start < run.end = filled-runs_of (λ i. is_within start end i && not (set i)) end place d within in
    let inside = in_set-runs_of (λ i. is_within start end i && not (set i)) end place d within run.start (omega arith) filled in
    let parts = and_parts (is_within start end run.start) (not (set run.start)) inside.1 in
    let begins = and_parts (nat_le start run.start) (nat_lt run.start end) parts.0 in
    omega (arith, leb-true start run.start begins.0)))

outside_range : (start end limit i : ℕ) (here : Bool) → start < end
    → ((is_within 0 (min start limit) i && not here) || (is_within end limit i && not here)) ≡ (nat_lt i limit && not (here || is_within start end i))
outside_range start end limit i true less = grind (arith, nat_tests)
outside_range start end limit i false less = grind (arith, nat_tests)

-- with a range that is not empty, what is missing is what is missing below it and what is above it
missing_parts : (set : ℕ → Bool) (start end limit : ℕ) → start < end
    → new_runs set 0 (min start limit) ++ new_runs set end limit ≡ missing_runs (with_range set start end) limit
missing_parts set start end limit filled =
    let lower : List Run = new_runs set 0 (min start limit) in
    let upper : List Run = new_runs set end limit in
    let ends : All (λ run. run.end < start + 1) lower =
    All-weaker (λ (run : Run). run.end ≤ min start limit) (λ (run : Run). run.end < start + 1) (λ run le. omega arith) lower
    (ends-runs_of (λ i. is_within 0 (min start limit) i && not (set i)) (min start limit)) in
    runs_of-unique (lower ++ upper) (λ i. not (with_range set start end i)) limit
    (rising_append 0 lower upper (IsRisingFrom-runs_of (λ i. is_within 0 (min start limit) i && not (set i)) (min start limit))
    (IsRisingFrom-lower (beyond 0 lower) end upper (omega (arith, beyond_ends 0 (start + 1) lower (omega arith) ends)) (new_runs-rising set end limit (omega arith))))
    (λ i.
    list_any-append (λ run. is_within run.start run.end i) lower upper
    ∙ ap (λ (b : Bool). b || in_runs upper i) (in_new_runs set 0 (min start limit) i)
    ∙ ap (λ (b : Bool). (is_within 0 (min start limit) i && not (set i)) || b) (in_new_runs set end limit i)
    ∙ outside_range start end limit i (set i) filled)

pub missing_both : (set : ℕ → Bool) (start end limit below most : ℕ) (empty first all : List Run) → start < end → below ≡ min start limit → empty ≡ []
    → first ≡ empty ++ take (most - length empty) (new_runs set 0 below)
    → all ≡ first ++ take (most - length first) (new_runs set end limit)
    → all ≡ take most (missing_runs (with_range set start end) limit)
missing_both set start end limit below most empty first all filled below_is none first_is all_is =
    let few : most - 0 ≡ most = omega arith in
    let first' : first ≡ take most (new_runs set 0 (min start limit)) =
    first_is ∙ ap (λ (l : List Run). l ++ take (most - length l) (new_runs set 0 below)) none
    ∙ ap (λ (n : ℕ). take n (new_runs set 0 below)) few ∙ ap (λ (n : ℕ). take most (new_runs set 0 n)) below_is in
    all_is
    ∙ ap (λ (l : List Run). l ++ take (most - length l) (new_runs set end limit)) first'
    ∙ take_both most (new_runs set 0 (min start limit)) (new_runs set end limit)
    ∙ ap (take most) (missing_parts set start end limit filled)

pub missing_without : (set : ℕ → Bool) (start end limit most : ℕ) (empty all : List Run) → start ≡ end → empty ≡ []
    → all ≡ empty ++ take (most - length empty) (new_runs set 0 limit)
    → all ≡ take most (missing_runs (with_range set start end) limit)
missing_without set start end limit most empty all same none all_is =
    let few : most - 0 ≡ most = omega arith in
    all_is ∙ ap (λ (l : List Run). l ++ take (most - length l) (new_runs set 0 limit)) none
    ∙ ap (λ (n : ℕ). take n (new_runs set 0 limit)) few
    ∙ ap (take most)
    (new_from_first set limit
    ∙ missing_runs-same set (with_range set start end) limit
    (λ i below. sym (or-false (set i)) ∙ ap (λ (b : Bool). set i || b) (sym (no_offset start end i (omega arith)))))

-- the first of what is missing
pub first_of_missing : (set : ℕ → Bool) (limit most : ℕ) (empty all : List Run) → empty ≡ []
    → all ≡ empty ++ take (most - length empty) (new_runs set 0 limit)
    → all ≡ take most (missing_runs set limit)
first_of_missing set limit most empty all none all_is =
    let few : most - 0 ≡ most = omega arith in
    all_is ∙ ap (λ (l : List Run). l ++ take (most - length l) (new_runs set 0 limit)) none
    ∙ ap (λ (n : ℕ). take n (new_runs set 0 limit)) few
    ∙ ap (take most) (new_from_first set limit)

-- a run is found at the place
pub walk_found : (gaps new target runs : List Run) (place offset stop next end most : ℕ) (run : Run) → Some run ≡ first_of (drop place runs) → length gaps < most
    → stop ≡ min run.start end → next ≡ max run.end offset
    → new ≡ gaps ++ kept (record { start = offset; end = stop }) []
    → gaps ++ take (most - length gaps) (gaps_of (drop place runs) offset end) ≡ target
    → new ++ take (most - length new) (gaps_of (drop (place + 1) runs) next end) ≡ target
walk_found gaps new target runs place offset stop next end most run is few stop_is next_is new_is so_far =
    let here = first_is runs place run is in
    walk_goes gaps new target runs place offset stop next end most run here.0 few
    (rw here.1 stop_is) (rw here.1 next_is) new_is so_far

-- no run is left
pub walk_none : (gaps new target runs : List Run) (place offset end most : ℕ) → None ≡ first_of (drop place runs) → length gaps < most
    → new ≡ gaps ++ kept (record { start = offset; end = end }) []
    → gaps ++ take (most - length gaps) (gaps_of (drop place runs) offset end) ≡ target
    → new ≡ target
walk_none gaps new target runs place offset end most none few new_is so_far =
    ⊎_elim
    (λ (within : place < length runs).
    let rest : None ≡ Some (get_or runs place (record { start = 0; end = 0 })) =
    none ∙ ap first_of (drop_more runs place (record { start = 0; end = 0 }) within) in
    absurd cc)
    (λ (past : length runs ≤ place).
    walk_ends gaps new target runs place offset end most few (inl past) new_is so_far)
    (cases_lt place (length runs))

-- nothing is left out from here on
pub walk_past : (gaps target runs : List Run) (place offset end most : ℕ) → end ≤ offset
    → gaps ++ take (most - length gaps) (gaps_of (drop place runs) offset end) ≡ target → gaps ≡ target
walk_past gaps target runs place offset end most past so_far =
    sym (append-nil gaps)
    ∙ ap (λ (l : List Run). gaps ++ l) (sym (take-nil (most - length gaps)))
    ∙ ap (λ (l : List Run). gaps ++ take (most - length gaps) l) (sym (gaps_past offset end (drop place runs) past))
    ∙ so_far
