-- Rising runs after a range was added or taken out.
use Rattle.std.proofs.Common.{◌≡◌, ℕ, suc, ◌+◌, ◌-◌, ◌<◌, ◌≤◌, max, min, Bool, true, false, ◌&&◌, ◌||◌, not, nat_le, nat_lt, List, [], ◌∷◌, ◌++◌, length, get_or, take, drop, refl, ap, sym, ◌∙◌, arith, subst, ⊎_elim, add-zero, length-drop}
use Rattle.std.specs.List.{All}
use Rattle.std.proofs.lemmas.Bool.{cond_both, cond-true, cond-false, cases_lt, ltb-true, ltb-false, le-leb, lt-leb}
use Rattle.std.proofs.lemmas.Bool.Decides.{nat_tests}
use Rattle.std.proofs.lemmas.List.{take-append-drop, drop_more, drop-drop, drop-take, get_or-drop, get_or-take, get_or_read, get_or_default, length-take-le}
use Rattle.std.proofs.lemmas.List.Elements.{All-head, All-tail, All-same, All-take, All-drop, All-weaker}
use Rattle.std.proofs.lemmas.List.Folds.{list_any-append}
use Rattle.gap_list.specs.declared.run.Run.{Run}
use Rattle.gap_list.specs.Runs.{is_within, in_runs, with_range, SameSet, IsRisingFrom}
use Rattle.gap_list.specs.Places.{end_or, start_or, last_end, kept}
use Rattle.gap_list.proofs.RunLemmas.{IsRisingFrom-lower}
use Rattle.gap_list.proofs.SearchLemmas.{last_end-rises, last_end-at}
use Rattle.gap_list.proofs.RisingLemmas.{beyond, rising_front, rising_rest, rising_append, beyond_ends, edges_rise}

-- runs with a range, and without one
pub record IsAdded (old new : List Run) (start end : ℕ) : Type 0 where
  pub rising : IsRisingFrom 0 new
  pub added : SameSet (in_runs new) (with_range (in_runs old) start end)

-- ---- ranges that touch

joined_two : (start end low high i : ℕ) → start ≤ high → low ≤ end → start ≤ end → low ≤ high
    → (is_within low high i || is_within start end i) ≡ is_within (min start low) (max end high) i
joined_two start end low high i a b c d = grind (arith, nat_tests)

pub or_later : (a b c : Bool) → ((a || b) || c) ≡ (a || (b || c))
or_later true b c = refl
or_later false b c = refl

-- a range is one run with the runs that it touches
spanned : (run : Run) (runs : List Run) (low start end i : ℕ) → IsRisingFrom low (run ∷ runs) → start < end
    → All (λ run. start ≤ run.end) (run ∷ runs) → All (λ run. run.start ≤ end) (run ∷ runs)
    → (in_runs (run ∷ runs) i || is_within start end i) ≡ is_within (min start run.start) (max end (last_end run.end runs)) i
spanned run [] low start end i rising filled ended begun =
    or_later (is_within run.start run.end i) false (is_within start end i)
    ∙ joined_two start end run.start run.end i
    (All-head (λ (run : Run). start ≤ run.end) run [] ended) (All-head (λ (run : Run). run.start ≤ end) run [] begun)
    (omega arith) (omega (arith, rising.1))
spanned run (next ∷ runs) low start end i rising filled ended begun =
    let later = spanned next runs (run.end + 1) start end i rising.2 filled
    (All-tail (λ (run : Run). start ≤ run.end) run (next ∷ runs) ended)
    (All-tail (λ (run : Run). run.start ≤ end) run (next ∷ runs) begun) in
    let reached : start ≤ run.end = All-head (λ (run : Run). start ≤ run.end) run (next ∷ runs) ended in
    let begins : run.start ≤ end = All-head (λ (run : Run). run.start ≤ end) run (next ∷ runs) begun in
    let above : next.end ≤ last_end next.end runs = last_end-rises next.end runs rising.2.2 in
    let least : min (min start next.start) run.start ≡ min start run.start = omega (arith, rising.1, rising.2.0) in
    let most : max (max end (last_end next.end runs)) run.end ≡ max end (last_end next.end runs) = omega (arith, rising.2.0, rising.2.1) in
    or_later (is_within run.start run.end i) (in_runs (next ∷ runs) i) (is_within start end i)
    ∙ ap (λ (b : Bool). is_within run.start run.end i || b) later
    ∙ joined_two (min start next.start) (max end (last_end next.end runs)) run.start run.end i
    (omega arith) (omega arith) (omega arith) (omega (arith, rising.1))
    ∙ ap (λ n. is_within n (max (max end (last_end next.end runs)) run.end) i) least
    ∙ ap (λ n. is_within (min start run.start) n i) most

-- the runs after others begin above the last end of those
pub beyond_last : (low : ℕ) (run : Run) (runs : List Run) → beyond low (run ∷ runs) ≡ last_end run.end runs + 1
beyond_last low run [] = refl
beyond_last low run (next ∷ runs) = beyond_last (run.end + 1) next runs

-- runs that begin above an offset rise from there on
pub rising_above : (low offset : ℕ) (runs : List Run) → IsRisingFrom low runs → All (λ run. offset < run.start) runs → IsRisingFrom (max low (offset + 1)) runs
rising_above low offset [] rising above = tt
rising_above low offset (run ∷ runs) rising above =
    let first : offset < run.start = All-head (λ (run : Run). offset < run.start) run runs above in
    (omega (arith, rising.0), rising.1, rising.2)

or_between : (a b c d : Bool) → (a || ((b || d) || c)) ≡ ((a || (b || c)) || d)
or_between true b c d = refl
or_between false true c d = refl
or_between false false true true = refl
or_between false false true false = refl
or_between false false false d = or_both d
  where
    or_both : (d : Bool) → (d || false) ≡ d
    or_both true = refl
    or_both false = refl

-- the offsets of runs in three parts
in_three : (xs : List Run) (run : Run) (runs ys : List Run) (i : ℕ)
    → in_runs (xs ++ ((run ∷ runs) ++ ys)) i ≡ (in_runs xs i || (in_runs (run ∷ runs) i || in_runs ys i))
in_three xs run runs ys i =
    list_any-append (λ run. is_within run.start run.end i) xs ((run ∷ runs) ++ ys)
    ∙ ap (λ (b : Bool). in_runs xs i || b) (list_any-append (λ run. is_within run.start run.end i) (run ∷ runs) ys)

-- the runs that a range touches are one with it
joined_span : (xs : List Run) (run : Run) (runs ys : List Run) (start end : ℕ) → IsRisingFrom 0 (xs ++ ((run ∷ runs) ++ ys)) → start < end
    → All (λ run. run.end < start) xs → All (λ run. start ≤ run.end) (run ∷ runs) → All (λ run. run.start ≤ end) (run ∷ runs)
    → All (λ run. end < run.start) ys
    → IsAdded (xs ++ ((run ∷ runs) ++ ys)) (xs ++ record { start = min start run.start; end = max end (last_end run.end runs) } ∷ ys) start end
joined_span xs run runs ys start end rising filled below ended begun above =
    let rest : IsRisingFrom (beyond 0 xs) ((run ∷ runs) ++ ys) = rising_rest 0 xs ((run ∷ runs) ++ ys) rising in
    let middle : IsRisingFrom (beyond 0 xs) (run ∷ runs) = rising_front (beyond 0 xs) (run ∷ runs) ys rest in
    let last : IsRisingFrom (last_end run.end runs + 1) ys =
    subst (λ low. IsRisingFrom low ys) (beyond_last (beyond 0 xs) run runs) (rising_rest (beyond 0 xs) (run ∷ runs) ys rest) in
    let from : beyond 0 xs ≤ start = beyond_ends 0 start xs (omega arith) below in
    let reaches : IsRisingFrom (max end (last_end run.end runs) + 1) ys =
    let e : max (last_end run.end runs + 1) (end + 1) ≡ max end (last_end run.end runs) + 1 = omega arith in
    subst (λ low. IsRisingFrom low ys) e (rising_above (last_end run.end runs + 1) end ys last above) in
    record {
      rising = rising_append 0 xs (record { start = min start run.start; end = max end (last_end run.end runs) } ∷ ys)
          (rising_front 0 xs ((run ∷ runs) ++ ys) rising)
          (omega (arith, middle.0), omega arith, reaches);
      added = λ i.
          list_any-append (λ run. is_within run.start run.end i) xs (record { start = min start run.start; end = max end (last_end run.end runs) } ∷ ys)
          ∙ ap (λ (b : Bool). in_runs xs i || (b || in_runs ys i)) (sym (spanned run runs (beyond 0 xs) start end i middle filled ended begun))
          ∙ or_between (in_runs xs i) (in_runs (run ∷ runs) i) (in_runs ys i) (is_within start end i)
          ∙ ap (λ (b : Bool). b || is_within start end i) (sym (in_three xs run runs ys i));
    }

or_last : (a b c : Bool) → (a || (b || c)) ≡ ((a || c) || b)
or_last true b c = refl
or_last false true true = refl
or_last false true false = refl
or_last false false true = refl
or_last false false false = refl

-- a range that touches no run is a run of its own
apart : (xs ys : List Run) (start end : ℕ) → IsRisingFrom 0 (xs ++ ys) → start < end
    → All (λ run. run.end < start) xs → All (λ run. end < run.start) ys
    → IsAdded (xs ++ ys) (xs ++ record { start = start; end = end } ∷ ys) start end
apart xs ys start end rising filled below above =
    let rest : IsRisingFrom (max (beyond 0 xs) (end + 1)) ys = rising_above (beyond 0 xs) end ys (rising_rest 0 xs ys rising) above in
    let from : beyond 0 xs ≤ start = beyond_ends 0 start xs (omega arith) below in
    record {
      rising = rising_append 0 xs (record { start = start; end = end } ∷ ys) (rising_front 0 xs ys rising)
          (from, filled, IsRisingFrom-lower (end + 1) (max (beyond 0 xs) (end + 1)) ys (omega arith) rest);
      added = λ i.
          list_any-append (λ run. is_within run.start run.end i) xs (record { start = start; end = end } ∷ ys)
          ∙ or_last (in_runs xs i) (is_within start end i) (in_runs ys i)
          ∙ ap (λ (b : Bool). b || is_within start end i) (sym (list_any-append (λ run. is_within run.start run.end i) xs ys));
    }

-- ---- a range that is taken out of the runs that it meets

pub no_offset : (start end i : ℕ) → end ≤ start → is_within start end i ≡ false
no_offset start end i le = grind (arith, nat_tests)

-- a run that is kept where it is not empty
pub in_kept : (run : Run) (runs : List Run) (i : ℕ) → in_runs (kept run runs) i ≡ (is_within run.start run.end i || in_runs runs i)
in_kept run runs i =
    cond_both (nat_lt run.start run.end) (run ∷ runs) runs
    (λ (l : List Run). in_runs l i ≡ (is_within run.start run.end i || in_runs runs i))
    (λ _. refl)
    (λ empty. ap (λ (b : Bool). b || in_runs runs i) (sym (no_offset run.start run.end i (ltb-false run.start run.end empty))))

pub rising_kept : (low : ℕ) (run : Run) (runs : List Run) → low ≤ run.start → IsRisingFrom low runs
    → (run.start < run.end → IsRisingFrom (run.end + 1) runs) → IsRisingFrom low (kept run runs)
rising_kept low run runs from rest above =
    cond_both (nat_lt run.start run.end) (run ∷ runs) runs (IsRisingFrom low)
    (λ filled. (from, ltb-true run.start run.end filled, above (ltb-true run.start run.end filled)))
    (λ _. rest)

-- the offsets outside a range
outside : (a m b w : Bool) → (w ≡ true → (a ≡ false) × (b ≡ false)) → (a || ((m && not w) || b)) ≡ ((a || (m || b)) && not w)
outside a m b true none =
    rw ((none refl).0, (none refl).1) (both_no m)
  where
    both_no : (m : Bool) → ((m && false) || false) ≡ ((m || false) && false)
    both_no true = refl
    both_no false = refl
outside true m b false none = refl
outside false true b false none = refl
outside false false true false none = refl
outside false false false false none = refl

-- ---- runs in three parts, by places

module _ (runs : List Run) (first count last : ℕ) (d : Run) (ordered : first + suc count ≡ last) (within : last ≤ length runs) where
  -- the runs from one place to another
  begins_with : take (suc count) (drop first runs) ≡ get_or runs first d ∷ take count (drop (first + 1) runs)
  begins_with = rw (drop_more runs first d (omega arith)) refl

  three_parts : runs ≡ take first runs ++ ((get_or runs first d ∷ take count (drop (first + 1) runs)) ++ drop last runs)
  three_parts =
      let rest : drop (suc count) (drop first runs) ≡ drop last runs =
      drop-drop (suc count) first runs ∙ ap (λ n. drop n runs) ordered in
      sym (take-append-drop first runs)
      ∙ ap (λ (l : List Run). take first runs ++ l)
      (sym (take-append-drop (suc count) (drop first runs))
      ∙ ap (λ (l : List Run). take (suc count) (drop first runs) ++ l) rest
      ∙ ap (λ (l : List Run). l ++ drop last runs) begins_with)

  middle_above : (P : Run → Type 0) → All P (drop first runs) → All P (get_or runs first d ∷ take count (drop (first + 1) runs))
  middle_above P all = All-same P _ _ (sym begins_with) (All-take P (suc count) (drop first runs) all)

  middle_below : (P : Run → Type 0) → All P (take last runs) → All P (get_or runs first d ∷ take count (drop (first + 1) runs))
  middle_below P all =
      let same : drop first (take last runs) ≡ take (suc count) (drop first runs) =
      ap (λ n. drop first (take n runs)) (sym ordered) ∙ drop-take first (suc count) runs in
      All-same P _ _ (sym begins_with ∙ sym same) (All-drop P first (take last runs) all)

  middle_last : last_end (get_or runs first d).end (take count (drop (first + 1) runs)) ≡ (get_or runs (last - 1) d).end
  middle_last =
      let size : length (take (suc count) (drop first runs)) ≡ suc count =
      length-take-le (suc count) (drop first runs) (omega (arith, length-drop first runs)) in
      let place : first + (suc count - 1) ≡ last - 1 = omega arith in
      ap (λ (l : List Run). last_end 0 l) (sym begins_with)
      ∙ last_end-at 0 (take (suc count) (drop first runs)) d (omega arith)
      ∙ ap (λ n. (get_or (take (suc count) (drop first runs)) (n - 1) d).end) size
      ∙ ap (λ (run : Run). run.end) (get_or-take (suc count) (drop first runs) (suc count - 1) d (omega arith) ∙ get_or-drop first runs (suc count - 1) d)
      ∙ ap (λ n. (get_or runs n d).end) place

-- ---- what the code makes

pub added_joined : (runs new : List Run) (first last start end : ℕ) (lower upper joined : Run) → IsRisingFrom 0 runs → start < end
    → first < last → last ≤ length runs
    → All (λ run. run.end < start) (take first runs) → All (λ run. start ≤ run.end) (drop first runs)
    → All (λ run. run.start ≤ end) (take last runs) → All (λ run. end < run.start) (drop last runs)
    → lower ≡ get_or runs first lower → upper ≡ get_or runs (last - 1) upper
    → joined.start ≡ min lower.start start → joined.end ≡ max upper.end end
    → new ≡ take first runs ++ joined ∷ drop last runs
    → IsAdded runs new start end
added_joined runs new first last start end lower upper joined rising filled some within below ended begun above lower_is upper_is low high is =
    let count : ℕ = last - first - 1 in
    let ordered : first + suc count ≡ last = omega arith in
    let run : Run = get_or runs first lower in
    let middle : List Run = take count (drop (first + 1) runs) in
    let parts : runs ≡ take first runs ++ ((run ∷ middle) ++ drop last runs) = three_parts runs first count last lower ordered within in
    let made = joined_span (take first runs) run middle (drop last runs) start end
    (subst (IsRisingFrom 0) parts rising) filled below
    (middle_above runs first count last lower ordered within (λ run. start ≤ run.end) ended)
    (middle_below runs first count last lower ordered within (λ run. run.start ≤ end) begun) above in
    let lowest : lower.start ≡ run.start = ap (λ (r : Run). r.start) lower_is in
    let highest : upper.end ≡ last_end run.end middle =
    ap (λ (r : Run). r.end) (get_or_read runs (last - 1) upper (omega arith) upper_is lower)
    ∙ sym (middle_last runs first count last lower ordered within) in
    let least : joined.start ≡ min start run.start = omega arith in
    let most : joined.end ≡ max end (last_end run.end middle) = omega arith in
    let of : ℕ → ℕ → List Run = λ from to. take first runs ++ record { start = from; end = to } ∷ drop last runs in
    let new_is : new ≡ take first runs ++ record { start = min start run.start; end = max end (last_end run.end middle) } ∷ drop last runs =
    is ∙ ap (λ (n : ℕ). of n joined.end) least ∙ ap (λ (n : ℕ). of (min start run.start) n) most in
    subst (λ l. IsAdded l new start end) (sym parts)
    (subst (λ l. IsAdded (take first runs ++ ((run ∷ middle) ++ drop last runs)) l start end) (sym new_is) made)

-- runs that end below an offset begin below it, so that the places don't cross
pub places_meet : (runs : List Run) (first last start end : ℕ) → IsRisingFrom 0 runs → start < end → last ≤ first → first ≤ length runs
    → All (λ run. run.end < start) (take first runs) → All (λ run. end ≤ run.start) (drop last runs) → last ≡ first
places_meet runs first last start end rising filled le within below above =
    ⊎_elim
    (λ (less : last < first).
    let d : Run = record { start = 0; end = 0 } in
    let ends : (get_or runs last d).end < start = rw (get_or-take first runs last d less) at (below last d (omega (arith, length-take-le first runs within))) in
    let begins : end ≤ (get_or runs (last + 0) d).start = rw (get_or-drop last runs 0 d) at (above 0 d (omega (arith, length-drop last runs))) in
    let here : get_or runs (last + 0) d ≡ get_or runs last d = ap (λ n. get_or runs n d) (add-zero last) in
    let run_begins : end ≤ (get_or runs last d).start = rw here at begins in
    absurd (omega (arith, (edges_rise 0 runs rising last last d (omega arith) (omega arith)).3)))
    (λ (same : first ≤ last). omega arith)
    (cases_lt last first)

pub added_apart : (runs new : List Run) (first last start end : ℕ) → IsRisingFrom 0 runs → start < end → last ≤ first → first ≤ length runs
    → All (λ run. run.end < start) (take first runs) → All (λ run. end < run.start) (drop last runs)
    → new ≡ take first runs ++ record { start = start; end = end } ∷ drop first runs
    → IsAdded runs new start end
added_apart runs new first last start end rising filled le within below above is =
    let same : last ≡ first = places_meet runs first last start end rising filled le within below
    (All-weaker (λ (run : Run). end < run.start) (λ (run : Run). end ≤ run.start) (λ run less. omega arith) (drop last runs) above) in
    let parts : take first runs ++ drop first runs ≡ runs = take-append-drop first runs in
    let made = apart (take first runs) (drop first runs) start end (subst (IsRisingFrom 0) (sym parts) rising) filled below
    (subst (λ n. All (λ run. end < run.start) (drop n runs)) same above) in
    subst (λ l. IsAdded l new start end) parts
    (subst (λ l. IsAdded (take first runs ++ drop first runs) l start end) (sym is) made)

-- ---- a range that goes to its place

-- runs that end below a range stand before those that begin above it
pub ends_before : (runs : List Run) (first behind start end : ℕ) → IsRisingFrom 0 runs → start < end → first ≤ length runs
    → All (λ run. run.end < start) (take first runs) → All (λ run. end < run.start) (drop behind runs) → first ≤ behind
ends_before runs first behind start end rising filled within below above = ⊎_elim
    (λ (less : behind < first).
    let same : behind ≡ first = places_meet runs first behind start end rising filled (omega arith) within below
    (All-weaker (λ (run : Run). end < run.start) (λ (run : Run). end ≤ run.start) (λ run less. omega arith) (drop behind runs) above) in
    omega arith)
    (λ (le : first ≤ behind). le)
    (cases_lt behind first)

end_or_apart : (end : ℕ) (runs : List Run) → All (λ run. end < run.start) runs → end_or end runs ≡ end
end_or_apart end [] above = refl
end_or_apart end (run ∷ runs) above =
    cond-false (nat_le run.start end) run.end end (lt-leb run.start end (All-head (λ (run : Run). end < run.start) run runs above))

start_or_apart : (start end : ℕ) (runs : List Run) → start < end → All (λ run. end < run.start) runs → start_or start runs ≡ start
start_or_apart start end [] less above = refl
start_or_apart start end (run ∷ runs) less above =
    let first : end < run.start = All-head (λ (run : Run). end < run.start) run runs above in omega arith

module _ (runs : List Run) (last behind end : ℕ) (within : behind ≤ length runs) (le : last ≤ behind) (one : behind ≤ last + 1)
    (ended : All (λ run. run.end < end) (take last runs)) (reached : All (λ run. end ≤ run.end) (drop last runs))
    (begun : All (λ run. run.start ≤ end) (take behind runs)) (above : All (λ run. end < run.start) (drop behind runs)) where
  -- the last run that the end touches
  last_touched : (d : Run) → last < behind → end_or end (drop last runs) ≡ max (get_or runs (behind - 1) d).end end
  last_touched d less =
      let run : Run = get_or runs last d in
      let rest : drop last runs ≡ run ∷ drop (last + 1) runs = drop_more runs last d (omega arith) in
      let begins : run.start ≤ end = rw (get_or-take behind runs last d less) at (begun last d (omega (arith, length-take-le behind runs within))) in
      let ends : end ≤ (get_or runs (last + 0) d).end = rw (get_or-drop last runs 0 d) at (reached 0 d (omega (arith, length-drop last runs))) in
      let here : last + 0 ≡ last = omega arith in
      let far : end ≤ run.end = rw here at ends in
      let place : behind - 1 ≡ last = omega arith in
      let most : run.end ≡ max run.end end = omega arith in
      ap (end_or end) rest
      ∙ cond-true (nat_le run.start end) run.end end (le-leb run.start end begins)
      ∙ most
      ∙ ap (λ (n : ℕ). max (get_or runs n d).end end) (sym place)

  -- no run that ends at or above the end begins at or below it
  none_touched : (d : Run) → last ≡ behind → 0 < behind → end_or end (drop last runs) ≡ max (get_or runs (behind - 1) d).end end
  none_touched d same some =
      let ends : (get_or runs (last - 1) d).end < end =
      rw (get_or-take last runs (last - 1) d (omega arith)) at (ended (last - 1) d (omega (arith, length-take-le last runs (omega arith)))) in
      let most : end ≡ max (get_or runs (last - 1) d).end end = omega arith in
      ap (λ (n : ℕ). end_or end (drop n runs)) same
      ∙ end_or_apart end (drop behind runs) above
      ∙ most
      ∙ ap (λ (n : ℕ). max (get_or runs (n - 1) d).end end) same

  highest_touched : (d : Run) → 0 < behind → end_or end (drop last runs) ≡ max (get_or runs (behind - 1) d).end end
  highest_touched d some = ⊎_elim
      (λ (less : last < behind). last_touched d less)
      (λ (past : behind ≤ last). let same : last ≡ behind = omega arith in none_touched d same some)
      (cases_lt last behind)

  -- where the runs that begin at or below the end also end below it
  none_past : (d : Run) → All (λ run. run.end < end) (take behind runs) → last ≡ behind
  none_past d all = ⊎_elim
      (λ (less : last < behind).
      let below : (get_or runs last d).end < end = rw (get_or-take behind runs last d less) at (all last d (omega (arith, length-take-le behind runs within))) in
      let ends : end ≤ (get_or runs (last + 0) d).end = rw (get_or-drop last runs 0 d) at (reached 0 d (omega (arith, length-drop last runs))) in
      let here : last + 0 ≡ last = omega arith in
      let far : end ≤ (get_or runs last d).end = rw here at ends in
      absurd (omega arith))
      (λ (past : behind ≤ last). omega arith)
      (cases_lt last behind)

pub added_put : (runs new : List Run) (first last behind start end : ℕ) (joined : Run) → IsRisingFrom 0 runs → start < end
    → behind ≤ length runs → first ≤ length runs → last ≤ behind → behind ≤ last + 1
    → All (λ run. run.end < start) (take first runs) → All (λ run. start ≤ run.end) (drop first runs)
    → All (λ run. run.end < end) (take last runs) → All (λ run. end ≤ run.end) (drop last runs)
    → All (λ run. run.start ≤ end) (take behind runs) → All (λ run. end < run.start) (drop behind runs)
    → joined.start ≡ start_or start (drop first runs) → joined.end ≡ end_or end (drop last runs)
    → new ≡ take first runs ++ joined ∷ drop behind runs
    → IsAdded runs new start end
added_put runs new first last behind start end joined rising filled within inside le one below from ended reached begun above low high is =
    let d : Run = record { start = 0; end = 0 } in
    let ordered : first ≤ behind = ends_before runs first behind start end rising filled inside below above in
    ⊎_elim
    (λ (some : first < behind).
    let lower : Run = get_or runs first d in
    let upper : Run = get_or runs (behind - 1) d in
    added_joined runs new first behind start end lower upper joined rising filled some within below from begun above
    (get_or_default runs first d lower (omega arith)) (get_or_default runs (behind - 1) d upper (omega arith))
    (low ∙ ap (start_or start) (drop_more runs first d (omega arith)))
    (high ∙ highest_touched runs last behind end within le one ended reached begun above d (omega arith))
    is)
    (λ (none : behind ≤ first).
    let same : first ≡ behind = omega arith in
    let below_end : All (λ run. run.end < end) (take behind runs) =
    subst (λ n. All (λ (run : Run). run.end < end) (take n runs)) same
    (All-weaker (λ (run : Run). run.end < start) (λ (run : Run). run.end < end) (λ run less. omega arith) (take first runs) below) in
    let last_is : last ≡ behind = none_past runs last behind end within le one ended reached begun above d below_end in
    let starts : joined.start ≡ start =
    low ∙ ap (λ (n : ℕ). start_or start (drop n runs)) same ∙ start_or_apart start end (drop behind runs) filled above in
    let ends : joined.end ≡ end =
    high ∙ ap (λ (n : ℕ). end_or end (drop n runs)) last_is ∙ end_or_apart end (drop behind runs) above in
    let of : ℕ → ℕ → ℕ → List Run = λ n a b. take first runs ++ record { start = a; end = b } ∷ drop n runs in
    added_apart runs new first behind start end rising filled none inside below above
    (is ∙ ap (λ (n : ℕ). of n joined.start joined.end) (sym same) ∙ ap (λ (n : ℕ). of first n joined.end) starts ∙ ap (λ (n : ℕ). of first start n) ends))
    (cases_lt first behind)
