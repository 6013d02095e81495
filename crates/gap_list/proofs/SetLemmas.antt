-- Laws of the runs and the extent of a set, for the layers above.
use Rattle.std.proofs.Common.{◌≡◌, ℕ, ◌+◌, ◌-◌, ◌<◌, ◌≤◌, Bool, true, false, ◌&&◌, ◌||◌, ◌⊎◌, not, nat_le, nat_lt, List, [], ◌∷◌, get_or, refl, ap, sym, ◌∙◌, arith, ⊎_elim, subst, IsTrue}
use Rattle.std.specs.List.{All}
use Rattle.std.proofs.lemmas.Bool.{cases_lt, cases_order, le-leb, lt-leb, lt-ltb, le-ltb, and_right, ltb-true, and_parts, and_left, not_from_true, true≢false, false≢true, not-false}
use Rattle.gap_list.specs.declared.run.Run.{Run}
use Rattle.gap_list.specs.Runs.{is_within, in_runs, runs_of, new_runs, missing_runs, SameSet, IsRisingFrom}
use Rattle.gap_list.proofs.RunLemmas.{in_runs_at, in_runs-runs_of, IsRisingFrom-runs_of, filled_from_rising, runs_of-same}

-- each run of a set has an offset
pub filled-runs_of : (set : ℕ → Bool) (limit : ℕ) → All (λ run. run.start < run.end) (runs_of set limit)
filled-runs_of set limit = filled_from_rising 0 (runs_of set limit) (IsRisingFrom-runs_of set limit)

-- each offset of a run is in the set and below the limit
pub in_set-runs_of : (set : ℕ → Bool) (limit : ℕ)
    → All (λ run. (offset : ℕ) → run.start ≤ offset → offset < run.end → (offset < limit) × IsTrue (set offset)) (runs_of set limit)
in_set-runs_of set limit place default within offset from below =
    let has : in_runs (runs_of set limit) offset ≡ true =
    in_runs_at (runs_of set limit) place offset default within
    (rw (
      le-leb (get_or (runs_of set limit) place default).start offset from,
      lt-ltb offset (get_or (runs_of set limit) place default).end below,
    ) refl) in
    let parts : (nat_lt offset limit ≡ true) × (set offset ≡ true) =
    and_parts (nat_lt offset limit) (set offset) (sym (in_runs-runs_of set limit offset) ∙ has) in
    (ltb-true offset limit parts.0, parts.1)

-- no run of a set passes the limit
pub ends-runs_of : (set : ℕ → Bool) (limit : ℕ) → All (λ run. run.end ≤ limit) (runs_of set limit)
ends-runs_of set limit place default within =
    let filled : (get_or (runs_of set limit) place default).start < (get_or (runs_of set limit) place default).end =
    filled-runs_of set limit place default within in
    let last : (get_or (runs_of set limit) place default).end - 1 < limit =
    (in_set-runs_of set limit place default within ((get_or (runs_of set limit) place default).end - 1)
    (omega arith) (omega arith)).0 in
    omega arith

-- rising runs have no offset below where they begin
pub below_rising : (low : ℕ) (runs : List Run) (offset : ℕ) → IsRisingFrom low runs → offset < low → in_runs runs offset ≡ false
below_rising low [] offset rising below = refl
below_rising low (run ∷ runs) offset rising below =
    rw (lt-leb run.start offset (omega arith))
    (below_rising (run.end + 1) runs offset rising.2 (omega arith))

-- the first offset of the first run
first_of_rising : (low : ℕ) (run : Run) (runs : List Run) → IsRisingFrom low (run ∷ runs) → in_runs (run ∷ runs) run.start ≡ true
first_of_rising low run runs rising =
    rw (le-leb run.start run.start (omega arith), lt-ltb run.start run.end rising.1) refl

-- rising runs whose first offsets are not the same have not the same offsets
starts_of_same : (low : ℕ) (run other : Run) (runs others : List Run)
    → IsRisingFrom low (run ∷ runs) → IsRisingFrom low (other ∷ others)
    → SameSet (in_runs (run ∷ runs)) (in_runs (other ∷ others)) → run.start < other.start → ⊥
starts_of_same low run other runs others rising rising' same before =
    let none : in_runs (other ∷ others) run.start ≡ false =
    below_rising other.start (other ∷ others) run.start (omega arith, rising'.1, rising'.2) before in
    true≢false (sym (first_of_rising low run runs rising) ∙ same run.start ∙ none)

-- nor do those whose first runs begin together and end apart
ends_of_same : (low : ℕ) (run other : Run) (runs others : List Run)
    → IsRisingFrom low (run ∷ runs) → IsRisingFrom low (other ∷ others)
    → SameSet (in_runs (run ∷ runs)) (in_runs (other ∷ others)) → run.start ≡ other.start → run.end < other.end → ⊥
ends_of_same low run other runs others rising rising' same start before =
    let here : in_runs (other ∷ others) run.end ≡ true =
    rw (le-leb other.start run.end (omega arith), lt-ltb run.end other.end before) refl in
    let gone : in_runs (run ∷ runs) run.end ≡ false =
    rw (le-leb run.start run.end (omega arith), le-ltb run.end run.end (omega arith))
    (below_rising (run.end + 1) runs run.end rising.2 (omega arith)) in
    true≢false (sym here ∙ sym (same run.end) ∙ gone)

-- the first runs of rising runs with the same offsets are the same
first_of_same : (low : ℕ) (run other : Run) (runs others : List Run)
    → IsRisingFrom low (run ∷ runs) → IsRisingFrom low (other ∷ others)
    → SameSet (in_runs (run ∷ runs)) (in_runs (other ∷ others)) → run ≡ other
first_of_same low run other runs others rising rising' same =
    let back : SameSet (in_runs (other ∷ others)) (in_runs (run ∷ runs)) = λ offset. sym (same offset) in
    let start : run.start ≡ other.start = ⊎_elim
    (λ (e : run.start ≡ other.start). e)
    (λ (apart : (run.start < other.start) ⊎ (other.start < run.start)). ⊎_elim
    (λ (before : run.start < other.start). absurd (starts_of_same low run other runs others rising rising' same before))
    (λ (after : other.start < run.start). absurd (starts_of_same low other run others runs rising' rising back after))
    apart)
    (cases_order run.start other.start) in
    let end : run.end ≡ other.end = ⊎_elim
    (λ (e : run.end ≡ other.end). e)
    (λ (apart : (run.end < other.end) ⊎ (other.end < run.end)). ⊎_elim
    (λ (before : run.end < other.end). absurd (ends_of_same low run other runs others rising rising' same start before))
    (λ (after : other.end < run.end). absurd (ends_of_same low other run others runs rising' rising back (sym start) after))
    apart)
    (cases_order run.end other.end) in
    let made : ℕ → ℕ → Run = λ from to. record { start = from; end = to } in
    ap (λ (from : ℕ). made from run.end) start ∙ ap (λ (to : ℕ). made other.start to) end

-- what is left of the same offsets after the same first run
rest_of_same : (run : Run) (runs others : List Run)
    → IsRisingFrom (run.end + 1) runs → IsRisingFrom (run.end + 1) others
    → SameSet (in_runs (run ∷ runs)) (in_runs (run ∷ others)) → SameSet (in_runs runs) (in_runs others)
rest_of_same run runs others rising rising' same offset =
    ⊎_elim
    (λ (below : offset < run.end + 1).
    below_rising (run.end + 1) runs offset rising below ∙ sym (below_rising (run.end + 1) others offset rising' below))
    (λ (above : run.end + 1 ≤ offset).
    let past : is_within run.start run.end offset ≡ false = and_right (nat_le run.start offset) (nat_lt offset run.end)
    (le-ltb offset run.end (omega arith)) in
    let at_runs : in_runs (run ∷ runs) offset ≡ in_runs runs offset = ap (λ (b : Bool). b || in_runs runs offset) past in
    let at_others : in_runs (run ∷ others) offset ≡ in_runs others offset = ap (λ (b : Bool). b || in_runs others offset) past in
    sym at_runs ∙ same offset ∙ at_others)
    (cases_lt offset (run.end + 1))

-- rising runs with the same offsets are the same
same_from_rising : (low : ℕ) (runs others : List Run) → IsRisingFrom low runs → IsRisingFrom low others
    → SameSet (in_runs runs) (in_runs others) → runs ≡ others
same_from_rising low [] [] rising rising' same = refl
same_from_rising low [] (other ∷ others) rising rising' same =
    absurd (false≢true (same other.start ∙ first_of_rising low other others rising'))
same_from_rising low (run ∷ runs) [] rising rising' same =
    absurd (true≢false (sym (first_of_rising low run runs rising) ∙ same run.start))
same_from_rising low (run ∷ runs) (other ∷ others) rising rising' same =
    let rest : IsRisingFrom (run.end + 1) others → SameSet (in_runs (run ∷ runs)) (in_runs (run ∷ others)) → (run ∷ runs) ≡ (run ∷ others) =
    λ risen agree. ap (λ (later : List Run). run ∷ later)
    (same_from_rising (run.end + 1) runs others rising.2 risen (rest_of_same run runs others rising.2 risen agree)) in
    let P : Run → Type 0 = λ first. IsRisingFrom (first.end + 1) others
    → SameSet (in_runs (run ∷ runs)) (in_runs (first ∷ others)) → (run ∷ runs) ≡ (first ∷ others) in
    subst P (first_of_same low run other runs others rising rising' same) rest rising'.2 same

-- the runs of a set are the only rising runs with its offsets
pub runs_of-unique : (runs : List Run) (set : ℕ → Bool) (limit : ℕ) → IsRisingFrom 0 runs
    → SameSet (in_runs runs) (λ offset. nat_lt offset limit && set offset) → runs ≡ runs_of set limit
runs_of-unique runs set limit rising same =
    same_from_rising 0 runs (runs_of set limit) rising (IsRisingFrom-runs_of set limit)
    (λ offset. same offset ∙ sym (in_runs-runs_of set limit offset))

-- sets that agree below the end have the same new runs
pub new_runs-same : (set other : ℕ → Bool) (start end : ℕ) → SameSet set other → new_runs set start end ≡ new_runs other start end
new_runs-same set other start end same =
    runs_of-same (λ offset. is_within start end offset && not (set offset)) (λ offset. is_within start end offset && not (other offset)) end
    (λ offset below. ap (λ (b : Bool). is_within start end offset && not b) (same offset))

-- sets that agree below a limit have the same missing runs
pub missing_runs-same : (set other : ℕ → Bool) (limit : ℕ) → ((offset : ℕ) → offset < limit → set offset ≡ other offset)
    → missing_runs set limit ≡ missing_runs other limit
missing_runs-same set other limit same =
    runs_of-same (λ offset. not (set offset)) (λ offset. not (other offset)) limit
    (λ offset below. ap not (same offset below))

-- a full set has no missing run
pub missing_runs-full : (set : ℕ → Bool) (limit : ℕ) → ((offset : ℕ) → offset < limit → IsTrue (set offset)) → missing_runs set limit ≡ []
missing_runs-full set limit full =
    sym (runs_of-unique [] (λ offset. not (set offset)) limit tt
    (λ offset. ⊎_elim
    (λ (below : offset < limit). sym (and_right (nat_lt offset limit) (not (set offset))
    (not_from_true (set offset) (full offset below))))
    (λ (past : limit ≤ offset). sym (and_left (nat_lt offset limit) (not (set offset)) (le-ltb offset limit past)))
    (cases_lt offset limit)))

-- where no run is missing the set is full
pub full_from_missing_runs : (set : ℕ → Bool) (limit : ℕ) → missing_runs set limit ≡ [] → (offset : ℕ) → offset < limit → IsTrue (set offset)
full_from_missing_runs set limit none offset below =
    let out : not (set offset) ≡ false =
    rw (lt-ltb offset limit below) at
    (sym (in_runs-runs_of (λ i. not (set i)) limit offset) ∙ ap (λ (runs : List Run). in_runs runs offset) none) in
    not-false (set offset) out
