-- Laws of runs.
use Rattle.std.proofs.Common.{◌≡◌, ◌≢◌, ℕ, zero, suc, ◌+◌, ◌-◌, ◌<◌, ◌≤◌, Bool, true, false, ◌&&◌, ◌||◌, ◌⊎◌, eqb, nat_lt, List, [], ◌∷◌, length, get_or, refl, ap, sym, ◌∙◌, arith, subst, ⊎_elim}
use Rattle.std.proofs.lemmas.Bool.{cond_both, eqb-true, eqb-false, eq-eqb, ne_eqb, cond-true, cond-false, cases_lt}
use Rattle.std.proofs.Math.Bool.{or_assoc}
use Rattle.std.proofs.lemmas.Bool.Decides.{nat_tests}
use Rattle.std.specs.List.{All}
use Rattle.std.proofs.lemmas.List.Elements.{All-nil, All-cons}
use Rattle.std.proofs.lemmas.List.Folds.{list_any_at}
use Rattle.gap_list.specs.declared.run.Run.{Run}
use Rattle.gap_list.specs.Runs.{is_within, in_runs, joined, joined_if, runs_from, runs_of, IsRisingFrom}

-- what the test of a run says
pub is_within_tells : (start end offset : ℕ)
    → ((is_within start end offset ≡ true) × (start ≤ offset) × (offset < end))
    ⊎ ((is_within start end offset ≡ false) × ((offset < start) ⊎ (end ≤ offset)))
is_within_tells start end offset = grind (arith, nat_tests)

-- one run that has an offset is enough
pub in_runs_at : (runs : List Run) (place offset : ℕ) (default : Run) → place < length runs
    → is_within (get_or runs place default).start (get_or runs place default).end offset ≡ true
    → in_runs runs offset ≡ true
in_runs_at runs place offset default inside has =
    list_any_at (λ run. is_within run.start run.end offset) runs place default inside has

-- runs that rise from an offset on rise from each lower one on
pub IsRisingFrom-lower : (low high : ℕ) (runs : List Run) → low ≤ high → IsRisingFrom high runs → IsRisingFrom low runs
IsRisingFrom-lower low high [] le rising = tt
IsRisingFrom-lower low high (run ∷ runs) le rising = (omega arith, rising.1, rising.2)

-- an offset before rising runs
IsRisingFrom-joined : (offset : ℕ) (runs : List Run) → IsRisingFrom (offset + 1) runs → IsRisingFrom offset (joined offset runs)
IsRisingFrom-joined offset [] rising = (omega arith, omega arith, tt)
IsRisingFrom-joined offset (run ∷ runs) rising =
    cond_both (eqb run.start (offset + 1))
    (record { start = offset; end = run.end } ∷ runs)
    (record { start = offset; end = offset + 1 } ∷ run ∷ runs)
    (IsRisingFrom offset)
    (λ touches. (omega arith, omega arith, rising.2))
    (λ apart.
    let ne : run.start ≢ offset + 1 = eqb-false run.start (offset + 1) apart in
    (omega arith, omega arith, (omega arith, rising.1, rising.2)))

IsRisingFrom-joined_if : (here : Bool) (offset : ℕ) (runs : List Run)
    → IsRisingFrom (offset + 1) runs → IsRisingFrom offset (joined_if here offset runs)
IsRisingFrom-joined_if true offset runs rising = IsRisingFrom-joined offset runs rising
IsRisingFrom-joined_if false offset runs rising = IsRisingFrom-lower offset (offset + 1) runs (omega arith) rising

IsRisingFrom-runs_from : (set : ℕ → Bool) (offset count : ℕ) → IsRisingFrom offset (runs_from set offset count)
unfolding runs_from
IsRisingFrom-runs_from set offset zero = tt
IsRisingFrom-runs_from set offset (suc count) =
    IsRisingFrom-joined_if (set offset) offset (runs_from set (offset + 1) count)
    (IsRisingFrom-runs_from set (offset + 1) count)

-- a run has its first offset and the others
is_within-more : (start end i : ℕ) → start < end → is_within start end i ≡ (eqb i start || is_within (start + 1) end i)
is_within-more start end i filled = grind (arith, nat_tests)

is_within-one : (start i : ℕ) → is_within start (start + 1) i ≡ eqb i start
is_within-one start i = grind (arith, nat_tests)

-- an offset before rising runs is added to what they have
in_runs-joined : (offset : ℕ) (runs : List Run) (i : ℕ) → IsRisingFrom (offset + 1) runs
    → in_runs (joined offset runs) i ≡ (eqb i offset || in_runs runs i)
in_runs-joined offset [] i rising = ap (λ (b : Bool). b || false) (is_within-one offset i)
in_runs-joined offset (run ∷ runs) i rising =
    cond_both (eqb run.start (offset + 1))
    (record { start = offset; end = run.end } ∷ runs)
    (record { start = offset; end = offset + 1 } ∷ run ∷ runs)
    (λ (joins : List Run). in_runs joins i ≡ (eqb i offset || in_runs (run ∷ runs) i))
    (λ touches.
    let at : offset + 1 ≡ run.start = sym (eqb-true run.start (offset + 1) touches) in
    let more : is_within offset run.end i ≡ (eqb i offset || is_within run.start run.end i) =
    rw (is_within-more offset run.end i (omega arith), at) refl in
    rw more (or_assoc (eqb i offset) (is_within run.start run.end i) (in_runs runs i)))
    (λ apart. ap (λ (b : Bool). b || in_runs (run ∷ runs) i) (is_within-one offset i))

in_runs-joined_if : (here : Bool) (offset : ℕ) (runs : List Run) (i : ℕ) → IsRisingFrom (offset + 1) runs
    → in_runs (joined_if here offset runs) i ≡ ((here && eqb i offset) || in_runs runs i)
in_runs-joined_if true offset runs i rising = in_runs-joined offset runs i rising
in_runs-joined_if false offset runs i rising = refl

-- a set among some numbers with one more number
and_there : (there within : Bool) → ((there && true) || (within && there)) ≡ there
and_there true within = refl
and_there false true = refl
and_there false false = refl

one_more : (here there this within : Bool) → (this ≡ true → here ≡ there)
    → ((here && this) || (within && there)) ≡ ((this || within) && there)
one_more true there false within same = refl
one_more false there false within same = refl
one_more here there true within same = rw (same refl) (and_there there within)

-- the runs have what the set has
in_runs-runs_from : (set : ℕ → Bool) (offset count i : ℕ)
    → in_runs (runs_from set offset count) i ≡ (is_within offset (offset + count) i && set i)
unfolding runs_from
in_runs-runs_from set offset zero i =
    let none : is_within offset (offset + 0) i ≡ false = grind (arith, nat_tests) in rw none refl
in_runs-runs_from set offset (suc count) i =
    let more : is_within offset (offset + suc count) i ≡ (eqb i offset || is_within (offset + 1) (offset + 1 + count) i) =
    grind (arith, nat_tests) in
    in_runs-joined_if (set offset) offset (runs_from set (offset + 1) count) i (IsRisingFrom-runs_from set (offset + 1) count)
    ∙ ap (λ (b : Bool). (set offset && eqb i offset) || b) (in_runs-runs_from set (offset + 1) count i)
    ∙ one_more (set offset) (set i) (eqb i offset) (is_within (offset + 1) (offset + 1 + count) i)
    (λ e. ap set (sym (eqb-true i offset e)))
    ∙ ap (λ (b : Bool). b && set i) (sym more)

-- sets that agree have the same runs
runs_from-same : (set other : ℕ → Bool) (offset count : ℕ)
    → ((i : ℕ) → offset ≤ i → i < offset + count → set i ≡ other i)
    → runs_from set offset count ≡ runs_from other offset count
unfolding runs_from
runs_from-same set other offset zero same = refl
runs_from-same set other offset (suc count) same =
    rw (
      same offset (omega arith) (omega arith),
      runs_from-same set other (offset + 1) count (λ i low high. same i (omega arith) (omega arith)),
    )
    refl

-- the runs from an offset on begin with it where it is in the set
runs_from-step : (set : ℕ → Bool) (offset limit : ℕ) → offset < limit
    → runs_from set offset (limit - offset) ≡ joined_if (set offset) offset (runs_from set (offset + 1) (limit - (offset + 1)))
unfolding runs_from
runs_from-step set offset limit below =
    let e : limit - offset ≡ suc (limit - (offset + 1)) = omega arith in
    rw e refl

-- nothing stands from the limit on
pub runs_from-past : (set : ℕ → Bool) (offset limit : ℕ) → limit ≤ offset → runs_from set offset (limit - offset) ≡ []
unfolding runs_from
runs_from-past set offset limit past = let e : limit - offset ≡ 0 = omega arith in rw e refl

-- offsets that aren't in the set are passed over
runs_from-skip : (set : ℕ → Bool) (count low high limit : ℕ) → count + low ≡ high → high ≤ limit
    → ((i : ℕ) → low ≤ i → i < high → set i ≡ false)
    → runs_from set low (limit - low) ≡ runs_from set high (limit - high)
runs_from-skip set zero low high limit e below none =
    let same : low ≡ high = omega arith in rw same refl
runs_from-skip set (suc count) low high limit e below none =
    rw (runs_from-step set low limit (omega arith), none low (omega arith) (omega arith))
    (runs_from-skip set count (low + 1) high limit (omega arith) below (λ i from to. none i (omega arith) to))

-- an offset apart from the runs above it is a run of its own
joined-apart : (offset : ℕ) (runs : List Run) → IsRisingFrom (offset + 1 + 1) runs
    → joined offset runs ≡ record { start = offset; end = offset + 1 } ∷ runs
joined-apart offset [] rising = refl
joined-apart offset (run ∷ runs) rising =
    cond-false (eqb run.start (offset + 1)) _ _ (ne_eqb run.start (offset + 1) (λ e. omega (arith, rising.0)))

joined-touching : (offset end : ℕ) (runs : List Run)
    → joined offset (record { start = offset + 1; end = end } ∷ runs) ≡ record { start = offset; end = end } ∷ runs
joined-touching offset end runs = cond-true (eqb (offset + 1) (offset + 1)) _ _ (eq-eqb (offset + 1) (offset + 1) refl)

runs_from-one : (set : ℕ → Bool) (offset limit : ℕ) → offset < limit → set offset ≡ true
    → IsRisingFrom (offset + 1 + 1) (runs_from set (offset + 1) (limit - (offset + 1)))
    → runs_from set offset (limit - offset) ≡ record { start = offset; end = offset + 1 } ∷ runs_from set (offset + 1) (limit - (offset + 1))
runs_from-one set offset limit below here apart =
    rw (runs_from-step set offset limit below, here)
    (joined-apart offset (runs_from set (offset + 1) (limit - (offset + 1))) apart)

-- offsets in a row that are in the set, with none right after, are one run
runs_from-row : (set : ℕ → Bool) (count low high limit : ℕ) → suc count + low ≡ high → high ≤ limit
    → ((i : ℕ) → low ≤ i → i < high → set i ≡ true)
    → IsRisingFrom (high + 1) (runs_from set high (limit - high))
    → runs_from set low (limit - low) ≡ record { start = low; end = high } ∷ runs_from set high (limit - high)
runs_from-row set zero low high limit e below all apart =
    let P : ℕ → Type 0 = λ end. IsRisingFrom (end + 1) (runs_from set end (limit - end))
    → runs_from set low (limit - low) ≡ record { start = low; end = end } ∷ runs_from set end (limit - end) in
    let next : low + 1 ≡ high = omega arith in
    subst P next (runs_from-one set low limit (omega arith) (all low (omega arith) (omega arith))) apart
runs_from-row set (suc count) low high limit e below all apart =
    rw (
      runs_from-step set low limit (omega arith),
      all low (omega arith) (omega arith),
      runs_from-row set count (low + 1) high limit (omega arith) below (λ i from to. all i (omega arith) to) apart,
    )
    (joined-touching low high (runs_from set high (limit - high)))

-- where the runs end or the set has no offset, the runs from there on leave it out
IsRisingFrom-gap : (set : ℕ → Bool) (offset limit : ℕ) → (offset < limit → set offset ≡ false)
    → IsRisingFrom (offset + 1) (runs_from set offset (limit - offset))
IsRisingFrom-gap set offset limit none =
    ⊎_elim
    (λ (below : offset < limit). rw (runs_from-step set offset limit below, none below)
    (IsRisingFrom-runs_from set (offset + 1) (limit - (offset + 1))))
    (λ (past : limit ≤ offset). rw (runs_from-past set offset limit past) tt)
    (cases_lt offset limit)

-- the runs from an offset on pass over what isn't in the set
pub runs_from-none : (set : ℕ → Bool) (low high limit : ℕ) → low ≤ high → high ≤ limit
    → ((i : ℕ) → low ≤ i → i < high → set i ≡ false)
    → runs_from set low (limit - low) ≡ runs_from set high (limit - high)
runs_from-none set low high limit le below none =
    runs_from-skip set (high - low) low high limit (omega arith) below none

-- the runs from an offset on begin with a whole row of the set
pub runs_from-all : (set : ℕ → Bool) (low high limit : ℕ) → low < high → high ≤ limit
    → ((i : ℕ) → low ≤ i → i < high → set i ≡ true)
    → (high < limit → set high ≡ false)
    → runs_from set low (limit - low) ≡ record { start = low; end = high } ∷ runs_from set high (limit - high)
runs_from-all set low high limit lt below all none =
    runs_from-row set (high - low - 1) low high limit (omega arith) below all (IsRisingFrom-gap set high limit none)

-- the runs of a set rise
pub IsRisingFrom-runs_of : (set : ℕ → Bool) (limit : ℕ) → IsRisingFrom 0 (runs_of set limit)
unfolding runs_of
IsRisingFrom-runs_of set limit = IsRisingFrom-runs_from set 0 limit

-- the runs of a set below a limit have what the set has there
pub in_runs-runs_of : (set : ℕ → Bool) (limit i : ℕ) → in_runs (runs_of set limit) i ≡ (nat_lt i limit && set i)
unfolding runs_of
in_runs-runs_of set limit i =
    let range : is_within 0 (0 + limit) i ≡ nat_lt i limit = grind (arith, nat_tests) in
    in_runs-runs_from set 0 limit i ∙ ap (λ (b : Bool). b && set i) range

-- sets that agree below a limit have the same runs there
pub runs_of-same : (set other : ℕ → Bool) (limit : ℕ) → ((i : ℕ) → i < limit → set i ≡ other i)
    → runs_of set limit ≡ runs_of other limit
unfolding runs_of
runs_of-same set other limit same =
    runs_from-same set other 0 limit (λ i low high. same i (omega arith))

-- runs that rise are filled
pub filled_from_rising : (offset : ℕ) (runs : List Run) → IsRisingFrom offset runs → All (λ run. run.start < run.end) runs
filled_from_rising offset [] rising = All-nil (λ run. run.start < run.end)
filled_from_rising offset (run ∷ runs) rising =
    All-cons (λ run. run.start < run.end) run runs rising.1 (filled_from_rising (run.end + 1) runs rising.2)
