-- What came, and its checksum, with a segment.
use Rattle.std.proofs.Common.{◌≡◌, ℕ, ◌+◌, ◌-◌, ◌<◌, ◌≤◌, Bool, true, false, not, ◌&&◌, ◌||◌, if◌then◌else◌, List, [], ◌∷◌, length, get_or, take, drop, map, Option, Some, None, refl, sym, ap, ◌∙◌, arith, inl, inr, length-drop, length-take-le}
use Rattle.std.proofs.lemmas.Bool.{cases_Bool, cases_lt, le-leb, lt-leb, lt-ltb, le-ltb, leb-true, ltb-true, and_parts}
use Rattle.std.proofs.lemmas.List.{get_or-take, get_or-drop}
use Rattle.std.specs.Prelude.{slice_get, is_some}
use Rattle.cfdp_types.specs.Steps.{older_or, newer_or}
use Rattle.gap_list.specs.declared.run.Run.{Run}
use Rattle.gap_list.specs.Runs.{is_within, in_runs, new_runs, IsRisingFrom}
use Rattle.gap_list.proofs.RunLemmas.{IsRisingFrom-runs_of}
use Rattle.gap_list.proofs.SetLemmas.{below_rising}
use Rattle.modular_sum.specs.Pieces.{octet_from, IsSumOf, Adds, sum_with, sum_after}
use Rattle.modular_sum.proofs.PieceLemmas.{octet_from_before, octet_from_after, IsSumOf-same, IsSumOf-added}
use Rattle.pdu_values.specs.declared.bodies.FileData.{FileData}
use Rattle.receiver_table.specs.Reception.{octet_at}
use Rattle.receiver_parts.specs.Offsets.{octet_in, piece_of, part_of}
use Rattle.receiver_parts.specs.declared.pieces.Piece as kept
use Rattle.receiver_parts.specs.ReceivedFile.{with_segment}
use Rattle.receiver_parts.proofs.ReceivedFileLemmas.{same_get}
use Rattle.receiver_parts.proofs.LayLemmas.{new_has, octet_within}

-- the octets of a segment, the first of which stands at an offset, at those offsets that a run has, and others elsewhere
pub With : ℕ → List ℕ → (ℕ → Bool) → (ℕ → Option ℕ) → ℕ → Option ℕ
With offset octets set old i = if set i then slice_get octets (i - offset) else old i

part_length : (offset : ℕ) (octets : List ℕ) (run : Run) → offset ≤ run.start → run.start < run.end → run.end ≤ offset + length octets
    → length (take (run.end - run.start) (drop (run.start - offset) octets)) ≡ run.end - run.start
part_length offset octets run begins filled ends =
    length-take-le (run.end - run.start) (drop (run.start - offset) octets) (omega (arith, length-drop (run.start - offset) octets, begins, filled, ends))

-- the octets that a run has, each at its offset
part_at : (offset : ℕ) (octets : List ℕ) (run : Run) (i : ℕ) → offset ≤ run.start → run.start < run.end → run.end ≤ offset + length octets
    → octet_from run.start (take (run.end - run.start) (drop (run.start - offset) octets)) i ≡ (if is_within run.start run.end i then slice_get octets (i - offset) else None)
part_at offset octets run i begins filled ends =
    let part : List ℕ = take (run.end - run.start) (drop (run.start - offset) octets) in
    let count : length part ≡ run.end - run.start = part_length offset octets run begins filled ends in
    elim (cases_lt i run.start) [
      | inl before ↦ octet_from_before run.start part i before ∙ rw (lt-leb run.start i before) refl
      | inr from ↦
          elim (cases_lt i run.end) [
            | inl below ↦
                rw (le-leb run.start i from, lt-ltb i run.end below)
                (same_get part octets (i - run.start) (i - offset) (omega (arith, count, from, below)) (omega (arith, from, below, begins, ends))
                (get_or-take (run.end - run.start) (drop (run.start - offset) octets) (i - run.start) 0 (omega (arith, from, below))
                ∙ get_or-drop (run.start - offset) octets (i - run.start) 0
                ∙ ap (λ n. get_or octets n 0) (omega (arith, from, begins))))
            | inr past ↦
                octet_from_after run.start part i (omega (arith, count, past, filled))
                ∙ rw (le-leb run.start i from, le-ltb i run.end past) refl
          ]
    ]

-- a run's octets are added where nothing stood
adds_part : (old : ℕ → Option ℕ) (offset : ℕ) (octets : List ℕ) (run : Run) → offset ≤ run.start → run.start < run.end → run.end ≤ offset + length octets
    → ((i : ℕ) → is_within run.start run.end i ≡ true → old i ≡ None)
    → Adds old (octet_from run.start (take (run.end - run.start) (drop (run.start - offset) octets))) (With offset octets (is_within run.start run.end) old)
unfolding With
adds_part old offset octets run begins filled ends none i =
    let here = part_at offset octets run i begins filled ends in
    elim (cases_Bool (is_within run.start run.end i)) [
      | inl has ↦ inr (none i has, rw has (sym (rw has at here)))
      | inr not_has ↦ inl (rw not_has at here, rw not_has refl)
    ]

first_within : (run : Run) → run.start < run.end → is_within run.start run.end run.start ≡ true
first_within run filled = rw (le-leb run.start run.start (omega arith), lt-ltb run.start run.end filled) refl

last_within : (run : Run) → run.start < run.end → is_within run.start run.end (run.end - 1) ≡ true
last_within run filled = rw (le-leb run.start (run.end - 1) (omega (arith, filled)), lt-ltb (run.end - 1) run.end (omega (arith, filled))) refl

or_first : (a b : Bool) → a ≡ true → (a || b) ≡ true
or_first a b e = rw e refl

or_last : (a b : Bool) → b ≡ true → (a || b) ≡ true
or_last true b e = refl
or_last false b e = e

either : {A : Type 0} (a b : Bool) (x y : A) → (if b then x else if a then x else y) ≡ (if a || b then x else y)
either true true x y = refl
either true false x y = refl
either false true x y = refl
either false false x y = refl

not_true : (b : Bool) → b ≡ false → b ≡ true → ⊥
not_true b f t = cc

-- what later runs have lies above a run
above_run : (run : Run) (runs : List Run) (i : ℕ) → IsRisingFrom (run.end + 1) runs → in_runs runs i ≡ true → run.end ≤ i
above_run run runs i rising has =
    elim (cases_lt i (run.end + 1)) [
      | inl below ↦ absurd (not_true (in_runs runs i) (below_rising (run.end + 1) runs i rising below) has)
      | inr above ↦ omega (arith, above)
    ]

none_there : (old : ℕ → Option ℕ) (offset : ℕ) (octets : List ℕ) (run : Run) (i : ℕ) → run.start < run.end → run.end ≤ i → old i ≡ None
    → With offset octets (is_within run.start run.end) old i ≡ None
unfolding With
none_there old offset octets run i filled past none = rw (le-leb run.start i (omega (arith, filled, past)), le-ltb i run.end past) none

-- the octets of runs that rise are added one run after another
pub sum_of_runs : (old : ℕ → Option ℕ) (word offset : ℕ) (octets : List ℕ) (low : ℕ) (runs : List Run) → IsSumOf old word → IsRisingFrom low runs
    → ((i : ℕ) → in_runs runs i ≡ true → (old i ≡ None) × (is_within offset (offset + length octets) i ≡ true))
    → IsSumOf (With offset octets (in_runs runs) old) (sum_after word (map (piece_of offset octets) runs))
unfolding With
sum_of_runs old word offset octets low [] is rising has = is
sum_of_runs old word offset octets low (run ∷ runs) is rising has =
    let filled : run.start < run.end = rising.1 in
    let part : List ℕ = take (run.end - run.start) (drop (run.start - offset) octets) in
    let mid : ℕ → Option ℕ = With offset octets (is_within run.start run.end) old in
    let first = has run.start (or_first (is_within run.start run.end run.start) (in_runs runs run.start) (first_within run filled)) in
    let last = has (run.end - 1) (or_first (is_within run.start run.end (run.end - 1)) (in_runs runs (run.end - 1)) (last_within run filled)) in
    let begins : offset ≤ run.start = leb-true offset run.start (and_parts _ _ first.1).0 in
    let ends : run.end ≤ offset + length octets = omega (arith, filled, ltb-true (run.end - 1) (offset + length octets) (and_parts _ _ last.1).1) in
    let none : (i : ℕ) → is_within run.start run.end i ≡ true → old i ≡ None =
    λ i within. (has i (or_first (is_within run.start run.end i) (in_runs runs i) within)).0 in
    let more : IsSumOf mid (sum_with word run.start part) = IsSumOf-added old mid word run.start part is (adds_part old offset octets run begins filled ends none) in
    IsSumOf-same (With offset octets (in_runs runs) mid) (With offset octets (in_runs (run ∷ runs)) old)
    (sum_after word (map (piece_of offset octets) (run ∷ runs)))
    (λ i. either (is_within run.start run.end i) (in_runs runs i) (slice_get octets (i - offset)) (old i))
    (sum_of_runs mid (sum_with word run.start part) offset octets (run.end + 1) runs more rising.2
    (λ i later.
    let both = has i (or_last (is_within run.start run.end i) (in_runs runs i) later) in
    (none_there old offset octets run i filled (above_run run runs i rising.2 later) both.0, both.1)))

added : (old : Option ℕ) (within came : Bool) (x other : Option ℕ) → is_some old ≡ came → (if within then x else None) ≡ other
    → (if within && not came then x else old) ≡ older_or old other
added None true false x other is same = same
added None false false x other is same = same
added None within true x other is same = absurd cc
added (Some octet) true true x other is same = refl
added (Some octet) false true x other is same = refl
added (Some octet) within false x other is same = absurd cc

with_segment_is : (old : ℕ → Option ℕ) (set : ℕ → Bool) (d : FileData) (i : ℕ) → is_some (old i) ≡ set i
    → With d.offset d.octets (in_runs (new_runs set d.offset (d.offset + length d.octets))) old i ≡ with_segment old (Some d) i
unfolding With
with_segment_is old set d i came =
    let end : ℕ = d.offset + length d.octets in
    rw (new_has set d.offset end i) (added (old i) (is_within d.offset end i) (set i) (slice_get d.octets (i - d.offset)) (octet_at (Some d) i) came (octet_within d i))

pub none_is : (o : Option ℕ) → is_some o ≡ false → o ≡ None
none_is None e = refl
none_is (Some x) e = absurd cc

-- what a new offset of a segment is
new_offset : (old : ℕ → Option ℕ) (set : ℕ → Bool) (start end i : ℕ) → is_some (old i) ≡ set i → in_runs (new_runs set start end) i ≡ true
    → (old i ≡ None) × (is_within start end i ≡ true)
new_offset old set start end i same has =
    let parts = and_parts (is_within start end i) (not (set i)) (sym (new_has set start end i) ∙ has) in
    elim (cases_Bool (set i)) [
      | inl came ↦ absurd (not_true (not (set i)) (ap not came) parts.1)
      | inr none ↦ (none_is (old i) (same ∙ none), parts.0)
    ]

-- the checksum with the new octets of a segment
pub sum_of_segment : (old : ℕ → Option ℕ) (set : ℕ → Bool) (word : ℕ) (d : FileData) → ((i : ℕ) → is_some (old i) ≡ set i) → IsSumOf old word
    → IsSumOf (with_segment old (Some d)) (sum_after word (map (piece_of d.offset d.octets) (new_runs set d.offset (d.offset + length d.octets))))
sum_of_segment old set word d came is =
    let end : ℕ = d.offset + length d.octets in
    let runs : List Run = new_runs set d.offset end in
    IsSumOf-same (With d.offset d.octets (in_runs runs) old) (with_segment old (Some d))
    (sum_after word (map (piece_of d.offset d.octets) runs))
    (λ i. with_segment_is old set d i (came i))
    (sum_of_runs old word d.offset d.octets 0 runs is
    (IsRisingFrom-runs_of (λ i. is_within d.offset end i && not (set i)) end)
    (λ i has. new_offset old set d.offset end i (came i) has))

-- ---- the octets with those of a segment

joined : (a b : Bool) (x : Option ℕ) → newer_or (if b then x else None) (if a then x else None) ≡ (if a || b then x else None)
joined true true None = refl
joined false true None = refl
joined true true (Some x) = refl
joined false true (Some x) = refl
joined true false x = refl
joined false false x = refl

-- the octets of parts are those of the segment
parts_are : (offset : ℕ) (octets : List ℕ) (low : ℕ) (runs : List Run) (i : ℕ) → IsRisingFrom low runs
    → ((j : ℕ) → in_runs runs j ≡ true → is_within offset (offset + length octets) j ≡ true)
    → octet_in (map (part_of offset octets) runs) i ≡ (if in_runs runs i then slice_get octets (i - offset) else None)
parts_are offset octets low [] i rising has = refl
parts_are offset octets low (run ∷ runs) i rising has =
    let filled : run.start < run.end = rising.1 in
    let first = has run.start (or_first (is_within run.start run.end run.start) (in_runs runs run.start) (first_within run filled)) in
    let last = has (run.end - 1) (or_first (is_within run.start run.end (run.end - 1)) (in_runs runs (run.end - 1)) (last_within run filled)) in
    let begins : offset ≤ run.start = leb-true offset run.start (and_parts _ _ first).0 in
    let ends : run.end ≤ offset + length octets = omega (arith, filled, ltb-true (run.end - 1) (offset + length octets) (and_parts _ _ last).1) in
    ap (λ o. newer_or o (octet_from run.start (take (run.end - run.start) (drop (run.start - offset) octets)) i))
    (parts_are offset octets (run.end + 1) runs i rising.2 (λ j later. has j (or_last (is_within run.start run.end j) (in_runs runs j) later)))
    ∙ ap (λ o. newer_or (if in_runs runs i then slice_get octets (i - offset) else None) o) (part_at offset octets run i begins filled ends)
    ∙ joined (is_within run.start run.end i) (in_runs runs i) (slice_get octets (i - offset))

merged : (old : Option ℕ) (within came : Bool) (x other : Option ℕ) → is_some old ≡ came → (if within then x else None) ≡ other
    → newer_or (if within && not came then x else None) old ≡ older_or old other
merged None true false None other is same = same
merged None true false (Some y) other is same = same
merged None false false x other is same = same
merged None within true x other is same = absurd cc
merged (Some octet) true true x other is same = refl
merged (Some octet) false true x other is same = refl
merged (Some octet) within false x other is same = absurd cc

-- the pieces, with the parts of a segment that are new
pub with_parts : (pieces : List kept.Piece) (set : ℕ → Bool) (d : FileData) (i : ℕ) → is_some (octet_in pieces i) ≡ set i
    → newer_or (octet_in (map (part_of d.offset d.octets) (new_runs set d.offset (d.offset + length d.octets))) i) (octet_in pieces i)
    ≡ with_segment (octet_in pieces) (Some d) i
with_parts pieces set d i came =
    let end : ℕ = d.offset + length d.octets in
    let runs : List Run = new_runs set d.offset end in
    ap (λ o. newer_or o (octet_in pieces i)) (parts_are d.offset d.octets 0 runs i
    (IsRisingFrom-runs_of (λ j. is_within d.offset end j && not (set j)) end)
    (λ j has. (and_parts (is_within d.offset end j) (not (set j)) (sym (new_has set d.offset end j) ∙ has)).0))
    ∙ rw (new_has set d.offset end i)
    (merged (octet_in pieces i) (is_within d.offset end i) (set i) (slice_get d.octets (i - d.offset)) (octet_at (Some d) i) came (octet_within d i))
