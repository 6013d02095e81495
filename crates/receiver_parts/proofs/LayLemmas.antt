-- What a segment adds to the octets that came.
use Rattle.std.proofs.Common.{◌≡◌, ℕ, ◌+◌, ◌-◌, ◌<◌, ◌≤◌, Bool, true, false, not, ◌&&◌, ◌||◌, nat_le, nat_lt, if◌then◌else◌, List, [], ◌∷◌, ◌++◌, length, get_or, Option, Some, None, refl, sym, ap, ◌∙◌, arith, inl, inr}
use Rattle.std.proofs.lemmas.Bool.{cases_lt, leb-true, lt-ltb, le-ltb, le-leb, lt-leb, and_parts}
use Rattle.std.proofs.lemmas.Option.{slice_get-get_or, slice_get_past}
use Rattle.std.specs.Prelude.{slice_get, is_some}
use Rattle.std.specs.List.{All}
use Rattle.cfdp_types.specs.Steps.{older_or, newer_or}
use Rattle.gap_list.specs.declared.run.Run.{Run}
use Rattle.gap_list.specs.Runs.{is_within, in_runs, new_runs, with_range}
use Rattle.gap_list.proofs.RunLemmas.{in_runs-runs_of}
use Rattle.gap_list.proofs.SetLemmas.{filled-runs_of, ends-runs_of, in_set-runs_of}
use Rattle.modular_sum.specs.Pieces.{octet_from}
use Rattle.pdu_values.specs.declared.bodies.FileData.{FileData}
use Rattle.receiver_table.specs.Reception.{octet_at}
use Rattle.receiver_parts.specs.Offsets.{octet_in}
use Rattle.receiver_parts.specs.ReceivedFile.{with_segment}
use Rattle.receiver_parts.specs.declared.pieces.Piece.{Piece}

-- the new runs of a range are inside it
pub runs_inside : (set : ℕ → Bool) (start end : ℕ) → All (λ run. (start ≤ run.start) × (run.start ≤ run.end) × (run.end ≤ end)) (new_runs set start end)
runs_inside set start end k d within =
    let new : ℕ → Bool = λ i. is_within start end i && not (set i) in
    let run : Run = get_or (new_runs set start end) k d in
    let filled : run.start < run.end = filled-runs_of new end k d within in
    let has = in_set-runs_of new end k d within run.start (omega arith) filled in
    let from : nat_le start run.start ≡ true = (and_parts _ _ (and_parts _ _ has.1).0).0 in
    (leb-true start run.start from, omega (arith, filled), ends-runs_of new end k d within)

both : (a b n : Bool) → (a && ((b && a) && n)) ≡ ((b && a) && n)
both true b n = refl
both false true n = refl
both false false n = refl

-- the offsets of the new runs
pub new_has : (set : ℕ → Bool) (start end i : ℕ) → in_runs (new_runs set start end) i ≡ (is_within start end i && not (set i))
new_has set start end i =
    in_runs-runs_of (λ i. is_within start end i && not (set i)) end i ∙ both (nat_lt i end) (nat_le start i) (not (set i))

newer_none : (o : Option ℕ) → newer_or o None ≡ o
newer_none None = refl
newer_none (Some x) = refl

newer_twice : (a b c : Option ℕ) → newer_or (newer_or a b) c ≡ newer_or a (newer_or b c)
newer_twice None b c = refl
newer_twice (Some x) b c = refl

-- whether one of two octets is there
some_or : (a b : Option ℕ) → is_some (older_or a b) ≡ (is_some a || is_some b)
some_or None b = refl
some_or (Some x) b = refl

-- an octet of a segment, where the offset is one of the segment's
pub octet_within : (d : FileData) (i : ℕ) → (if is_within d.offset (d.offset + length d.octets) i then slice_get d.octets (i - d.offset) else None) ≡ octet_at (Some d) i
octet_within d i =
    elim (cases_lt i d.offset) [
      | inl before ↦ rw (lt-leb d.offset i before) refl
      | inr from ↦
          elim (cases_lt i (d.offset + length d.octets)) [
            | inl below ↦ rw (le-leb d.offset i from, lt-ltb i (d.offset + length d.octets) below) refl
            | inr past ↦ rw (le-leb d.offset i from, le-ltb i (d.offset + length d.octets) past) (sym (slice_get_past d.octets (i - d.offset) (omega (arith, from, past))))
          ]
    ]

-- a segment has an octet at each of its offsets
octet_there : (d : FileData) (i : ℕ) → is_some (octet_at (Some d) i) ≡ is_within d.offset (d.offset + length d.octets) i
octet_there d i =
    elim (cases_lt i d.offset) [
      | inl before ↦ rw (lt-leb d.offset i before) refl
      | inr from ↦
          elim (cases_lt i (d.offset + length d.octets)) [
            | inl below ↦
                rw (le-leb d.offset i from, lt-ltb i (d.offset + length d.octets) below, slice_get-get_or d.octets (i - d.offset) 0 (omega (arith, from, below))) refl
            | inr past ↦
                rw (le-leb d.offset i from, le-ltb i (d.offset + length d.octets) past, slice_get_past d.octets (i - d.offset) (omega (arith, from, past))) refl
          ]
    ]

-- the offsets of what came, with a segment
pub came_with : (received : ℕ → Option ℕ) (set : ℕ → Bool) (d : FileData) (i : ℕ) → is_some (received i) ≡ set i
    → is_some (with_segment received (Some d) i) ≡ with_range set d.offset (d.offset + length d.octets) i
came_with received set d i came =
    some_or (received i) (octet_at (Some d) i)
    ∙ ap (λ b. b || is_some (octet_at (Some d) i)) came
    ∙ ap (λ b. set i || b) (octet_there d i)

-- pieces that came later
pub octet_in-append : (pieces later : List Piece) (i : ℕ) → octet_in (pieces ++ later) i ≡ newer_or (octet_in later i) (octet_in pieces i)
octet_in-append [] later i = sym (newer_none (octet_in later i))
octet_in-append (piece ∷ pieces) later i =
    ap (λ o. newer_or o (octet_from piece.offset piece.octets i)) (octet_in-append pieces later i)
    ∙ newer_twice (octet_in later i) (octet_in pieces i) (octet_from piece.offset piece.octets i)
