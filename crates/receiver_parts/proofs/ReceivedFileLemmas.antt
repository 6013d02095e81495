-- Laws of octets that are put at their offsets.
use Rattle.std.proofs.Common.{◌≡◌, ℕ, ◌+◌, ◌-◌, ◌<◌, ◌≤◌, if◌then◌else◌, List, [], ◌∷◌, length, get_or, take, ◌++◌, Option, Some, None, refl, sym, ap, ◌∙◌, arith, inl, inr}
use Rattle.std.proofs.lemmas.Bool.{cases_lt, lt-ltb, le-ltb, le-leb, lt-leb}
use Rattle.std.proofs.lemmas.List.{take_more, get_or_append_left, get_or-append_right}
use Rattle.std.proofs.lemmas.Option.{slice_get-get_or, slice_get_past, unwrap_or-slice_get}
use Rattle.std.specs.Prelude.{slice_get, unwrap_or}
use Rattle.cfdp_types.specs.Steps.{newer_or}
use Rattle.gap_list.specs.Runs.{is_within}
use Rattle.modular_sum.specs.Pieces.{octet_from}
use Rattle.modular_sum.proofs.PieceLemmas.{octet_from_before, octet_from_after}
use Rattle.receiver_parts.specs.Offsets.{octet_in}
use Rattle.receiver_parts.specs.declared.pieces.Piece.{Piece}
use Rattle.receiver_parts.proofs.LayLemmas.{octet_in-append}

pub same_get : (xs ys : List ℕ) (i j : ℕ) → i < length xs → j < length ys → get_or xs i 0 ≡ get_or ys j 0 → slice_get xs i ≡ slice_get ys j
same_get xs ys i j first second e = slice_get-get_or xs i 0 first ∙ ap Some e ∙ sym (slice_get-get_or ys j 0 second)

-- there is 0 past the end
past_is : (xs : List ℕ) (i : ℕ) → length xs ≤ i → get_or xs i 0 ≡ 0
past_is xs i past = sym (unwrap_or-slice_get xs i 0) ∙ ap (λ o. unwrap_or o 0) (slice_get_past xs i past)

-- an octet of a list whose first stands at an offset
octet_inside : (start : ℕ) (part : List ℕ) (i x : ℕ) → start ≤ i → i < start + length part → unwrap_or (octet_from start part i) x ≡ get_or part (i - start) 0
octet_inside start part i x from below =
    rw (le-leb start i from, slice_get-get_or part (i - start) 0 (omega (arith, from, below))) refl

-- octets that are appended
pub appended_is : (xs part : List ℕ) (start i : ℕ) → length xs ≡ start → get_or (xs ++ part) i 0 ≡ unwrap_or (octet_from start part i) (get_or xs i 0)
appended_is xs part start i count =
    elim (cases_lt i start) [
      | inl before ↦ rw (octet_from_before start part i before) (get_or_append_left xs part 0 i (omega (arith, count, before)))
      | inr from ↦
          get_or-append_right xs part start i 0 count from
          ∙ (elim (cases_lt i (start + length part)) [
            | inl below ↦ sym (octet_inside start part i (get_or xs i 0) from below)
            | inr past ↦
                rw (octet_from_after start part i past)
                (past_is part (i - start) (omega (arith, from, past)) ∙ sym (past_is xs i (omega (arith, count, from))))
          ])
    ]

-- octets that are written over others
pub overwritten_is : (xs new part : List ℕ) (start i : ℕ)
    → slice_get new i ≡ (if is_within start (start + length part) i then slice_get part (i - start) else slice_get xs i)
    → get_or new i 0 ≡ unwrap_or (octet_from start part i) (get_or xs i 0)
overwritten_is xs new part start i is =
    sym (unwrap_or-slice_get new i 0) ∙ ap (λ o. unwrap_or o 0) is
    ∙ (elim (cases_lt i start) [
      | inl before ↦ rw (octet_from_before start part i before, lt-leb start i before) (unwrap_or-slice_get xs i 0)
      | inr from ↦
          elim (cases_lt i (start + length part)) [
            | inl below ↦
                rw (le-leb start i from, lt-ltb i (start + length part) below, slice_get-get_or part (i - start) 0 (omega (arith, from, below))) refl
            | inr past ↦ rw (octet_from_after start part i past, le-leb start i from, le-ltb i (start + length part) past) (unwrap_or-slice_get xs i 0)
          ]
    ])

newer_unwrapped : (new old : Option ℕ) → unwrap_or new (unwrap_or old 0) ≡ unwrap_or (newer_or new old) 0
newer_unwrapped None old = refl
newer_unwrapped (Some x) old = refl

-- one piece more
pub put_more : (pieces : List Piece) (k : ℕ) (piece : Piece) (i new old : ℕ) → k < length pieces → get_or pieces k piece ≡ piece
    → new ≡ unwrap_or (octet_from piece.offset piece.octets i) old → old ≡ unwrap_or (octet_in (take k pieces) i) 0 → new ≡ unwrap_or (octet_in (take (k + 1) pieces) i) 0
put_more pieces k piece i new old within here is before =
    is ∙ ap (λ n. unwrap_or (octet_from piece.offset piece.octets i) n) before
    ∙ newer_unwrapped (octet_from piece.offset piece.octets i) (octet_in (take k pieces) i)
    ∙ ap (λ o. unwrap_or o 0) (sym (octet_in-append (take k pieces) (piece ∷ []) i))
    ∙ ap (λ ps. unwrap_or (octet_in ps i) 0) (sym (take_more pieces k piece within ∙ ap (λ p. take k pieces ++ p ∷ []) here))
