-- Segments as a set of offsets.
use Rattle.std.proofs.Common.{◌≡◌, ℕ, ◌+◌, ◌-◌, ◌<◌, ◌≤◌, ◌↔◌, Bool, false, nat_lt, Some, IsTrue, sym, ◌∙◌, arith, inl, inr}
use Rattle.std.proofs.lemmas.Bool.{true≢false, cases_Bool, ltb-true, ltb-false}
use Rattle.cfdp_types.specs.declared.limits.TheConstants.{FILE_OCTETS}
use Rattle.gap_list.specs.Runs.{IsExtent, IsFree}
use Rattle.gap_list.specs.Covered.{covered}
use Rattle.ind_words.specs.declared.segments.Segments.{Segments}
use Rattle.ind_words.specs.Offsets.{IsInitial}
use Rattle.ind_words.specs.Reading.{covers, room_left}

-- a set is initial where it has all offsets up to its extent
pub initial_by_extent : (set : ℕ → Bool) (extent : ℕ) (result : Bool) → IsExtent set extent
    → (IsTrue result ↔ ((i : ℕ) → i < extent → IsTrue (set i))) → IsTrue result ↔ IsInitial set
initial_by_extent set extent result is full = (
  λ all. (
    extent,
    λ i. (
      λ has. elim (cases_Bool (nat_lt i extent)) [
        | inl below ↦ ltb-true i extent below
        | inr above ↦ absurd (true≢false (sym has ∙ is.above i (ltb-false i extent above)))
      ],
      λ below. full.0 all i below,
    ),
  ),
  λ initial. full.1 (λ i below.
      let last : extent - 1 < initial.0 = (initial.1 (extent - 1)).0 (is.last (omega (arith, below))) in
      (initial.1 i).1 (omega (arith, below, last))),
)

-- when a segment may be taken, as its run and as the offset and length that tell of it
pub take_exact : (segments : Segments) (start end offset length : ℕ) (result : Bool) → start ≡ offset → end ≡ offset + length
    → 0 < length → offset + length ≤ FILE_OCTETS
    → (IsTrue result ↔ ((0 < segments.left) × IsFree (covered segments.offsets) start end))
    → IsTrue result ↔ ((0 < length) × (offset + length ≤ FILE_OCTETS) × IsFree (covers (Some segments)) offset (offset + length) × (0 < room_left (Some segments)))
take_exact segments start end offset length result first last filled within exact = (
  λ is. (filled, within, λ i from below. (exact.0 is).1 i (omega (arith, first, from)) (omega (arith, last, below)), (exact.0 is).0),
  λ may. exact.1 (may.3, λ i from below. may.2 i (omega (arith, first, from)) (omega (arith, last, below))),
)
