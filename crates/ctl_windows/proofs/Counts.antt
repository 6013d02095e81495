-- Lines with too few words, and with too many.
use Rattle.std.proofs.Common.{◌≡◌, ℕ, ◌<◌, ◌≤◌, List, [], ◌∷◌, length, map, refl, arith}
use Rattle.ctl_windows.specs.Windows.{window_of, wrong}
use Rattle.ctl_windows.specs.declared.window.Why.TheVariants as whys

pub too_few : {A : Type 0} (text : A → List ℕ) (line : ℕ) (words : List A) → length words < 3 → window_of line (map text words) ≡ wrong 0 whys.Short
too_few text line [] few = refl
too_few text line (one ∷ []) few = refl
too_few text line (one ∷ two ∷ []) few = refl
too_few text line (one ∷ two ∷ three ∷ others) few = absurd (omega arith)

pub too_many : {A : Type 0} (text : A → List ℕ) (line : ℕ) (words : List A) → 5 ≤ length words → window_of line (map text words) ≡ wrong 4 whys.Long
too_many text line [] many = absurd (omega arith)
too_many text line (one ∷ []) many = absurd (omega arith)
too_many text line (one ∷ two ∷ []) many = absurd (omega arith)
too_many text line (one ∷ two ∷ three ∷ []) many = absurd (omega arith)
too_many text line (one ∷ two ∷ three ∷ four ∷ []) many = absurd (omega arith)
too_many text line (one ∷ two ∷ three ∷ four ∷ five ∷ others) many = refl
