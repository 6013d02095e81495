-- Worked rows: which files are sent again.
use Rattle.std.proofs.Common.{◌≡◌, ◌∷◌, [], Some, None, Option, ℕ, map, refl}
use Rattle.cfdp_ctl.specs.Resending.{verdict_of}
use Rattle.cfdp_ctl.specs.declared.resending.Sight.{Sight}
use Rattle.cfdp_ctl.specs.declared.resending.Standing.TheVariants.{Going, Over, Received}
use Rattle.cfdp_ctl.specs.declared.resending.Verdict.TheVariants as verdicts

-- a file by its size and its moment
abbrev of : ℕ → ℕ → Option Sight
of size at = Some (record { size = size; at = at })

-- as it was, written before it was read; longer, shorter, written since, and gone
by_sight : map (verdict_of Over (of 9 100)) (of 9 100 ∷ of 9 1 ∷ of 10 1 ∷ of 8 1 ∷ of 9 101 ∷ None ∷ [])
    ≡ verdicts.Send ∷ verdicts.Send ∷ verdicts.Changed ∷ verdicts.Changed ∷ verdicts.Changed ∷ verdicts.Gone ∷ []
by_sight = refl

unknown : verdict_of Over None (of 9 100) ≡ verdicts.Unknown
unknown = refl

-- however its file is
going : map (λ standing. verdict_of standing (of 9 100) (of 9 100)) (Going ∷ Received ∷ []) ≡ verdicts.Going ∷ verdicts.Received ∷ []
going = refl
