-- What may be found where a step of a store is missing.
use Rattle.std.proofs.Common.{◌≡◌, ◌⊎◌, inl, inr, ℕ, List, [], ◌∷◌, Some, None, codes, refl}
use Rattle.disk.specs.Steps.{Step, folder_of}
use Rattle.disk.specs.Crash.{Holed, MayFind}
use Rattle.disk.specs.Crash.Entry.{nothing, open_file}
use Rattle.disk.specs.Promise.{HoldsAfterCut}
use Rattle.disk.specs.Needed.{EachStepCounts}

-- two findings refute it
two : (steps : List Step) (name octets : List ℕ) → MayFind steps name (Some []) → MayFind steps name (Some (0 ∷ [])) → ¬ (HoldsAfterCut steps name octets)
two steps name octets one other holds = let a = holds.only (Some []) one in let b = holds.only (Some (0 ∷ [])) other in cc

gone : (steps : List Step) (name octets : List ℕ) → MayFind steps name None → ¬ (HoldsAfterCut steps name octets)
gone steps name octets none holds = let a = holds.only None none in cc

-- the folder `a` was made, and not the one above it flushed
lost : ⊥ ⊎ (((codes "a" ≡ codes "a") ⊎ ⊥) × (folder_of (codes "a") ≡ codes "a")) → ⊥
lost (inl never) = never
lost (inr here) = let is : codes "" ≡ codes "a" = here.1 in cc

-- a zero may be found in place of any octets
zero_left : (octets : List ℕ) → Holed octets (0 ∷ [])
zero_left [] = (refl, tt)
zero_left (octet ∷ octets) = (inr refl, tt)

pub each_step_counts : EachStepCounts
each_step_counts old part name octets = (
  record {
    flush_needed = two _ name octets (record { entry = open_file; named = inl (inl (inl (refl, inl (refl, refl)))); leaves = tt }) (record { entry = open_file; named = inl (inl (inl (refl, inl (refl, refl)))); leaves = tt });
    flush_behind = two _ name octets (record { entry = open_file; named = inl (inl (inl (refl, inl (refl, refl)))); leaves = record { tail = []; is = refl; holed = tt } })
        (record { entry = open_file; named = inl (inl (inl (refl, inl (refl, refl)))); leaves = record { tail = 0 ∷ []; is = refl; holed = zero_left octets } });
    failed_flush_counts = two _ name octets (record { entry = open_file; named = inl (inl (inl (refl, inl (inl (refl, refl))))); leaves = tt }) (record { entry = open_file; named = inl (inl (inl (refl, inl (inl (refl, refl))))); leaves = tt });
    not_in_place = two _ name octets (record { entry = open_file; named = inl (inl (inl (refl, refl))); leaves = tt }) (record { entry = open_file; named = inl (inl (inl (refl, refl))); leaves = tt });
    folder_flush_needed = λ apart. gone _ name octets (record { entry = nothing; named = inl (inr (inl (inr (apart, (nothing, tt, refl))))); leaves = refl });
    folder_flush_answered = λ apart. gone _ name octets (record { entry = nothing; named = inl (inr (inr (inl (inr (apart, (nothing, tt, refl)))))); leaves = refl });
    failed_folder_flush_counts = λ apart. gone _ name octets (record { entry = nothing; named = inl (inr (inr (inr refl), inr (inr (inl (inr (apart, (nothing, tt, refl))))))); leaves = refl });
  },
  gone _ (codes "a/x") octets (record { entry = nothing; named = inr (refl, λ all. lost (all 1 refl)); leaves = refl }),
)
