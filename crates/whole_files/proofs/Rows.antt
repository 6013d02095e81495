-- Worked rows: the paths of copies and parts, the folders on a path, and what is asked of a disk while a file is stored.
use Rattle.std.proofs.Common.{◌≡◌, ◌⊎◌, inl, inr, ℕ, suc, zero, ◌∷◌, ◌++◌, List, [], map, Some, None, codes, refl, ap, ◌∙◌, subst, arith}
use Rattle.std.specs.Fmt.{digits}
use Rattle.disk.specs.Steps.{Call, Step}
use Rattle.disk.specs.Steps.Call.{create, link, remove}
use Rattle.disk.specs.Steps.Step.{did, refused}
use Rattle.whole_files.specs.PartSteps.{FailedToMake, MadeNone, Replaces}
use Rattle.whole_files.specs.Links.{refusals, LinkedFirst}
use Rattle.whole_files.specs.Wholes.{numbered, folder_at, part_path, IsCopyOf, IsPartOf}
use Rattle.whole_files.proofs.PartFacts.{is_part_of}

copies : map (numbered (codes "a/log.txt")) (0 ∷ 1 ∷ 12 ∷ 9999 ∷ []) ≡ codes "a/log.txt" ∷ codes "a/log.txt.1" ∷ codes "a/log.txt.12" ∷ codes "a/log.txt.9999" ∷ []
unfolding digits
copies = refl

-- the folders on the way are found one by one, from the first on
folders : map (folder_at (codes "a/b/c")) (0 ∷ 1 ∷ 2 ∷ 3 ∷ 4 ∷ []) ≡ None ∷ Some (codes "a") ∷ None ∷ Some (codes "a/b") ∷ None ∷ []
folders = refl

is_copy : IsCopyOf (codes "log") (codes "log.12")
unfolding digits
is_copy = record { copy = 12; few = omega arith; numbered_path = refl }

parts : map (λ folder. part_path folder 7) (codes "a/b" ∷ codes "a" ∷ [] ∷ []) ≡ codes "a/b/.part-7" ∷ codes "a/.part-7" ∷ codes ".part-7" ∷ []
unfolding digits
parts = refl

is_part : IsPartOf (codes "a/log") (codes "a/.part-7")
unfolding digits
is_part = is_part_of (codes "a/log") (codes "a/.part-7") 7 (omega arith) refl (λ is. cc)

-- a file is no part of its own
no_own_part : (path : List ℕ) → ¬ (IsPartOf path path)
no_own_part path is = is.apart (record { copy = 0; few = omega arith; numbered_path = refl })

-- the first two copies are taken, so the third is linked
third : refusals (codes ".part-0") (codes "log") 2 [] ≡ refused (link (codes ".part-0") (codes "log.1")) ∷ refused (link (codes ".part-0") (codes "log")) ∷ []
unfolding digits
third = refl

linked : LinkedFirst (codes ".part-0") (codes "log") (codes "log.1") [] (did (link (codes ".part-0") (codes "log.1")) ∷ refused (link (codes ".part-0") (codes "log")) ∷ [])
unfolding digits
linked = record { copy = 1; few = omega arith; is_place = refl; steps = refl }

-- the first copy is not passed over where it wasn't tried
not_passed_over : (copy : ℕ) → ¬ (did (link (codes ".part-0") (codes "log.1")) ∷ [] ≡ did (link (codes ".part-0") (numbered (codes "log") copy)) ∷ refusals (codes ".part-0") (codes "log") copy [])
unfolding digits
not_passed_over zero is = cc
not_passed_over (suc copy) is = cc

-- ---- what is no store

begins_with : (more earlier : List Step) (first second : Step) → first ∷ [] ≡ more ++ second ∷ earlier → first ≡ second
begins_with [] earlier first second is = cc
begins_with (other ∷ []) earlier first second is = absurd cc
begins_with (other ∷ another ∷ more) earlier first second is = absurd cc

-- one call that was answered, and makes no part, is none
module _ (path octets : List ℕ) (call : Call) (other : (part : List ℕ) → IsPartOf path part → ¬ (call ≡ create part)) where
  none_refused : (calls : List Call) → ¬ (did call ∷ [] ≡ map refused calls ++ [])
  none_refused [] is = cc
  none_refused (refusal ∷ calls) is = cc

  made_none : ¬ (MadeNone path [] (did call ∷ []))
  made_none none = by none.steps
    where
      by : ¬ ((did call ∷ [] ≡ none.tries) ⊎ FailedToMake path none.tries (did call ∷ []))
      by (inl is) = none_refused none.refusals.calls (is ∙ none.refusals.steps)
      by (inr failed) = let is = failed.steps in cc

  no_store : ¬ (Replaces path octets [] (did call ∷ []))
  no_store (inl none) = made_none none
  no_store (inr over) =
      let new = over.began.is_new in
      let is : did call ≡ did (create over.part) = begins_with over.began.changes.moments.more new.tries (did call) (did (create over.part)) (over.began.changes.moments.steps ∙ ap (λ (l : List Step). over.began.changes.moments.more ++ l) new.steps) in
      other over.part new.is_part cc

-- another file is removed
removed_other : (octets : List ℕ) → ¬ (Replaces (codes "log") octets [] (did (remove (codes "other")) ∷ []))
removed_other octets = no_store (codes "log") octets (remove (codes "other")) (λ part is_part is. cc)

-- the file is made in place
made_in_place : (octets : List ℕ) → ¬ (Replaces (codes "log") octets [] (did (create (codes "log")) ∷ []))
made_in_place octets = no_store (codes "log") octets (create (codes "log")) (λ part is_part is. let same : codes "log" ≡ part = cc in no_own_part part (subst (λ (l : List ℕ). IsPartOf l part) same is_part))
