-- Worked rows: folders of paths, notes, faults, and what a power cut leaves of contents.
use Rattle.std.proofs.Common.{◌≡◌, inl, inr, ⊎_elim, true, false, ℕ, List, [], ◌∷◌, map, Ok, Err, Some, None, pos, codes, refl}
use Rattle.std.specs.declared.io.ErrorKind.TheVariants.{AlreadyExists, NotFound, PermissionDenied, QuotaExceeded, ReadOnlyFilesystem, StorageFull, Uncategorized}
use Rattle.disk.specs.declared.device.Fault.TheVariants.{Exists, MayPass, Failed}
use Rattle.disk.specs.Steps.{Step, folder_of, looked_by, step_of}
use Rattle.disk.specs.Steps.Call.{create, append, flush}
use Rattle.disk.specs.Steps.Step.{did, tried, refused, saw_folder, cut}
use Rattle.disk.specs.Crash.{Holed, LeavesBehind, state}
use Rattle.disk.specs.Crash.Content.{written, flushed, grown, worn, unknown}
use Rattle.disk.specs.declared.faults.Hindrance.TheVariants.{NoFolder, NoSpace, InputOutput, TooManyFiles, Refuses}
use Rattle.disk.specs.Faults.{fault_of, hindrance_of, words_of}

folders : map folder_of (codes "a/b/c" ∷ codes "a" ∷ codes "" ∷ []) ≡ codes "a/b" ∷ [] ∷ [] ∷ []
folders = refl

done : step_of {T = ℕ} (Ok 0) flush ≡ did flush
done = refl

taken : step_of {T = ℕ} (Err Exists) (create (codes "a")) ≡ refused (create (codes "a"))
taken = refl

failed : map (λ fault. step_of {T = ℕ} (Err fault) flush) (MayPass ∷ Failed ∷ []) ≡ tried flush ∷ tried flush ∷ []
failed = refl

looked : looked_by (Ok true) (codes "a") [] ≡ saw_folder (codes "a") ∷ []
looked = refl

no_folder : looked_by (Ok false) (codes "a") [] ≡ []
no_folder = refl

pass : map (λ kind. fault_of kind None) (StorageFull ∷ QuotaExceeded ∷ ReadOnlyFilesystem ∷ NotFound ∷ []) ≡ MayPass ∷ MayPass ∷ MayPass ∷ MayPass ∷ []
pass = refl

pass_by_number : map (λ code. fault_of Uncategorized (Some (pos code))) (5 ∷ 23 ∷ 24 ∷ 25 ∷ []) ≡ MayPass ∷ MayPass ∷ MayPass ∷ Failed ∷ []
pass_by_number = refl

others : map (λ kind. fault_of kind None) (AlreadyExists ∷ PermissionDenied ∷ []) ≡ Exists ∷ Failed ∷ []
others = refl

-- octets that were written, flushed, written on, and unknown after a flush that failed
contents : map (λ steps. (state steps).file)
    ((did (append (1 ∷ [])) ∷ did (create (codes "a")) ∷ [])
    ∷ (did flush ∷ did (append (1 ∷ [])) ∷ did (create (codes "a")) ∷ [])
    ∷ (did (append (2 ∷ [])) ∷ did flush ∷ did (append (1 ∷ [])) ∷ did (create (codes "a")) ∷ [])
    ∷ (did flush ∷ tried flush ∷ did (append (1 ∷ [])) ∷ did (create (codes "a")) ∷ [])
    ∷ (cut ∷ did flush ∷ did (create (codes "a")) ∷ [])
    ∷ [])
    ≡ written (1 ∷ []) ∷ flushed (1 ∷ []) ∷ grown (1 ∷ []) (2 ∷ []) ∷ unknown ∷ unknown ∷ []
contents = refl

-- octets behind flushed ones: written twice, flushed too, not flushed, not written, and written behind those
abbrev base : List Step
base = did flush ∷ did (append (1 ∷ [])) ∷ did (create (codes "a")) ∷ []

grows : map (λ steps. (state steps).file)
    ((did (append (3 ∷ [])) ∷ did (append (2 ∷ [])) ∷ base)
    ∷ (did flush ∷ did (append (2 ∷ [])) ∷ base)
    ∷ (did flush ∷ tried flush ∷ did (append (2 ∷ [])) ∷ base)
    ∷ (tried (append (2 ∷ [])) ∷ base)
    ∷ (did (append (3 ∷ [])) ∷ tried (append (2 ∷ [])) ∷ base)
    ∷ [])
    ≡ grown (1 ∷ []) (2 ∷ 3 ∷ []) ∷ flushed (1 ∷ 2 ∷ []) ∷ worn (1 ∷ []) (2 ∷ []) ∷ worn (1 ∷ []) (2 ∷ []) ∷ unknown ∷ []
grows = refl

-- a part of what stands behind is left; a later octet and not an earlier one; all of it, with zeros behind it
leaves_part : LeavesBehind (1 ∷ []) (2 ∷ 3 ∷ []) (1 ∷ 2 ∷ [])
leaves_part = record { tail = 2 ∷ []; is = refl; holed = (inl refl, tt) }

leaves_hole : LeavesBehind (1 ∷ []) (2 ∷ 3 ∷ []) (1 ∷ 0 ∷ 3 ∷ [])
leaves_hole = record { tail = 0 ∷ 3 ∷ []; is = refl; holed = (inr refl, (inl refl, tt)) }

leaves_zeros : LeavesBehind (1 ∷ []) (2 ∷ 3 ∷ []) (1 ∷ 2 ∷ 3 ∷ 0 ∷ [])
leaves_zeros = record { tail = 2 ∷ 3 ∷ 0 ∷ []; is = refl; holed = (inl refl, (inl refl, (refl, tt))) }

-- no octet is left at another's place, and nothing of the flushed ones is lost
not_moved : ¬ (LeavesBehind (1 ∷ []) (2 ∷ 3 ∷ []) (1 ∷ 3 ∷ []))
not_moved left = moved left.tail left.is left.holed
  where
    moved : (tail : List ℕ) → 1 ∷ 3 ∷ [] ≡ 1 ∷ tail → Holed (2 ∷ 3 ∷ []) tail → ⊥
    moved [] is holed = cc
    moved (octet ∷ more) is holed = ⊎_elim (λ same. cc) (λ zero. cc) holed.0

hinders : map (λ kind. hindrance_of kind (Some (pos 28))) (StorageFull ∷ NotFound ∷ PermissionDenied ∷ [])
    ≡ NoSpace ∷ NoFolder ∷ Refuses ∷ []
hinders = refl

numbers_hinder : map (λ code. hindrance_of Uncategorized code) (Some (pos 5) ∷ Some (pos 24) ∷ None ∷ [])
    ≡ InputOutput ∷ TooManyFiles ∷ Refuses ∷ []
numbers_hinder = refl

said : map words_of (NoSpace ∷ InputOutput ∷ []) ≡ codes "no space is left" ∷ codes "an input or output error" ∷ []
said = refl
