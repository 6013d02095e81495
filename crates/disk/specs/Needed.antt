-- Meaning. Each step of a store is needed: without it, other octets may be found.
use Rattle.std.specs.Prelude.{◌≢◌, ℕ, List, [], ◌∷◌, codes}
use Rattle.disk.specs.Steps.{Step, folder_of}
use Rattle.disk.specs.Steps.Call.{create, append, flush, rename, make_folder, flush_folder}
use Rattle.disk.specs.Steps.Step.{did, tried}
use Rattle.disk.specs.Promise.{HoldsAfterCut}

-- no flush; a flush before the octets; a flush that failed before; octets written in place; no flush of the folder,
-- one that failed, or one after one that failed
pub record EachIsNeeded (old : List Step) (part name octets : List ℕ) : Type 0 where
  pub flush_needed : ¬ (HoldsAfterCut (did (flush_folder (folder_of name)) ∷ did (rename part name) ∷ did (append octets) ∷ did (create part) ∷ old) name octets)
  pub flush_behind : ¬ (HoldsAfterCut (did (flush_folder (folder_of name)) ∷ did (rename part name) ∷ did (append octets) ∷ did flush ∷ did (create part) ∷ old) name octets)
  pub failed_flush_counts : ¬ (HoldsAfterCut (did (flush_folder (folder_of name)) ∷ did (rename part name) ∷ did flush ∷ tried flush ∷ did (append octets) ∷ did (create part) ∷ old) name octets)
  pub not_in_place : ¬ (HoldsAfterCut (did (append octets) ∷ did (create name) ∷ old) name octets)
  pub folder_flush_needed : name ≢ part → ¬ (HoldsAfterCut (did (rename part name) ∷ did flush ∷ did (append octets) ∷ did (create part) ∷ []) name octets)
  pub folder_flush_answered : name ≢ part → ¬ (HoldsAfterCut (tried (flush_folder (folder_of name)) ∷ did (rename part name) ∷ did flush ∷ did (append octets) ∷ did (create part) ∷ []) name octets)
  pub failed_folder_flush_counts : name ≢ part → ¬ (HoldsAfterCut (did (flush_folder (folder_of name)) ∷ tried (flush_folder (folder_of name)) ∷ did (rename part name) ∷ did flush ∷ did (append octets) ∷ did (create part) ∷ []) name octets)

-- a folder that was made is lost where only the folder itself was flushed, and not the one above it
abbrev pub FolderAboveNeeded : List ℕ → Type 0
FolderAboveNeeded octets =
    ¬ (HoldsAfterCut
    (did (flush_folder (codes "a")) ∷ did (rename (codes "a/.part-0") (codes "a/x")) ∷ did flush ∷ did (append octets) ∷ did (create (codes "a/.part-0")) ∷ did (make_folder (codes "a")) ∷ [])
    (codes "a/x") octets)

-- each of them, whatever was done before
abbrev pub EachStepCounts : Type 0
EachStepCounts = (old : List Step) (part name octets : List ℕ) → EachIsNeeded old part name octets × FolderAboveNeeded octets
