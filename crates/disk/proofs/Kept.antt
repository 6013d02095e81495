-- A file that was named and settled is written on.
use Rattle.std.proofs.Common.{◌≡◌, ◌≢◌, inl, inr, ⊎_elim, ℕ, List, [], ◌∷◌, ◌++◌, Option, Some, None, refl, sym, ap, subst, Result, Ok, Err}
use Rattle.disk.specs.declared.device.Fault.{Fault}
use Rattle.disk.specs.declared.device.Fault.TheVariants.{Exists, MayPass, Failed}
use Rattle.disk.specs.Steps.{Call, Step, folder_of, step_of}
use Rattle.disk.specs.Steps.Call.{append, flush, rename, flush_folder}
use Rattle.disk.specs.Steps.Step.{did, tried, refused}
use Rattle.disk.specs.Crash.{Content, Entry, state, appended, settled, spoiled, left, Leaves, LeavesOctets, MayFind}
use Rattle.disk.specs.Crash.Content.{written, flushed, grown, worn}
use Rattle.disk.specs.Crash.Entry.{nothing, open_file}
use Rattle.disk.specs.Promise.{IsReached}
use Rattle.disk.specs.Parts.{IsKept, IsOpen}
use Rattle.disk.proofs.Calls.{once, twice}

-- what the open file leaves
leaves_open : (content : Content) (found : Option (List ℕ)) → Leaves content open_file found → (octets : List ℕ) × ((found ≡ Some octets) × LeavesOctets content octets)
leaves_open content None is = absurd is
leaves_open content (Some octets) is = (octets, (refl, is))

-- what may be found at its name
pub finds : (steps : List Step) (part name : List ℕ) (content : Content) → IsKept part name content steps → (found : Option (List ℕ)) → MayFind steps name found
    → (octets : List ℕ) × ((found ≡ Some octets) × LeavesOctets content octets)
finds steps part name content kept found may =
    leaves_open content found
    (subst (λ (c : Content). Leaves c open_file found) kept.file (subst (λ (e : Entry). Leaves (state steps).file e found) (kept.only may.entry may.named) may.leaves))

module _ (s : List Step) (part name : List ℕ) where
  -- one that was named, and whose folder was flushed
  pub by_store : (octets : List ℕ) → name ≢ part → IsOpen part (flushed octets) s → IsReached (did (rename part name) ∷ s) name
      → IsKept part name (flushed octets) (did (flush_folder (folder_of name)) ∷ did (rename part name) ∷ s)
  by_store octets apart opened reached = record {
    file = opened.file;
    only = λ entry now. ⊎_elim
        (⊎_elim (⊎_elim (λ here. opened.sole entry here.1) (λ there. absurd (there.0 refl))) (λ had. ⊎_elim (λ other. absurd (other refl)) (λ doubted. absurd (doubted.1 refl)) had.0))
        (λ gone. absurd (gone.1 (λ end slash. inl (reached end slash))))
        now;
    there = inl (refl, opened.there);
    alone = λ path not_part not_name now. opened.alone path not_part (⊎_elim
        (⊎_elim
        (⊎_elim (λ here. absurd (not_name here.0)) (λ there. ⊎_elim (λ at. absurd (not_part at.0)) (λ was. inl (inl was.1)) there.1))
        (λ had. ⊎_elim (⊎_elim (λ here. absurd (not_name here.0)) (λ there. ⊎_elim (λ at. absurd (not_part at.0)) (λ was. inl (inl was.1)) there.1)) (λ before. inl before) had.1))
        (λ gone. inr (gone.0, λ all. gone.1 (λ end slash. inl (all end slash))))
        now);
  }

  module _ (content : Content) (kept : IsKept part name content s) where
    pub appends : (octets : List ℕ) → IsKept part name (appended octets content) (did (append octets) ∷ s)
    appends octets = record {
      file = ap (appended octets) kept.file;
      only = λ entry now. kept.only entry (⊎_elim (λ here. inl (once here)) (λ gone. inr gone) now);
      there = kept.there;
      alone = λ path not_part not_name now. kept.alone path not_part not_name (⊎_elim (λ here. inl (once here)) (λ gone. inr gone) now);
    }

    pub not_appended : (octets : List ℕ) → IsKept part name (spoiled octets content) (tried (append octets) ∷ s)
    not_appended octets = record {
      file = ap (spoiled octets) kept.file;
      only = λ entry now. kept.only entry (⊎_elim (λ here. inl (twice here)) (λ gone. inr gone) now);
      there = inl kept.there;
      alone = λ path not_part not_name now. kept.alone path not_part not_name (⊎_elim (λ here. inl (twice here)) (λ gone. inr gone) now);
    }

    pub flushes : IsKept part name (settled content) (did flush ∷ s)
    flushes = record {
      file = ap settled kept.file;
      only = λ entry now. kept.only entry (⊎_elim (λ here. inl (once here)) (λ gone. inr gone) now);
      there = kept.there;
      alone = λ path not_part not_name now. kept.alone path not_part not_name (⊎_elim (λ here. inl (once here)) (λ gone. inr gone) now);
    }

    pub not_flushed : IsKept part name (spoiled [] content) (tried flush ∷ s)
    not_flushed = record {
      file = ap (spoiled []) kept.file;
      only = λ entry now. kept.only entry (⊎_elim (λ here. inl (twice here)) (λ gone. inr gone) now);
      there = inl kept.there;
      alone = λ path not_part not_name now. kept.alone path not_part not_name (⊎_elim (λ here. inl (twice here)) (λ gone. inr gone) now);
    }

    pub refused_still : (call : Call) → IsKept part name content (refused call ∷ s)
    refused_still call = record { file = kept.file; only = kept.only; there = kept.there; alone = kept.alone }
