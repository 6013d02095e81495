-- What each call of a store leaves of a disk, whatever its answer.
use Rattle.std.proofs.Common.{Bool, true, false, ◌≡◌, ◌≢◌, inl, inr, ℕ, List, ◌∷◌, Option, Result, Ok, Err, Vec, refl, sym, subst}
use Rattle.std.specs.declared.alloc.Global.{Global}
use Rattle.disk.specs.declared.device.Fault.{Fault}
use Rattle.disk.specs.declared.device.Fault.TheVariants.{Exists, MayPass, Failed}
use Rattle.disk.specs.Steps.{Call, Step, step_of, read_by, looked_by, folder_of}
use Rattle.disk.specs.Steps.Call.{create, append, flush, rename, link, remove, make_folder, flush_folder}
use Rattle.disk.specs.Steps.Step.{did, tried, refused, saw, saw_folder}
use Rattle.disk.specs.Crash.{Content, state}
use Rattle.disk.specs.Crash.Content.{flushed}
use Rattle.disk.specs.Promise.{OldOrNew, Changes, Is, NoPath, NothingNew, Unchanged, Whole, WholeOrGone}
use Rattle.disk.specs.Parts.{IsOpen, IsNamed}
use Rattle.disk.proofs.Moments.{same_steps, step_is, of_unchanged}
use Rattle.disk.proofs.Calls as calls

-- a call's changes, from those where it was answered and those where it failed
module _ (P : List ℕ → Type 0) (N : List ℕ → Option (List ℕ) → Type 0) (s now : List Step) (call : Call) where
  pub refused_one : now ≡ refused call ∷ s → Changes P N s now
  refused_one is = of_unchanged P N s now (step_is NoPath NothingNew s now (refused call) is (calls.refusal s call))

  pub either_way : {T : Type 0} (result : Result T Fault) → now ≡ step_of result call ∷ s → OldOrNew P N s (did call ∷ s) → OldOrNew P N s (tried call ∷ s) → Changes P N s now
  either_way (Ok x) is ok failed = step_is P N s now (did call) is ok
  either_way (Err Exists) is ok failed = refused_one is
  either_way (Err MayPass) is ok failed = step_is P N s now (tried call) is failed
  either_way (Err Failed) is ok failed = step_is P N s now (tried call) is failed

module _ {T : Type 0} (s now : List Step) (result : Result T Fault) where
  pub did_it : (call : Call) (x : T) → result ≡ Ok x → now ≡ step_of result call ∷ s → now ≡ did call ∷ s
  did_it call x ok is = subst (λ (r : Result T Fault). now ≡ step_of r call ∷ s) ok is

  pub folder_made : (at : List ℕ) → now ≡ step_of result (make_folder at) ∷ s → Unchanged s now
  folder_made at is = either_way NoPath NothingNew s now (make_folder at) result is (calls.folder_made s at) (calls.folder_tried s at)

  pub folder_flushed : (at : List ℕ) → now ≡ step_of result (flush_folder at) ∷ s → Unchanged s now
  folder_flushed at is = either_way NoPath NothingNew s now (flush_folder at) result is (calls.folder_flushed s at) (calls.folder_unflushed s at)

  module _ (part : List ℕ) (N : List ℕ → Option (List ℕ) → Type 0) where
    pub created : now ≡ step_of result (create part) ∷ s → Changes (Is part) N s now
    created is = either_way (Is part) N s now (create part) result is (calls.created s part N) (calls.not_created s part N)

    pub removed : now ≡ step_of result (remove part) ∷ s → Changes (Is part) N s now
    removed is = either_way (Is part) N s now (remove part) result is (calls.removed s part N) (calls.not_removed s part N)

    pub appends : (content : Content) (octets : List ℕ) → IsOpen part content s → now ≡ step_of result (append octets) ∷ s → Changes (Is part) N s now
    appends content octets opened is = either_way (Is part) N s now (append octets) result is (calls.appends s part content opened octets N) (calls.not_appended s part content opened octets N)

    pub flushes : (content : Content) → IsOpen part content s → now ≡ step_of result flush ∷ s → Changes (Is part) N s now
    flushes content opened is = either_way (Is part) N s now flush result is (calls.flushes s part content opened N) (calls.not_flushed s part content opened N)

  pub renamed : (part name octets : List ℕ) → IsOpen part (flushed octets) s → now ≡ step_of result (rename part name) ∷ s → Changes (Is part) (Whole name octets) s now
  renamed part name octets opened is =
      either_way (Is part) (Whole name octets) s now (rename part name) result is (calls.renamed s part octets opened name) (calls.not_renamed s part octets opened name)

  pub linked : (part name octets : List ℕ) → IsOpen part (flushed octets) s → now ≡ step_of result (link part name) ∷ s → Changes (Is part) (Whole name octets) s now
  linked part name octets opened is =
      either_way (Is part) (Whole name octets) s now (link part name) result is (calls.linked s part octets opened name) (calls.not_linked s part octets opened name)

  pub taken_back : (IsPart IsName : List ℕ → Type 0) (octets name : List ℕ) → IsName name → now ≡ step_of result (remove name) ∷ s → Changes IsPart (WholeOrGone IsName octets) s now
  taken_back IsPart IsName octets name is_name is =
      either_way IsPart (WholeOrGone IsName octets) s now (remove name) result is (calls.taken_back s IsPart IsName octets name is_name) (calls.not_taken_back s IsPart IsName octets name is_name)

-- a file under another name is there still
pub named_still : {T : Type 0} (s now : List Step) (result : Result T Fault) (part name octets : List ℕ) → name ≢ part → IsNamed name octets s → now ≡ step_of result (remove part) ∷ s → IsNamed name octets now
named_still s now (Ok x) part name octets apart named is = subst (IsNamed name octets) (sym is) (calls.named_still s part name octets apart named)
named_still s now (Err Exists) part name octets apart named is = subst (IsNamed name octets) (sym is) (record { file = named.file; sole = named.sole; there = named.there; sure = named.sure })
named_still s now (Err MayPass) part name octets apart named is = subst (IsNamed name octets) (sym is) (calls.named_even s part name octets apart named)
named_still s now (Err Failed) part name octets apart named is = subst (IsNamed name octets) (sym is) (calls.named_even s part name octets apart named)

pub looked : (s now : List Step) (result : Result Bool Fault) (at : List ℕ) → now ≡ looked_by result at s → Unchanged s now
looked s now (Ok true) at is = step_is NoPath NothingNew s now (saw_folder at) is (calls.folder_sight s at)
looked s now (Ok false) at is = same_steps NoPath NothingNew s now is
looked s now (Err fault) at is = same_steps NoPath NothingNew s now is

pub read : (s now : List Step) (result : Result (Option (Vec ℕ Global)) Fault) (at : List ℕ) → now ≡ read_by result at s → Unchanged s now
read s now (Ok found) at is = step_is NoPath NothingNew s now (saw at _) is (calls.sight s at _)
read s now (Err fault) at is = same_steps NoPath NothingNew s now is

-- a folder that was made, or is there, stays once the folder above it is flushed
module _ (s mid now : List Step) (at : List ℕ) (flushed_above : now ≡ did (flush_folder (folder_of at)) ∷ mid) where
  stays_if : (state mid).stands at → (state now).stays at
  stays_if stands = subst (λ (l : List Step). (state l).stays at) (sym flushed_above) (inr (stands, refl))

  pub made_stays : mid ≡ did (make_folder at) ∷ s → (state now).stays at
  made_stays is = stays_if (subst (λ (l : List Step). (state l).stands at) (sym is) (inl refl))

  pub seen_stays : mid ≡ saw_folder at ∷ s → (state now).stays at
  seen_stays is = stays_if (subst (λ (l : List Step). (state l).stands at) (sym is) (inl refl))
