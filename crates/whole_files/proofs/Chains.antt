-- The calls of a store, one after the other.
use Rattle.std.proofs.Common.{◌≡◌, ◌≢◌, ℕ, Bool, true, false, List, [], ◌∷◌, Option, Result, Ok, Err, OnErr, OnOk, is_err, sym, subst}
use Rattle.disk.specs.declared.device.Fault.{Fault}
use Rattle.disk.specs.Steps.{Step, step_of, folder_of}
use Rattle.disk.specs.Steps.Call.{create, append, flush, rename, remove, flush_folder}
use Rattle.disk.specs.Steps.Step.{did}
use Rattle.disk.specs.Crash.Content.{written, flushed}
use Rattle.disk.specs.Promise.{Changes, Is, IsReached, NothingNew, Whole}
use Rattle.disk.specs.Parts.{IsKept, IsOpen}
use Rattle.disk.proofs.Moments.{then, wider, of_unchanged}
use Rattle.disk.proofs.Calls as calls
use Rattle.disk.proofs.Kept as kept
use Rattle.disk.proofs.Reach.{reached_later}
use Rattle.disk.proofs.Answered as answered

-- nothing new is anything
pub to_any : (P : List ℕ → Type 0) (N : List ℕ → Option (List ℕ) → Type 0) (before now : List Step) → Changes P NothingNew before now → Changes P N before now
to_any P N before now changes = wider P P NothingNew N (λ path is. is) (λ path found never. absurd never) before now changes

pub opens : {T : Type 0} (before now : List Step) (answer : Result T Fault) (x : T) (part : List ℕ) → answer ≡ Ok x → now ≡ step_of answer (create part) ∷ before → IsOpen part (written []) now
opens before now answer x part ok is = subst (IsOpen part (written [])) (sym (answered.did_it before now answer (create part) x ok is)) (calls.is_open before part)

module _ {T : Type 0} (part octets : List ℕ) (before mid now : List Step) (opened : IsOpen part (written []) before) where
  is_filled : (one : Result T Fault) (x : T) → one ≡ Ok x → mid ≡ step_of one (append octets) ∷ before → IsOpen part (written octets) mid
  is_filled one x ok first = subst (IsOpen part (written octets)) (sym (answered.did_it before mid one (append octets) x ok first)) (calls.has_octets before part (written []) opened octets)

  pub fills : {U : Type 0} (one : Result T Fault) (x : T) → one ≡ Ok x → mid ≡ step_of one (append octets) ∷ before → (two : Result U Fault) → now ≡ step_of two flush ∷ mid → Changes (Is part) NothingNew before now
  fills one x ok first two second = then (Is part) NothingNew before mid now (answered.appends before mid one part NothingNew (written []) octets opened first)
      (answered.flushes mid now two part NothingNew (written octets) (is_filled one x ok first) second)

module _ {T U : Type 0} (part path octets : List ℕ) (before mid now : List Step) (opened : IsOpen part (flushed octets) before) (one : Result T Fault) (named : mid ≡ step_of one (rename part path) ∷ before) (two : Result U Fault) where
  pub not_put : now ≡ step_of two (remove part) ∷ mid → Changes (Is part) (Whole path octets) before now
  not_put is = then (Is part) (Whole path octets) before mid now (answered.renamed before mid one part path octets opened named) (answered.removed mid now two part (Whole path octets) is)

  module _ (settled : now ≡ step_of two (flush_folder (folder_of path)) ∷ mid) where
    pub puts : Changes (Is part) (Whole path octets) before now
    puts = then (Is part) (Whole path octets) before mid now (answered.renamed before mid one part path octets opened named)
        (of_unchanged (Is part) (Whole path octets) mid now (answered.folder_flushed mid now two (folder_of path) settled))

  -- a part that was named, in a folder that was flushed, is open under its name
  pub stays_open : path ≢ part → IsReached before path → is_err one ≡ false → now ≡ step_of two (flush_folder (folder_of path)) ∷ mid → OnOk two (IsKept part path (flushed octets) now)
  stays_open apart reached ok settled = by one ok named two settled
    where
      at_mid : IsReached mid path
      at_mid = reached_later (Is part) (Whole path octets) before mid (answered.renamed before mid one part path octets opened named) path reached

      by : (one : Result T Fault) → is_err one ≡ false → mid ≡ step_of one (rename part path) ∷ before → (two : Result U Fault) → now ≡ step_of two (flush_folder (folder_of path)) ∷ mid
          → OnOk two (IsKept part path (flushed octets) now)
      by (Err fault) ok is two settled = absurd cc
      by (Ok x) ok is (Err fault) settled = tt
      by (Ok x) ok is (Ok y) settled =
          let here : IsReached (did (rename part path) ∷ before) path = subst (λ (l : List Step). IsReached l path) is at_mid in
          let all : now ≡ did (flush_folder (folder_of path)) ∷ did (rename part path) ∷ before = cc in
          subst (IsKept part path (flushed octets)) (sym all) (kept.by_store before part path octets apart opened here)

pub on_err : {T E : Type 0} (P : Type 0) (result : Result T E) → P → OnErr result P
on_err P (Ok x) is = tt
on_err P (Err e) is = is
