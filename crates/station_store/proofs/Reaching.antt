-- The folders on a path are reached, one after the other.
use Rattle.std.proofs.Common.{◌≡◌, inl, inr, ⊎_elim, ℕ, ◌+◌, ◌<◌, ◌≤◌, Bool, true, false, cond, List, ◌∷◌, length, take, get_or, Some, None, Result, Ok, Err, OnOk, refl, sym, subst, arith}
use Rattle.std.proofs.lemmas.Bool.{cases_lt}
use Rattle.disk.specs.declared.device.Fault.{Fault}
use Rattle.disk.specs.Steps.{Step, step_of, folder_of, is_slash}
use Rattle.disk.specs.Steps.Call.{make_folder, flush_folder}
use Rattle.disk.specs.Steps.Step.{saw_folder}
use Rattle.disk.specs.Promise.{IsReached, NoPath, NothingNew, Unchanged}
use Rattle.disk.proofs.Moments.{nothing_yet, then}
use Rattle.disk.proofs.Reach.{reached_later, slash_within, stays_later}
use Rattle.disk.proofs.Answered as answered
use Rattle.whole_files.specs.Wholes.{folder_at}
use Rattle.station_store.specs.Folders.{stands, stays}

-- ---- one folder

pub both : (before mid now : List Step) → Unchanged before mid → Unchanged mid now → Unchanged before now
both before mid now one two = then NoPath NothingNew before mid now one two

pub made_stands : {T : Type 0} (before now : List Step) (answer : Result T Fault) (x : T) (folder : List ℕ) → answer ≡ Ok x → now ≡ step_of answer (make_folder folder) ∷ before → stands now folder
made_stands before now answer x folder ok is = subst (λ (l : List Step). stands l folder) (sym (answered.did_it before now answer (make_folder folder) x ok is)) (inl refl)

pub seen_stands : (before now : List Step) (folder : List ℕ) → now ≡ saw_folder folder ∷ before → stands now folder
seen_stands before now folder is = subst (λ (l : List Step). stands l folder) (sym is) (inl refl)

pub flushed_stays : {T : Type 0} (answer : Result T Fault) (mid now : List Step) (folder : List ℕ) → now ≡ step_of answer (flush_folder (folder_of folder)) ∷ mid → stands mid folder → OnOk answer (stays now folder)
flushed_stays (Ok x) mid now folder is there = subst (λ (l : List Step). stays l folder) (sym is) (inr (there, refl))
flushed_stays (Err fault) mid now folder is there = tt

pub flushes_then : {T : Type 0} (answer : Result T Fault) (before mid now : List Step) (folder : List ℕ) → Unchanged before mid → now ≡ step_of answer (flush_folder (folder_of folder)) ∷ mid → Unchanged before now
flushes_then answer before mid now folder same is = both before mid now same (answered.folder_flushed mid now answer (folder_of folder) is)

pub stays_still : (before now : List Step) (folder : List ℕ) → Unchanged before now → stays before folder → stays now folder
stays_still before now folder same was = stays_later NoPath NothingNew before now same folder was

-- ---- the folder that ends at a slash

found_folder : (path folder : List ℕ) (end : ℕ) → Some folder ≡ folder_at path end → folder ≡ take end path
found_folder path folder end is = by (is_slash (get_or path end 0)) is
  where
    by : (slash : Bool) → Some folder ≡ cond slash (Some (take end path)) None → folder ≡ take end path
    by true at = cc
    by false at = absurd cc

pub known_stays : (known folder : List ℕ) (end : ℕ) (now : List Step) → IsReached now known → folder_at known end ≡ Some folder → stays now folder
known_stays known folder end now reached is = by (is_slash (get_or known end 0)) refl is
  where
    by : (slash : Bool) → is_slash (get_or known end 0) ≡ slash → cond slash (Some (take end known)) None ≡ Some folder → stays now folder
    by true slash at = let same : take end known ≡ folder = cc in subst (stays now) same (reached end slash)
    by false slash at = absurd cc

-- ---- all of them

pub record IsReaching (known path : List ℕ) (end : ℕ) (before now : List Step) : Type 0 where
  pub same : Unchanged before now
  pub known_reached : IsReached now known
  pub so_far : (at : ℕ) → at < end → is_slash (get_or path at 0) ≡ true → stays now (take at path)

pub none_reached : (known path : List ℕ) (before : List Step) → IsReached before known → IsReaching known path 0 before before
none_reached known path before reached = record { same = nothing_yet NoPath NothingNew before; known_reached = reached; so_far = λ at below. absurd (omega (arith, below)) }

module _ (known path : List ℕ) (end : ℕ) (before mid : List Step) (reaching : IsReaching known path end before mid) where
  pub no_folder : None ≡ folder_at path end → IsReaching known path (end + 1) before mid
  no_folder is = record { same = reaching.same; known_reached = reaching.known_reached; so_far = so_far }
    where
      never : is_slash (get_or path end 0) ≡ true → ⊥
      never slash = let at : None ≡ cond true (Some (take end path)) None = subst (λ b. None ≡ cond b (Some (take end path)) None) slash is in cc

      so_far : (at : ℕ) → at < end + 1 → is_slash (get_or path at 0) ≡ true → stays mid (take at path)
      so_far at below slash = ⊎_elim (λ earlier. reaching.so_far at earlier slash)
          (λ last. let here : at ≡ end = omega (arith, below, last) in absurd (never (subst (λ (n : ℕ). is_slash (get_or path n 0) ≡ true) here slash)))
          (cases_lt at end)

  pub one_reached : (now : List Step) (folder : List ℕ) → Unchanged mid now → Some folder ≡ folder_at path end → stays now folder → IsReaching known path (end + 1) before now
  one_reached now folder more is there = record {
    same = both before mid now reaching.same more;
    known_reached = reached_later NoPath NothingNew mid now more known reaching.known_reached;
    so_far = so_far;
  }
    where
      so_far : (at : ℕ) → at < end + 1 → is_slash (get_or path at 0) ≡ true → stays now (take at path)
      so_far at below slash = ⊎_elim (λ earlier. stays_still mid now (take at path) more (reaching.so_far at earlier slash))
          (λ last. let here : at ≡ end = omega (arith, below, last) in subst (λ (n : ℕ). stays now (take n path)) (sym here) (subst (stays now) (found_folder path folder end is) there))
          (cases_lt at end)

  pub all_reached : length path ≤ end → IsReached mid path
  all_reached all at slash = reaching.so_far at (omega (arith, all, slash_within path at slash)) slash
