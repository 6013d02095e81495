-- A folder that stays goes on staying.
use Rattle.std.proofs.Common.{◌≡◌, inl, ⊎_elim, ℕ, ◌<◌, true, false, ◌||◌, ◌==◌, List, [], ◌∷◌, ◌++◌, length, take, get_or, Option, sym, ap, subst, arith, eqb-true}
use Rattle.std.specs.List.{list_any}
use Rattle.std.proofs.Math.ListN.{get_or-eq_default}
use Rattle.std.proofs.lemmas.Bool.{cases_lt}
use Rattle.std.proofs.lemmas.List.Folds.{list_any_at}
use Rattle.disk.specs.Steps.{Call, Step, is_slash}
use Rattle.disk.specs.Steps.Call.{create, append, flush, rename, link, remove, make_folder, flush_folder}
use Rattle.disk.specs.Steps.Step.{did, tried, refused, saw, saw_folder, cut}
use Rattle.disk.specs.Crash.{state, staying, OnPath}
use Rattle.disk.specs.Promise.{Changes, IsReached}

still : (call : Call) (stands stays : List ℕ → Type 0) (folder : List ℕ) → stays folder → staying call stands stays folder
still (create path) stands stays folder was = was
still (append octets) stands stays folder was = was
still flush stands stays folder was = was
still (rename from to) stands stays folder was = was
still (link from to) stands stays folder was = was
still (remove path) stands stays folder was = was
still (make_folder path) stands stays folder was = was
still (flush_folder path) stands stays folder was = inl was

pub stays_more : (more steps : List Step) (folder : List ℕ) → (state steps).stays folder → (state (more ++ steps)).stays folder
stays_more [] steps folder was = was
stays_more (did call ∷ more) steps folder was = still call _ _ folder (stays_more more steps folder was)
stays_more (tried call ∷ more) steps folder was = stays_more more steps folder was
stays_more (refused call ∷ more) steps folder was = stays_more more steps folder was
stays_more (saw at found ∷ more) steps folder was = stays_more more steps folder was
stays_more (saw_folder at ∷ more) steps folder was = stays_more more steps folder was
stays_more (cut ∷ more) steps folder was = stays_more more steps folder was

module _ (IsPart : List ℕ → Type 0) (IsNew : List ℕ → Option (List ℕ) → Type 0) (before now : List Step) (changes : Changes IsPart IsNew before now) where
  pub stays_later : (folder : List ℕ) → (state before).stays folder → (state now).stays folder
  stays_later folder was = subst (λ (l : List Step). (state l).stays folder) (sym changes.moments.steps) (stays_more changes.moments.more before folder was)

  pub reached_later : (path : List ℕ) → IsReached before path → IsReached now path
  reached_later path reached end slash = stays_later (take end path) (reached end slash)

-- a slash stands within the path
pub slash_within : (path : List ℕ) (end : ℕ) → is_slash (get_or path end 0) ≡ true → end < length path
slash_within path end slash = ⊎_elim (λ within. within)
    (λ beyond. let zero : get_or path end 0 ≡ 0 = get_or-eq_default path 0 beyond in
    let is : get_or path end 0 ≡ 47 = eqb-true _ _ slash in absurd (omega arith))
    (cases_lt end (length path))

-- a name with no slash has no folder on its path
pub plain_reached : (P : List ℕ → Type 0) (name : List ℕ) → list_any (λ octet. octet == 47 || octet == 0) name ≡ false → OnPath P name
plain_reached P name none end slash =
    let is : get_or name end 0 ≡ 47 = eqb-true _ _ slash in
    let some : list_any (λ octet. octet == 47 || octet == 0) name ≡ true =
    list_any_at (λ octet. octet == 47 || octet == 0) name end 0 (slash_within name end slash) (ap (λ octet. octet == 47 || octet == 0) is) in
    absurd (cc)
