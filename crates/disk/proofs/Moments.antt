-- Changes, one after the other.
use Rattle.std.proofs.Common.{◌≡◌, inl, inr, ⊎_elim, ℕ, List, [], ◌∷◌, ◌++◌, Option, refl, sym, ◌∙◌, subst, append_assoc}
use Rattle.disk.specs.Steps.{Step}
use Rattle.disk.specs.Crash.{MayFind}
use Rattle.disk.specs.Promise.{OldOrNew, AtEach, AtEachMoment, Changes, NoPath, NothingNew, Unchanged}

-- P at the last moment
pub at_end : (P : List Step → Type 0) (before now : List Step) → AtEachMoment P before now → P now
at_end P before now moments = ends moments.more moments.steps moments.each
  where
    ends : (more : List Step) → now ≡ more ++ before → AtEach P more before → P now
    ends [] is each = subst P (sym is) each
    ends (step ∷ more) is each = subst P (sym is) each.0

pub map_each : (P Q : List Step → Type 0) → ((steps : List Step) → P steps → Q steps) → (more before : List Step) → AtEach P more before → AtEach Q more before
map_each P Q to [] before each = to before each
map_each P Q to (step ∷ more) before each = (to (step ∷ more ++ before) each.0, map_each P Q to more before each.1)

module _ (IsPart : List ℕ → Type 0) (IsNew : List ℕ → Option (List ℕ) → Type 0) where
  pub nothing_yet : (now : List Step) → Changes IsPart IsNew now now
  nothing_yet now = record { moments = record { more = []; steps = refl; each = λ path found other may. inl may } }

  pub same_steps : (before now : List Step) → now ≡ before → Changes IsPart IsNew before now
  same_steps before now is = subst (Changes IsPart IsNew before) (sym is) (nothing_yet before)

  joined : (first more before : List Step) → AtEach (OldOrNew IsPart IsNew (first ++ before)) more (first ++ before) → AtEach (OldOrNew IsPart IsNew before) first before
      → AtEach (OldOrNew IsPart IsNew before) (more ++ first) before
  joined first [] before each earlier = earlier
  joined first (step ∷ more) before each earlier = (here, joined first more before each.1 earlier)
    where
      end : OldOrNew IsPart IsNew before (first ++ before)
      end = at_end (OldOrNew IsPart IsNew before) before (first ++ before) (record { more = first; steps = refl; each = earlier })

      here : OldOrNew IsPart IsNew before (step ∷ ((more ++ first) ++ before))
      here path found other may = ⊎_elim (end path found other) (λ new. inr new)
          (each.0 path found other (subst (λ (l : List Step). MayFind (step ∷ l) path found) (append_assoc more first before) may))

  pub then : (before mid now : List Step) → Changes IsPart IsNew before mid → Changes IsPart IsNew mid now → Changes IsPart IsNew before now
  then before mid now one two =
      let both = λ (l : List Step). Changes IsPart IsNew l now in
      let later : both (one.moments.more ++ before) = subst both one.moments.steps two in
      record {
        moments = record {
          more = later.moments.more ++ one.moments.more;
          steps = later.moments.steps ∙ sym (append_assoc later.moments.more one.moments.more before);
          each = joined one.moments.more later.moments.more before later.moments.each one.moments.each;
        };
      }

  pub step : (before : List Step) (one : Step) → OldOrNew IsPart IsNew before (one ∷ before) → Changes IsPart IsNew before (one ∷ before)
  step before one here = record { moments = record { more = one ∷ []; steps = refl; each = (here, λ path found other may. inl may) } }

  pub step_is : (before now : List Step) (one : Step) → now ≡ one ∷ before → OldOrNew IsPart IsNew before (one ∷ before) → Changes IsPart IsNew before now
  step_is before now one is here = subst (Changes IsPart IsNew before) (sym is) (step before one here)

  pub end_of : (before now : List Step) → Changes IsPart IsNew before now → OldOrNew IsPart IsNew before now
  end_of before now changes = at_end (OldOrNew IsPart IsNew before) before now changes.moments

pub wider : (P Q : List ℕ → Type 0) (M N : List ℕ → Option (List ℕ) → Type 0) → ((path : List ℕ) → P path → Q path) → ((path : List ℕ) (found : Option (List ℕ)) → M path found → N path found)
    → (before now : List Step) → Changes P M before now → Changes Q N before now
wider P Q M N to also before now changes = record {
  moments = record {
    more = changes.moments.more;
    steps = changes.moments.steps;
    each = map_each (OldOrNew P M before) (OldOrNew Q N before) (λ steps each path found other may. ⊎_elim (λ old. inl old) (λ new. inr (also path found new)) (each path found (λ is. other (to path is)) may)) changes.moments.more before changes.moments.each;
  };
}

pub of_unchanged : (P : List ℕ → Type 0) (N : List ℕ → Option (List ℕ) → Type 0) (before now : List Step) → Unchanged before now → Changes P N before now
of_unchanged P N before now same = wider NoPath P NothingNew N (λ path no. absurd no) (λ path found no. absurd no) before now same
