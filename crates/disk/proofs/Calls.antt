-- What each call of a store leaves of a disk.
use Rattle.std.proofs.Common.{◌≡◌, ◌≢◌, ◌⊎◌, inl, inr, ⊎_elim, ℕ, List, [], ◌∷◌, Option, Some, None, refl, sym, ap, subst}
use Rattle.disk.specs.Steps.{Call, Step, folder_of}
use Rattle.disk.specs.Steps.Call.{create, append, flush, rename, link, remove, make_folder, flush_folder}
use Rattle.disk.specs.Steps.Step.{did, tried, refused, saw, saw_folder, cut}
use Rattle.disk.specs.Crash.{Content, Entry, state, shut_as, shutting, either, appended, settled, left, Leaves, MayFind, OnPath}
use Rattle.disk.specs.Crash.Content.{written, flushed, unknown}
use Rattle.disk.specs.Crash.Entry.{nothing, open_file, shut}
use Rattle.disk.specs.Promise.{HoldsAfterCut, IsReached, OldOrNew, Is, NoPath, NothingNew, Whole, WholeOrGone}
use Rattle.disk.specs.Parts.{IsOpen, IsNamed}

-- a file that was shut leaves what it left when it was open
pub left_before : (content last : Content) (before : Entry) (found : Option (List ℕ)) → Leaves last (shut_as content before) found → Leaves content before found
left_before content last nothing found is = is
left_before content last open_file None is = is
left_before content last open_file (Some octets) is = is
left_before content last (shut other) None is = is
left_before content last (shut other) (Some octets) is = is

-- a flushed file leaves its octets
pub left_whole : (octets : List ℕ) (found : Option (List ℕ)) → Leaves (flushed octets) open_file found → found ≡ Some octets
left_whole octets None is = absurd is
left_whole octets (Some other) is = ap Some is

-- what an entry other than the open file leaves
pub left_other : (last now : Content) (entry : Entry) (found : Option (List ℕ)) → (entry ≡ open_file → ⊥) → Leaves now entry found → Leaves last entry found
left_other last now nothing found other is = is
left_other last now open_file found other is = absurd (other refl)
left_other last now (shut content) None other is = is
left_other last now (shut content) (Some octets) other is = is

pub never_open : (content : Content) (before : Entry) → open_file ≡ shut_as content before → ⊥
never_open content nothing is = cc
never_open content open_file is = cc
never_open content (shut other) is = cc

pub once : {A B : Type 0} → A ⊎ (A ⊎ B) → A ⊎ B
once (inl a) = inl a
once (inr both) = both

pub twice : {A B : Type 0} → (A ⊎ A) ⊎ (A ⊎ B) → A ⊎ B
twice (inl (inl a)) = inl a
twice (inl (inr a)) = inl a
twice (inr both) = both

module _ (s : List Step) where
  pub refusal : (call : Call) → OldOrNew NoPath NothingNew s (refused call ∷ s)
  refusal call path found other may = inl (record { entry = may.entry; named = may.named; leaves = may.leaves })

  pub sight : (at : List ℕ) (here : Option (List ℕ)) → OldOrNew NoPath NothingNew s (saw at here ∷ s)
  sight at here path found other may = inl (record { entry = may.entry; named = may.named; leaves = may.leaves })

  pub folder_sight : (at : List ℕ) → OldOrNew NoPath NothingNew s (saw_folder at ∷ s)
  folder_sight at path found other may = inl (record { entry = may.entry; named = may.named; leaves = may.leaves })

  pub folder_made : (at : List ℕ) → OldOrNew NoPath NothingNew s (did (make_folder at) ∷ s)
  folder_made at path found other may = inl (record { entry = may.entry; named = ⊎_elim (λ here. inl (once here)) (λ gone. inr gone) may.named; leaves = may.leaves })

  pub folder_tried : (at : List ℕ) → OldOrNew NoPath NothingNew s (tried (make_folder at) ∷ s)
  folder_tried at path found other may = inl (record { entry = may.entry; named = ⊎_elim (λ here. inl (twice here)) (λ gone. inr gone) may.named; leaves = may.leaves })

  pub folder_flushed : (at : List ℕ) → OldOrNew NoPath NothingNew s (did (flush_folder at) ∷ s)
  folder_flushed at path found other may = inl (record {
    entry = may.entry;
    named = ⊎_elim (⊎_elim (λ now. inl (inl now)) (λ had. inl had.1)) (λ gone. inr (gone.0, λ all. gone.1 (λ end slash. inl (all end slash)))) may.named;
    leaves = may.leaves;
  })

  pub folder_unflushed : (at : List ℕ) → OldOrNew NoPath NothingNew s (tried (flush_folder at) ∷ s)
  folder_unflushed at path found other may = inl (record { entry = may.entry; named = ⊎_elim (λ here. inl (twice here)) (λ gone. inr gone) may.named; leaves = may.leaves })

  -- what was shut was there before
  shut_old : (path : List ℕ) (entry : Entry) (last : Content) (found : Option (List ℕ)) → shutting (state s).file (either (state s).has (state s).had) path entry → Leaves last entry found → MayFind s path found
  shut_old path entry last found was is = record {
    entry = was.0;
    named = inl was.1;
    leaves = left_before (state s).file last was.0 found (subst (λ (e : Entry). Leaves last e found) was.2 is);
  }

  gone_old : (path : List ℕ) (entry : Entry) (last : Content) (found : Option (List ℕ)) → (entry ≡ nothing) × ¬ (OnPath (state s).stays path) → Leaves last entry found → MayFind s path found
  gone_old path entry last found gone is = record { entry = nothing; named = inr (refl, gone.1); leaves = subst (λ (e : Entry). Leaves last e found) gone.0 is }

  pub cut_off : OldOrNew NoPath NothingNew s (cut ∷ s)
  cut_off path found other may = inl (was may.entry may.named may.leaves)
    where
      was : (entry : Entry) → left (state (cut ∷ s)) path entry → Leaves unknown entry found → MayFind s path found
      was entry (inl (inl shut_one)) is = record {
        entry = shut_one.0;
        named = shut_one.1;
        leaves = left_before (state s).file unknown shut_one.0 found (subst (λ (e : Entry). Leaves unknown e found) shut_one.2 is);
      }
      was entry (inl (inr never)) is = absurd never
      was entry (inr gone) is = gone_old path entry unknown found gone is

  module _ (part : List ℕ) where
    pub created : (IsNew : List ℕ → Option (List ℕ) → Type 0) → OldOrNew (Is part) IsNew s (did (create part) ∷ s)
    created IsNew path found other may = inl (was may.entry may.named may.leaves)
      where
        was : (entry : Entry) → left (state (did (create part) ∷ s)) path entry → Leaves (written []) entry found → MayFind s path found
        was entry (inl (inl (inl here))) is = absurd (other here.0)
        was entry (inl (inl (inr there))) is = shut_old path entry (written []) found (there.1.0, inl there.1.1, there.1.2) is
        was entry (inl (inr before)) is = shut_old path entry (written []) found before is
        was entry (inr gone) is = gone_old path entry (written []) found gone is

    pub not_created : (IsNew : List ℕ → Option (List ℕ) → Type 0) → OldOrNew (Is part) IsNew s (tried (create part) ∷ s)
    not_created IsNew path found other may = inl (was may.entry may.named may.leaves)
      where
        was : (entry : Entry) → left (state (tried (create part) ∷ s)) path entry → Leaves unknown entry found → MayFind s path found
        was entry (inl (inl (inl met))) is = shut_old path entry unknown found (met.0, inl met.1, met.2) is
        was entry (inl (inl (inr (inl here)))) is = absurd (other here.0)
        was entry (inl (inl (inr (inr there)))) is = shut_old path entry unknown found (there.1.0, inl there.1.1, there.1.2) is
        was entry (inl (inr before)) is = shut_old path entry unknown found before is
        was entry (inr gone) is = gone_old path entry unknown found gone is

    pub is_open : IsOpen part (written []) (did (create part) ∷ s)
    is_open = record {
      file = refl;
      sole = λ entry has. ⊎_elim (λ here. here.1) (λ there. absurd (there.0 refl)) has;
      there = inl (refl, refl);
      alone = λ path apart now. ⊎_elim
          (⊎_elim (⊎_elim (λ here. absurd (apart here.0)) (λ there. never_open _ there.1.0 there.1.2)) (λ before. never_open _ before.0 before.2))
          (λ gone. let no = gone.0 in cc)
          now;
    }

    module _ (content : Content) (opened : IsOpen part content s) where
      -- the open file changed, which no other path stands for
      other_old : (IsNew : List ℕ → Option (List ℕ) → Type 0) (now : Content) (path : List ℕ) (found : Option (List ℕ)) (entry : Entry) → path ≢ part → left (state s) path entry → Leaves now entry found
          → MayFind s path found ⊎ IsNew path found
      other_old IsNew now path found entry apart named is = inl (record {
        entry = entry;
        named = named;
        leaves = left_other (state s).file now entry found (λ is_open. opened.alone path apart (subst (λ (e : Entry). left (state s) path e) is_open named)) is;
      })

      pub appends : (octets : List ℕ) (IsNew : List ℕ → Option (List ℕ) → Type 0) → OldOrNew (Is part) IsNew s (did (append octets) ∷ s)
      appends octets IsNew path found other may = other_old IsNew _ path found may.entry other (⊎_elim (λ here. inl (once here)) (λ gone. inr gone) may.named) may.leaves

      pub not_appended : (octets : List ℕ) (IsNew : List ℕ → Option (List ℕ) → Type 0) → OldOrNew (Is part) IsNew s (tried (append octets) ∷ s)
      not_appended octets IsNew path found other may = other_old IsNew _ path found may.entry other (⊎_elim (λ here. inl (twice here)) (λ gone. inr gone) may.named) may.leaves

      pub flushes : (IsNew : List ℕ → Option (List ℕ) → Type 0) → OldOrNew (Is part) IsNew s (did flush ∷ s)
      flushes IsNew path found other may = other_old IsNew _ path found may.entry other (⊎_elim (λ here. inl (once here)) (λ gone. inr gone) may.named) may.leaves

      pub not_flushed : (IsNew : List ℕ → Option (List ℕ) → Type 0) → OldOrNew (Is part) IsNew s (tried flush ∷ s)
      not_flushed IsNew path found other may = other_old IsNew _ path found may.entry other (⊎_elim (λ here. inl (twice here)) (λ gone. inr gone) may.named) may.leaves

      pub has_octets : (octets : List ℕ) → IsOpen part (appended octets content) (did (append octets) ∷ s)
      has_octets octets = record {
        file = ap (appended octets) opened.file;
        sole = opened.sole;
        there = opened.there;
        alone = λ path apart now. opened.alone path apart (⊎_elim (λ here. inl (once here)) (λ gone. inr gone) now);
      }

    pub is_flushed : (octets : List ℕ) → IsOpen part (written octets) s → IsOpen part (flushed octets) (did flush ∷ s)
    is_flushed octets opened = record {
      file = subst (λ (c : Content). settled c ≡ flushed octets) (sym opened.file) refl;
      sole = opened.sole;
      there = opened.there;
      alone = λ path apart now. opened.alone path apart (⊎_elim (λ here. inl (once here)) (λ gone. inr gone) now);
    }

    module _ (octets : List ℕ) (opened : IsOpen part (flushed octets) s) (name : List ℕ) where
      -- the open file under the name is new
      is_new : (path : List ℕ) (found : Option (List ℕ)) (entry : Entry) → path ≡ name → (state s).has part entry → Leaves (state s).file entry found → Whole name octets path found
      is_new path found entry at has is = (at, left_whole octets found (subst (λ (c : Content). Leaves c open_file found) opened.file (subst (λ (e : Entry). Leaves (state s).file e found) (opened.sole entry has) is)))

      pub renamed : OldOrNew (Is part) (Whole name octets) s (did (rename part name) ∷ s)
      renamed path found other may = was may.entry may.named may.leaves
        where
          was : (entry : Entry) → left (state (did (rename part name) ∷ s)) path entry → Leaves (state s).file entry found → MayFind s path found ⊎ Whole name octets path found
          was entry (inl (inl (inl here))) is = inr (is_new path found entry here.0 here.1 is)
          was entry (inl (inl (inr (apart, inl at_part)))) is = absurd (other at_part.0)
          was entry (inl (inl (inr (apart, inr there)))) is = inl (record { entry = entry; named = inl (inl there.1); leaves = is })
          was entry (inl (inr before)) is = inl (record { entry = entry; named = inl before; leaves = is })
          was entry (inr gone) is = inl (record { entry = entry; named = inr gone; leaves = is })

      pub not_renamed : OldOrNew (Is part) (Whole name octets) s (tried (rename part name) ∷ s)
      not_renamed path found other may = was may.entry may.named may.leaves
        where
          was : (entry : Entry) → left (state (tried (rename part name) ∷ s)) path entry → Leaves (state s).file entry found → MayFind s path found ⊎ Whole name octets path found
          was entry (inl (inl (inl now))) is = inl (record { entry = entry; named = inl (inl now); leaves = is })
          was entry (inl (inl (inr (inl here)))) is = inr (is_new path found entry here.0 here.1 is)
          was entry (inl (inl (inr (inr (apart, inl at_part))))) is = absurd (other at_part.0)
          was entry (inl (inl (inr (inr (apart, inr there))))) is = inl (record { entry = entry; named = inl (inl there.1); leaves = is })
          was entry (inl (inr before)) is = inl (record { entry = entry; named = inl before; leaves = is })
          was entry (inr gone) is = inl (record { entry = entry; named = inr gone; leaves = is })

      pub linked : OldOrNew (Is part) (Whole name octets) s (did (link part name) ∷ s)
      linked path found other may = was may.entry may.named may.leaves
        where
          was : (entry : Entry) → left (state (did (link part name) ∷ s)) path entry → Leaves (state s).file entry found → MayFind s path found ⊎ Whole name octets path found
          was entry (inl (inl (inl here))) is = inr (is_new path found entry here.0 here.1 is)
          was entry (inl (inl (inr there))) is = inl (record { entry = entry; named = inl (inl there.1); leaves = is })
          was entry (inl (inr before)) is = inl (record { entry = entry; named = inl before; leaves = is })
          was entry (inr gone) is = inl (record { entry = entry; named = inr gone; leaves = is })

      pub not_linked : OldOrNew (Is part) (Whole name octets) s (tried (link part name) ∷ s)
      not_linked path found other may = was may.entry may.named may.leaves
        where
          was : (entry : Entry) → left (state (tried (link part name) ∷ s)) path entry → Leaves (state s).file entry found → MayFind s path found ⊎ Whole name octets path found
          was entry (inl (inl (inl now))) is = inl (record { entry = entry; named = inl (inl now); leaves = is })
          was entry (inl (inl (inr (inl here)))) is = inr (is_new path found entry here.0 here.1 is)
          was entry (inl (inl (inr (inr there)))) is = inl (record { entry = entry; named = inl (inl there.1); leaves = is })
          was entry (inl (inr before)) is = inl (record { entry = entry; named = inl before; leaves = is })
          was entry (inr gone) is = inl (record { entry = entry; named = inr gone; leaves = is })

      pub named_by_rename : IsNamed name octets (did (rename part name) ∷ s)
      named_by_rename = record {
        file = opened.file;
        sole = λ entry has. ⊎_elim (λ here. opened.sole entry here.1) (λ there. absurd (there.0 refl)) has;
        there = inl (refl, opened.there);
        sure = λ doubted. doubted.1 refl;
      }

      pub named_by_link : IsNamed name octets (did (link part name) ∷ s)
      named_by_link = record {
        file = opened.file;
        sole = λ entry has. ⊎_elim (λ here. opened.sole entry here.1) (λ there. absurd (there.0 refl)) has;
        there = inl (refl, opened.there);
        sure = λ doubted. doubted.0 refl;
      }

    pub removed : (IsNew : List ℕ → Option (List ℕ) → Type 0) → OldOrNew (Is part) IsNew s (did (remove part) ∷ s)
    removed IsNew path found other may = inl (record {
      entry = may.entry;
      named = ⊎_elim (⊎_elim (⊎_elim (λ here. absurd (other here.0)) (λ there. inl (inl there.1))) (λ before. inl before)) (λ gone. inr gone) may.named;
      leaves = may.leaves;
    })

    pub not_removed : (IsNew : List ℕ → Option (List ℕ) → Type 0) → OldOrNew (Is part) IsNew s (tried (remove part) ∷ s)
    not_removed IsNew path found other may = inl (record {
      entry = may.entry;
      named = ⊎_elim (⊎_elim (⊎_elim (λ now. inl (inl now)) (⊎_elim (λ here. absurd (other here.0)) (λ there. inl (inl there.1)))) (λ before. inl before)) (λ gone. inr gone) may.named;
      leaves = may.leaves;
    })

    module _ (name octets : List ℕ) (apart : name ≢ part) (named : IsNamed name octets s) where
      pub named_still : IsNamed name octets (did (remove part) ∷ s)
      named_still = record {
        file = named.file;
        sole = λ entry has. ⊎_elim (λ here. absurd (apart here.0)) (λ there. named.sole entry there.1) has;
        there = inr (apart, named.there);
        sure = λ doubted. named.sure doubted.1;
      }

      pub named_even : IsNamed name octets (tried (remove part) ∷ s)
      named_even = record {
        file = named.file;
        sole = λ entry has. ⊎_elim (named.sole entry) (⊎_elim (λ here. absurd (apart here.0)) (λ there. named.sole entry there.1)) has;
        there = inl named.there;
        sure = named.sure;
      }

  -- a copy that is taken back: nothing stands there
  module _ (IsPart : List ℕ → Type 0) (IsName : List ℕ → Type 0) (octets name : List ℕ) (is_name : IsName name) where
    at_name : (path : List ℕ) (found : Option (List ℕ)) (entry : Entry) → path ≡ name → entry ≡ nothing → Leaves (state s).file entry found → WholeOrGone IsName octets path found
    at_name path found entry at none is = (subst IsName (sym at) is_name, inr (subst (λ (e : Entry). Leaves (state s).file e found) none is))

    pub taken_back : OldOrNew IsPart (WholeOrGone IsName octets) s (did (remove name) ∷ s)
    taken_back path found other may = was may.entry may.named may.leaves
      where
        was : (entry : Entry) → left (state (did (remove name) ∷ s)) path entry → Leaves (state s).file entry found → MayFind s path found ⊎ WholeOrGone IsName octets path found
        was entry (inl (inl (inl here))) is = inr (at_name path found entry here.0 here.1 is)
        was entry (inl (inl (inr there))) is = inl (record { entry = entry; named = inl (inl there.1); leaves = is })
        was entry (inl (inr before)) is = inl (record { entry = entry; named = inl before; leaves = is })
        was entry (inr gone) is = inl (record { entry = entry; named = inr gone; leaves = is })

    pub not_taken_back : OldOrNew IsPart (WholeOrGone IsName octets) s (tried (remove name) ∷ s)
    not_taken_back path found other may = was may.entry may.named may.leaves
      where
        was : (entry : Entry) → left (state (tried (remove name) ∷ s)) path entry → Leaves (state s).file entry found → MayFind s path found ⊎ WholeOrGone IsName octets path found
        was entry (inl (inl (inl now))) is = inl (record { entry = entry; named = inl (inl now); leaves = is })
        was entry (inl (inl (inr (inl here)))) is = inr (at_name path found entry here.0 here.1 is)
        was entry (inl (inl (inr (inr there)))) is = inl (record { entry = entry; named = inl (inl there.1); leaves = is })
        was entry (inl (inr before)) is = inl (record { entry = entry; named = inl before; leaves = is })
        was entry (inr gone) is = inl (record { entry = entry; named = inr gone; leaves = is })

  -- the folder of a named file is flushed
  module _ (name octets : List ℕ) (named : IsNamed name octets s) (reached : IsReached s name) where
    abbrev done : List Step
    done = did (flush_folder (folder_of name)) ∷ s

    whole : (found : Option (List ℕ)) (entry : Entry) → (state s).has name entry → Leaves (state s).file entry found → found ≡ Some octets
    whole found entry has is = left_whole octets found (subst (λ (c : Content). Leaves c open_file found) named.file (subst (λ (e : Entry). Leaves (state s).file e found) (named.sole entry has) is))

    pub holds : HoldsAfterCut done name octets
    holds = record {
      only = λ found may. ⊎_elim
          (⊎_elim (λ has. whole found may.entry has may.leaves) (λ had. ⊎_elim (λ other. absurd (other refl)) (λ doubted. absurd (named.sure doubted)) had.0))
          (λ gone. absurd (gone.1 (λ end slash. inl (reached end slash))))
          may.named;
      there = record { entry = open_file; named = inl (inl named.there); leaves = subst (λ (c : Content). Leaves c open_file (Some octets)) (sym named.file) refl };
    }
