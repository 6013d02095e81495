-- A file that holds stays while other paths are named.
use Rattle.std.proofs.Common.{◌≡◌, inl, inr, ⊎_elim, ℕ, List, [], ◌∷◌, ◌++◌, Option, Some, refl, subst}
use Rattle.disk.specs.Steps.{Call, Step}
use Rattle.disk.specs.Steps.Call.{create, append, flush, rename, link, remove, make_folder, flush_folder}
use Rattle.disk.specs.Steps.Step.{did, tried, refused, saw, saw_folder, cut}
use Rattle.disk.specs.Crash.{Content, Entry, state, left, Leaves, MayFind}
use Rattle.disk.specs.Crash.Entry.{open_file}
use Rattle.disk.specs.Promise.{HoldsAfterCut, NothingNew}
use Rattle.disk.specs.Staying.{NamesOther, IsShut, Writes, AllSpare, StaysKept}
use Rattle.disk.proofs.Calls.{cut_off, left_other, never_open, once, twice, created, not_created}

module _ (path octets : List ℕ) (steps : List Step) where
  record Held (more : List Step) : Type 0 where
    pub only : (found : Option (List ℕ)) → MayFind (more ++ steps) path found → found ≡ Some octets
    pub shut : IsShut more → left (state (more ++ steps)) path open_file → ⊥

  module _ (step : Step) (more : List Step) (held : Held more) where
    calm : (state (step ∷ more ++ steps)).file ≡ (state (more ++ steps)).file → ((entry : Entry) → left (state (step ∷ more ++ steps)) path entry → left (state (more ++ steps)) path entry)
        → (IsShut (step ∷ more) → IsShut more) → Held (step ∷ more)
    calm same back to = record {
      only = λ found may. held.only found (record { entry = may.entry; named = back may.entry may.named; leaves = subst (λ (c : Content). Leaves c may.entry found) same may.leaves });
      shut = λ is now. held.shut (to is) (back open_file now);
    }

    wrote : IsShut more → ((entry : Entry) → left (state (step ∷ more ++ steps)) path entry → left (state (more ++ steps)) path entry) → Held (step ∷ more)
    wrote is back = record {
      only = λ found may. held.only found (record {
        entry = may.entry;
        named = back may.entry may.named;
        leaves = left_other _ _ may.entry found (λ at. held.shut is (back open_file (subst (λ (e : Entry). left (state (step ∷ more ++ steps)) path e) at may.named))) may.leaves;
      });
      shut = λ _ now. held.shut is (back open_file now);
    }

  by_did : (call : Call) (more : List Step) → NamesOther path call → (Writes call → IsShut more) → Held more → Held (did call ∷ more)
  by_did (create at) more other wrote_to held = record {
    only = λ found may. ⊎_elim (held.only found) (λ new. absurd new) (created (more ++ steps) at NothingNew path found other may);
    shut = λ _ now. ⊎_elim
        (⊎_elim (⊎_elim (λ here. absurd (other here.0)) (λ there. never_open _ there.1.0 there.1.2)) (λ before. never_open _ before.0 before.2))
        (λ gone. let no = gone.0 in cc)
        now;
  }
  by_did (append more_octets) more other wrote_to held = wrote (did (append more_octets)) more held (wrote_to tt) (λ entry now. ⊎_elim (λ here. inl (once here)) (λ gone. inr gone) now)
  by_did flush more other wrote_to held = wrote (did flush) more held (wrote_to tt) (λ entry now. ⊎_elim (λ here. inl (once here)) (λ gone. inr gone) now)
  by_did (rename from to) more other wrote_to held = calm (did (rename from to)) more held refl
      (λ entry now. ⊎_elim (⊎_elim (⊎_elim (λ here. absurd (other.1 here.0)) (λ there. ⊎_elim (λ at. absurd (other.0 at.0)) (λ was. inl (inl was.1)) there.1)) (λ before. inl before)) (λ gone. inr gone) now)
      (λ is. is)
  by_did (link from to) more other wrote_to held = calm (did (link from to)) more held refl
      (λ entry now. ⊎_elim (⊎_elim (⊎_elim (λ here. absurd (other here.0)) (λ there. inl (inl there.1))) (λ before. inl before)) (λ gone. inr gone) now)
      (λ is. is)
  by_did (remove at) more other wrote_to held = calm (did (remove at)) more held refl
      (λ entry now. ⊎_elim (⊎_elim (⊎_elim (λ here. absurd (other here.0)) (λ there. inl (inl there.1))) (λ before. inl before)) (λ gone. inr gone) now)
      (λ is. is)
  by_did (make_folder at) more other wrote_to held = calm (did (make_folder at)) more held refl (λ entry now. ⊎_elim (λ here. inl (once here)) (λ gone. inr gone) now) (λ is. is)
  by_did (flush_folder at) more other wrote_to held = calm (did (flush_folder at)) more held refl
      (λ entry now. ⊎_elim (⊎_elim (λ has. inl (inl has)) (λ had. inl had.1)) (λ gone. inr (gone.0, λ all. gone.1 (λ end slash. inl (all end slash)))) now)
      (λ is. is)

  by_tried : (call : Call) (more : List Step) → NamesOther path call → (Writes call → IsShut more) → Held more → Held (tried call ∷ more)
  by_tried (create at) more other wrote_to held = record {
    only = λ found may. ⊎_elim (held.only found) (λ new. absurd new) (not_created (more ++ steps) at NothingNew path found other may);
    shut = λ _ now. ⊎_elim
        (⊎_elim
        (⊎_elim (λ met. never_open _ met.0 met.2) (⊎_elim (λ here. absurd (other here.0)) (λ there. never_open _ there.1.0 there.1.2)))
        (λ before. never_open _ before.0 before.2))
        (λ gone. let no = gone.0 in cc)
        now;
  }
  by_tried (append more_octets) more other wrote_to held = wrote (tried (append more_octets)) more held (wrote_to tt) (λ entry now. ⊎_elim (λ here. inl (twice here)) (λ gone. inr gone) now)
  by_tried flush more other wrote_to held = wrote (tried flush) more held (wrote_to tt) (λ entry now. ⊎_elim (λ here. inl (twice here)) (λ gone. inr gone) now)
  by_tried (rename from to) more other wrote_to held = calm (tried (rename from to)) more held refl
      (λ entry now. ⊎_elim
      (⊎_elim
      (⊎_elim (λ has. inl (inl has)) (⊎_elim (λ here. absurd (other.1 here.0)) (λ there. ⊎_elim (λ at. absurd (other.0 at.0)) (λ was. inl (inl was.1)) there.1)))
      (λ before. inl before))
      (λ gone. inr gone)
      now)
      (λ is. is)
  by_tried (link from to) more other wrote_to held = calm (tried (link from to)) more held refl
      (λ entry now. ⊎_elim (⊎_elim (⊎_elim (λ has. inl (inl has)) (⊎_elim (λ here. absurd (other here.0)) (λ there. inl (inl there.1)))) (λ before. inl before)) (λ gone. inr gone) now)
      (λ is. is)
  by_tried (remove at) more other wrote_to held = calm (tried (remove at)) more held refl
      (λ entry now. ⊎_elim (⊎_elim (⊎_elim (λ has. inl (inl has)) (⊎_elim (λ here. absurd (other here.0)) (λ there. inl (inl there.1)))) (λ before. inl before)) (λ gone. inr gone) now)
      (λ is. is)
  by_tried (make_folder at) more other wrote_to held = calm (tried (make_folder at)) more held refl (λ entry now. ⊎_elim (λ here. inl (twice here)) (λ gone. inr gone) now) (λ is. is)
  by_tried (flush_folder at) more other wrote_to held = calm (tried (flush_folder at)) more held refl (λ entry now. ⊎_elim (λ here. inl (twice here)) (λ gone. inr gone) now) (λ is. is)

  by_cut : (more : List Step) → Held more → Held (cut ∷ more)
  by_cut more held = record {
    only = λ found may. ⊎_elim (held.only found) (λ new. absurd new) (cut_off (more ++ steps) path found (λ never. never) may);
    shut = λ _ now. ⊎_elim (⊎_elim (λ was. never_open _ was.0 was.2) (λ no. no)) (λ gone. let no = gone.0 in cc) now;
  }

  holds : HoldsAfterCut steps path octets → (more : List Step) → AllSpare path more → Held more
  holds kept [] spared = record { only = kept.only; shut = λ no. absurd no }
  holds kept (did call ∷ more) spared = by_did call more spared.0.0 spared.0.1 (holds kept more spared.1)
  holds kept (tried call ∷ more) spared = by_tried call more spared.0.0 spared.0.1 (holds kept more spared.1)
  holds kept (refused call ∷ more) spared = calm (refused call) more (holds kept more spared.1) refl (λ entry now. now) (λ is. is)
  holds kept (saw at found ∷ more) spared = calm (saw at found) more (holds kept more spared.1) refl (λ entry now. now) (λ is. is)
  holds kept (saw_folder at ∷ more) spared = calm (saw_folder at) more (holds kept more spared.1) refl (λ entry now. now) (λ is. is)
  holds kept (cut ∷ more) spared = by_cut more (holds kept more spared.1)

pub stays_kept : StaysKept
stays_kept steps more path octets kept spared found may = (holds path octets steps kept more spared).only found may
