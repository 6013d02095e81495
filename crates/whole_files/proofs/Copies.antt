-- A file that is kept under a copy's path.
use Rattle.std.proofs.Common.{◌≡◌, ◌≢◌, ◌⊎◌, inl, inr, ⊎_elim, ℕ, suc, zero, ◌+◌, ◌-◌, ◌<◌, ◌≤◌, Bool, true, false, cond, ◌==◌, codes, List, [], ◌∷◌, ◌++◌, length, get_or, Option, Some, None, Result, Ok, Err, IfOk, OnErr, refl, sym, ap, ◌∙◌, subst, arith, decimal, eq-eqb, eqb-true, append_assoc}
use Rattle.std.proofs.Math.ListN.{get_or-append}
use Rattle.std.proofs.Math.Seq.{get_or-append_right}
use Rattle.std.proofs.lemmas.Bool.{cases_lt}
use Rattle.std.proofs.lemmas.List.{take-append-le}
use Rattle.std.specs.Int.{IsInRange}
use Rattle.disk.specs.declared.device.Fault.{Fault}
use Rattle.disk.specs.declared.device.Fault.TheVariants.{Exists, MayPass, Failed}
use Rattle.disk.specs.Steps.{Call, Step, step_of, is_slash, folder_of}
use Rattle.disk.specs.Steps.Call.{link, remove, flush_folder}
use Rattle.disk.specs.Steps.Step.{did, tried, refused}
use Rattle.disk.specs.Crash.{OnPath, state}
use Rattle.disk.specs.Crash.Content.{flushed}
use Rattle.disk.specs.Promise.{Changes, HoldsAfterCut, Is, IsReached, NoPath, NothingNew, Unchanged, Whole, WholeOrGone}
use Rattle.disk.specs.Parts.{IsNamed, IsOpen}
use Rattle.disk.proofs.Moments.{nothing_yet, then, wider, of_unchanged}
use Rattle.disk.proofs.Reach.{reached_later, slash_within}
use Rattle.disk.proofs.Calls as calls
use Rattle.disk.proofs.Answered as answered
use Rattle.whole_files.specs.PartSteps.{Began, GivenUp, MadeNone}
use Rattle.whole_files.specs.Links.{refusals, BesidePart, Ends, Keeps, Linked, LinkedFirst, LinkedNone, TakenBack}
use Rattle.whole_files.specs.Wholes.{numbered, IsCopyOf, IsPartOf}
use Rattle.whole_files.proofs.PartFacts.{AreDigits, are_digits, asks}

-- ---- the folders on a copy's path

no_slash_in_range : (octet : ℕ) → IsInRange 48 57 octet → octet ≢ 47
no_slash_in_range octet within is = omega (arith, within.0, is)

dot_no_slash : (octet : ℕ) → octet ≡ 46 → octet ≢ 47
dot_no_slash octet dot is = omega (arith, dot, is)

none_behind : (digits : List ℕ) (k : ℕ) → AreDigits digits → get_or (46 ∷ digits) k 0 ≢ 47
none_behind digits zero are is = dot_no_slash 46 refl is
none_behind digits (suc k) are is =
    let slash : is_slash (get_or digits k 0) ≡ true = eq-eqb (get_or digits k 0) 47 is in no_slash_in_range (get_or digits k 0) (are k (slash_within digits k slash)) is

slash_in : (path digits : List ℕ) (end : ℕ) → AreDigits digits → is_slash (get_or (path ++ 46 ∷ digits) end 0) ≡ true → end < length path
slash_in path digits end are slash = ⊎_elim (λ within. within)
    (λ beyond. absurd (none_behind digits (end - length path) are (sym (get_or-append_right path (46 ∷ digits) end 0 beyond) ∙ eqb-true _ _ slash)))
    (cases_lt end (length path))

module _ (P : List ℕ → Type 0) (path : List ℕ) where
  on_appended : (digits : List ℕ) → AreDigits digits → OnPath P path → OnPath P (path ++ 46 ∷ digits)
  on_appended digits are on end slash =
      let within = slash_in path digits end are slash in
      let there : is_slash (get_or path end 0) ≡ true = subst (λ n. is_slash n ≡ true) (get_or-append path (46 ∷ digits) 0 end within) slash in
      subst P (sym (take-append-le end path (46 ∷ digits) (omega (arith, within)))) (on end there)

  on_numbered : (copy : ℕ) → copy ≤ 9999 → OnPath P path → OnPath P (numbered path copy)
  on_numbered copy few on = by (copy == 0)
    where
      by : (is_first : Bool) → OnPath P (cond is_first path (path ++ codes "." ++ decimal copy))
      by true = on
      by false = subst (OnPath P) (sym (append_assoc path (46 ∷ []) (decimal copy))) (on_appended (decimal copy) (are_digits copy (omega (arith, few))) on)

  pub on_copy : (place : List ℕ) → IsCopyOf path place → OnPath P path → OnPath P place
  on_copy place is on = subst (OnPath P) (sym is.numbered_path) (on_numbered is.copy is.few on)

-- ---- a part is linked

still_open : (part octets : List ℕ) (call : Call) (steps : List Step) → IsOpen part (flushed octets) steps → IsOpen part (flushed octets) (refused call ∷ steps)
still_open part octets call steps opened = record { file = opened.file; sole = opened.sole; there = opened.there; alone = opened.alone }

module _ (part path : List ℕ) (before : List Step) where
  same_by : (copies : ℕ) → Unchanged before (refusals part path copies before)
  same_by zero = nothing_yet NoPath NothingNew before
  same_by (suc copies) = then NoPath NothingNew before (refusals part path copies before) (refusals part path (suc copies) before) (same_by copies)
      (answered.refused_one NoPath NothingNew (refusals part path copies before) (refusals part path (suc copies) before) (link part (numbered path copies)) refl)

  open_by : (octets : List ℕ) → IsOpen part (flushed octets) before → (copies : ℕ) → IsOpen part (flushed octets) (refusals part path copies before)
  open_by octets opened zero = opened
  open_by octets opened (suc copies) = still_open part octets (link part (numbered path copies)) (refusals part path copies before) (open_by octets opened copies)

  module _ (copy : ℕ) (mid : List Step) (so_far : mid ≡ refusals part path copy before) where
    pub one_more_linked : (now : List Step) (place : List ℕ) → place ≡ numbered path copy → now ≡ refused (link part place) ∷ mid → now ≡ refusals part path (copy + 1) before
    one_more_linked now place at is =
        let next : suc copy ≡ copy + 1 = omega arith in
        subst (λ (n : ℕ). now ≡ refusals part path n before) next
        (is ∙ ap (λ (l : List Step). refused (link part place) ∷ l) so_far ∙ ap (λ (p : List ℕ). refused (link part p) ∷ refusals part path copy before) at)

    pub no_copy_linked : LinkedNone part path before mid
    no_copy_linked = record { copy = copy; steps = inl so_far }

    pub not_linked : (octets : List ℕ) → Changes (Is part) (WholeOrGone (IsCopyOf path) octets) before mid
    not_linked octets = of_unchanged (Is part) (WholeOrGone (IsCopyOf path) octets) before mid (subst (Unchanged before) (sym so_far) (same_by copy))

    module _ {T : Type 0} (now : List Step) (answer : Result T Fault) (place : List ℕ) (at : place ≡ numbered path copy) (is : now ≡ step_of answer (link part place) ∷ mid) where
      then_linked : (step : Step) → now ≡ step ∷ mid → now ≡ step ∷ refusals part path copy before
      then_linked step here = here ∙ ap (λ (l : List Step). step ∷ l) so_far

      pub first_linked : (x : T) → answer ≡ Ok x → copy ≤ 9999 → LinkedFirst part path place before now
      first_linked x ok few = record { copy = copy; few = few; is_place = at; steps = then_linked (did (link part place)) (answered.did_it mid now answer (link part place) x ok is) }

      pub link_failed : (fault : Fault) → answer ≡ Err fault → LinkedNone part path before now
      link_failed fault failed = by fault (subst (λ (r : Result T Fault). now ≡ step_of r (link part place) ∷ mid) failed is)
        where
          tried_last : now ≡ tried (link part place) ∷ mid → LinkedNone part path before now
          tried_last here = record { copy = copy; steps = inr (subst (λ (p : List ℕ). now ≡ tried (link part p) ∷ refusals part path copy before) at (then_linked (tried (link part place)) here)) }

          by : (why : Fault) → now ≡ step_of {T = T} (Err why) (link part place) ∷ mid → LinkedNone part path before now
          by Exists here = record { copy = copy + 1; steps = inl (one_more_linked now place at here) }
          by MayPass here = tried_last here
          by Failed here = tried_last here

      module _ (octets : List ℕ) (opened : IsOpen part (flushed octets) before) where
        open_here : IsOpen part (flushed octets) mid
        open_here = subst (IsOpen part (flushed octets)) (sym so_far) (open_by octets opened copy)

        whole_copy : copy ≤ 9999 → (there : List ℕ) (found : Option (List ℕ)) → Whole place octets there found → WholeOrGone (IsCopyOf path) octets there found
        whole_copy few there found whole = (record { copy = copy; few = few; numbered_path = whole.0 ∙ at }, inl whole.1)

        pub links : copy ≤ 9999 → Changes (Is part) (WholeOrGone (IsCopyOf path) octets) before now
        links few = then (Is part) (WholeOrGone (IsCopyOf path) octets) before mid now
            (not_linked octets)
            (wider (Is part) (Is part) (Whole place octets) (WholeOrGone (IsCopyOf path) octets) (λ there is. is) (whole_copy few) mid now (answered.linked mid now answer part place octets open_here is))

        pub is_linked : (x : T) → answer ≡ Ok x → IsNamed place octets now
        is_linked x ok =
            subst (IsNamed place octets) (sym (answered.did_it mid now answer (link part place) x ok is)) (calls.named_by_link mid part octets open_here place)

pub first_is_copy : (part path place : List ℕ) (before now : List Step) → LinkedFirst part path place before now → IsCopyOf path place
first_is_copy part path place before now first = record { copy = first.copy; few = first.few; numbered_path = first.is_place }

pub copy_apart : (part path place : List ℕ) → IsPartOf path part → IsCopyOf path place → place ≢ part
copy_apart part path place is_part copy same = is_part.apart (subst (IsCopyOf path) same copy)

-- ---- the copy's folder is flushed

module _ (path place octets : List ℕ) (before mid : List Step) {T : Type 0} (flushing : Result T Fault) (first : mid ≡ step_of flushing (flush_folder (folder_of place)) ∷ before) where
  pub flushes : Changes NoPath (WholeOrGone (IsCopyOf path) octets) before mid
  flushes = of_unchanged NoPath (WholeOrGone (IsCopyOf path) octets) before mid (answered.folder_flushed before mid flushing (folder_of place) first)

  pub takes_back : IsCopyOf path place → {U : Type 0} (now : List Step) (answer : Result U Fault) → now ≡ step_of answer (remove place) ∷ mid → Changes NoPath (WholeOrGone (IsCopyOf path) octets) before now
  takes_back copy now answer is = then NoPath (WholeOrGone (IsCopyOf path) octets) before mid now flushes (answered.taken_back mid now answer NoPath (IsCopyOf path) octets place copy is)

  pub holds : (x : T) → flushing ≡ Ok x → IsNamed place octets before → IsReached before place → HoldsAfterCut mid place octets
  holds x ok named reached =
      subst (λ (l : List Step). HoldsAfterCut l place octets) (sym (answered.did_it before mid flushing (flush_folder (folder_of place)) x ok first)) (calls.holds before place octets named reached)

  pub settles : (x : T) → flushing ≡ Ok x → mid ≡ did (flush_folder (folder_of place)) ∷ before
  settles x ok = answered.did_it before mid flushing (flush_folder (folder_of place)) x ok first

  pub takes_back_then : {U : Type 0} (now : List Step) (answer : Result U Fault) → now ≡ step_of answer (remove place) ∷ mid → TakenBack place before now
  takes_back_then now answer is = record { flushed = mid; flush = asks before mid flushing (flush_folder (folder_of place)) first; back = asks mid now answer (remove place) is }

-- ---- the part is removed

module _ (IsNew : List ℕ → Option (List ℕ) → Type 0) (part : List ℕ) (before mid : List Step) (first : Changes (Is part) IsNew before mid)
    {T : Type 0} (gone : List Step) (answer : Result T Fault) (removal : gone ≡ step_of answer (remove part) ∷ mid) where
  pub removes : Changes (Is part) IsNew before gone
  removes = then (Is part) IsNew before mid gone first (answered.removed mid gone answer part IsNew removal)

  pub reaches : (path place : List ℕ) → IsCopyOf path place → IsReached before path → IsReached gone place
  reaches path place copy reached = on_copy (state gone).stays path place copy (reached_later (Is part) IsNew before gone removes path reached)

  pub removes_then : (now : List Step) → Changes NoPath IsNew gone now → Changes (Is part) IsNew before now
  removes_then now more = then (Is part) IsNew before gone now removes (wider NoPath (Is part) IsNew IsNew (λ path no. absurd no) (λ path found new. new) gone now more)

-- ---- what becomes of the part

module _ (part path : List ℕ) (before mid gone : List Step) {T : Type 0} (answer : Result T Fault) (removal : gone ≡ step_of answer (remove part) ∷ mid) where
  pub not_kept : LinkedNone part path before mid → Ends part path None before gone
  not_kept none = inl (record { linked = mid; none = none; removal = asks mid gone answer (remove part) removal })

  module _ (place : List ℕ) (first : LinkedFirst part path place before mid) (now : List Step) where
    linked : Linked part path place before gone
    linked = record { linked = mid; first = first; removal = asks mid gone answer (remove part) removal }

    pub kept : now ≡ did (flush_folder (folder_of place)) ∷ gone → Ends part path (Some place) before now
    kept is = record { gone = gone; linked = linked; steps = is }

    pub not_settled : TakenBack place gone now → Ends part path None before now
    not_settled back = inr (record { place = place; gone = gone; linked = linked; back = back })

module _ (path part octets : List ℕ) (before filled now : List Step) (began : Began path part NothingNew before filled) (changes : Changes (Is part) (WholeOrGone (IsCopyOf path) octets) filled now) where
  kept_beside : (place : Option (List ℕ)) → Ends part path place filled now → BesidePart path octets place before now
  kept_beside place ends = record { part = part; filled = filled; began = began; changes = changes; ends = ends }

  module _ {X E : Type 0} where
    pub and_kept : (text : X → List ℕ) (answer : Result X E) → IfOk answer (λ place. Ends part path (Some (text place)) filled now) → IfOk answer (λ place. Keeps path octets (Some (text place)) before now)
    and_kept text (Ok place) ends = kept_beside (Some (text place)) ends
    and_kept text (Err fault) ends = tt

    pub and_not_kept : (answer : Result X E) → OnErr answer (Ends part path None filled now) → OnErr answer (Keeps path octets None before now)
    and_not_kept (Ok place) ends = tt
    and_not_kept (Err fault) ends = inr (inr (kept_beside None ends))

-- a part that was given up
pub given_up_beside : (path octets : List ℕ) (before now : List Step) → MadeNone path before now ⊎ GivenUp path before now → Keeps path octets None before now
given_up_beside path octets before now (inl none) = inl none
given_up_beside path octets before now (inr given) = inr (inl given)
