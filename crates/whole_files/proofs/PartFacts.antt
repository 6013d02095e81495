-- How a part is made, and what becomes of it, call by call.
use Rattle.std.proofs.Common.{◌≡◌, ◌≢◌, inl, inr, ◌⊎◌, ⊎_elim, ℕ, suc, ◌+◌, ◌-◌, ◌^◌, ◌<◌, Bool, true, false, cond, ◌==◌, codes, List, [], ◌∷◌, ◌++◌, length, take, get_or, map, Option, Result, Ok, Err, OnErr, is_err, refl, sym, ap, ◌∙◌, subst, arith, decimal, append_assoc}
use Rattle.std.proofs.Math.Seq.{get_or-append_right}
use Rattle.std.proofs.lemmas.Bool.{cases_lt, false≢true}
use Rattle.std.proofs.lemmas.List.{length-append}
use Rattle.std.proofs.lemmas.Fmt.{digits_decimal}
use Rattle.std.proofs.lemmas.Str.Parse.{numerals_by_value, tells_by_index}
use Rattle.std.specs.Int.{IsInRange}
use Rattle.disk.specs.declared.device.Fault.{Fault}
use Rattle.disk.specs.declared.device.Fault.TheVariants.{Exists, MayPass, Failed}
use Rattle.disk.specs.Steps.{Call, Step, step_of, folder_of}
use Rattle.disk.specs.Steps.Call.{create, remove, rename}
use Rattle.disk.specs.Steps.Step.{did, tried, refused}
use Rattle.disk.specs.Crash.{state}
use Rattle.disk.specs.Promise.{Changes, Is, IsReached, NothingNew, Whole}
use Rattle.disk.proofs.Moments.{then}
use Rattle.disk.proofs.Reach.{stays_more}
use Rattle.disk.proofs.Answered as answered
use Rattle.whole_files.specs.PartSteps.{Asks, Began, GivenUp, IsAnswered, MadeNew, MadeNone, Named, OnlyRefused, Replaces, TakesAway}
use Rattle.whole_files.specs.Wholes.{part_path, IsCopyOf, IsPartOf}
use Rattle.whole_files.proofs.Chains.{to_any}

-- ---- the path of a part

abbrev pub AreDigits : List ℕ → Type 0
AreDigits digits = (i : ℕ) → i < length digits → IsInRange 48 57 (get_or digits i 0)

pub are_digits : (number : ℕ) → number < 2 ^ 64 → AreDigits (decimal number)
are_digits number small = digits_decimal (numerals_by_value _ tells_by_index) number small

no_digit : (octet : ℕ) → IsInRange 48 57 octet → (octet ≡ 45) ⊎ (octet ≡ 46) → ⊥
no_digit octet within (inl is) = omega (arith, within.0, is)
no_digit octet within (inr is) = omega (arith, within.0, is)

-- behind a sign stand digits, so no mark is among them
module _ (front other digits more : List ℕ) (sign mark : ℕ) (same : front ++ sign ∷ digits ≡ other ++ mark ∷ more) where
  lengths : length front + suc (length digits) ≡ length other + suc (length more)
  lengths = sym (length-append front (sign ∷ digits)) ∙ ap (λ (l : List ℕ). length l) same ∙ length-append other (mark ∷ more)

  marked : get_or (front ++ sign ∷ digits) (length other) 0 ≡ mark
  marked =
      let none : length other - length other ≡ 0 = omega arith in
      ap (λ (l : List ℕ). get_or l (length other) 0) same ∙ get_or-append_right other (mark ∷ more) (length other) 0 (omega arith) ∙ ap (λ n. get_or (mark ∷ more) n 0) none

  behind : (k : ℕ) → length other ≡ length front + k → get_or (sign ∷ digits) k 0 ≡ mark
  behind k at =
      let there : length other - length front ≡ k = omega (arith, at) in
      sym (get_or-append_right front (sign ∷ digits) (length other) 0 (omega (arith, at)) ∙ ap (λ n. get_or (sign ∷ digits) n 0) there) ∙ marked

  pub same_sign : length other ≡ length front → sign ≡ mark
  same_sign at = behind 0 (omega (arith, at))

  pub not_behind : AreDigits digits → (mark ≡ 45) ⊎ (mark ≡ 46) → length front < length other → ⊥
  not_behind are is less =
      let k = length other - suc (length front) in
      let digit : get_or digits k 0 ≡ mark = behind (suc k) (omega (arith, less)) in
      no_digit mark (subst (IsInRange 48 57) digit (are k (omega (arith, less, lengths)))) is

-- a number behind a dash is none behind a dot
other_sign : (front other digits more : List ℕ) → AreDigits digits → AreDigits more → front ++ 45 ∷ digits ≡ other ++ 46 ∷ more → ⊥
other_sign front other digits more are are_more same = ⊎_elim (λ less. not_behind front other digits more 45 46 same are (inr refl) less)
    (λ not_less. ⊎_elim (λ greater. not_behind other front more digits 46 45 (sym same) are_more (inl refl) greater)
    (λ not_greater. let is : 45 ≡ 46 = same_sign front other digits more 45 46 same (omega (arith, not_less, not_greater)) in cc)
    (cases_lt (length other) (length front)))
    (cases_lt (length front) (length other))

-- what stands before the dash of a part's path
record Dashed (part : List ℕ) (number : ℕ) : Type 0 where
  pub front : List ℕ
  pub is : part ≡ front ++ 45 ∷ decimal number

dashed : (folder : List ℕ) (number : ℕ) → Dashed (part_path folder number) number
dashed folder number = by (length folder == 0)
  where
    by : (none : Bool) → Dashed (cond none (codes ".part-" ++ decimal number) (folder ++ codes "/.part-" ++ decimal number)) number
    by true = record { front = codes ".part"; is = refl }
    by false = record {
      front = folder ++ codes "/.part";
      is = ap (λ (l : List ℕ). l ++ decimal number) (sym (append_assoc folder (codes "/.part") (45 ∷ []))) ∙ append_assoc (folder ++ codes "/.part") (45 ∷ []) (decimal number);
    }

-- the path of a part is no copy's, unless it is the path itself
no_copy : (path folder : List ℕ) (number : ℕ) → number < 2 ^ 64 → path ≢ part_path folder number → ¬ (IsCopyOf path (part_path folder number))
no_copy path folder number small apart copy = by (copy.copy == 0) copy.numbered_path
  where
    by : (first : Bool) → part_path folder number ≡ cond first path (path ++ codes "." ++ decimal copy.copy) → ⊥
    by true is = apart (sym is)
    by false is =
        let part = dashed folder number in
        other_sign part.front path (decimal number) (decimal copy.copy) (are_digits number small) (are_digits copy.copy (omega (arith, copy.few)))
        (sym part.is ∙ is ∙ append_assoc path (46 ∷ []) (decimal copy.copy))

pub is_part_of : (path part : List ℕ) (number : ℕ) → number < 2 ^ 64 → part ≡ part_path (folder_of path) number → path ≢ part → IsPartOf path part
is_part_of path part number small is apart = record {
  number = number;
  beside = is;
  apart = subst (λ (l : List ℕ). ¬ (IsCopyOf path l)) (sym is) (no_copy path (folder_of path) number small (λ same. apart (same ∙ sym is)));
}

pub apart_from : (path part : List ℕ) → IsPartOf path part → path ≢ part
apart_from path part is same = is.apart (record { copy = 0; few = omega arith; numbered_path = sym same })

-- ---- a part is made

pub none_tried : (before now : List Step) → now ≡ before → OnlyRefused before now
none_tried before now is = record { calls = []; steps = is }

pub one_refused : (before mid now : List Step) (call : Call) → OnlyRefused before mid → now ≡ refused call ∷ mid → OnlyRefused before now
one_refused before mid now call refusals is = record { calls = call ∷ refusals.calls; steps = is ∙ ap (λ (l : List Step). refused call ∷ l) refusals.steps }

pub made_new : {T : Type 0} (before mid now : List Step) (answer : Result T Fault) (x : T) (path part : List ℕ) → answer ≡ Ok x → IsPartOf path part → OnlyRefused before mid
    → now ≡ step_of answer (create part) ∷ mid → MadeNew path part before now
made_new before mid now answer x path part ok is_part refusals is = record { is_part = is_part; tries = mid; refusals = refusals; steps = answered.did_it mid now answer (create part) x ok is }

pub none_made : (path : List ℕ) (before now : List Step) → OnlyRefused before now → MadeNone path before now
none_made path before now refusals = record { tries = now; refusals = refusals; steps = inl refl }

pub not_made : {T : Type 0} (before mid now : List Step) (answer : Result T Fault) (fault : Fault) (path part : List ℕ) → answer ≡ Err fault → IsPartOf path part → OnlyRefused before mid
    → now ≡ step_of answer (create part) ∷ mid → MadeNone path before now
not_made {T = T} before mid now answer fault path part failed is_part refusals is = by fault (subst (λ (r : Result T Fault). now ≡ step_of r (create part) ∷ mid) failed is)
  where
    by : (why : Fault) → now ≡ step_of {T = T} (Err why) (create part) ∷ mid → MadeNone path before now
    by Exists at = none_made path before now (one_refused before mid now (create part) refusals at)
    by MayPass at = record { tries = mid; refusals = refusals; steps = inr (record { part = part; is_part = is_part; steps = at }) }
    by Failed at = record { tries = mid; refusals = refusals; steps = inr (record { part = part; is_part = is_part; steps = at }) }

-- ---- what comes then

module _ (path part : List ℕ) (N : List ℕ → Option (List ℕ) → Type 0) (before : List Step) where
  abbrev pub begins : (made now : List Step) → MadeNew path part before made → Changes (Is part) N made now → Began path part N before now
  begins made now is_new changes = record { made = made; is_new = is_new; changes = changes }

  abbrev pub begins_then : (mid now : List Step) (began : Began path part NothingNew before mid) → Changes (Is part) N mid now → Began path part N before now
  begins_then mid now began changes = begins began.made now began.is_new (then (Is part) N began.made mid now (to_any (Is part) N began.made mid began.changes) changes)

-- ---- earlier steps stay

-- some steps are earlier ones and more
pub record IsLater (before now : List Step) : Type 0 where
  pub more : List Step
  pub steps : now ≡ more ++ before

pub later_by : (P : List ℕ → Type 0) (N : List ℕ → Option (List ℕ) → Type 0) (before now : List Step) → Changes P N before now → IsLater before now
later_by P N before now changes = record { more = changes.moments.more; steps = changes.moments.steps }

pub later_then : (before mid now : List Step) → IsLater before mid → IsLater mid now → IsLater before now
later_then before mid now one two = record {
  more = two.more ++ one.more;
  steps = two.steps ∙ ap (λ (l : List Step). two.more ++ l) one.steps ∙ sym (append_assoc two.more one.more before);
}

refused_later : (before now : List Step) → OnlyRefused before now → IsLater before now
refused_later before now refusals = record { more = map refused refusals.calls; steps = refusals.steps }

one_later : (before now : List Step) (step : Step) → now ≡ step ∷ before → IsLater before now
one_later before now step is = record { more = step ∷ []; steps = is }

pub began_later : (path part : List ℕ) (N : List ℕ → Option (List ℕ) → Type 0) (before now : List Step) → Began path part N before now → IsLater before now
began_later path part N before now began =
    let new = began.is_new in
    later_then before began.made now (later_then before new.tries began.made (refused_later before new.tries new.refusals) (one_later new.tries began.made (did (create part)) new.steps))
    (later_by (Is part) N began.made now began.changes)

pub none_later : (path : List ℕ) (before now : List Step) → MadeNone path before now → IsLater before now
none_later path before now none = ⊎_elim (λ same. subst (IsLater before) (sym same) tries)
    (λ failed. later_then before none.tries now tries (one_later none.tries now (tried (create failed.part)) failed.steps)) none.steps
  where
    tries : IsLater before none.tries
    tries = refused_later before none.tries none.refusals

-- folders that are reached stay so
pub still_reached : (before now : List Step) (path : List ℕ) → IsLater before now → IsReached before path → IsReached now path
still_reached before now path later reached end slash =
    subst (λ (l : List Step). (state l).stays (take end path)) (sym later.steps) (stays_more later.more before (take end path) (reached end slash))

-- ---- at the end

answered_by : {T : Type 0} (answer : Result T Fault) (call : Call) → IsAnswered call (step_of answer call)
answered_by (Ok x) call = inl refl
answered_by (Err Exists) call = inr (inr refl)
answered_by (Err MayPass) call = inr (inl refl)
answered_by (Err Failed) call = inr (inl refl)

pub asks : {T : Type 0} (before now : List Step) (answer : Result T Fault) (call : Call) → now ≡ step_of answer call ∷ before → Asks call before now
asks before now answer call is = record { step = step_of answer call; answered = answered_by answer call; steps = is }

pub taken_away : {T : Type 0} (mid now : List Step) (answer : Result T Fault) (path : List ℕ) → now ≡ step_of answer (remove path) ∷ mid → TakesAway path now
taken_away mid now answer path is = record { earlier = mid; removal = asks mid now answer (remove path) is }

-- a rename that didn't fail gave the path
pub named_by : {T : Type 0} (before mid now : List Step) (answer : Result T Fault) (part path : List ℕ) (last : Step) → is_err answer ≡ false
    → mid ≡ step_of answer (rename part path) ∷ before → now ≡ last ∷ mid → Named part path now
named_by before mid now (Ok x) part path last ok is then_is = record { earlier = before; last = last; steps = then_is ∙ ap (λ (l : List Step). last ∷ l) is }
named_by before mid now (Err fault) part path last ok is then_is = absurd (false≢true (sym ok))

pub no_err : {T : Type 0} (P : Type 0) (answer : Result T Fault) → is_err answer ≡ false → OnErr answer P
no_err P (Ok x) ok = tt
no_err P (Err fault) ok = absurd (false≢true (sym ok))

-- a part that was given up is none that is left
pub given_up_too : (path octets : List ℕ) (before now : List Step) → MadeNone path before now ⊎ GivenUp path before now → Replaces path octets before now
given_up_too path octets before now (inl none) = inl none
given_up_too path octets before now (inr given) = inr (record {
  part = given.part;
  began = begins path given.part (Whole path octets) before given.began.made now given.began.is_new (to_any (Is given.part) (Whole path octets) given.began.made now given.began.changes);
  none_left = inr given.away;
})
