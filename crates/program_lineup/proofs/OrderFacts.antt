-- Numbers toward one entity rise within their remainder, and no two of them are open.
use Rattle.std.proofs.Common.{◌≡◌, ◌⊎◌, ℕ, ◌%◌, ◌<◌, ◌≤◌, max, Bool, true, false, not, nat_lt, nat_eq, if◌then◌else◌, List, [], ◌∷◌, Option, Some, None, length, set, slice_get, get_or, refl, sym, ap, ◌∙◌, subst, arith, inl, inr, length-set, get_or-set_same, get_or-set_other}
use Rattle.std.proofs.lemmas.Bool.{cases_Bool, false≢true}
use Rattle.std.proofs.lemmas.Bool.Decides.{nat_tests}
use Rattle.std.proofs.lemmas.Option.{get_or_from_slice_get, slice_get-get_or, slice_get_within}
use Rattle.std.proofs.Math.Nat.{mod-lt}
use Rattle.program_lineup.specs.declared.choice.Standing.TheVariants.{Free, Awaits, Lags}
use Rattle.program_lineup.specs.declared.sending_lane.Running.{Running}
use Rattle.program_lineup.specs.declared.sending_lane.SendingLane.{SendingLane}
use Rattle.program_lineup.specs.Lineups.{Numbers, has_remainder, is_open, is_open_with, most, rises, standing, used, used_at}
use Rattle.program_lineup.specs.LineupLaws.{AllInOrder, AreMoves, AreSeen, BeginsInOrder, IsAboveAll, IsAlone, MayMove, Move, Run, begins, begun_with, ends, puts, run_of, step}

-- ---- a free number

free_is : (none above open1 : Bool) → (if none then Free else (if not above then Lags else (if open1 then Awaits else Free))) ≡ Free → none ≡ false → (above ≡ true) × (open1 ≡ false)
free_is true above open1 free some = absurd (false≢true (sym some))
free_is false true false free some = (refl, refl)
free_is false true true free some = let bad : Awaits ≡ Free = free in cc
free_is false false open1 free some = let bad : Lags ≡ Free = free in cc

free_rises : (numbers : Numbers) (lanes : List SendingLane) (number : ℕ) → 0 < length numbers.greatest → standing numbers lanes number ≡ Free
    → (rises numbers number ≡ true) × (is_open numbers number lanes ≡ false)
free_rises numbers lanes number some free =
    let there : nat_eq (length numbers.greatest) 0 ≡ false = grind (arith, nat_tests) in
    free_is (nat_eq (length numbers.greatest) 0) (rises numbers number) (is_open numbers number lanes) free there

-- ---- what is used

-- the greatest number with a number's remainder is at least that number
abbrev pub IsCovered : Numbers → ℕ → Type 0
IsCovered numbers number = (greatest : ℕ) × (slice_get numbers.greatest (number % length numbers.greatest) ≡ Some (Some greatest)) × (number ≤ greatest)

abbrev pub AreCovered : Numbers → List ℕ → Type 0
AreCovered numbers [] = Unit {0}
AreCovered numbers (number ∷ rest) = IsCovered numbers number × AreCovered numbers rest

-- as many remainders as before
length_used_at : (place number : ℕ) (was : Option (Option ℕ)) (greatest : List (Option ℕ)) → length (used_at place number was greatest) ≡ length greatest
length_used_at place number None greatest = refl
length_used_at place number (Some before) greatest = length-set greatest place (most before number)

pub length_used : (numbers : Numbers) (number : ℕ) → length (used number numbers).greatest ≡ length numbers.greatest
length_used numbers number = length_used_at (number % length numbers.greatest) number (slice_get numbers.greatest (number % length numbers.greatest)) numbers.greatest

-- the number itself is covered behind its use
most_covers : (before : Option ℕ) (number : ℕ) → (greatest : ℕ) × (most before number ≡ Some greatest) × (number ≤ greatest)
most_covers None number = (number, refl, omega arith)
most_covers (Some other) number = (max other number, refl, omega arith)

most_keeps : (before : Option ℕ) (greatest number : ℕ) → before ≡ Some greatest → (more : ℕ) × (most before number ≡ Some more) × (greatest ≤ more)
most_keeps before greatest number is = rw is (max greatest number, refl, omega arith)

set_same : (greatest : List (Option ℕ)) (place : ℕ) (value : Option ℕ) → place < length greatest → slice_get (set greatest place value) place ≡ Some value
set_same greatest place value inside =
    let count : length (set greatest place value) ≡ length greatest = length-set greatest place value in
    let there : get_or (set greatest place value) place None ≡ value = get_or-set_same greatest place value None inside in
    slice_get-get_or (set greatest place value) place None (omega arith) ∙ ap Some there

set_other : (greatest : List (Option ℕ)) (place other : ℕ) (value found : Option ℕ) → (other ≡ place → ⊥) → slice_get greatest other ≡ Some found → slice_get (set greatest place value) other ≡ Some found
set_other greatest place other value found apart there =
    let inside : other < length greatest = slice_get_within greatest other found there in
    let was : get_or greatest other None ≡ found = get_or_from_slice_get greatest other found None there in
    let count : length (set greatest place value) ≡ length greatest = length-set greatest place value in
    let same : get_or (set greatest place value) other None ≡ get_or greatest other None = get_or-set_other greatest place other value None apart in
    slice_get-get_or (set greatest place value) other None (omega arith) ∙ ap Some (same ∙ was)

-- a number that is covered in another list of as many
covered_by : (numbers : Numbers) (news : List (Option ℕ)) (number greatest : ℕ) → length news ≡ length numbers.greatest
    → slice_get news (number % length numbers.greatest) ≡ Some (Some greatest) → number ≤ greatest → IsCovered (record numbers { greatest = news }) number
covered_by numbers news number greatest count there least =
    (greatest, subst (λ (lanes : ℕ). slice_get news (number % lanes) ≡ Some (Some greatest)) (sym count) there, least)

-- a number that was covered still is
used_keeps : (numbers : Numbers) (number earlier : ℕ) → 0 < length numbers.greatest → IsCovered numbers earlier → IsCovered (used number numbers) earlier
used_keeps numbers number earlier some (greatest, there, least) = by (cases_Bool (nat_eq (earlier % length numbers.greatest) (number % length numbers.greatest)))
  where
    place : ℕ
    place = number % length numbers.greatest

    inside : number % length numbers.greatest < length numbers.greatest
    inside = mod-lt number some

    by : ((nat_eq (earlier % length numbers.greatest) (number % length numbers.greatest) ≡ true) ⊎ (nat_eq (earlier % length numbers.greatest) (number % length numbers.greatest) ≡ false)) → IsCovered (used number numbers) earlier
    by (inl same) =
        let equal : earlier % length numbers.greatest ≡ number % length numbers.greatest = grind (arith, nat_tests) in
        let found : slice_get numbers.greatest (number % length numbers.greatest) ≡ Some (Some greatest) = rw (← equal) there in
        let news : (used number numbers).greatest ≡ set numbers.greatest (number % length numbers.greatest) (Some (max greatest number)) = rw found refl in
        let after : slice_get (set numbers.greatest (number % length numbers.greatest) (Some (max greatest number))) (earlier % length numbers.greatest) ≡ Some (Some (max greatest number)) =
        rw equal (set_same numbers.greatest (number % length numbers.greatest) (Some (max greatest number)) inside) in
        covered_by numbers (used number numbers).greatest earlier (max greatest number) (length_used numbers number) (rw news after) (omega arith)
    by (inr differs) =
        let apart : earlier % length numbers.greatest ≡ number % length numbers.greatest → ⊥ = grind (arith, nat_tests) in
        let before : slice_get numbers.greatest (number % length numbers.greatest) ≡ Some (get_or numbers.greatest (number % length numbers.greatest) None) = slice_get-get_or numbers.greatest (number % length numbers.greatest) None inside in
        let news : (used number numbers).greatest ≡ set numbers.greatest (number % length numbers.greatest) (most (get_or numbers.greatest (number % length numbers.greatest) None) number) = rw before refl in
        let after : slice_get (set numbers.greatest (number % length numbers.greatest) (most (get_or numbers.greatest (number % length numbers.greatest) None) number)) (earlier % length numbers.greatest) ≡ Some (Some greatest) =
        set_other numbers.greatest (number % length numbers.greatest) (earlier % length numbers.greatest) (most (get_or numbers.greatest (number % length numbers.greatest) None) number) (Some greatest) apart there in
        covered_by numbers (used number numbers).greatest earlier greatest (length_used numbers number) (rw news after) least

used_covers : (numbers : Numbers) (number : ℕ) → 0 < length numbers.greatest → IsCovered (used number numbers) number
used_covers numbers number some =
    let inside : number % length numbers.greatest < length numbers.greatest = mod-lt number some in
    let before : slice_get numbers.greatest (number % length numbers.greatest) ≡ Some (get_or numbers.greatest (number % length numbers.greatest) None) = slice_get-get_or numbers.greatest (number % length numbers.greatest) None inside in
    let news : (used number numbers).greatest ≡ set numbers.greatest (number % length numbers.greatest) (most (get_or numbers.greatest (number % length numbers.greatest) None) number) = rw before refl in
    let (greatest, is, least) = most_covers (get_or numbers.greatest (number % length numbers.greatest) None) number in
    let after : slice_get (set numbers.greatest (number % length numbers.greatest) (most (get_or numbers.greatest (number % length numbers.greatest) None) number)) (number % length numbers.greatest) ≡ Some (Some greatest) =
    set_same numbers.greatest (number % length numbers.greatest) (most (get_or numbers.greatest (number % length numbers.greatest) None) number) inside ∙ ap Some is in
    covered_by numbers (used number numbers).greatest number greatest (length_used numbers number) (rw news after) least

used_keeps_all : (numbers : Numbers) (number : ℕ) (begun : List ℕ) → 0 < length numbers.greatest → AreCovered numbers begun → AreCovered (used number numbers) begun
used_keeps_all numbers number [] some all = tt
used_keeps_all numbers number (earlier ∷ begun) some (here, all) = (used_keeps numbers number earlier some here, used_keeps_all numbers number begun some all)

-- ---- a transaction that begins

above_all : (numbers : Numbers) (number : ℕ) (begun : List ℕ) → rises numbers number ≡ true → AreCovered numbers begun → IsAboveAll (length numbers.greatest) number begun
above_all numbers number [] rising all = tt
above_all numbers number (earlier ∷ begun) rising ((greatest, there, least), all) = (above, above_all numbers number begun rising all)
  where
    above : has_remainder earlier number (length numbers.greatest) ≡ true → earlier < number
    above same =
        let equal : earlier % length numbers.greatest ≡ number % length numbers.greatest = grind (arith, nat_tests) in
        let found : slice_get numbers.greatest (number % length numbers.greatest) ≡ Some (Some greatest) = rw (← equal) there in
        let more : nat_lt greatest number ≡ true = rw found at rising in
        let less : greatest < number = grind (arith, nat_tests) in
        omega arith

open_with_same : (numbers : Numbers) (one other : ℕ) (running : Option Running) → one % length numbers.greatest ≡ other % length numbers.greatest → is_open_with numbers one running ≡ is_open_with numbers other running
open_with_same numbers one other None same = refl
open_with_same numbers one other (Some running) same = rw same refl

open_same : (numbers : Numbers) (one other : ℕ) (lanes : List SendingLane) → one % length numbers.greatest ≡ other % length numbers.greatest → is_open numbers one lanes ≡ is_open numbers other lanes
open_same numbers one other [] same = refl
open_same numbers one other (lane ∷ lanes) same =
    let here : is_open_with numbers one lane.running ≡ is_open_with numbers other lane.running = open_with_same numbers one other lane.running same in
    rw (here, open_same numbers one other lanes same) refl

alone : (numbers : Numbers) (lanes : List SendingLane) (number : ℕ) (unended : List ℕ) → is_open numbers number lanes ≡ false → AreSeen numbers lanes unended → IsAlone (length numbers.greatest) number unended
alone numbers lanes number [] free seen = tt
alone numbers lanes number (other ∷ unended) free (here, seen) = (apart (cases_Bool (has_remainder other number (length numbers.greatest))), alone numbers lanes number unended free seen)
  where
    apart : ((has_remainder other number (length numbers.greatest) ≡ true) ⊎ (has_remainder other number (length numbers.greatest) ≡ false)) → has_remainder other number (length numbers.greatest) ≡ false
    apart (inr is) = is
    apart (inl same) =
        let equal : other % length numbers.greatest ≡ number % length numbers.greatest = grind (arith, nat_tests) in
        let too : is_open numbers number lanes ≡ true = sym (open_same numbers other number lanes equal) ∙ here in
        absurd (false≢true (sym free ∙ too))

-- ---- every run

begins_in_order : (run : Run) (lanes : List SendingLane) (number : ℕ) → 0 < length run.numbers.greatest → AreCovered run.numbers run.begun
    → (standing run.numbers lanes number ≡ Free) × AreSeen run.numbers lanes run.unended → BeginsInOrder (length run.numbers.greatest) (begins lanes number) run
begins_in_order run lanes number some covered (free, seen) =
    let (rising, lonely) = free_rises run.numbers lanes number some free in
    (above_all run.numbers number run.begun rising covered, alone run.numbers lanes number run.unended lonely seen)

-- the remainders stay, and all that began is covered
pub record Keeps (numbers : Numbers) (run : Run) : Type 0 where
  pub count : length run.numbers.greatest ≡ length numbers.greatest
  pub covered : AreCovered run.numbers run.begun

begun_keeps : (numbers : Numbers) (number : ℕ) (run : Run) → 0 < length numbers.greatest → Keeps numbers run → Keeps numbers (begun_with number run)
begun_keeps numbers number run some keeps =
    let there : 0 < length run.numbers.greatest = rw keeps.count some in
    record {
      count = length_used run.numbers number ∙ keeps.count;
      covered = (used_covers run.numbers number there, used_keeps_all run.numbers number run.begun there keeps.covered);
    }

step_keeps : (numbers : Numbers) (move : Move) (run : Run) → 0 < length numbers.greatest → Keeps numbers run → Keeps numbers (step move run)
step_keeps numbers (begins lanes number) run some keeps = begun_keeps numbers number run some keeps
step_keeps numbers (puts number) run some keeps = begun_keeps numbers number run some keeps
step_keeps numbers (ends number) run some keeps = record { count = keeps.count; covered = keeps.covered }

runs_keep : (numbers : Numbers) (moves : List Move) → 0 < length numbers.greatest → Keeps numbers (run_of numbers moves)
runs_keep numbers [] some = record { count = refl; covered = tt }
runs_keep numbers (move ∷ moves) some = step_keeps numbers move (run_of numbers moves) some (runs_keep numbers moves some)

move_in_order : (numbers : Numbers) (move : Move) (run : Run) → 0 < length numbers.greatest → Keeps numbers run → MayMove move run → BeginsInOrder (length numbers.greatest) move run
move_in_order numbers (begins lanes number) run some keeps may =
    let there : 0 < length run.numbers.greatest = rw keeps.count some in
    subst (λ (count : ℕ). BeginsInOrder count (begins lanes number) run) keeps.count (begins_in_order run lanes number there keeps.covered may)
move_in_order numbers (puts number) run some keeps may = tt
move_in_order numbers (ends number) run some keeps may = tt

pub all_in_order : (numbers : Numbers) (moves : List Move) → 0 < length numbers.greatest → AreMoves numbers moves → AllInOrder numbers moves
all_in_order numbers [] some all = tt
all_in_order numbers (move ∷ moves) some (may, all) = (move_in_order numbers move (run_of numbers moves) some (runs_keep numbers moves some) may, all_in_order numbers moves some all)
