-- The worked run of two ends, with the store of its file: the premises of the law are met.
use Rattle.std.proofs.Common.{◌≡◌, inl, inr, ⊎_elim, ℕ, zero, suc, ◌<◌, ◌==◌, Bool, true, List, [], ◌∷◌, ◌++◌, map, length, get_or, Option, Some, None, Ok, codes, refl, sym, ◌∙◌, ap, subst, arith}
use Rattle.std.specs.Cmp.Lexicographic.{pointwise}
use Rattle.cfdp_types.specs.declared.names.FileStatus.TheVariants.{Retained}
use Rattle.disk.specs.Steps.{Step, is_slash}
use Rattle.disk.specs.Steps.Call.{create, append, flush, rename, flush_folder}
use Rattle.disk.specs.Steps.Step.{did, cut}
use Rattle.disk.specs.Crash.Content.{written, flushed}
use Rattle.disk.specs.Crash.Entry.{nothing}
use Rattle.disk.specs.Parts.{IsOpen}
use Rattle.disk.specs.Promise.{HoldsAfterCut, IsReached}
use Rattle.disk.proofs.Calls as calls
use Rattle.disk.proofs.Reach.{slash_within}
use Rattle.txn_events.specs.Examples.{abc}
use Rattle.txn_events.specs.declared.event.What.TheVariants as what
use Rattle.receiver_table.specs.Reception as receiver
use Rattle.receiver_table.specs.Images.{image_at}
use Rattle.ends_schedules.specs.Schedules.{Move, sends, receiver_log, IsSchedule}
use Rattle.ends_rows.specs.KeptRows.{kept_image}
use Rattle.ends_rows.specs.ScheduleRows.{deposit_is, finished_entry, tells_complete, told_schedule}
use Rattle.ends_rows.specs.WorkedSchedules.{sending, reception, at_receiver, move_by, after, deposited, stored}
use Rattle.ends_disk.specs.Histories.{Happening, at_ends, at_disk, moves_of, steps_of, AnswersTruly, Deposited, Stands}
use Rattle.ends_disk.proofs.HistoryFacts.{stands, stands_when_told, steps_append}

-- ---- a history of moves alone

moves_back : (moves : List Move) → moves_of (map at_ends moves) ≡ moves
moves_back [] = refl
moves_back (move ∷ moves) = ap (λ (l : List Move). move ∷ l) (moves_back moves)

no_steps : (moves : List Move) → steps_of (map at_ends moves) ≡ []
no_steps [] = refl
no_steps (move ∷ moves) = no_steps moves

-- ---- the store of the file

abbrev name : List ℕ
name = codes "b"

abbrev part : List ℕ
part = codes ".part-0"

abbrev filled : List Step
filled = did (append abc) ∷ did (create part) ∷ []

abbrev named : List Step
named = did (rename part name) ∷ did flush ∷ filled

abbrev storing : List Step
storing = did (flush_folder []) ∷ named

no_slash : (end : ℕ) → is_slash (get_or name end 0) ≡ true → ⊥
no_slash zero slash = cc
no_slash (suc end) slash = let within : suc end < length name = slash_within name (suc end) slash in let one : length name ≡ 1 = refl in omega (arith, within, one)

reached : IsReached named name
reached end slash = absurd (no_slash end slash)

open_filled : IsOpen part (written abc) filled
open_filled = calls.has_octets (did (create part) ∷ []) part (written []) (calls.is_open [] part) abc

holds : HoldsAfterCut storing name abc
holds = calls.holds named name abc (calls.named_by_rename (did flush ∷ filled) part abc (calls.is_flushed filled part abc open_filled) name) reached

-- ---- the run

-- a file's path is its name
abbrev is_same : List ℕ → List ℕ → Bool
is_same name path = pointwise (λ one other. one == other) name path

-- the receiver gave the file
abbrev given : List Happening
given = map at_ends (after deposited)

-- it was stored
abbrev made : List Happening
made = map at_disk storing ++ given

-- the file store said so
abbrev kept_move : Move
kept_move = move_by sending reception (after deposited) (at_receiver (what.Stored 2 true))

abbrev history : List Happening
history = at_ends kept_move ∷ made

made_steps : steps_of made ≡ storing
made_steps = ap (λ (l : List Step). did (flush_folder []) ∷ did (rename part name) ∷ did flush ∷ did (append abc) ∷ did (create part) ∷ l) (no_steps (after deposited))

held : HoldsAfterCut (steps_of made) name abc
held = subst (λ (l : List Step). HoldsAfterCut l name abc) (sym made_steps) holds

deposit : Deposited is_same 2 made
deposit = record {
  given = given;
  image = kept_image;
  gave = subst (λ (m : List Move). image_at (receiver.state_of (receiver_log m)) 2 ≡ Ok kept_image) (sym (moves_back (after deposited))) deposit_is;
  during = map at_disk storing;
  path = name;
  is_place = refl;
  holds = held;
  later = [];
  earlier_is = refl;
}

answers : AnswersTruly is_same history
answers = (deposit, (tt, (tt, (tt, tt))))

schedule : IsSchedule sending reception (sends finished_entry ∷ moves_of history)
schedule = subst (λ (m : List Move). IsSchedule sending reception (sends finished_entry ∷ kept_move ∷ m)) (sym (moves_back (after deposited))) told_schedule

-- so the file stands where its sender was told
told : Stands is_same sending.request history
told = stands_when_told is_same sending reception history finished_entry 0 Retained schedule answers tells_complete

-- ---- an answer without a deposit is not true

nothing_holds : (path octets : List ℕ) → HoldsAfterCut [] path octets → ⊥
nothing_holds path octets kept = let no = kept.only None (record { entry = nothing; named = inl (inl tt); leaves = refl }) in cc

none_behind : (later earlier : List Step) → later ++ earlier ≡ [] → earlier ≡ []
none_behind [] earlier is = is
none_behind (step ∷ later) earlier is = absurd cc

untrue : AnswersTruly is_same (at_ends kept_move ∷ given) → ⊥
untrue truly =
    let done = truly.0 in
    let none : steps_of (done.during ++ done.given) ≡ [] = none_behind (steps_of done.later) (steps_of (done.during ++ done.given))
    (sym (ap steps_of done.earlier_is ∙ steps_append done.later (done.during ++ done.given)) ∙ no_steps (after deposited)) in
    nothing_holds done.path done.image.octets (subst (λ (l : List Step). HoldsAfterCut l done.path done.image.octets) none done.holds)
