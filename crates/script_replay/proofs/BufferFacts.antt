-- What is left in a run's buffer at its end is written.
use Rattle.std.proofs.Common.{◌≡◌, ℕ, ◌+◌, ◌≤◌, List, [], ◌++◌, length, take, Option, Some, None, Result, Ok, Err, sym, refl, subst, arith, append-nil}
use Rattle.std.specs.Prelude.{IfSome, slice_get, ⊤}
use Rattle.std.specs.Io.KnownBytes.{Appends}
use Rattle.std.proofs.KnownBytes.{Appends-nil, Appends-trans}
use Rattle.std.proofs.lemmas.List.{take_all}
use Rattle.std.proofs.lemmas.Option.{slice_get_within}
use Rattle.std.proofs.Math.Seq.{take-append-add}
use Rattle.script_io.specs.declared.fault.ReplayFault.{ReplayFault}
use Rattle.script_io.specs.declared.fault.ReplayFault.TheVariants as fault
use Rattle.script_io.specs.Lines.{lines_of}
use Rattle.script_io.specs.Output.{AppendsFront}
use Rattle.script_replay.specs.declared.session.Session.{Session as Kept}
use Rattle.script_replay.specs.Sessions.{Session}
use Rattle.script_replay.specs.Run.{StopsBehind, PlaysUntil, Replays}
use Rattle.script_replay.specs.Running.{Stands, Ran, Ends}
use Rattle.script_replay.proofs.RunFacts.{begins}

abbrev ends : ReplayFault → Result ⊤ ReplayFault
ends why = Err why

-- ---- the buffer is written

-- a front that was written, and the rest of a text behind it
all_written : (old new new' : Option (List ℕ)) (front buffer : List ℕ) → Appends old new front → Appends new new' buffer → Appends old new' (front ++ buffer)
all_written old new new' front buffer first rest = Appends-trans old new new' front buffer first rest

pub flushed : (start : Session) (ended : Result ⊤ ReplayFault) (lines : List (List ℕ)) (old new new' : Option (List ℕ)) (buffer : List ℕ) → Ends start ended lines old new buffer → Appends new new' buffer → Replays start ended lines old new'
flushed start (Ok done) lines old new new' buffer stops wrote =
    record { text = stops.0 ++ buffer; plays = stops.1; written = all_written old new new' stops.0 buffer stops.2 wrote }
flushed start (Err fault.Read) lines old new new' buffer stops wrote =
    record { text = stops.0 ++ buffer; plays = stops.1; written = all_written old new new' stops.0 buffer stops.2 wrote }
flushed start (Err fault.NoMemory) lines old new new' buffer stops wrote =
    record { text = stops.0 ++ buffer; plays = stops.1; written = all_written old new new' stops.0 buffer stops.2 wrote }
flushed start (Err (fault.BadLine number)) lines old new new' buffer stops wrote =
    record { text = stops.0 ++ buffer; plays = stops.1; written = all_written old new new' stops.0 buffer stops.2 wrote }
flushed start (Err fault.Write) lines old new new' buffer stops wrote =
    let none : Appends new new' [] = subst (λ t. Appends new new' t) stops.0 wrote in
    let front = stops.1.2 in
    let same = append-nil (take front.0 stops.1.0) in
    record { text = stops.1.0; plays = stops.1.1; written = (front.0, subst (λ t. Appends old new' t) same (Appends-trans old new new' (take front.0 stops.1.0) [] front.1 none)) }

-- ---- the writer fails at the end

whole_behind : (start : Session) (lines : List (List ℕ)) (text : List ℕ) → PlaysUntil start (let ended : Result ⊤ ReplayFault = Ok tt in ended) lines text → StopsBehind start lines text
whole_behind start lines text whole = record {
  count = length lines;
  within = omega arith;
  few = whole.0;
  prints = record { after = whole.1.after; plays = rw (take_all (length lines) lines (omega arith)) whole.1.plays };
}

place_within : (lines : List (List ℕ)) (place : ℕ) (line : List ℕ) → slice_get lines place ≡ Some line → place ≤ length lines
place_within lines place line there = omega (arith, slice_get_within lines place line there)

bad_behind : (start : Session) (lines : List (List ℕ)) (number : ℕ) (text : List ℕ) → PlaysUntil start (ends (fault.BadLine number)) lines text → StopsBehind start lines text
bad_behind start lines number text stops = record {
  count = stops.place;
  within = place_within lines stops.place stops.bad.line stops.bad.there;
  few = stops.few;
  prints = record { after = stops.prints.after; plays = stops.prints.plays };
}

cut_off : (start : Session) (lines : List (List ℕ)) (old new new' : Option (List ℕ)) (front buffer : List ℕ) → Appends old new front → AppendsFront new new' buffer → StopsBehind start lines (front ++ buffer) → Replays start (Err fault.Write) lines old new'
cut_off start lines old new new' front buffer first rest stops = record {
  text = front ++ buffer;
  plays = stops;
  written = (length front + rest.0, subst (λ t. Appends old new' t) (sym (take-append-add front buffer rest.0)) (Appends-trans old new new' front (take rest.0 buffer) first rest.1));
}

pub not_flushed : (start : Session) (ended : Result ⊤ ReplayFault) (lines : List (List ℕ)) (old new new' : Option (List ℕ)) (buffer : List ℕ) → Ends start ended lines old new buffer → (buffer ≡ [] → ⊥) → AppendsFront new new' buffer → Replays start (Err fault.Write) lines old new'
not_flushed start (Ok done) lines old new new' buffer stops some wrote = cut_off start lines old new new' stops.0 buffer stops.2 wrote (whole_behind start lines (stops.0 ++ buffer) stops.1)
not_flushed start (Err fault.Read) lines old new new' buffer stops some wrote = cut_off start lines old new new' stops.0 buffer stops.2 wrote stops.1
not_flushed start (Err fault.NoMemory) lines old new new' buffer stops some wrote = cut_off start lines old new new' stops.0 buffer stops.2 wrote stops.1
not_flushed start (Err (fault.BadLine number)) lines old new new' buffer stops some wrote = cut_off start lines old new new' stops.0 buffer stops.2 wrote (bad_behind start lines number (stops.0 ++ buffer) stops.1)
not_flushed start (Err fault.Write) lines old new new' buffer stops some wrote = absurd (some stops.0)

-- ---- a session that begins plays whatever script the reader holds

pub started : (start : Session) (left : Option (List ℕ)) (kept : Kept) (old new : Option (List ℕ)) (held buffer : List ℕ) (ended : Result ⊤ ReplayFault) → Stands kept start → held ≡ []
    → ((lines : List (List ℕ)) (first : Option (List ℕ)) → Ran start lines left 0 kept first old held → Ends start ended lines first new buffer)
    → IfSome left (λ script. Ends start ended (lines_of script) old new buffer)
started start None kept old new held buffer ended stands empty runs = tt
started start (Some script) kept old new held buffer ended stands empty runs =
    runs (lines_of script) old (subst (λ (b : List ℕ). Ran start (lines_of script) (Some script) 0 kept old old b) (sym empty) (begins start script kept old stands (Appends-nil old)))

-- there is no memory for a session
pub not_started : (start : Session) (left old : Option (List ℕ)) (why : ReplayFault) → why ≡ fault.NoMemory
    → IfSome left (λ script. Replays start (ends why) (lines_of script) old old)
not_started start None old why why_is = tt
not_started start (Some script) old why why_is = subst (λ (w : ReplayFault). Replays start (ends w) (lines_of script) old old) (sym why_is) (record {
  text = [];
  plays = record { count = 0; within = omega arith; few = omega arith; prints = record { after = start; plays = (refl, refl) } };
  written = Appends-nil old;
})

pub if_some_then : {A : Type 0} (o : Option A) (P Q : A → Type 0) → IfSome o P → ((x : A) → P x → Q x) → IfSome o Q
if_some_then None P Q p f = tt
if_some_then (Some x) P Q p f = f x p

pub if_some_always : {A : Type 0} (o : Option A) (P : A → Type 0) → ((x : A) → P x) → IfSome o P
if_some_always None P f = tt
if_some_always (Some x) P f = f x
