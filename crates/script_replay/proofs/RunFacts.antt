-- A run goes on line by line.
use Rattle.std.proofs.Common.{◌≡◌, ℕ, zero, suc, ◌+◌, ◌≤◌, ◌<◌, true, List, [], ◌∷◌, ◌++◌, length, take, Option, Some, None, Result, Ok, Err, refl, sym, ap, subst, ◌∙◌, arith, ◌⊎◌, inl, inr, append_assoc, append-nil}
use Rattle.std.specs.Prelude.{slice_get, ⊤, OnOk, OnErr, IfErr}
use Rattle.std.specs.Io.KnownBytes.{Appends}
use Rattle.std.proofs.KnownBytes.{Appends-nil, Appends-trans}
use Rattle.std.proofs.lemmas.List.{length-append, take_at}
use Rattle.std.proofs.Math.Seq.{take-append-add}
use Rattle.script_io.specs.declared.fault.ReplayFault.{ReplayFault}
use Rattle.script_io.specs.declared.fault.ReplayFault.TheVariants as fault
use Rattle.script_replay.specs.declared.run.TheConstants.{LINES}
use Rattle.script_replay.specs.declared.session.Session.{Session as Kept}
use Rattle.script_lines.specs.Commands.{command_of}
use Rattle.script_io.specs.Lines.{lines_of, line_octets, GivesLine, GivesEnd, GivesTooLong}
use Rattle.script_io.specs.Output.{AppendsFront, HandsOn, Buffers}
use Rattle.script_replay.specs.Sessions.{Session, IsBadFor}
use Rattle.script_replay.specs.Run.{PlaysLine, Plays, Prints, IsBad, StopsBehind, StopsAt}
use Rattle.script_replay.specs.Running.{Stands, Ran, Ends, PlaysTo}

-- ---- how a run ends, case by case

abbrev pub WellEnds : Session → List (List ℕ) → Option (List ℕ) → Option (List ℕ) → List ℕ → Type 0
WellEnds start lines old new buffer = Ends start (let ended : Result ⊤ ReplayFault = Ok tt in ended) lines old new buffer

abbrev pub BadEnds : Session → ℕ → List (List ℕ) → Option (List ℕ) → Option (List ℕ) → List ℕ → Type 0
BadEnds start number lines old new buffer = Ends start (let ended : Result ⊤ ReplayFault = Err (fault.BadLine number) in ended) lines old new buffer

abbrev pub WriteEnds : Session → List (List ℕ) → Option (List ℕ) → Option (List ℕ) → List ℕ → Type 0
WriteEnds start lines old new buffer = Ends start (let ended : Result ⊤ ReplayFault = Err fault.Write in ended) lines old new buffer

abbrev pub StopEnds : Session → List (List ℕ) → Option (List ℕ) → Option (List ℕ) → List ℕ → Type 0
StopEnds start lines old new buffer = Ends start (let ended : Result ⊤ ReplayFault = Err fault.NoMemory in ended) lines old new buffer

-- ---- lines one after the other

-- one line more is played at the end
pub plays_more : (session mid after : Session) (done : List (List ℕ)) (line text said : List ℕ) → Plays session done mid text → PlaysLine mid line after said → Plays session (done ++ line ∷ []) after (text ++ said)
plays_more session mid after [] line text said plays last =
    let same : PlaysLine session line after said = subst (λ s. PlaysLine s line after said) plays.0 last in
    (after, said, [], same, (refl, refl), ap (λ t. t ++ said) plays.1 ∙ sym (append-nil said))
plays_more session mid after (first ∷ done) line text said plays last =
    let rest = plays_more plays.0 mid after done line plays.2 said plays.4 last in
    (plays.0, plays.1, plays.2 ++ said, plays.3, rest, ap (λ t. t ++ said) plays.5 ∙ append_assoc plays.1 plays.2 said)

-- what is handed on, and what is left then
regroup : (front buffer said handed buffer' : List ℕ) → buffer ++ said ≡ handed ++ buffer' → (front ++ buffer) ++ said ≡ (front ++ handed) ++ buffer'
regroup front buffer said handed buffer' e = append_assoc front buffer said ∙ ap (λ t. front ++ t) e ∙ sym (append_assoc front handed buffer')

take_done : (done others : List (List ℕ)) (count : ℕ) → length done ≡ count → take count (done ++ others) ≡ done
take_done done others count e = take_at done others count e

there : (done : List (List ℕ)) (line : List ℕ) (others : List (List ℕ)) (count : ℕ) → length done ≡ count → slice_get (done ++ line ∷ others) count ≡ Some line
there [] line others zero e = refl
there [] line others (suc count) e = absurd (omega arith)
there (x ∷ done) line others zero e = absurd (omega arith)
there (x ∷ done) line others (suc count) e = there done line others count (omega arith)

-- ---- a run, by the text that is left

module _ (start : Session) (lines : List (List ℕ)) (rest : List ℕ) (count : ℕ) (kept : Kept) (old new : Option (List ℕ)) (buffer : List ℕ) (ran : Ran start lines (Some rest) count kept old new buffer) where
  taken : take count lines ≡ ran.done
  taken = ap (take count) ran.others ∙ take_done ran.done (lines_of rest) count ran.counted

  within : count ≤ length lines
  within = omega (arith, ap length ran.others, length-append ran.done (lines_of rest), ran.counted)

  prints : Prints start (take count lines) (ran.front ++ buffer)
  prints = record { after = ran.session; plays = rw taken ran.plays }

  pub stops_behind : StopsBehind start lines (ran.front ++ buffer)
  stops_behind = record { count = count; within = within; few = ran.few; prints = prints }

  pub stops_at : (line : List ℕ) (others : List (List ℕ)) → lines_of rest ≡ line ∷ others → IsBad count ran.session line → StopsAt start lines (count + 1) (ran.front ++ buffer)
  unfolding prints
  stops_at line others next bad = record {
    place = count;
    number_is = refl;
    few = ran.few;
    prints = prints;
    bad = record { line = line; there = ap (λ xs. slice_get xs count) (ran.others ∙ ap (λ xs. ran.done ++ xs) next) ∙ there ran.done line others count ran.counted; bad = bad };
  }

  pub bad_ends : (line : List ℕ) (others : List (List ℕ)) → lines_of rest ≡ line ∷ others → IsBad count ran.session line → BadEnds start (count + 1) lines old new buffer
  bad_ends line others next bad = (ran.front, stops_at line others next bad, ran.written)

  pub ends : lines_of rest ≡ [] → WellEnds start lines old new buffer
  ends none =
      let all : lines ≡ ran.done = ran.others ∙ ap (λ xs. ran.done ++ xs) none ∙ append-nil ran.done in
      (ran.front, (omega (arith, ap length all, ran.counted, ran.few), record { after = ran.session; plays = rw all ran.plays }), ran.written)

  -- a line that was played, with the text that is left then
  more_done : (line : List ℕ) (rest' : List ℕ) → lines_of rest ≡ line ∷ lines_of rest' → lines ≡ (ran.done ++ line ∷ []) ++ lines_of rest'
  more_done line rest' next = ran.others ∙ ap (λ xs. ran.done ++ xs) next ∙ sym (append_assoc ran.done (line ∷ []) (lines_of rest'))

  more_counted : (line : List ℕ) → length (ran.done ++ line ∷ []) ≡ count + 1
  more_counted line = omega (arith, length-append ran.done (line ∷ []), ran.counted)

  pub goes_on : (line rest' said : List ℕ) (after : Session) (kept' : Kept) (new' : Option (List ℕ)) (buffer' : List ℕ) → count < LINES → lines_of rest ≡ line ∷ lines_of rest' → PlaysLine ran.session line after said → Stands kept' after
      → HandsOn new new' (buffer ++ said) buffer' → Ran start lines (Some rest') (count + 1) kept' old new' buffer'
  goes_on line rest' said after kept' new' buffer' fewer next plays stands written = record {
    done = ran.done ++ line ∷ [];
    session = after;
    front = ran.front ++ written.0;
    counted = more_counted line;
    few = omega arith;
    others = more_done line rest' next;
    plays = subst (λ t. Plays start (ran.done ++ line ∷ []) after t) (regroup ran.front buffer said written.0 buffer' written.2) (plays_more start ran.session after ran.done line (ran.front ++ buffer) said ran.plays plays);
    stands = stands;
    written = Appends-trans old new new' ran.front written.0 ran.written written.1;
  }

  -- the writer fails, or there is no memory, before a line's answer stands in the buffer
  pub write_ends : (new' : Option (List ℕ)) (buffer' : List ℕ) → AppendsFront new new' buffer → buffer' ≡ [] → WriteEnds start lines old new' buffer'
  write_ends new' buffer' front emptied = (
    emptied,
    (
      ran.front ++ buffer,
      stops_behind,
      (length ran.front + front.0, subst (λ t. Appends old new' t) (sym (take-append-add ran.front buffer front.0)) (Appends-trans old new new' ran.front (take front.0 buffer) ran.written front.1)),
    ),
  )

  pub memory_ends : (new' : Option (List ℕ)) (buffer' : List ℕ) → HandsOn new new' buffer buffer' → StopEnds start lines old new' buffer'
  memory_ends new' buffer' handed =
      let same : ran.front ++ buffer ≡ (ran.front ++ handed.0) ++ buffer' = ap (λ t. ran.front ++ t) handed.2 ∙ sym (append_assoc ran.front handed.0 buffer') in
      (ran.front ++ handed.0, subst (StopsBehind start lines) same stops_behind, Appends-trans old new new' ran.front handed.0 ran.written handed.1)

  -- what the buffer holds is handed on
  pub handed_more : (new' : Option (List ℕ)) (buffer' : List ℕ) → HandsOn new new' (buffer ++ []) buffer' → Ran start lines (Some rest) count kept old new' buffer'
  handed_more new' buffer' handed = record {
    done = ran.done;
    session = ran.session;
    front = ran.front ++ handed.0;
    counted = ran.counted;
    few = ran.few;
    others = ran.others;
    plays = subst (λ t. Plays start ran.done ran.session t) (sym (append-nil (ran.front ++ buffer)) ∙ regroup ran.front buffer [] handed.0 buffer' handed.2) ran.plays;
    stands = ran.stands;
    written = Appends-trans old new new' ran.front handed.0 ran.written handed.1;
  }

-- ---- one turn, by what comes next

pub read_ends : (start : Session) (why : ReplayFault) (lines : List (List ℕ)) (left : Option (List ℕ)) (count : ℕ) (kept : Kept) (old new : Option (List ℕ)) (buffer : List ℕ) → (why ≡ fault.Read) ⊎ (why ≡ fault.NoMemory) → Ran start lines left count kept old new buffer
    → Ends start (let ended : Result ⊤ ReplayFault = Err why in ended) lines old new buffer
read_ends start why lines None count kept old new buffer why_is ran = absurd ran.others
read_ends start why lines (Some rest) count kept old new buffer (inl e) ran = subst (λ w. Ends start (let ended : Result ⊤ ReplayFault = Err w in ended) lines old new buffer) (sym e) (ran.front, stops_behind start lines rest count kept old new buffer ran, ran.written)
read_ends start why lines (Some rest) count kept old new buffer (inr e) ran = subst (λ w. Ends start (let ended : Result ⊤ ReplayFault = Err w in ended) lines old new buffer) (sym e) (ran.front, stops_behind start lines rest count kept old new buffer ran, ran.written)

-- no line comes
pub end_is : (start : Session) (lines : List (List ℕ)) (left after : Option (List ℕ)) (count : ℕ) (kept : Kept) (old new : Option (List ℕ)) (buffer : List ℕ) → GivesEnd left after → Ran start lines left count kept old new buffer → WellEnds start lines old new buffer
end_is start lines None after count kept old new buffer gives ran = absurd ran.others
end_is start lines (Some rest) None count kept old new buffer gives ran = absurd gives
end_is start lines (Some rest) (Some more) count kept old new buffer gives ran = ends start lines rest count kept old new buffer ran gives.0

-- a line that is too long comes
pub long_ends : (start : Session) (lines : List (List ℕ)) (left : Option (List ℕ)) (count : ℕ) (kept : Kept) (old new : Option (List ℕ)) (buffer : List ℕ) → GivesTooLong left → Ran start lines left count kept old new buffer → BadEnds start (count + 1) lines old new buffer
long_ends start lines None count kept old new buffer gives ran = absurd ran.others
long_ends start lines (Some rest) count kept old new buffer gives ran = bad_ends start lines rest count kept old new buffer ran gives.0 gives.1 gives.2 (inr (inl gives.3))

-- a line that says nothing known comes
pub bad_line_ends : (start : Session) (lines : List (List ℕ)) (left after : Option (List ℕ)) (line : List ℕ) (count : ℕ) (kept : Kept) (old new : Option (List ℕ)) (buffer : List ℕ) → GivesLine left after line → ((session : Session) → Stands kept session → IsBadFor session (command_of session.config session.gathered line)) → Ran start lines left count kept old new buffer → BadEnds start (count + 1) lines old new buffer
bad_line_ends start lines None after line count kept old new buffer gives bad ran = absurd ran.others
bad_line_ends start lines (Some rest) None line count kept old new buffer gives bad ran = absurd gives
bad_line_ends start lines (Some rest) (Some more) line count kept old new buffer gives bad ran = bad_ends start lines rest count kept old new buffer ran line (lines_of more) gives.0 (inr (inr (bad ran.session ran.stands)))

-- a line that was played comes
played : (session : Session) (line : List ℕ) (kept' : Kept) (text : List ℕ) → length line ≤ line_octets → PlaysTo true session line kept' text
    → (after : Session) × Stands kept' after × PlaysLine session line after text
played session line kept' text short plays =
    (plays.0, plays.1, record { command = plays.2.0; short = short; says = plays.2.1; answers = plays.2.2 })

pub line_goes_on : (start : Session) (lines : List (List ℕ)) (left after : Option (List ℕ)) (line : List ℕ) (count : ℕ) (kept kept' : Kept) (old mid new : Option (List ℕ)) (buffer buffer' text : List ℕ) → count < LINES → GivesLine left after line → ((session : Session) → Stands kept session → PlaysTo true session line kept' text)
    → HandsOn mid new (buffer ++ text) buffer' → Ran start lines left count kept old mid buffer → Ran start lines after (count + 1) kept' old new buffer'
line_goes_on start lines None after line count kept kept' old mid new buffer buffer' text fewer gives plays written ran = absurd ran.others
line_goes_on start lines (Some rest) None line count kept kept' old mid new buffer buffer' text fewer gives plays written ran = absurd gives
line_goes_on start lines (Some rest) (Some more) line count kept kept' old mid new buffer buffer' text fewer gives plays written ran =
    let p = played ran.session line kept' text gives.1 (plays ran.session ran.stands) in
    goes_on start lines rest count kept old mid buffer ran line more text p.0 kept' new buffer' fewer gives.0 p.2 p.1 written

-- its answer can't be put into the buffer
pub buffer_ends : (start : Session) (why : ReplayFault) (lines : List (List ℕ)) (left : Option (List ℕ)) (count : ℕ) (kept : Kept) (old mid new : Option (List ℕ)) (buffer buffer' text : List ℕ) → Buffers (let ended : Result ⊤ ReplayFault = Err why in ended) mid new buffer text buffer' → Ran start lines left count kept old mid buffer
    → Ends start (let ended : Result ⊤ ReplayFault = Err why in ended) lines old new buffer'
buffer_ends start why lines None count kept old mid new buffer buffer' text buffers ran = absurd ran.others
buffer_ends start fault.Write lines (Some rest) count kept old mid new buffer buffer' text buffers ran = write_ends start lines rest count kept old mid buffer ran new buffer' buffers.0 buffers.1
buffer_ends start fault.NoMemory lines (Some rest) count kept old mid new buffer buffer' text buffers ran = memory_ends start lines rest count kept old mid buffer ran new buffer' buffers
buffer_ends start fault.Read lines (Some rest) count kept old mid new buffer buffer' text buffers ran = absurd buffers
buffer_ends start (fault.BadLine number) lines (Some rest) count kept old mid new buffer buffer' text buffers ran = absurd buffers

-- ---- before the first line, after the last that there may be, and at the end

pub handed_on : (start : Session) (lines : List (List ℕ)) (left : Option (List ℕ)) (count : ℕ) (kept : Kept) (old mid new : Option (List ℕ)) (buffer buffer' : List ℕ) → HandsOn mid new (buffer ++ []) buffer' → Ran start lines left count kept old mid buffer → Ran start lines left count kept old new buffer'
handed_on start lines None count kept old mid new buffer buffer' handed ran = absurd ran.others
handed_on start lines (Some rest) count kept old mid new buffer buffer' handed ran = handed_more start lines rest count kept old mid buffer ran new buffer' handed

-- a buffer that is written whole, or not
pub flush_hands : (result : Result ⊤ ReplayFault) (old new : Option (List ℕ)) (buffer buffer' : List ℕ) → OnOk result (Appends old new buffer) → OnErr result (AppendsFront old new buffer) → IfErr result (λ why. why ≡ fault.Write) → buffer' ≡ []
    → Buffers result old new buffer [] buffer'
flush_hands (Ok done) old new buffer buffer' whole front why emptied = (buffer, whole, ap (λ t. buffer ++ t) (sym emptied))
flush_hands (Err fault.Write) old new buffer buffer' whole front why emptied = (front, emptied)
flush_hands (Err fault.Read) old new buffer buffer' whole front why emptied = cc why
flush_hands (Err fault.NoMemory) old new buffer buffer' whole front why emptied = cc why
flush_hands (Err (fault.BadLine number)) old new buffer buffer' whole front why emptied = cc why

-- and one that stays
pub stay_hands : (old : Option (List ℕ)) (buffer : List ℕ) → HandsOn old old (buffer ++ []) buffer
stay_hands old buffer = ([], Appends-nil old, append-nil buffer)

pub begins : (start : Session) (script : List ℕ) (kept : Kept) (old : Option (List ℕ)) → Stands kept start → Appends old old [] → Ran start (lines_of script) (Some script) 0 kept old old []
begins start script kept old stands none = record { done = []; session = start; front = []; counted = refl; few = omega arith; others = refl; plays = (refl, refl); stands = stands; written = none }

pub nothing_played : (start : Session) (why : ReplayFault) (lines : List (List ℕ)) (old : Option (List ℕ)) (buffer : List ℕ) → why ≡ fault.NoMemory → buffer ≡ [] → Ends start (let ended : Result ⊤ ReplayFault = Err why in ended) lines old old buffer
nothing_played start why lines old buffer why_is empty =
    let none : StopsBehind start lines ([] ++ buffer) = record { count = 0; within = omega arith; few = omega arith; prints = record { after = start; plays = (refl, empty) } } in
    subst (λ w. Ends start (let ended : Result ⊤ ReplayFault = Err w in ended) lines old old buffer) (sym why_is) ([], none, Appends-nil old)

pub line_too_many : (start : Session) (lines : List (List ℕ)) (left after : Option (List ℕ)) (line : List ℕ) (kept : Kept) (old new : Option (List ℕ)) (buffer : List ℕ) → GivesLine left after line → Ran start lines left LINES kept old new buffer → BadEnds start (LINES + 1) lines old new buffer
line_too_many start lines None after line kept old new buffer gives ran = absurd ran.others
line_too_many start lines (Some rest) None line kept old new buffer gives ran = absurd gives
line_too_many start lines (Some rest) (Some more) line kept old new buffer gives ran = bad_ends start lines rest LINES kept old new buffer ran line (lines_of more) gives.0 (inl (omega arith))
