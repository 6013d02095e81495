use Rattle.std.proofs.Common.{◌≡◌, ◌++◌, subst, inr, true, false, rules, Bool}
use Rattle.std.specs.Prelude.{string_bytes, List, ℕ}
use Rattle.std.proofs.lemmas.Result.{err_from_is_err_and}
use Rattle.script_io.specs.declared.input.NextLine.{NextLine}
use Rattle.script_io.specs.Lines.{GivesNext, GivesLine, GivesTooLong, GivesEnd}
use Rattle.script_io.specs.Output.{HandsOn}
use Rattle.script_lines.specs.Commands.{command_of}
use Rattle.script_replay.specs.Sessions.{IsBadFor}
use Rattle.script_replay.specs.Running.{PlaysTo}
use Rattle.script_replay.proofs.RunFacts.{read_ends, end_is, long_ends, bad_line_ends, line_goes_on, buffer_ends}
use Rattle.script_replay.proofs.run.turn.Goals as goal

pub returns-in_err-next_line-clause-played : goal.returns-in_err-next_line-clause-played
returns-in_err-next_line-clause-played g c = λ start lines old ran.
    let p = err_from_is_err_and c.from_residual.result c.from_residual.ensures.1 in
    rw (p.1, p.2) (read_ends start _ lines _ _ _ old _ _ c.in_err-next_line.ensures.fault ran)

pub returns-in-TooLong-clause-played : goal.returns-in-TooLong-clause-played
returns-in-TooLong-clause-played g c = λ start lines old ran.
    let left = g.B.Read.remaining c.args.reader.now in
    let after = g.B.Read.remaining c.next_line.new.reader in
    let gives : GivesTooLong left = subst (λ (n : NextLine). GivesNext n left after c.next_line.new.line.items) c.in-TooLong.is c.in_ok-next_line.ensures.found in
    long_ends start lines left c.args.count c.args.session.now old _ _ gives ran

pub returns-in_err-play-clause-played : goal.returns-in_err-play-clause-played
returns-in_err-play-clause-played g c = λ start lines old ran.
    let p = err_from_is_err_and c.from_residual-in_err-play.result c.from_residual-in_err-play.ensures.1 in
    rw (p.1) (read_ends start _ lines _ _ _ old _ _ (inr p.2) ran)

pub returns-then-not-branch-clause-played : goal.returns-then-not-branch-clause-played
returns-then-not-branch-clause-played g c = λ start lines old ran.
    let left = g.B.Read.remaining c.args.reader.now in
    let after = g.B.Read.remaining c.next_line.new.reader in
    let line = c.next_line.new.line.items in
    let gives : GivesLine left after line = subst (λ (n : NextLine). GivesNext n left after line) c.in-Line.is c.in_ok-next_line.ensures.found in
    let bad_line : c.in_ok-play.field-0 ≡ false = search rules in
    bad_line_ends start lines left after line c.args.count c.args.session.now old _ _ gives
    (λ session stands.
    subst (λ (l : List ℕ). IsBadFor session (command_of session.config session.gathered l)) c.as_slice.ensures.value
    (subst (λ (good : Bool). PlaysTo good session c.as_slice.result.now c.play.new.self (string_bytes c.play.new.text)) bad_line
    (c.in_ok-play.ensures session stands))) ran

pub returns-in-End-clause-played : goal.returns-in-End-clause-played
returns-in-End-clause-played g c = λ start lines old ran.
    let left = g.B.Read.remaining c.args.reader.now in
    let after = g.B.Read.remaining c.next_line.new.reader in
    let gives : GivesEnd left after = subst (λ (n : NextLine). GivesNext n left after c.next_line.new.line.items) c.in-End.is c.in_ok-next_line.ensures.found in
    end_is start lines left after c.args.count c.args.session.now old _ _ gives ran

pub returns-in_err-write_buffered-clause-played : goal.returns-in_err-write_buffered-clause-played
returns-in_err-write_buffered-clause-played g c = λ start lines old ran.
    let left = g.B.Read.remaining c.args.reader.now in
    let mid = g.W.Write.contents c.args.writer.now in
    let new = g.W.Write.contents c.write_buffered.new.writer in
    let p = err_from_is_err_and c.from_residual-in_err-write_buffered.result c.from_residual-in_err-write_buffered.ensures.1 in
    rw (p.1, p.2) (buffer_ends start _ lines left c.args.count c.args.session.now old mid new _ _ _ c.in_err-write_buffered.ensures.handed ran)

pub returns-clause-played : goal.returns-clause-played
returns-clause-played g c = λ start lines old ran.
    let left = g.B.Read.remaining c.args.reader.now in
    let after = g.B.Read.remaining c.next_line.new.reader in
    let line = c.next_line.new.line.items in
    let text = string_bytes c.play.new.text in
    let gives : GivesLine left after line = subst (λ (n : NextLine). GivesNext n left after line) c.in-Line.is c.in_ok-next_line.ensures.found in
    let good_line : c.in_ok-play.field-0 ≡ true = search rules in
    let mid = g.W.Write.contents c.args.writer.now in
    let new = g.W.Write.contents c.write_buffered.new.writer in
    let held = c.args.buffer.now.items in
    let left_held = c.write_buffered.new.buffer.items in
    let written : HandsOn mid new (held ++ text) left_held = subst (λ (t : List ℕ). HandsOn mid new (held ++ t) left_held) c.as_bytes.ensures.value c.in_ok-write_buffered.ensures.handed in
    line_goes_on start lines left after line c.args.count c.args.session.now c.play.new.self old mid new held left_held text c.requires gives
    (λ session stands.
    subst (λ (l : List ℕ). PlaysTo true session l c.play.new.self text) c.as_slice.ensures.value
    (subst (λ (good : Bool). PlaysTo good session c.as_slice.result.now c.play.new.self text) good_line (c.in_ok-play.ensures session stands)))
    written ran
