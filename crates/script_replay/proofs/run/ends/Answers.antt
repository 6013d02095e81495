use Rattle.std.proofs.Common.{subst}
use Rattle.std.proofs.lemmas.Result.{err_from_is_err_and}
use Rattle.script_io.specs.declared.input.NextLine.{NextLine}
use Rattle.script_io.specs.Lines.{GivesNext, GivesLine, GivesTooLong, GivesEnd}
use Rattle.script_replay.proofs.RunFacts.{read_ends, end_is, line_too_many, long_ends}
use Rattle.script_replay.proofs.run.ends.Goals as goal

pub returns-in_err-next_line : goal.returns-in_err-next_line
returns-in_err-next_line g c = λ start lines session old new buffer ran.
    let p = err_from_is_err_and c.from_residual.result c.from_residual.ensures.1 in
    rw (p.1, p.2) (read_ends start _ lines _ _ session old new buffer c.in_err-next_line.ensures.fault ran)

pub returns-in-End : goal.returns-in-End
returns-in-End g c = λ start lines session old new buffer ran.
    let left = g.B.Read.remaining c.args.reader.now in
    let after = g.B.Read.remaining c.next_line.new.reader in
    let gives : GivesEnd left after = subst (λ (n : NextLine). GivesNext n left after c.next_line.new.line.items) c.in-End.is c.in_ok-next_line.ensures.found in
    end_is start lines left after _ session old new buffer gives ran

pub returns-in-TooLong : goal.returns-in-TooLong
returns-in-TooLong g c = λ start lines session old new buffer ran.
    let left = g.B.Read.remaining c.args.reader.now in
    let after = g.B.Read.remaining c.next_line.new.reader in
    let gives : GivesTooLong left = subst (λ (n : NextLine). GivesNext n left after c.next_line.new.line.items) c.in-TooLong.is c.in_ok-next_line.ensures.found in
    long_ends start lines left _ session old new buffer gives ran

pub returns-in-Line : goal.returns-in-Line
returns-in-Line g c = λ start lines session old new buffer ran.
    let left = g.B.Read.remaining c.args.reader.now in
    let after = g.B.Read.remaining c.next_line.new.reader in
    let line = c.next_line.new.line.items in
    let gives : GivesLine left after line = subst (λ (n : NextLine). GivesNext n left after line) c.in-Line.is c.in_ok-next_line.ensures.found in
    line_too_many start lines left after line session old new buffer gives ran
