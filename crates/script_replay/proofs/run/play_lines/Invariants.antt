use Rattle.std.specs.Prelude.{List, ℕ, Option}
use Rattle.script_replay.specs.Running.{Ran}
use Rattle.script_replay.specs.Sessions.{Session}
use Rattle.script_replay.proofs.run.play_lines.Given as goal

-- so many lines were played
abbrev pub invariant-loop-count : goal.invariant-loop-count
invariant-loop-count g l =
    let remaining = g.B.Read.remaining in
    let contents = g.W.Write.contents in
    (start : Session) (lines : List (List ℕ)) (old : Option (List ℕ)) → Ran start lines (remaining l.fn.reader) 0 l.fn.session old (contents l.fn.writer) l.fn.buffer.items
    → Ran start lines (remaining l.reader) l.count l.session old (contents l.writer) l.buffer.items
