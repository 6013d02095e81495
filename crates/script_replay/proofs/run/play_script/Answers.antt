use Rattle.std.proofs.Common.{◌∙◌, Option, List, ℕ, subst}
use Rattle.std.specs.Prelude.{IfSome}
use Rattle.std.proofs.lemmas.Result.{err_from_is_err_and}
use Rattle.script_io.specs.Lines.{lines_of}
use Rattle.script_replay.specs.Running.{Ends}
use Rattle.script_replay.proofs.RunFacts.{nothing_played}
use Rattle.script_replay.proofs.BufferFacts.{started, if_some_always}
use Rattle.script_replay.proofs.run.play_script.Goals as goal

pub returns-in_err-blocks : goal.returns-in_err-blocks
returns-in_err-blocks g c = λ start stands.
    let p = err_from_is_err_and c.from_residual.result c.from_residual.ensures.1 in
    let left = g.R.Read.remaining c.args.reader.now in
    let old = g.W.Write.contents c.args.writer.now in
    let held = c.args.buffer.now.items in
    if_some_always left (λ script. Ends start c.from_residual.result (lines_of script) old old held)
    (λ script. rw (p.1) (nothing_played start _ (lines_of script) old held (p.2 ∙ c.in_err-blocks.ensures.fault) c.requires))

pub returns : goal.returns
returns g c = λ start stands.
    let old = g.W.Write.contents c.args.writer.now in
    let new = g.W.Write.contents c.play_lines.new.writer in
    let held = c.play_lines.new.buffer.items in
    subst (λ (left : Option (List ℕ)). IfSome left (λ script. Ends start c.play_lines.result (lines_of script) old new held)) c.in_ok-blocks.ensures.same
    (started start _ c.args.session old new c.args.buffer.now.items held c.play_lines.result stands c.requires (c.play_lines.ensures start))
