use Rattle.std.proofs.lemmas.Bool.{false≢true}
use Rattle.std.proofs.lemmas.Result.{err_from_is_err_and}
use Rattle.script_io.specs.Lines.{lines_of}
use Rattle.script_replay.specs.Run.{Replays}
use Rattle.script_replay.specs.Running.{Ends}
use Rattle.script_replay.proofs.BufferFacts.{flushed, not_flushed, if_some_then}
use Rattle.script_replay.proofs.run.replay_in.Goals as goal

pub returns-in_err-flush_buffer : goal.returns-in_err-flush_buffer
returns-in_err-flush_buffer g c = λ start stands.
    let old = g.W.Write.contents c.args.writer.now in
    let mid = g.W.Write.contents c.play_script-ended.new.writer in
    let new = g.W.Write.contents c.flush_buffer.new.writer in
    let p = err_from_is_err_and c.from_residual.result c.from_residual.ensures.1 in
    let failed = c.in_err-flush_buffer.ensures in
    let held = c.play_script-ended.new.buffer.items in
    if_some_then (g.R.Read.remaining c.args.reader.now) (λ script. Ends start c.play_script-ended.result (lines_of script) old mid held) (λ script. Replays start c.from_residual.result (lines_of script) old new) (c.play_script-ended.ensures start stands)
    (λ script ends. rw (p.1, p.2, failed.fault) (not_flushed start c.play_script-ended.result (lines_of script) old mid new held ends (λ empty. false≢true (failed.empty empty)) failed.err))

pub returns : goal.returns
returns g c = λ start stands.
    let old = g.W.Write.contents c.args.writer.now in
    let mid = g.W.Write.contents c.play_script-ended.new.writer in
    let new = g.W.Write.contents c.flush_buffer.new.writer in
    let held = c.play_script-ended.new.buffer.items in
    if_some_then (g.R.Read.remaining c.args.reader.now) (λ script. Ends start c.play_script-ended.result (lines_of script) old mid held) (λ script. Replays start c.play_script-ended.result (lines_of script) old new) (c.play_script-ended.ensures start stands)
    (λ script ends. flushed start c.play_script-ended.result (lines_of script) old mid new held ends c.in_ok-flush_buffer.ensures.ok)
