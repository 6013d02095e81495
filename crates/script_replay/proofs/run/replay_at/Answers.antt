use Rattle.std.proofs.lemmas.Result.{err_from_is_err_and}
use Rattle.script_replay.specs.Sessions.{fresh}
use Rattle.script_replay.proofs.BufferFacts.{not_started}
use Rattle.script_replay.proofs.run.replay_at.Goals as goal

pub returns-in_err-session : goal.returns-in_err-session
returns-in_err-session g c =
    let p = err_from_is_err_and c.from_residual.result c.from_residual.ensures.1 in
    rw (p.1) (not_started fresh (g.R.Read.remaining c.args.reader.now) (g.W.Write.contents c.args.writer.now) _ p.2)
