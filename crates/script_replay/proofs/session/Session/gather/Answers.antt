use Rattle.std.proofs.Common.{refl}
use Rattle.script_replay.proofs.SessionFacts.{obeys_file_by}
use Rattle.script_replay.proofs.session.Session.gather.Goals as goal

pub returns : goal.returns
returns c = λ played text stands.
    obeys_file_by c.add.result played c.args.octets.now c.as_slice.result.now c.args.self.now (record c.args.self.now { gathered = c.add.new.self })
    text stands refl c.as_slice.ensures c.add.ensures.gathers c.add.ensures.added
