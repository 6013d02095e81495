use Rattle.script_replay.proofs.RunFacts.{flush_hands, stay_hands}
use Rattle.script_replay.proofs.run.hand_on.Goals as goal

pub returns-in-ByBlocks : goal.returns-in-ByBlocks
returns-in-ByBlocks g c = stay_hands (g.W.Write.contents c.args.writer.now) c.args.buffer.now.items

pub returns-in-ByLines : goal.returns-in-ByLines
returns-in-ByLines g c =
    let done = c.flush_buffer.ensures in
    flush_hands c.flush_buffer.result (g.W.Write.contents c.args.writer.now) (g.W.Write.contents c.flush_buffer.new.writer) c.args.buffer.now.items c.flush_buffer.new.buffer.items done.ok done.err done.fault done.emptied
