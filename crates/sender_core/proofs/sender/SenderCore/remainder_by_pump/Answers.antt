use Rattle.std.proofs.Common.{sym, ◌∙◌}
use Rattle.sender_core.specs.Core.{sending_of, shown}
use Rattle.sender_core.proofs.CoreLemmas.{first_of}
use Rattle.sender_core.proofs.ResponseData.{left_by_part}
use Rattle.sender_core.proofs.sender.SenderCore.remainder_by_pump.Goals as goal

pub returns-in-Some : goal.returns-in-Some
returns-in-Some c i =
    let core = c.args.self.now in
    let first = first_of _ c.in-Some.run' (sym c.in-Some.is ∙ c.first_run.ensures) in
    left_by_part (sending_of core) (shown core) c.segment_of.result c.in-Some.run' first.0 i c.if-self.false first.1 c.segment_of.ensures.segment
