use Rattle.std.proofs.Common.{sym, ◌∙◌}
use Rattle.program_parking.proofs.PlaceFacts.{within_all}
use Rattle.program_parking.proofs.lane.insert_fitting.Goals as goal

pub returns-clause-within : goal.returns-clause-within
returns-clause-within c = c.in_ok-insert.ensures.ok ∙ sym (within_all c.args.limit c.args.one c.args.waiting.now.items c.requires.count c.requires.octets)
