use Rattle.std.proofs.Common.{ap}
use Rattle.std.specs.Option.{is_some}
use Rattle.outbox_file.proofs.TextFacts.{none_alone}
use Rattle.outbox_file.proofs.lines.short_alone.Goals as goal

pub returns-in-Some : goal.returns-in-Some
returns-in-Some c = none_alone c.args.kind.now c.args.number.now c.args.rest (ap is_some c.in-Some.is)
