use Rattle.std.proofs.Common.{rules, length, sym, ◌∙◌, arith}
use Rattle.sender_core.specs.Core.{shown}
use Rattle.sender_core.proofs.CoreLemmas.{none_of, first_of, lowest}
use Rattle.sender_core.proofs.sender.SenderCore.sends_next.Goals as goal

pub file_data-requires-clause-inside : goal.file_data-requires-clause-inside
file_data-requires-clause-inside c =
    let core = c.args.self.now in
    let first = first_of _ c.in-Some.run' (sym c.in-Some.is ∙ c.first_run.ensures) in
    let lowest = lowest (shown core).remains (length core.request.file) c.in-Some.run' first.0 first.1 in
    rw (c.file.ensures) (omega (arith, lowest.filled, lowest.within, c.segment_of.ensures.segment))

pub returns-in-None : goal.returns-in-None
returns-in-None c = rw (none_of _ (sym c.in-None.is ∙ c.first_run.ensures)) c.sends_eof.ensures

pub returns-in_ok-pdu-in-Some : goal.returns-in_ok-pdu-in-Some
returns-in_ok-pdu-in-Some c =
    rw (first_of _ c.in-Some.run' (sym c.in-Some.is ∙ c.first_run.ensures)).1 (search rules)
