use Rattle.std.proofs.Common.{IfOk, IfErr}
use Rattle.lane_table.specs.Logs.{first_answer}
use Rattle.txn_lane.specs.Transactions.{IsOpenedBy, IsWhy}
use Rattle.txn_lane.proofs.PlanFacts.{by_received}
use Rattle.txn_lane.proofs.transaction.TransactionCore.on.Goals as goal

pub returns-clause-opened : goal.returns-clause-opened
returns-clause-opened c named =
    let i = c.in-Receiving-Pdu in
    by_received c.args.side.now c.args.key named c.requires.0 i.params c.args.what.now i.pdu i.is-0 i.is-1 c.requires.1
    (λ o e. IfOk c.receive.result (λ opened. IsOpenedBy o e opened.0 opened.1)) (c.receive.ensures.opened named)

pub returns-clause-refused : goal.returns-clause-refused
returns-clause-refused c named =
    let i = c.in-Receiving-Pdu in
    by_received c.args.side.now c.args.key named c.requires.0 i.params c.args.what.now i.pdu i.is-0 i.is-1 c.requires.1
    (λ o e. IfErr c.receive.result (λ why. IsWhy (first_answer o e) why)) (c.receive.ensures.refused named)
