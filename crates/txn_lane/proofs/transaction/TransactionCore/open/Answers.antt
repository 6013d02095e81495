use Rattle.std.proofs.Common.{IfOk, sym, subst}
use Rattle.lane_table.specs.Logs.{opened_by}
use Rattle.txn_lane.specs.Transactions.{IsOpenedBy}
use Rattle.txn_lane.proofs.transaction.TransactionCore.open.Goals as goal

pub returns-in-On-clause-opened : goal.returns-in-On-clause-opened
returns-in-On-clause-opened c =
    subst (λ e. IfOk c.on.result (λ opened. IsOpenedBy (opened_by c.args.side.now c.args.key e) e opened.0 opened.1)) (sym c.in-On.is)
    (c.on.ensures.opened c.in-On.field-0)
