use Rattle.std.proofs.Common.{rules, Some, [], ◌++◌, sym, ap, ◌∙◌, subst}
use Rattle.std.proofs.lemmas.Result.{err_from_is_err_and}
use Rattle.lane_table.specs.Keeping.{bundle_of}
use Rattle.lane_table.specs.Lane.{key_at}
use Rattle.lane_table.specs.Logs.{log_by, first_answer}
use Rattle.lane_table.proofs.LogFacts.{nothing_issued}
use Rattle.txn_lane.specs.LaneCode.{journal_of, IsHeld}
use Rattle.txn_lane.specs.Stepping.{IsOffered, IsNotCarried}
use Rattle.lane_table.specs.Steps.{IsDone}
use Rattle.txn_lane.proofs.TakenFacts.{free_if, may_then, offered_then, why_not, held_then, done_then}
use Rattle.txn_lane.proofs.FirstFacts.{begins_by, is_some_of, stands_first, next_first}
use Rattle.txn_lane.proofs.lane.Lane.step_first.Goals as goal

pub start-requires-clause-opens : goal.start-requires-clause-opens
start-requires-clause-opens g c =
    let i = c.self.inside in
    let begins = begins_by i.side i.user i.lane i.source i.last i.before (journal_of i.running) c.args.self.now c.args.event.now c.args.seq
    (sym c.self.view_is) c.self.invariant.sound c.requires.first in
    is_some_of _ begins.transaction begins.is

pub start-requires-clause-of_key : goal.start-requires-clause-of_key
start-requires-clause-of_key g c =
    let i = c.self.inside in
    (begins_by i.side i.user i.lane i.source i.last i.before (journal_of i.running) c.args.self.now c.args.event.now c.args.seq
    (sym c.self.view_is) c.self.invariant.sound c.requires.first).of_key

pub start-requires-clause-may : goal.start-requires-clause-may
start-requires-clause-may g c answer is =
    let i = c.self.inside in
    let key = key_at i.source c.args.seq in
    let begins = begins_by i.side i.user i.lane i.source i.last i.before (journal_of i.running) c.args.self.now c.args.event.now c.args.seq
    (sym c.self.view_is) c.self.invariant.sound c.requires.first in
    let says = ap (λ o. first_answer o c.args.event.now) begins.is in
    may_then c.args.self.now c.args.event.now key (log_by begins.transaction []) answer begins.meets (sym says ∙ is)
    c.requires.outlet.kept.0 (g.O.Outlet.stands c.args.outlet.now) c.requires.outlet.kept.2 c.requires.outlet.kept.1
    (g.O.Outlet.user c.args.outlet.now) (g.O.Outlet.lane c.args.outlet.now) c.address.result.user c.address.result.lane
    c.requires.outlet.of_user c.requires.outlet.of_lane c.address.ensures.user c.address.ensures.lane

pub returns-in_err-running-clause-left : goal.returns-in_err-running-clause-left
returns-in_err-running-clause-left g c =
    let p = err_from_is_err_and c.from_residual.result c.from_residual.ensures.1 in
    let i = c.self.inside in
    let key = key_at i.source c.args.seq in
    let begins = begins_by i.side i.user i.lane i.source i.last i.before (journal_of i.running) c.args.self.now c.args.event.now c.args.seq
    (sym c.self.view_is) c.self.invariant.sound c.requires.first in
    let says = ap (λ o. first_answer o c.args.event.now) begins.is in
    rw (p.1, p.2) (record {
      same = search rules;
      why_not = why_not g.O.Outlet.returns c.args.outlet.now c.start.new.outlet c.args.self.now c.args.event.now key (log_by begins.transaction []) c.address.result.user c.address.result.lane c.in_err-running.field-0.0 begins.meets
          (subst (λ r. IsNotCarried g.O.Outlet.returns c.args.outlet.now c.start.new.outlet c.address.result.user c.address.result.lane key r c.in_err-running.field-0.0) says c.in_err-running.ensures.refused);
    })

pub invariant_of-self : goal.invariant_of-self
invariant_of-self g c =
    let i = c.self.inside in
    let key = key_at i.source c.args.seq in
    let begins = begins_by i.side i.user i.lane i.source i.last i.before (journal_of i.running) c.args.self.now c.args.event.now c.args.seq
    (sym c.self.view_is) c.self.invariant.sound c.requires.first in
    let says = ap (λ o. first_answer o c.args.event.now) begins.is in
    let answer = c.in_ok-running.ensures.begun.answer in
    let done = c.in_ok-running.ensures.begun.started in
    let next = next_first i.side i.user i.lane i.source i.last i.before (journal_of i.running) c.in_ok-running.running.journal.items c.args.self.now c.args.event.now c.args.seq begins.transaction
    (sym c.self.view_is) begins.opens c.requires.first.number_is done.journal in
    subst (λ s. IsHeld s (Some c.in_ok-running.running)) (sym next)
    (held_then c.args.self.now c.args.event.now key (log_by begins.transaction []) answer begins.meets (sym says ∙ done.answered) c.in_ok-running.running
    (stands_first c.in_ok-running.running.core _ begins.transaction c.args.event.now answer begins.is done.stands)
    (done.trace ∙ ap (λ told. told ++ answer.inds) (sym (nothing_issued begins.transaction))))

pub returns-clause-taken : goal.returns-clause-taken
returns-clause-taken g c =
    let i = c.self.inside in
    let key = key_at i.source c.args.seq in
    let begins = begins_by i.side i.user i.lane i.source i.last i.before (journal_of i.running) c.args.self.now c.args.event.now c.args.seq
    (sym c.self.view_is) c.self.invariant.sound c.requires.first in
    let says = ap (λ o. first_answer o c.args.event.now) begins.is in
    let answer = c.in_ok-running.ensures.begun.answer in
    let is = sym says ∙ c.in_ok-running.ensures.begun.started.answered in
    let next = next_first i.side i.user i.lane i.source i.last i.before (journal_of i.running) c.in_ok-running.running.journal.items c.args.self.now c.args.event.now c.args.seq begins.transaction
    (sym c.self.view_is) begins.opens c.requires.first.number_is c.in_ok-running.ensures.begun.started.journal in
    let done = c.in_ok-running.ensures.begun.done_by in
    record {
      free = free_if c.args.self.now c.args.event.now key (log_by begins.transaction []) answer begins.meets is;
      next_is = next;
      done_is =
          subst (λ s. IsDone s c.in_ok-running.done) (sym next)
          (done_then c.args.self.now c.args.event.now key (log_by begins.transaction []) answer begins.meets is
          c.in_ok-running.done done.key_is done.pdus done.timers done.deposit);
    }

pub returns-clause-offered : goal.returns-clause-offered
returns-clause-offered g c =
    let i = c.self.inside in
    let key = key_at i.source c.args.seq in
    let begins = begins_by i.side i.user i.lane i.source i.last i.before (journal_of i.running) c.args.self.now c.args.event.now c.args.seq
    (sym c.self.view_is) c.self.invariant.sound c.requires.first in
    let says = ap (λ o. first_answer o c.args.event.now) begins.is in
    let answer = c.in_ok-running.ensures.begun.answer in
    let is = sym says ∙ c.in_ok-running.ensures.begun.started.answered in
    let next = next_first i.side i.user i.lane i.source i.last i.before (journal_of i.running) c.in_ok-running.running.journal.items c.args.self.now c.args.event.now c.args.seq begins.transaction
    (sym c.self.view_is) begins.opens c.requires.first.number_is c.in_ok-running.ensures.begun.started.journal in
    subst (λ s. IsOffered g.O.Outlet.takes c.args.outlet.now c.start.new.outlet (bundle_of s)) (sym next)
    (offered_then g.O.Outlet.takes c.args.outlet.now c.start.new.outlet c.args.self.now c.args.event.now key (log_by begins.transaction []) answer begins.meets is
    c.address.result.user c.address.result.lane c.address.ensures.user c.address.ensures.lane c.in_ok-running.ensures.begun.offered)
