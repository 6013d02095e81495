use Rattle.std.proofs.Common.{rules, ◌++◌, Some, sym, ap, ◌∙◌, subst}
use Rattle.std.proofs.lemmas.Result.{err_from_is_err_and}
use Rattle.lane_table.specs.Keeping.{bundle_of}
use Rattle.txn_lane.specs.LaneCode.{IsHeld}
use Rattle.txn_lane.specs.Stepping.{IsOffered}
use Rattle.lane_table.specs.Steps.{IsDone}
use Rattle.txn_events.specs.declared.event.Event.TheVariants.{On}
use Rattle.txn_lane.proofs.PlanFacts.{answered_same}
use Rattle.txn_lane.proofs.TakenFacts.{free_if, may_then, offered_then, why_not, held_then, done_then}
use Rattle.txn_lane.proofs.OnFacts.{goes_on_by, held_same, next_on}
use Rattle.txn_lane.proofs.lane.Lane.step_on.Goals as goal

pub advance-requires-clause-goes : goal.advance-requires-clause-goes
advance-requires-clause-goes g c =
    let i = c.self.inside in
    let going = goes_on_by i.side i.user i.lane i.source i.last i.before i.running c.in-Some.running c.args.self.now c.args.key c.args.what.now
    (sym c.self.view_is) c.self.invariant c.in-Some.is c.requires.later in
    record { log = going.found.log; stands = going.found.stood; runs = going.found.runs }

pub advance-requires-clause-may : goal.advance-requires-clause-may
advance-requires-clause-may g c log answer stood is =
    let i = c.self.inside in
    let event = On c.args.key c.args.what.now in
    let going = goes_on_by i.side i.user i.lane i.source i.last i.before i.running c.in-Some.running c.args.self.now c.args.key c.args.what.now
    (sym c.self.view_is) c.self.invariant c.in-Some.is c.requires.later in
    let same = answered_same c.in-Some.running.core going.found.log log event going.found.runs going.found.stood stood in
    may_then c.args.self.now event c.args.key going.found.log answer going.meets (same ∙ is)
    c.requires.outlet.kept.0 (g.O.Outlet.stands c.args.outlet.now) c.requires.outlet.kept.2 c.requires.outlet.kept.1
    (g.O.Outlet.user c.args.outlet.now) (g.O.Outlet.lane c.args.outlet.now) c.address-address.result.user c.address-address.result.lane
    c.requires.outlet.of_user c.requires.outlet.of_lane c.address-address.ensures.user c.address-address.ensures.lane

pub invariant_of-self-in_err-done : goal.invariant_of-self-in_err-done
invariant_of-self-in_err-done g c =
    let i = c.self.inside in
    let same = c.in_err-done.ensures.same in
    held_same i.side i.user i.lane i.source i.last i.before i.running c.in-Some.running c.advance.new.running
    c.self.invariant c.in-Some.is same.stands same.journal same.trace

pub returns-in_err-done-clause-left : goal.returns-in_err-done-clause-left
returns-in_err-done-clause-left g c =
    let p = err_from_is_err_and c.from_residual.result c.from_residual.ensures.1 in
    let i = c.self.inside in
    let event = On c.args.key c.args.what.now in
    let going = goes_on_by i.side i.user i.lane i.source i.last i.before i.running c.in-Some.running c.args.self.now c.args.key c.args.what.now
    (sym c.self.view_is) c.self.invariant c.in-Some.is c.requires.later in
    rw (p.1, p.2) (record {
      same = search rules;
      why_not = why_not g.O.Outlet.returns c.args.outlet.now c.advance.new.outlet c.args.self.now event c.args.key going.found.log c.address-address.result.user c.address-address.result.lane c.in_err-done.field-0.0 going.meets
          (c.in_err-done.ensures.refused going.found.log going.found.stood);
    })

pub invariant_of-self-2 : goal.invariant_of-self-2
invariant_of-self-2 g c =
    let i = c.self.inside in
    let event = On c.args.key c.args.what.now in
    let going = goes_on_by i.side i.user i.lane i.source i.last i.before i.running c.in-Some.running c.args.self.now c.args.key c.args.what.now
    (sym c.self.view_is) c.self.invariant c.in-Some.is c.requires.later in
    let answer = c.in_ok-done.ensures.gone_on.answer in
    let done = c.in_ok-done.ensures.gone_on.advanced in
    let next = next_on i.side i.user i.lane i.source i.last i.before i.running c.in-Some.running c.advance.new.running c.args.self.now c.args.key c.args.what.now
    (sym c.self.view_is) c.in-Some.is c.requires.later.opens_none done.goes_on.journal in
    subst (λ s. IsHeld s (Some c.advance.new.running)) (sym next)
    (held_then c.args.self.now event c.args.key going.found.log answer going.meets (done.answered going.found.log going.found.stood)
    c.advance.new.running (done.goes_on.stands going.found.log going.found.stood) (done.goes_on.trace ∙ ap (λ l. l ++ answer.inds) going.found.traced))

pub returns-clause-taken : goal.returns-clause-taken
returns-clause-taken g c =
    let i = c.self.inside in
    let event = On c.args.key c.args.what.now in
    let going = goes_on_by i.side i.user i.lane i.source i.last i.before i.running c.in-Some.running c.args.self.now c.args.key c.args.what.now
    (sym c.self.view_is) c.self.invariant c.in-Some.is c.requires.later in
    let answer = c.in_ok-done.ensures.gone_on.answer in
    let is = c.in_ok-done.ensures.gone_on.advanced.answered going.found.log going.found.stood in
    let next = next_on i.side i.user i.lane i.source i.last i.before i.running c.in-Some.running c.advance.new.running c.args.self.now c.args.key c.args.what.now
    (sym c.self.view_is) c.in-Some.is c.requires.later.opens_none c.in_ok-done.ensures.gone_on.advanced.goes_on.journal in
    let done = c.in_ok-done.ensures.gone_on.done_by in
    record {
      free = free_if c.args.self.now event c.args.key going.found.log answer going.meets is;
      next_is = next;
      done_is =
          subst (λ s. IsDone s c.in_ok-done.done) (sym next)
          (done_then c.args.self.now event c.args.key going.found.log answer going.meets is
          c.in_ok-done.done done.key_is done.pdus done.timers done.deposit);
    }

pub returns-clause-offered : goal.returns-clause-offered
returns-clause-offered g c =
    let i = c.self.inside in
    let event = On c.args.key c.args.what.now in
    let going = goes_on_by i.side i.user i.lane i.source i.last i.before i.running c.in-Some.running c.args.self.now c.args.key c.args.what.now
    (sym c.self.view_is) c.self.invariant c.in-Some.is c.requires.later in
    let answer = c.in_ok-done.ensures.gone_on.answer in
    let is = c.in_ok-done.ensures.gone_on.advanced.answered going.found.log going.found.stood in
    let next = next_on i.side i.user i.lane i.source i.last i.before i.running c.in-Some.running c.advance.new.running c.args.self.now c.args.key c.args.what.now
    (sym c.self.view_is) c.in-Some.is c.requires.later.opens_none c.in_ok-done.ensures.gone_on.advanced.goes_on.journal in
    subst (λ s. IsOffered g.O.Outlet.takes c.args.outlet.now c.advance.new.outlet (bundle_of s)) (sym next)
    (offered_then g.O.Outlet.takes c.args.outlet.now c.advance.new.outlet c.args.self.now event c.args.key going.found.log answer going.meets is
    c.address-address.result.user c.address-address.result.lane c.address-address.ensures.user c.address-address.ensures.lane c.in_ok-done.ensures.gone_on.offered)
