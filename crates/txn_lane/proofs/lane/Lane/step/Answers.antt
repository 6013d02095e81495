use Rattle.lane_table.specs.Lane.{key_of}
use Rattle.lane_table.specs.Steps.{answer_of}
use Rattle.txn_lane.proofs.KeepFacts.{keeps_then, still_then, same_end_then, same_end_still}
use Rattle.txn_lane.proofs.lane.Lane.step.Goals as goal

pub returns-in-Ok-clause-handed : goal.returns-in-Ok-clause-handed
returns-in-Ok-clause-handed g c = record {
  offered = c.in-Ok.ensures.offered;
  same_end = same_end_then g.O.Outlet.user g.O.Outlet.lane g.O.Outlet.takes c.args.outlet.now c.take.new.outlet c.take.new.self
      (λ bundle took. let adds = g.met.O.Outlet.takes_adds c.args.outlet.now c.take.new.outlet bundle took in (adds.0, adds.1))
      (key_of c.take.new.self) (answer_of c.take.new.self).inds c.in-Ok.ensures.offered;
  keeps = λ bundles stood keeps.
      let taken = c.in-Ok.ensures.taken in
      keeps_then g.O.Outlet.takes g.O.Outlet.stands c.args.outlet.now c.take.new.outlet c.args.self.now c.take.new.self c.args.event.now bundles
      (λ bundle took. (g.met.O.Outlet.takes_adds c.args.outlet.now c.take.new.outlet bundle took).2 bundles stood)
      c.take.ensures.sound c.requires.keyed taken.free taken.next_is c.in-Ok.ensures.offered stood keeps;
}

pub returns-in-Err-clause-left : goal.returns-in-Err-clause-left
returns-in-Err-clause-left g c =
    let left = c.in-Err.ensures.left in
    record {
      same = left.same;
      why = rw c.plainly.ensures left.why_not;
      same_end = same_end_still g.O.Outlet.user g.O.Outlet.lane g.O.Outlet.returns c.args.outlet.now c.take.new.outlet c.args.self.now c.args.event.now c.plainly.result
          (λ returned. let kept = g.met.O.Outlet.returns_keeps c.args.outlet.now c.take.new.outlet returned in (kept.0, kept.1))
          (rw c.plainly.ensures left.why_not);
      still = λ bundles stood keeps.
          still_then g.O.Outlet.returns g.O.Outlet.stands c.args.outlet.now c.take.new.outlet c.args.self.now c.take.new.self c.args.event.now c.plainly.result bundles
          (λ returned. (g.met.O.Outlet.returns_keeps c.args.outlet.now c.take.new.outlet returned).2 bundles stood)
          (rw c.plainly.ensures left.why_not) left.same stood keeps;
    }
