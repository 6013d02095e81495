use Rattle.std.proofs.Common.{◌≤◌, arith}
use Rattle.crossbeam_queue.specs.Passes.{view, ruled_capacity}
use Rattle.queue_rule.specs.Views.{outlet_in}
use Rattle.queue_rule.proofs.Answered.{may_send}
use Rattle.queue_rule.proofs.steps.send.Goals as goal

pub push_as-requires-clause-rule : goal.push_as-requires-clause-rule
push_as-requires-clause-rule g c =
    let pass = c.requires.pass in
    let room : ruled_capacity c.args.queue.now ≤ (outlet_in (view c.args.pass.now)).room = omega (arith, pass.room) in (
      may_send (ruled_capacity c.args.queue.now) c.args.pass.now.id (view c.args.pass.now) (outlet_in (view c.args.pass.now))
          c.args.bundle pass.outlet room c.requires.may.of_lane c.requires.may.goes_on,
      λ items views fair at. tt,
    )
