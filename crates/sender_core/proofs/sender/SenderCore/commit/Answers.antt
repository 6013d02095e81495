use Rattle.std.proofs.Common.{ap, ◌∙◌, sym}
use Rattle.std.proofs.Math.Path.{fun_ext}
use Rattle.sender_table.specs.Sending.{step, state_of}
use Rattle.sender_core.specs.ControlBlock.{state_from}
use Rattle.sender_core.specs.Core.{sending_of, plan_answer}
use Rattle.sender_core.proofs.sender.SenderCore.commit.Goals as goal

pub invariant_of-self : goal.invariant_of-self
invariant_of-self c =
    let old = c.args.self.now in
    let planned = c.requires.planned.1 in
    record {
      headed = old.headed;
      fits = old.fits;
      small = old.small;
      inside = λ i has. planned.inside i (sym (c.apply_remainder.ensures i) ∙ has);
      sound = planned.sound c.requires.runs;
    }

pub returns-clause-stands : goal.returns-clause-stands
unfolding state_of
returns-clause-stands c event log planned stood =
    ap (λ r. state_from c.args.plan.next r) (fun_ext c.apply_remainder.ensures)
    ∙ planned.answered.follows
    ∙ ap (λ s. step (sending_of c.args.self.now) s (record { event = event; answer = plan_answer c.args.plan })) stood
