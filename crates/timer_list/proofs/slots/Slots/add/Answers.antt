use Rattle.std.proofs.Common.{◌≡◌, ap, ◌∙◌}
use Rattle.timer_list.specs.Slots.{timers_in}
use Rattle.timer_list.proofs.SlotLemmas.{timers_in-added}
use Rattle.timer_list.proofs.slots.Slots.add.Goals as goal
use Rattle.timer_list.proofs.slots.Slots.add.Goals.{then-is_some+in_ok-vacate, else-is_some}

pub returns-clause-ok : goal.returns-clause-ok
returns-clause-ok c =
    let same : timers_in c.if-is_some.self.entries.entries ≡ timers_in c.args.self.now.entries.entries =
    elim c.if-is_some.branch [
      | then-is_some+in_ok-vacate w ↦ ap (λ slots. timers_in slots.entries.entries) w.self-is ∙ w.vacate.ensures.same
      | else-is_some w ↦ ap (λ slots. timers_in slots.entries.entries) w.self-is
    ] in
    timers_in-added c.push.result c.args.self.now.entries.entries c.if-is_some.self.entries.entries c.push.new.self.entries.entries c.args.timer same (rw c.run.ensures at c.push.ensures.ok)
