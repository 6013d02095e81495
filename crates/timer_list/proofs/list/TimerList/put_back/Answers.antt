use Rattle.std.proofs.Common.{◌≡◌, ℕ, IsTrue, None, false, sym, subst, ◌∙◌, rules, true≢false}
use Rattle.timer_list.specs.Slots.{none_before, run_at, timers_in}
use Rattle.timer_list.specs.Timers.{has_timer}
use Rattle.timer_list.proofs.ListLemmas.{has_timer-idle, none_before-added}
use Rattle.timer_list.proofs.list.TimerList.put_back.Goals as goal

pub invariant_of-self : goal.invariant_of-self
invariant_of-self c =
    let P : ℕ → Type 0 = λ moment. IsTrue (none_before moment (timers_in c.add.new.self.entries.entries)) in
    subst P (sym c.min-self-inside.ensures)
    (none_before-added c.add.result c.self.inside.soonest (timers_in c.self.inside.slots.entries.entries) (timers_in c.add.new.self.entries.entries) c.args.timer
    c.self.invariant c.add.ensures.ok c.add.ensures.err)

pub returns-clause-there : goal.returns-clause-there
returns-clause-there c there =
    let idle : run_at c.args.timer.key c.args.timer.kind c.self.inside.slots.entries.entries ≡ None = search rules in
    let lacks : has_timer c.args.timer.key c.args.timer.kind (timers_in c.self.inside.slots.entries.entries) ≡ false =
    has_timer-idle c.args.timer.key c.args.timer.kind c.self.inside.slots.entries.entries c.run_of.ensures.distinct idle in
    absurd (true≢false (sym (rw (← c.self.view_is) at there) ∙ lacks))
