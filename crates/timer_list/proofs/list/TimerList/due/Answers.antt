use Rattle.std.proofs.Common.{sym, ◌∙◌, subst, IsTrue, ℕ, List}
use Rattle.timer_list.specs.declared.armed.Armed.{Armed}
use Rattle.timer_list.specs.Slots.{none_before, timers_in}
use Rattle.timer_list.proofs.SlotLemmas.{due_found, none_before-least, none_before-taken, without_due-taken}
use Rattle.timer_list.proofs.ListLemmas.{first_due-early, without_due-none}
use Rattle.timer_list.proofs.list.TimerList.due.Goals as goal

pub returns-then-now-self-clause-timer : goal.returns-then-now-self-clause-timer
returns-then-now-self-clause-timer c = rw (← c.self.view_is) (sym (first_due-early c.args.now c.self.inside.soonest _ c.self.invariant c.if-now-self.true))

pub returns-then-now-self-clause-others : goal.returns-then-now-self-clause-others
returns-then-now-self-clause-others c =
    rw (← c.self.view_is) (sym (without_due-none c.args.now _ (first_due-early c.args.now c.self.inside.soonest _ c.self.invariant c.if-now-self.true)))

pub invariant_of-self : goal.invariant_of-self
invariant_of-self c =
    let P : ℕ → Type 0 = λ moment. IsTrue (none_before moment (timers_in c.self.inside.slots.entries.entries)) in
    subst P (sym c.soonest-self-inside.ensures) (none_before-least 18446744073709551615 (timers_in c.self.inside.slots.entries.entries))

pub returns-in_default-clause-others : goal.returns-in_default-clause-others
returns-in_default-clause-others c =
    rw (← c.self.view_is) (sym (without_due-none c.args.now (timers_in c.self.inside.slots.entries.entries) (sym c.in_default.ensures)))

pub take_out-requires : goal.take_out-requires
take_out-requires c = due_found c.args.now c.self.inside.slots.entries.entries c.in-Some.timer (sym c.in-Some.ensures)

pub invariant_of-self-2 : goal.invariant_of-self-2
invariant_of-self-2 c =
    let P : List Armed → Type 0 = λ timers. IsTrue (none_before c.self.inside.soonest timers) in
    subst P (sym c.take_out.ensures.timers) (none_before-taken c.in-Some.timer.key c.in-Some.timer.kind c.self.inside.soonest c.self.inside.slots.entries.entries c.self.invariant)

pub returns-clause-others : goal.returns-clause-others
returns-clause-others c =
    rw (← c.self.view_is)
    (c.take_out.ensures.timers ∙ sym (without_due-taken c.args.now c.self.inside.slots.entries.entries c.in-Some.timer c.take_out.ensures.distinct (sym c.in-Some.ensures)))
