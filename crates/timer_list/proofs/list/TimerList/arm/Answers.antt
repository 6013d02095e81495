use Rattle.std.proofs.Common.{◌≡◌, ℕ, true, false, nat_lt, min, IsTrue, List, arith, sym, subst, ap, ◌∙◌}
use Rattle.std.proofs.lemmas.Bool.Decides.{nat_tests}
use Rattle.timer_list.specs.declared.armed.Armed.{Armed}
use Rattle.timer_list.specs.Slots.{none_before, run_of, timers_in}
use Rattle.timer_list.proofs.SlotLemmas.{armed_with-later, armed_with-replaced, none_before-less}
use Rattle.timer_list.proofs.ListLemmas.{armed_with-added, has_timer-idle, none_before-added, none_before-anew, on_err, value_at-running}
use Rattle.timer_list.proofs.list.TimerList.arm.Goals as goal

pub invariant_of-self : goal.invariant_of-self
invariant_of-self c =
    let timers = timers_in c.self.inside.slots.entries.entries in
    let P : ℕ → Type 0 = λ moment. IsTrue (none_before moment timers) in
    subst P (sym c.min-self-inside.ensures)
    (none_before-less (min c.self.inside.soonest c.args.timer.deadline) c.self.inside.soonest timers (omega arith) c.self.invariant)

pub invariant_of-self-in-Some-2 : goal.invariant_of-self-in-Some-2
invariant_of-self-in-Some-2 c =
    let P : ℕ → List Armed → Type 0 = λ moment timers. IsTrue (none_before moment timers) in
    subst (P c.min-self-inside.result) (sym (ap timers_in c.run_anew.ensures))
    (rw c.min-self-inside.ensures (none_before-anew c.args.timer.key c.args.timer.kind (run_of c.args.timer) c.self.inside.soonest c.self.inside.slots.entries.entries c.self.invariant))

pub invariant_of-self-in-None : goal.invariant_of-self-in-None
invariant_of-self-in-None c =
    let P : ℕ → Type 0 = λ moment. IsTrue (none_before moment (timers_in c.add.new.self.entries.entries)) in
    subst P (sym c.min-self-inside.ensures)
    (none_before-added c.add.result c.self.inside.soonest (timers_in c.self.inside.slots.entries.entries) (timers_in c.add.new.self.entries.entries) c.args.timer
    c.self.invariant c.add.ensures.ok c.add.ensures.err)

pub returns-in-Some-clause-ok : goal.returns-in-Some-clause-ok
returns-in-Some-clause-ok c =
    let es = c.self.inside.slots.entries.entries in
    let stamps : nat_lt c.args.timer.stamp c.in-Some.old.stamp ≡ true = grind (arith, nat_tests, c.if-timer-old.true) in
    rw (← c.self.view_is) (sym (armed_with-later c.args.timer.key c.args.timer.kind es c.in-Some.old (run_of c.args.timer)
    (value_at-running c.args.timer.key c.args.timer.kind es c.in-Some.old (sym c.in-Some.ensures.run)) stamps))

pub returns-in-Some-2-clause-ok : goal.returns-in-Some-2-clause-ok
returns-in-Some-2-clause-ok c =
    let es = c.self.inside.slots.entries.entries in
    let stamps : nat_lt c.args.timer.stamp c.in-Some.old.stamp ≡ false = grind (arith, nat_tests, c.if-timer-old.false) in
    rw (← c.self.view_is)
    (ap timers_in c.run_anew.ensures ∙ sym (armed_with-replaced c.args.timer.key c.args.timer.kind es c.in-Some.old (run_of c.args.timer)
    (value_at-running c.args.timer.key c.args.timer.kind es c.in-Some.old (sym c.in-Some.ensures.run)) stamps))

pub returns-in-None-clause-ok : goal.returns-in-None-clause-ok
returns-in-None-clause-ok c =
    let es = c.self.inside.slots.entries.entries in
    rw (← c.self.view_is) (armed_with-added c.add.result (timers_in es) (timers_in c.add.new.self.entries.entries) c.args.timer
    (has_timer-idle c.args.timer.key c.args.timer.kind es c.run_of.ensures.distinct (sym c.in-None.ensures.run)) c.add.ensures.ok)

pub returns-in-None-clause-memory : goal.returns-in-None-clause-memory
returns-in-None-clause-memory c =
    let es = c.self.inside.slots.entries.entries in
    on_err c.add.result (rw (← c.self.view_is) (has_timer-idle c.args.timer.key c.args.timer.kind es c.run_of.ensures.distinct (sym c.in-None.ensures.run)))
