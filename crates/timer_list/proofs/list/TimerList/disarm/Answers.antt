use Rattle.timer_list.proofs.SlotLemmas.{disarmed_of-lacks, disarmed_of-later, disarmed_of-taken, none_before-taken}
use Rattle.timer_list.proofs.ListLemmas.{has_timer-idle, value_at-running}
use Rattle.std.proofs.Common.{◌≡◌, true, false, nat_lt, IsTrue, List, arith, sym, subst, ◌∙◌}
use Rattle.std.proofs.lemmas.Bool.Decides.{nat_tests}
use Rattle.timer_list.specs.declared.armed.Armed.{Armed}
use Rattle.timer_list.specs.Slots.{none_before, timers_in}
use Rattle.timer_list.proofs.list.TimerList.disarm.Goals as goal

pub invariant_of-self : goal.invariant_of-self
invariant_of-self c =
    let P : List Armed → Type 0 = λ timers. IsTrue (none_before c.self.inside.soonest timers) in
    subst P (sym c.take_out.ensures.timers) (none_before-taken c.args.key c.args.kind c.self.inside.soonest c.self.inside.slots.entries.entries c.self.invariant)

pub returns-then-run-stamp : goal.returns-then-run-stamp
returns-then-run-stamp c =
    let es = c.self.inside.slots.entries.entries in
    let stamps : nat_lt c.args.stamp c.in-Some.run'.stamp ≡ false = grind (arith, nat_tests, c.if-run-stamp.true) in
    rw (← c.self.view_is)
    (c.take_out.ensures.timers ∙ sym (disarmed_of-taken c.args.key c.args.kind es c.args.stamp c.in-Some.run' (value_at-running c.args.key c.args.kind es c.in-Some.run' (sym c.in-Some.ensures.run)) stamps))

pub returns-else-run-stamp : goal.returns-else-run-stamp
returns-else-run-stamp c =
    let es = c.self.inside.slots.entries.entries in
    let stamps : nat_lt c.args.stamp c.in-Some.run'.stamp ≡ true = grind (arith, nat_tests, c.if-run-stamp.false) in
    rw (← c.self.view_is) (sym (disarmed_of-later c.args.key c.args.kind es c.args.stamp c.in-Some.run' (value_at-running c.args.key c.args.kind es c.in-Some.run' (sym c.in-Some.ensures.run)) stamps))

pub returns-in_default : goal.returns-in_default
returns-in_default c =
    let es = c.self.inside.slots.entries.entries in
    rw (← c.self.view_is) (sym (disarmed_of-lacks c.args.key c.args.kind (timers_in es) c.args.stamp (has_timer-idle c.args.key c.args.kind es c.run_of.ensures.distinct (sym c.in_default.ensures.run))))
