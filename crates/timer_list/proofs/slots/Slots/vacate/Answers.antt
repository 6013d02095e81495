use Rattle.timer_list.proofs.VacateLemmas.{vacated_from}
use Rattle.timer_list.proofs.slots.Slots.vacate.Goals as goal

pub invariant_of-self-2 : goal.invariant_of-self-2
invariant_of-self-2 c =
    let outcome = vacated_from c.args.key c.args.kind c.args.self.now.entries.entries c.insert.new.self.entries c.swap_remove_index.new.self.entries c.in-Some.index c.swap_remove_index.result
    c.get_index_of.ensures.unique c.requires c.in-Some.ensures.index c.args.self.now.in_place
    c.in_ok-insert.ensures.entries c.swap_remove_index.ensures.entry c.swap_remove_index.ensures.entries in
    record { in_place = outcome.in_place }

pub returns-clause-same : goal.returns-clause-same
returns-clause-same c =
    let outcome = vacated_from c.args.key c.args.kind c.args.self.now.entries.entries c.insert.new.self.entries c.swap_remove_index.new.self.entries c.in-Some.index c.swap_remove_index.result
    c.get_index_of.ensures.unique c.requires c.in-Some.ensures.index c.args.self.now.in_place
    c.in_ok-insert.ensures.entries c.swap_remove_index.ensures.entry c.swap_remove_index.ensures.entries in
    outcome.same

pub returns-clause-gone : goal.returns-clause-gone
returns-clause-gone c =
    let outcome = vacated_from c.args.key c.args.kind c.args.self.now.entries.entries c.insert.new.self.entries c.swap_remove_index.new.self.entries c.in-Some.index c.swap_remove_index.result
    c.get_index_of.ensures.unique c.requires c.in-Some.ensures.index c.args.self.now.in_place
    c.in_ok-insert.ensures.entries c.swap_remove_index.ensures.entry c.swap_remove_index.ensures.entries in
    outcome.gone
