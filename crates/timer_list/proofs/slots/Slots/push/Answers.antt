use Rattle.std.proofs.Common.{◌∙◌}
use Rattle.timer_list.proofs.SlotLemmas.{inserted-absent}
use Rattle.timer_list.proofs.VacateLemmas.{in_place-inserted}
use Rattle.timer_list.specs.declared.slot.Slot.TheVariants as slot
use Rattle.timer_list.proofs.slots.Slots.push.Goals as goal

pub invariant_of-self : goal.invariant_of-self
invariant_of-self c = record {
  in_place = in_place-inserted c.insert.result c.args.key c.args.kind _ c.args.self.now.entries.entries c.insert.new.self.entries
      c.requires c.args.self.now.in_place c.insert.ensures.entries c.insert.ensures.err;
}

pub returns-clause-ok : goal.returns-clause-ok
returns-clause-ok c =
    c.in_ok-insert.ensures.entries ∙ inserted-absent (slot.Timer c.args.key c.args.kind) _ c.args.self.now.entries.entries c.requires
