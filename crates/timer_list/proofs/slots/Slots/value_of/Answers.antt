use Rattle.std.proofs.Common.{ap, sym, ◌∙◌, option_map}
use Rattle.std.proofs.lemmas.Option.{slice_get-map}
use Rattle.timer_list.proofs.SlotLemmas.{value_at-derived}
use Rattle.timer_list.proofs.slots.Slots.value_of.Goals as goal

pub returns-clause-value : goal.returns-clause-value
returns-clause-value c =
    ap (option_map (λ entry. entry.1)) c.in_ok-value.ensures.entry
    ∙ sym (slice_get-map (λ entry. entry.1) c.args.self.now.entries.entries c.in_ok-index.index)
    ∙ c.in_ok-index.ensures.value
    ∙ value_at-derived c.args.key c.args.kind c.args.self.now.entries.entries
