use Rattle.std.proofs.Common.{◌≡◌, rules, filter, IsTrue, ap, sym, subst, ◌∙◌}
use Rattle.indexmap.proofs.CallerLemmas.{filter-RetainsPairs}
use Rattle.std.specs.Map.{keys_of}
use Rattle.timer_list.specs.Slots.{are_in_place, is_running, timers_in}
use Rattle.timer_list.proofs.SlotLemmas.{Entries, in_place-squeezed, timers_in-squeezed}
use Rattle.timer_list.proofs.slots.Slots.squeeze.Goals as goal

pub invariant_of-self : goal.invariant_of-self
invariant_of-self c =
    let kept : c.retain.new.self.entries ≡ filter (λ e. is_running e.0 e.1) c.args.self.now.entries.entries =
    filter-RetainsPairs _ (λ e. is_running e.0 e.1) _ (λ k v b w g call. search rules) _ _ c.retain.ensures.filtered in
    let P : Entries → Type 0 = λ es. IsTrue (are_in_place 0 (keys_of es)) in
    record { in_place = subst P (sym kept) (in_place-squeezed c.args.self.now.entries.entries 0) }

pub returns : goal.returns
returns c =
    let kept : c.retain.new.self.entries ≡ filter (λ e. is_running e.0 e.1) c.args.self.now.entries.entries =
    filter-RetainsPairs _ (λ e. is_running e.0 e.1) _ (λ k v b w g call. search rules) _ _ c.retain.ensures.filtered in
    ap timers_in kept ∙ timers_in-squeezed c.args.self.now.entries.entries
