use Rattle.std.proofs.Common.{◌<◌, ◌≤◌, ◌++◌, ◌∷◌, [], ℕ, List, length, map, get_or, ap, ◌∙◌, rules}
use Rattle.outbox_file.specs.declared.book.Entry.{Entry}
use Rattle.outbox_file.specs.declared.lines.Line.TheVariants.{Queued}
use Rattle.outbox_file.proofs.LoopFacts.{all_lines, begun_more, entries_more}
use Rattle.outbox_file.proofs.reading.book_text.Goals as goal

pub loop-entry-preserved : goal.loop-entry-preserved
loop-entry-preserved c =
    let below : c.loop-entry.entry-index < length c.args.book.now.entries.items = search rules in
    c.in_ok-push.ensures.items
    ∙ ap (λ (l : List ℕ). l ++ 10 ∷ []) c.in_ok-push_queued.ensures
    ∙ entries_more _ _ _ _ below (c.entry-item.is ∙ ap (λ (l : List Entry). get_or l c.loop-entry.entry-index c.entry-item.result) c.deref-entry-items.ensures.value) c.loop-entry.invariant

pub loop-number-preserved : goal.loop-number-preserved
loop-number-preserved c =
    let below : c.loop-number.number-index < length c.args.book.now.begun.items = search rules in
    c.in_ok-push_line.ensures
    ∙ begun_more _ (map Queued c.args.book.now.entries.items) _ _ _ below (ap (λ (l : List ℕ). get_or l c.loop-number.number-index 0) c.deref-number-items.ensures.value) c.loop-number.invariant

pub returns : goal.returns
returns c =
    let all : length c.args.book.now.begun.items ≤ c.loop-number.number-index = search rules in
    c.in_ok-push_line-2.ensures ∙ all_lines _ (map Queued c.args.book.now.entries.items) _ _ _ all c.loop-number.invariant
