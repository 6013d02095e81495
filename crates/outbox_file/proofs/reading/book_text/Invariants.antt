use Rattle.std.proofs.Common.{◌≡◌, ◌++◌, map, take}
use Rattle.outbox_file.specs.declared.lines.Line.TheVariants.{Queued, Began}
use Rattle.outbox_file.specs.Texts.{text_of}
use Rattle.outbox_file.proofs.reading.book_text.Given as goal

abbrev pub invariant-loop-entry : goal.invariant-loop-entry
invariant-loop-entry l = l.text.items ≡ text_of (map Queued (take l.entry-index l.book.entries.items))

abbrev pub invariant-loop-number : goal.invariant-loop-number
invariant-loop-number l = l.text.items ≡ text_of (map Queued l.book.entries.items ++ map Began (take l.number-index l.book.begun.items))
