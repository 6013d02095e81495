use Rattle.std.proofs.Common.{◌≡◌, take, Some}
use Rattle.outbox_file.specs.Books.{value}
use Rattle.outbox_file.specs.Texts.{reading_by}
use Rattle.outbox_file.proofs.reading.book_by.Given as goal

abbrev pub invariant-loop-octet : goal.invariant-loop-octet
invariant-loop-octet l = reading_by l.mends (take l.octet-index l.text) ≡ record { book = Some (value l.book); line = l.line.items }
