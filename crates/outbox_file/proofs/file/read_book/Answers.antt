use Rattle.std.proofs.Common.{◌≡◌, ◌∷◌, List, ℕ, Option, Result, Ok, Some, Vec, sym, ap, ◌∙◌, subst, rules}
use Rattle.std.specs.Option.{option_map}
use Rattle.std.specs.declared.alloc.Global.{Global}
use Rattle.disk.specs.declared.device.Fault.{Fault}
use Rattle.disk.specs.Steps.{read_by}
use Rattle.outbox_file.specs.Books.{value}
use Rattle.outbox_file.specs.Texts.{book_in}
use Rattle.outbox_file.proofs.FileFacts.{read_says}
use Rattle.outbox_file.proofs.file.read_book.Goals as goal

pub returns-in-Ok-Some-book_by-clause-reads : goal.returns-in-Ok-Some-book_by-clause-reads
returns-in-Ok-Some-book_by-clause-reads g c =
    let said : option_map value c.in-Ok-Some-book_by.field-0 ≡ Some (value c.in-Ok-Some-book_by.book) = search rules in
    let found : c.read.result ≡ Ok (Some c.in-Ok-Some.text) = search rules in
    read_says c.args.mends c.args.path.now c.in-Ok-Some.text.items (value c.in-Ok-Some-book_by.book) (g.D.Disk.done c.args.disk.now) (g.D.Disk.done c.read.new.self)
    (sym (c.in-Ok-Some-book_by.ensures ∙ ap book_in c.as_slice.ensures.value) ∙ said)
    (subst (λ (r : Result (Option (Vec ℕ Global)) Fault). g.D.Disk.done c.read.new.self ≡ read_by r c.args.path.now (g.D.Disk.done c.args.disk.now)) found c.read.ensures)
