use Rattle.std.proofs.Common.{◌≡◌, List, ℕ, refl, ◌∙◌, subst, string_bytes}
use Rattle.outbox_file.specs.Books.{value}
use Rattle.outbox_file.specs.Files.{IsPlainBook, Reads}
use Rattle.outbox_file.specs.Texts.{book_text}
use Rattle.outbox_file.proofs.FileFacts.{holds, opened_notes, opened_stored, reads_plain}
use Rattle.outbox_file.proofs.file.StoredOutbox.open.Goals as goal

pub invariant_of-result : goal.invariant_of-result
invariant_of-result g c =
    let plain : IsPlainBook (value c.in_ok-book.book) = reads_plain _ _ _ _ _ c.in_ok-book.ensures.reads in
    let is : c.as_slice.result.now ≡ book_text (value c.in_ok-book.book) = c.as_slice.ensures.value ∙ c.in-Ok.ensures in
    (plain, λ _. opened_stored _ _ _ _ c.as_str-2.ensures.value is plain (g.D.Disk.done c.read_book.new.disk) _ c.in_ok-write_whole.ensures.open)

pub returns : goal.returns
returns g c =
    let plain : IsPlainBook (value c.in_ok-book.book) = reads_plain _ _ _ _ _ c.in_ok-book.ensures.reads in
    let is : c.as_slice.result.now ≡ book_text (value c.in_ok-book.book) = c.as_slice.ensures.value ∙ c.in-Ok.ensures in
    let reads : Reads c.args.mends (string_bytes c.args.path) (value c.in_ok-book.book) (g.D.Disk.done c.args.disk) (g.D.Disk.done c.read_book.new.disk) =
    subst (λ (l : List ℕ). Reads c.args.mends l (value c.in_ok-book.book) (g.D.Disk.done c.args.disk) (g.D.Disk.done c.read_book.new.disk)) c.as_str.ensures.value c.in_ok-book.ensures.reads in
    record {
      read = g.D.Disk.done c.read_book.new.disk;
      reads = reads;
      notes = opened_notes _ _ _ _ c.as_str-2.ensures.value is plain _ _ c.write_whole.ensures.changes;
      holds = holds _ _ _ (opened_stored _ _ _ _ c.as_str-2.ensures.value is plain (g.D.Disk.done c.read_book.new.disk) _ c.in_ok-write_whole.ensures.open);
      is_path = refl;
    }
