use Rattle.std.proofs.Common.{◌≡◌, ◌++◌, List, ℕ, sym, ap, ◌∙◌}
use Rattle.outbox_file.specs.Books.{value}
use Rattle.outbox_file.specs.Texts.{book_text, line_text}
use Rattle.outbox_file.proofs.FileFacts.{extended, replaced, replaces, rewritten}
use Rattle.outbox_file.proofs.file.rewrite.Goals as goal

pub returns-in_err-write_whole-clause-notes : goal.returns-in_err-write_whole-clause-notes
returns-in_err-write_whole-clause-notes g c =
    let is : c.as_slice.result.now ≡ book_text (value c.args.added.now.book.now) ++ line_text c.args.added.now.line.now =
    c.as_slice.ensures.value
    ∙ extended c.extend_from_slice.result c.in-Ok.whole.items c.args.added.now.text.now c.extend_from_slice.new.self.items (sym c.is_err.ensures.value ∙ c.if-is_err.false) c.extend_from_slice.ensures.items
    ∙ ap (λ (l : List ℕ). l ++ c.args.added.now.text.now) c.in-Ok.ensures
    ∙ ap (λ (l : List ℕ). book_text (value c.args.added.now.book.now) ++ l) c.requires.is_text in
    replaces _ _ _ _ _ _ (rewritten _ _ _ is c.requires.all_plain c.requires.plain) c.write_whole.ensures.changes

pub returns-clause-stored : goal.returns-clause-stored
returns-clause-stored g c =
    let is : c.as_slice.result.now ≡ book_text (value c.args.added.now.book.now) ++ line_text c.args.added.now.line.now =
    c.as_slice.ensures.value
    ∙ extended c.extend_from_slice.result c.in-Ok.whole.items c.args.added.now.text.now c.extend_from_slice.new.self.items (sym c.is_err.ensures.value ∙ c.if-is_err.false) c.extend_from_slice.ensures.items
    ∙ ap (λ (l : List ℕ). l ++ c.args.added.now.text.now) c.in-Ok.ensures
    ∙ ap (λ (l : List ℕ). book_text (value c.args.added.now.book.now) ++ l) c.requires.is_text in
    replaced _ _ (value c.args.added.now.book.now) _ (g.D.Disk.done c.args.disk.now) _ (rewritten _ _ _ is c.requires.all_plain c.requires.plain) c.in_ok-write_whole.ensures.open

pub returns-clause-notes : goal.returns-clause-notes
returns-clause-notes g c =
    let is : c.as_slice.result.now ≡ book_text (value c.args.added.now.book.now) ++ line_text c.args.added.now.line.now =
    c.as_slice.ensures.value
    ∙ extended c.extend_from_slice.result c.in-Ok.whole.items c.args.added.now.text.now c.extend_from_slice.new.self.items (sym c.is_err.ensures.value ∙ c.if-is_err.false) c.extend_from_slice.ensures.items
    ∙ ap (λ (l : List ℕ). l ++ c.args.added.now.text.now) c.in-Ok.ensures
    ∙ ap (λ (l : List ℕ). book_text (value c.args.added.now.book.now) ++ l) c.requires.is_text in
    replaces _ _ _ _ _ _ (rewritten _ _ _ is c.requires.all_plain c.requires.plain) c.write_whole.ensures.changes
