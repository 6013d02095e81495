use Rattle.std.proofs.Common.{◌≡◌, ◌<◌, None, Some, false, length, get_or, ap, sym, ◌∙◌, subst, List, ℕ, rules}
use Rattle.outbox_file.specs.Books.{value}
use Rattle.outbox_file.specs.Texts.{noted}
use Rattle.outbox_file.proofs.LoopFacts.{bad_line}
use Rattle.outbox_file.proofs.reading.book_by.Goals as goal

pub returns-then-not-fits : goal.returns-then-not-fits
returns-then-not-fits c =
    let below : c.loop-octet.octet-index < length c.args.text.now = search rules in
    let ends : get_or c.args.text.now c.loop-octet.octet-index 0 ≡ 10 = search rules in
    let not : c.in_ok-fits.fits ≡ false = search rules in
    let nothing : noted c.args.mends c.loop-octet.line.items (Some (value c.loop-octet.book)) ≡ None =
    ap (λ (l : List ℕ). noted c.args.mends l (Some (value c.loop-octet.book))) (sym c.as_slice.ensures.value) ∙ c.in_ok-fits.ensures.not not in
    bad_line c.args.mends c.args.text.now c.loop-octet.octet-index below _ _ c.loop-octet.invariant ends nothing
