use Rattle.std.proofs.Common.{◌≡◌, ◌∙◌, sym, ap, ℕ, false}
use Rattle.kept_events.specs.Rings.{has_no_room, is_full, octets_of}
use Rattle.kept_events.proofs.RingFacts.{stays}
use Rattle.kept_events.proofs.ring.make_room.Goals as goal

pub returns-after-full-clause-lines : goal.returns-after-full-clause-lines
returns-after-full-clause-lines c =
    let fits : is_full c.args.more c.full.lines.items ≡ false =
    ap (λ (n : ℕ). has_no_room n (octets_of c.full.lines.items) c.args.more) (sym (c.len.ensures ∙ c.full.lines.ok.0))
    ∙ ap (λ (n : ℕ). has_no_room c.len.result n c.args.more) (sym c.full.invariant.octets) ∙ sym c.is_full.ensures ∙ c.full-test.false in
    sym (stays c.args.more c.full.lines.items fits) ∙ c.full.invariant.left
