use Rattle.std.proofs.Common.{◌++◌, flat_map, sym, ap, ◌∙◌, map-id, string_bytes}
use Rattle.std.proofs.lemmas.Iterator.{YieldsList-from_chars}
use Rattle.std.proofs.lemmas.Iterator.Consumers.{YieldsList-end}
use Rattle.station_lines.specs.Letters.{safe_char, safe_text}
use Rattle.station_lines.proofs.letters.push_letters.Goals as goal

pub returns : goal.returns
unfolding safe_text
returns c =
    let end = YieldsList-end (YieldsList-from_chars c.args.added.now c.utf8.added cc) c.loop-letter.yielded _ c.loop-letter.yielded_by _ _ c.in-None.is c.next.ensures.steps in
    c.loop-letter.invariant ∙ ap (λ letters. string_bytes c.args.text.now ++ flat_map safe_char letters) (sym (map-id c.loop-letter.yielded) ∙ end.0)
