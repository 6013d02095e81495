use Rattle.std.proofs.Common.{ap, ◌∙◌, take}
use Rattle.std.proofs.lemmas.List.{take_min}
use Rattle.server_lines.proofs.faults.shown_part.Goals as goal

-- the first forty octets, or all
pub returns : goal.returns
returns c = ap (λ count. take count c.args.word.now) c.min.ensures ∙ take_min 40 c.args.word.now
