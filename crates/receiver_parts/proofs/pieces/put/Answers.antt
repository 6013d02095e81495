use Rattle.std.proofs.Common.{ap, ◌∙◌, arith}
use Rattle.std.specs.Prelude.{unwrap_or}
use Rattle.modular_sum.specs.Pieces.{octet_from}
use Rattle.receiver_parts.proofs.ReceivedFileLemmas.{appended_is, overwritten_is}
use Rattle.receiver_parts.proofs.pieces.put.Goals as goal

pub returns-in_ok-extend_from_slice : goal.returns-in_ok-extend_from_slice
returns-in_ok-extend_from_slice c i =
    rw c.in_ok-extend_from_slice.ensures.items
    (appended_is c.lengthen.new.octets.items c.args.octets.now c.args.start i (omega (arith, c.if-len-start.true, c.len.ensures, c.lengthen.new.octets.ok.0))
    ∙ ap (λ n. unwrap_or (octet_from c.args.start c.args.octets.now i) n) (c.lengthen.ensures.same i))

pub returns-in_ok-lengthen-2 : goal.returns-in_ok-lengthen-2
returns-in_ok-lengthen-2 c i =
    overwritten_is c.lengthen-else-len-start.new.octets.items c.overwrite.new.kept.items c.args.octets.now c.args.start i (c.overwrite.ensures.items i)
    ∙ ap (λ n. unwrap_or (octet_from c.args.start c.args.octets.now i) n) (c.lengthen-else-len-start.ensures.same i ∙ c.lengthen.ensures.same i)
