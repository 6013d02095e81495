use Rattle.std.proofs.Common.{arith}
use Rattle.web_lines.proofs.Lists.{all_read}
use Rattle.web_lines.proofs.lines.read_lines.Goals as goal

pub returns : goal.returns
returns c =
    all_read (λ piece. piece.now) c.in_ok-pieces.pieces.items _ c.loop-piece.piece-index c.loop-piece.lines.items c.args.text.now
    c.loop-piece.invariant (omega (arith, c.loop-piece-test.false)) c.as_slice-piece-items.ensures.value c.in_ok-pieces.ensures
