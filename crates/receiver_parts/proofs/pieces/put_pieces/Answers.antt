use Rattle.std.proofs.Common.{sym}
use Rattle.receiver_parts.proofs.ReceivedFileLemmas.{put_more}
use Rattle.receiver_parts.proofs.pieces.put_pieces.Goals as goal

pub loop-piece-preserved : goal.loop-piece-preserved
loop-piece-preserved c i =
    put_more c.args.pieces.now c.loop-piece.piece-index c.piece-item.result i _ _ c.loop-piece-test.true (sym c.piece-item.is)
    (rw c.as_slice.ensures at (c.in_ok-put.ensures i)) (c.loop-piece.invariant i)
