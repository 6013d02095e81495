use Rattle.std.proofs.Common.{◌≡◌, ◌+◌, ◌-◌, ◌/◌, suc, length, arith}
use Rattle.std.specs.Prelude.{string_bytes}
use Rattle.journal_scripts.proofs.PieceFacts.{next_piece}
use Rattle.journal_scripts.proofs.puts.push_pieces.Goals as goal

pub loop-count-preserved : goal.loop-count-preserved
loop-count-preserved c =
    let more = (length c.args.file.now - 1) / 32768 in
    let one : more - c.loop-count._count ≡ suc (more - (c.loop-count._count + 1)) = omega arith in
    record {
      long = omega arith;
      whole = next_piece _ _ c.loop-count.rest.now c.split_at.result.0.now c.split_at.result.1.now _ (more - c.loop-count._count) (more - (c.loop-count._count + 1)) one
          c.in_ok-push_piece.ensures c.split_at.ensures.front c.split_at.ensures.back c.loop-count.invariant.whole;
    }
