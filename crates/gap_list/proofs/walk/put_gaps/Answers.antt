use Rattle.std.proofs.Common.{◌++◌, ◌-◌, ◌≡◌, ℕ, List, length, take, drop, sym, ◌∙◌, arith, subst, refl}
use Rattle.std.proofs.lemmas.Result.{on_ok_weaker}
use Rattle.gap_list.specs.declared.run.Run.{Run}
use Rattle.gap_list.specs.Blocks.{all_runs, blocks_of, index_of}
use Rattle.gap_list.proofs.BlockLemmas.{first_is, place_within, all_blocks}
use Rattle.gap_list.proofs.WalkLemmas.{walk_found, walk_none, walk_past, walk_full, walk_told, gaps_of}
use Rattle.gap_list.proofs.walk.put_gaps.Goals as goal

pub loop-offset-init : goal.loop-offset-init
loop-offset-init c = record {
  spot = c.ended_below-spot.ensures.spot;
  within = place_within (blocks_of c.args.runs.now) c.ended_below-spot.result.block c.ended_below-spot.result.place
      (omega (arith, c.ended_below-spot.ensures.spot.block, all_blocks c.args.runs.now.below.items c.args.runs.now.top)) c.ended_below-spot.ensures.spot.place;
  so_far = refl;
}

pub loop-offset-preserved : goal.loop-offset-preserved
loop-offset-preserved c =
    let present = (first_is (all_runs c.args.runs.now) (index_of c.args.runs.now c.loop-offset.spot) c.in-Some.run' c.in-Some.ensures).0 in
    let target : List Run = c.args.gaps.now.items ++ take (c.args.most - length c.args.gaps.now.items)
    (gaps_of (drop (index_of c.args.runs.now c.ended_below-spot.result) (all_runs c.args.runs.now)) c.args.start c.args.end) in
    record {
      spot = c.after-spot.ensures.spot;
      within = omega (arith, present, c.after-spot.ensures.next);
      so_far = subst
          (λ (n : ℕ). c.put-in-loop-offset.new.gaps.items ++ take (c.args.most - length c.put-in-loop-offset.new.gaps.items)
          (gaps_of (drop n (all_runs c.args.runs.now)) c.max-offset.result c.args.end) ≡ target)
          (sym c.after-spot.ensures.next)
          (walk_found c.loop-offset.gaps.items c.put-in-loop-offset.new.gaps.items target (all_runs c.args.runs.now)
          (index_of c.args.runs.now c.loop-offset.spot) c.loop-offset.offset c.min.result c.max-offset.result c.args.end c.args.most c.in-Some.run'
          c.in-Some.ensures (omega (arith, c.if-len-most.true, c.len.ensures.value)) c.min.ensures c.max-offset.ensures c.in_ok-put.ensures c.loop-offset.invariant.so_far);
    }

pub loop-offset-smaller : goal.loop-offset-smaller
loop-offset-smaller c =
    let present = (first_is (all_runs c.args.runs.now) (index_of c.args.runs.now c.loop-offset.spot) c.in-Some.run' c.in-Some.ensures).0 in
    omega (arith, present, c.after-spot.ensures.next)

pub returns-in_default : goal.returns-in_default
returns-in_default c =
    on_ok_weaker c.put.result
    (λ made. walk_none c.loop-offset.gaps.items c.put.new.gaps.items
    (c.args.gaps.now.items ++ take (c.args.most - length c.args.gaps.now.items)
    (gaps_of (drop (index_of c.args.runs.now c.ended_below-spot.result) (all_runs c.args.runs.now)) c.args.start c.args.end))
    (all_runs c.args.runs.now) (index_of c.args.runs.now c.loop-offset.spot) c.loop-offset.offset c.args.end c.args.most
    (sym c.in_default.is ∙ c.get.ensures) (omega (arith, c.if-len-most.true, c.len.ensures.value)) made c.loop-offset.invariant.so_far
    ∙ walk_told c.args.gaps.now.items (all_runs c.args.runs.now) (index_of c.args.runs.now c.ended_below-spot.result) c.args.start c.args.end c.args.most
    c.requires.rising c.ended_below-spot.ensures.below)
    c.put.ensures

pub returns-else-len-most : goal.returns-else-len-most
returns-else-len-most c =
    walk_full c.loop-offset.gaps.items
    (c.args.gaps.now.items ++ take (c.args.most - length c.args.gaps.now.items)
    (gaps_of (drop (index_of c.args.runs.now c.ended_below-spot.result) (all_runs c.args.runs.now)) c.args.start c.args.end))
    (all_runs c.args.runs.now) (index_of c.args.runs.now c.loop-offset.spot) c.loop-offset.offset c.args.end c.args.most
    (omega (arith, c.if-len-most.false, c.len.ensures.value)) c.loop-offset.invariant.so_far
    ∙ walk_told c.args.gaps.now.items (all_runs c.args.runs.now) (index_of c.args.runs.now c.ended_below-spot.result) c.args.start c.args.end c.args.most
    c.requires.rising c.ended_below-spot.ensures.below

pub returns-after-loop-offset : goal.returns-after-loop-offset
returns-after-loop-offset c =
    walk_past c.loop-offset.gaps.items
    (c.args.gaps.now.items ++ take (c.args.most - length c.args.gaps.now.items)
    (gaps_of (drop (index_of c.args.runs.now c.ended_below-spot.result) (all_runs c.args.runs.now)) c.args.start c.args.end))
    (all_runs c.args.runs.now) (index_of c.args.runs.now c.loop-offset.spot) c.loop-offset.offset c.args.end c.args.most
    c.loop-offset-test.false c.loop-offset.invariant.so_far
    ∙ walk_told c.args.gaps.now.items (all_runs c.args.runs.now) (index_of c.args.runs.now c.ended_below-spot.result) c.args.start c.args.end c.args.most
    c.requires.rising c.ended_below-spot.ensures.below
