use Rattle.std.proofs.Common.{◌≡◌, ◌⊎◌, ◌<◌, ◌≤◌, List, ◌++◌, length, get_or, drop, inl, inr, arith, ap, sym, ◌∙◌, subst}
use Rattle.gap_list.specs.declared.run.Run.{Run}
use Rattle.gap_list.specs.Runs.{IsRisingFrom}
use Rattle.gap_list.specs.Places.{last_end}
use Rattle.gap_list.proofs.MergeLemmas.{behind, rest_of, append_goes, append_ends}
use Rattle.gap_list.proofs.merge.append.Goals as goal
use Rattle.gap_list.proofs.merge.append.Goals.{then-loop-place-test+else-runs-place, else-loop-place-test}

pub loop-place-preserved : goal.loop-place-preserved
loop-place-preserved c = record {
  within = omega (arith, c.loop-place-test.true);
  rising = c.in_ok-put.ensures.rising;
  added = append_goes c.args.merged.now.items c.loop-place.merged.items c.put.new.merged.items c.args.runs.now c.loop-place.place
      (record { start = 0; end = 0 }) c.loop-place-test.true c.in_ok-put.ensures.added c.loop-place.invariant.added;
}

appended : (c : goal.In_ok-extend_from_slice)
    → c.extend_from_slice.new.self.items ≡ c.loop-place.merged.items ++ drop c.loop-place.place c.args.runs.now
appended c =
    c.in_ok-extend_from_slice.ensures.items ∙ ap (λ (l : List Run). c.loop-place.merged.items ++ l) (rest_of c.args.runs.now c.loop-place.place)

pub returns-clause-rising : goal.returns-clause-rising
returns-clause-rising c =
    let none : Run = record { start = 0; end = 0 } in
    let ends : (length c.args.runs.now ≤ c.loop-place.place)
    ⊎ ((c.loop-place.place < length c.args.runs.now) × (last_end 0 c.loop-place.merged.items < (get_or c.args.runs.now c.loop-place.place none).start)) =
    elim c.loop-place-test.branch [
      | then-loop-place-test+else-runs-place w ↦ inr (w.loop-place-test.true, omega (arith, rw w.as_slice.ensures.value at w.last_end.ensures, w.if-runs-place.false))
      | else-loop-place-test w ↦ inl (omega (arith, w.loop-place-test.false))
    ] in
    subst (IsRisingFrom 0) (sym (appended c))
    (behind c.loop-place.merged.items c.args.runs.now c.loop-place.place none c.loop-place.invariant.rising c.requires.runs ends)

pub returns-clause-added : goal.returns-clause-added
returns-clause-added c =
    append_ends c.args.merged.now.items c.loop-place.merged.items c.extend_from_slice.new.self.items c.args.runs.now c.loop-place.place
    (appended c) c.loop-place.invariant.added
