use Rattle.std.proofs.Common.{rules, ◌≡◌, ◌∙◌, sym, ap, ℕ, ◌<◌, ◌++◌, List, length, Some, slice_get, arith, append_assoc, Vec, Global}
use Rattle.std.proofs.lemmas.Option.{slice_get-get_or}
use Rattle.kept_events.specs.KeptLines.{LineValue}
use Rattle.kept_events.specs.Rings.{text_after}
use Rattle.event_levels.specs.Levels.{reaches}
use Rattle.event_levels.specs.declared.level.Level.{Level}
use Rattle.kept_events.proofs.RingFacts.{matters_more, passes_one, shows_one}
use Rattle.kept_events.proofs.ring.push_behind.Goals as goal
use Rattle.kept_events.proofs.ring.push_behind.Goals.{then-passed-skipped, else-passed-skipped+in_ok-push_line}

pub loop-place-preserved : goal.loop-place-preserved
loop-place-preserved c =
    let within : c.loop-place.place < length c.args.lines.now.items = search rules in
    let there : slice_get c.args.lines.now.items c.loop-place.place ≡ Some c.in-Some.line.now =
    slice_get-get_or c.args.lines.now.items c.loop-place.place c.in-Some.line.now within ∙ ap (λ (l : LineValue). Some l) (sym c.in-Some.ensures.lookup) in
    let more = matters_more c.args.least c.args.lines.now.items c.loop-place.place c.in-Some.line.now within there (ap (λ (l : Level). reaches l c.args.least) (sym c.level.ensures) ∙ sym c.reaches.ensures ∙ c.if-not-reaches.false) in
    elim c.if-passed-skipped.branch [
      | then-passed-skipped w ↦
          let one = passes_one c.args.form c.args.word.now c.args.skipped c.loop-place.passed _ _ c.in-Some.line.now more c.loop-place.invariant.passed w.if-passed-skipped.true in
          record { text = ap (λ (v : Vec ℕ Global). v.items) w.text-is ∙ c.loop-place.invariant.text ∙ ap (λ (l : List ℕ). c.args.text.now.items ++ l) (sym one.0); passed = w.passed-is ∙ one.1 }
      | else-passed-skipped+in_ok-push_line w ↦
          let one = shows_one c.args.form c.args.word.now c.args.skipped c.loop-place.passed _ _ c.in-Some.line.now more c.loop-place.invariant.passed (omega (arith, w.if-passed-skipped.false)) in
          record {
            text = ap (λ (v : Vec ℕ Global). v.items) w.text-is ∙ w.in_ok-push_line.ensures ∙ ap (λ (l : List ℕ). l ++ text_after c.args.form c.args.word.now c.in-Some.line.now) c.loop-place.invariant.text
                ∙ append_assoc c.args.text.now.items _ _ ∙ ap (λ (l : List ℕ). c.args.text.now.items ++ l) (sym one.0);
            passed = w.passed-is ∙ one.1;
          }
    ]
