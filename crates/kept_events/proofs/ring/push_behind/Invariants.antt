use Rattle.std.proofs.Common.{◌≡◌, ◌++◌, drop, length, min, take}
use Rattle.std.specs.List.{filter}
use Rattle.kept_events.specs.Rings.{matters, texts}
use Rattle.kept_events.proofs.ring.push_behind.Given as goal

abbrev pub invariant-loop-place : goal.invariant-loop-place
invariant-loop-place l = record {
  text : l.text.items ≡ l.fn.text.items ++ texts l.form l.word (drop l.skipped (filter (matters l.least) (take l.place l.lines.items)));
  passed : l.passed ≡ min l.skipped (length (filter (matters l.least) (take l.place l.lines.items)));
}
