use Rattle.std.proofs.Common.{◌≡◌, ◌+◌, ◌≤◌, length, take}
use Rattle.std.specs.List.{fold}
use Rattle.outbox_file.specs.Texts.{look_on, unlooked}
use Rattle.outbox_file.proofs.reading.bad_line_in.Given as goal

abbrev pub invariant-loop-octet : goal.invariant-loop-octet
invariant-loop-octet l = record {
  looked : fold look_on unlooked (take l.octet-index l.text) ≡ record { at = l.at; line = l.line.items; bad = l.bad };
  lines : l.at.line ≤ l.octet-index + 1;
  octets : l.at.offset + length l.line.items ≡ l.octet-index;
}
