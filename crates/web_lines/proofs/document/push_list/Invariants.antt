use Rattle.std.proofs.Common.{◌≡◌, ◌++◌, take, flat_map}
use Rattle.web_lines.specs.Document.{listed, list_text}
use Rattle.web_lines.proofs.Lists.{comma_after}
use Rattle.web_lines.proofs.document.push_list.Given as goal

-- the lines so far are added, and a comma comes next if there were some
abbrev pub invariant-loop-line : goal.invariant-loop-line
invariant-loop-line l = record {
  added : l.document.items ≡ l.initial.document.items ++ list_text l.kind (take l.line-index l.lines);
  comma : l.comma ≡ comma_after (flat_map (listed l.kind) (take l.line-index l.lines));
}
