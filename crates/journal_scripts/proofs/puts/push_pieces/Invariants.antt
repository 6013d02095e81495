use Rattle.std.proofs.Common.{◌≡◌, ◌<◌, ◌-◌, ◌*◌, ◌++◌, length}
use Rattle.std.specs.Prelude.{string_bytes}
use Rattle.std.specs.List.{flat_map}
use Rattle.journal_scripts.specs.declared.puts.TheConstants.{PIECE_OCTETS}
use Rattle.journal_scripts.specs.Rows.{piece_text, pieces_in}
use Rattle.journal_scripts.proofs.puts.push_pieces.Given as goal

-- the pieces that are left make the text whole
abbrev pub invariant-loop-count : goal.invariant-loop-count
invariant-loop-count l = record {
  long : (l.more - l._count) * PIECE_OCTETS < length l.rest;
  whole : string_bytes l.text ++ flat_map piece_text (pieces_in (l.more - l._count) l.rest)
      ≡ string_bytes l.fn.text ++ flat_map piece_text (pieces_in l.more l.fn.file);
}
