-- Of the code. What the indications so far, by their kinds, say about the next one.
use Rattle.std.specs.Prelude.{List}
use Rattle.std.specs.List.{list_any}
use Rattle.indications.specs.declared.indication.Indication.{Indication}
use Rattle.ind_words.specs.declared.marks.Marks.{Marks}
use Rattle.indications.specs.Words.{is_transaction, is_eof_sent, is_metadata, is_eof, is_paused, is_end}

-- the marks after these indications, newest first
abbrev pub marks_of : List Indication → Marks
marks_of before = record {
  opened = list_any is_transaction before;
  eof_sent = list_any is_eof_sent before;
  metadata = list_any is_metadata before;
  eof_recv = list_any is_eof before;
  suspended = is_paused before;
  ended = list_any is_end before;
}
