-- Meaning. What the lines of an outbox's file say: which files were queued and neither ended nor were dropped.
use Rattle.std.specs.Prelude.{ℕ, ◌+◌, ◌^◌, ◌-◌, ◌<◌, ◌≤◌, ◌==◌, Bool, not, min, List, [], ◌∷◌, ◌++◌, map, vec_capacity, vec_len}
use Rattle.std.specs.List.{filter}
use Rattle.outbox_file.specs.declared.book.Book.{Book}
use Rattle.outbox_file.specs.declared.book.Entry.{Entry}
use Rattle.outbox_file.specs.declared.lines.Line.{Line}
use Rattle.outbox_file.specs.declared.lines.Line.TheVariants.{Next, Queued, Began, Ended, Dropped}

-- the files in the order in which they were queued; the numbers of those that began; the number that the next file gets
pub record BookValue : Type 0 where
  pub entries : List Entry
  pub begun : List ℕ
  pub next : ℕ

-- nothing was queued yet
abbrev pub empty : BookValue
empty = record { entries = []; begun = []; next = 1 }

-- another file; another number
abbrev pub is_other : ℕ → Entry → Bool
is_other number entry = not (entry.number == number)

abbrev pub has_other : ℕ → ℕ → Bool
has_other number begun = not (begun == number)

-- without the file that has a number
abbrev pub without : ℕ → BookValue → BookValue
without number book = record book { entries = filter (is_other number) book.entries; begun = filter (has_other number) book.begun }

-- after one more line: the next file's number; a file that is queued, one that began, one that ended or was dropped
abbrev pub after : Line → BookValue → BookValue
after (Next number) book = record book { next = number }
after (Queued entry) book = record book { entries = book.entries ++ entry ∷ []; next = min (entry.number + 1) (2 ^ 64 - 1) }
after (Began number) book = record book { begun = book.begun ++ number ∷ [] }
after (Ended number) book = without number book
after (Dropped number) book = without number book

-- after lines, first to last
abbrev pub after_all : List Line → BookValue → BookValue
after_all [] book = book
after_all (line ∷ lines) book = after_all lines (after line book)

-- the lines that say no more than a book
abbrev pub lines_of : BookValue → List Line
lines_of book = map Queued book.entries ++ (map Began book.begun ++ Next book.next ∷ [])

-- ---- the code's book

-- what it says
abbrev pub value : Book → BookValue
value book = record { entries = book.entries.items; begun = book.begun.items; next = book.next }

-- it has room for one more line
pub record HasRoom (book : Book) : Type 0 where
  pub entries : vec_len book.entries < vec_capacity book.entries
  pub begun : vec_len book.begun < vec_capacity book.begun
