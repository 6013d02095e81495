-- Meaning. The text of an outbox's file, and what it says.
use Rattle.std.specs.Prelude.{◌≡◌, ℕ, ◌+◌, ◌^◌, ◌-◌, ◌<◌, ◌==◌, ◌&&◌, Bool, true, false, not, length, List, [], ◌∷◌, ◌++◌, Option, Some, None, codes, decimal, if◌then◌else◌}
use Rattle.std.specs.List.{fold, join_with_byte, list_all}
use Rattle.std.specs.Option.{is_some, option_map}
use Rattle.std.specs.Str.{bytes_eq}
use Rattle.line_words.specs.Operands.{◌>>=◌, number_of}
use Rattle.line_words.specs.Words.{words_of}
use Rattle.outbox_file.specs.declared.book.Entry.{Entry}
use Rattle.outbox_file.specs.declared.reading.BadLine.{BadLine}
use Rattle.outbox_file.specs.declared.lines.Line.{Line}
use Rattle.outbox_file.specs.declared.lines.Line.TheVariants.{Next, Queued, Began, Ended, Dropped}
use Rattle.outbox_file.specs.Books.{BookValue, after, empty, lines_of}

-- ---- texts

-- a word and a number
abbrev pub numbered : List ℕ → ℕ → List ℕ
numbered word number = word ++ (codes " " ++ decimal number)

-- a file that is queued: its number, since when it waits, and the words of its command
abbrev pub queued_text : Entry → List ℕ
queued_text entry = codes "queued " ++ (decimal entry.number ++ (codes " " ++ (decimal entry.since ++ (codes " " ++ entry.words))))

-- what comes before the line feed of a line
abbrev pub line_words : Line → List ℕ
line_words (Next number) = numbered (codes "next") number
line_words (Queued entry) = queued_text entry
line_words (Began number) = numbered (codes "began") number
line_words (Ended number) = numbered (codes "ended") number
line_words (Dropped number) = numbered (codes "dropped") number

-- a line
abbrev pub line_text : Line → List ℕ
line_text line = line_words line ++ 10 ∷ []

-- lines, first to last
abbrev pub text_of : List Line → List ℕ
text_of [] = []
text_of (line ∷ lines) = line_text line ++ text_of lines

-- the whole text of a book
abbrev pub book_text : BookValue → List ℕ
book_text book = text_of (lines_of book)

-- ---- reading

-- a line of two words
abbrev pub short_by : List ℕ → ℕ → Option Line
short_by kind number =
    if bytes_eq kind (codes "next") then Some (Next number)
    else if bytes_eq kind (codes "began") then Some (Began number)
    else if bytes_eq kind (codes "ended") then Some (Ended number)
    else if bytes_eq kind (codes "dropped") then Some (Dropped number)
    else None

abbrev pub short_line : List ℕ → List ℕ → Option Line
short_line kind number = do
  of_number ← number_of number
  short_by kind of_number

-- the line of a file that is queued, from its number, since when it waits, and the words of its command
abbrev pub entry_line : List ℕ → List ℕ → List ℕ → Option Line
entry_line number since words = do
  of_number ← number_of number
  of_since ← number_of since
  Some (Queued (record { number = of_number; since = of_since; words = words }))

-- the same, where the command's words are apart, and where all after the number are
abbrev pub queued_since : List ℕ → List ℕ → List (List ℕ) → Option Line
queued_since number since [] = None
queued_since number since (word ∷ words) = entry_line number since (join_with_byte 32 (word ∷ words))

abbrev pub queued_from : List ℕ → List (List ℕ) → Option Line
queued_from number [] = None
queued_from number (since ∷ words) = queued_since number since words

-- a line of two words and no more
abbrev pub short_alone : List ℕ → List ℕ → List (List ℕ) → Option Line
short_alone kind number [] = short_line kind number
short_alone kind number words = None

-- a line, from its words
abbrev pub line_by : List (List ℕ) → Option Line
line_by (kind ∷ number ∷ words) = if bytes_eq kind (codes "queued") then queued_from number words else short_alone kind number words
line_by words = None

-- what a line says, without its line feed
abbrev pub line_in : List ℕ → Option Line
line_in text = line_by (words_of text)

-- words without a line feed
abbrev pub is_line : List ℕ → Bool
is_line words = list_all (λ octet. not (octet == 10)) words

-- words without a zero, which a power cut may leave in place of any octet
abbrev pub is_whole : List ℕ → Bool
is_whole words = list_all (λ octet. not (octet == 0)) words

-- what was read: what the whole lines say, if each says something, and the octets of the line that hasn't ended
pub record Reading : Type 0 where
  pub book : Option BookValue
  pub line : List ℕ

-- before anything was read
abbrev pub unread : Reading
unread = record { book = Some empty; line = [] }

-- after a whole line; a text that is mended goes on behind one that can't be parsed
abbrev pub said : Bool → Option Line → Option BookValue → Option BookValue
said mends (Some line) book = option_map (after line) book
said true None book = book
said false None book = None

-- after one more line; one with a zero was torn by a power cut, and says nothing
abbrev pub noted : Bool → List ℕ → Option BookValue → Option BookValue
noted mends line book = if is_whole line then said mends (line_in line) book else book

-- after one more octet: a line feed ends a line
abbrev pub read_on : Bool → Reading → ℕ → Reading
read_on mends reading octet =
    if octet == 10 then record { book = noted mends reading.line reading.book; line = [] }
    else record reading { line = reading.line ++ octet ∷ [] }

-- after a text, which is mended or not
abbrev pub reading_by : Bool → List ℕ → Reading
reading_by mends text = fold (read_on mends) unread text

abbrev pub reading_of : List ℕ → Reading
reading_of text = reading_by false text

-- what a file with this text says; what follows its last line feed says nothing
abbrev pub book_by : Bool → List ℕ → Option BookValue
book_by mends text = (reading_by mends text).book

abbrev pub book_in : List ℕ → Option BookValue
book_in text = book_by false text

-- ---- the line that can't be parsed

-- what was looked through: where the line begins that hasn't ended, its octets, and the first one that can't be parsed
pub record Looking : Type 0 where
  pub at : BadLine
  pub line : List ℕ
  pub bad : Option BadLine

-- before anything was looked at
abbrev pub unlooked : Looking
unlooked = record { at = record { line = 1; offset = 0 }; line = []; bad = None }

-- a line can't be parsed, and no power cut tore it
abbrev pub is_bad : List ℕ → Bool
is_bad line = is_whole line && not (is_some (line_in line))

-- the first one, with one more line
abbrev pub first_bad : Option BadLine → List ℕ → BadLine → Option BadLine
first_bad (Some bad) line at = Some bad
first_bad None line at = if is_bad line then Some at else None

-- after one more octet
abbrev pub look_on : Looking → ℕ → Looking
look_on looking octet =
    if octet == 10 then record {
      at = record { line = looking.at.line + 1; offset = looking.at.offset + length looking.line + 1 };
      line = [];
      bad = first_bad looking.bad looking.line looking.at;
    }
    else record looking { line = looking.line ++ octet ∷ [] }

-- the first line of a text that can't be parsed
abbrev pub bad_line_in : List ℕ → Option BadLine
bad_line_in text = (fold look_on unlooked text).bad

-- ---- which lines are read as they were written

-- a number of 64 bits
abbrev pub IsNumber : ℕ → Type 0
IsNumber number = number < 2 ^ 64

-- such a line
abbrev pub IsPlain : Line → Type 0
IsPlain (Next number) = IsNumber number
IsPlain (Queued entry) = IsNumber entry.number × IsNumber entry.since × (is_line entry.words ≡ true) × (is_whole entry.words ≡ true)
IsPlain (Began number) = IsNumber number
IsPlain (Ended number) = IsNumber number
IsPlain (Dropped number) = IsNumber number
