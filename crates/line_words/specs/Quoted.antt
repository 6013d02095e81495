-- Meaning. The words of a line in which double quotes may hold a word together.
use Rattle.std.specs.Prelude.{ℕ, ◌+◌, ◌-◌, ◌*◌, ◌==◌, ◌||◌, ◌&&◌, Bool, nat_lt, nat_le, if◌then◌else◌, List, [], ◌∷◌, ◌++◌, Option, Some, None}
use Rattle.std.specs.List.{list_all, list_any}
use Rattle.line_words.specs.Words.{words_of}
use Rattle.line_words.specs.declared.splitter.Mode.{Mode}
use Rattle.line_words.specs.declared.splitter.Mode.TheVariants.{Begin, Plain, Quoted, Escaped, FirstDigit, LastDigit, Closed, Bad}

-- a line that is being read: the words that ended, the octets of the current word, and how the next octet is read
pub record Reading : Type 0 where
  pub words : List (List ℕ)
  pub word : List ℕ
  pub mode : Mode

-- at the beginning of a line
abbrev pub start : Reading
start = record { words = []; word = []; mode = Begin }

-- ---- the effects of an octet

-- it ends the word
abbrev pub with_end : Reading → Reading
with_end r = record { words = r.words ++ r.word ∷ []; word = []; mode = Begin }

-- the word has one more octet
abbrev pub with_octet : Mode → ℕ → Reading → Reading
with_octet mode octet r = record { words = r.words; word = r.word ++ octet ∷ []; mode = mode }

-- the word stays, and the next octet is read in this mode
abbrev pub with_mode : Mode → Reading → Reading
with_mode mode r = record { words = r.words; word = r.word; mode = mode }

-- ---- escapes

-- the value of a hex digit
abbrev pub hex_digit : ℕ → Option ℕ
hex_digit octet =
    if nat_le 48 octet && nat_le octet 57 then Some (octet - 48)
    else if nat_le 97 octet && nat_le octet 102 then Some (octet - 97 + 10)
    else if nat_le 65 octet && nat_le octet 70 then Some (octet - 65 + 10)
    else None

-- the octet with these two hex digits
abbrev pub digits_octet : Option ℕ → Option ℕ → Option ℕ
digits_octet None low = None
digits_octet (Some high) None = None
digits_octet (Some high) (Some low) = Some (high * 16 + low)

abbrev pub hex_octet : ℕ → ℕ → Option ℕ
hex_octet high low = digits_octet (hex_digit high) (hex_digit low)

-- ---- what an octet does, by the mode

-- without quotes: a space ends the word, and any other octet of ASCII stands for itself
abbrev pub plain_octet : ℕ → Reading → Reading
plain_octet octet r =
    if octet == 32 then with_end r
    else if nat_lt octet 128 then with_octet Plain octet r
    else with_mode Bad r

-- at the beginning of a word: a quote opens
abbrev pub first_octet : ℕ → Reading → Reading
first_octet octet r = if octet == 34 then with_mode Quoted r else plain_octet octet r

-- inside quotes: a quote closes, a backslash begins an escape, and any other octet stands for itself
abbrev pub quoted_octet : ℕ → Reading → Reading
quoted_octet octet r =
    if octet == 34 then with_mode Closed r
    else if octet == 92 then with_mode Escaped r
    else with_octet Quoted octet r

-- after a backslash: a quote, a backslash, or the x before two hex digits
abbrev pub escaped_octet : ℕ → Reading → Reading
escaped_octet octet r =
    if (octet == 34) || (octet == 92) then with_octet Quoted octet r
    else if octet == 120 then with_mode FirstDigit r
    else with_mode Bad r

-- the octet that was written in hex, if it was one
abbrev pub with_written : Option ℕ → Reading → Reading
with_written None r = with_mode Bad r
with_written (Some octet) r = with_octet Quoted octet r

-- the second hex digit
abbrev pub last_digit : ℕ → ℕ → Reading → Reading
last_digit first octet r = with_written (hex_octet first octet) r

-- after closing quotes: a space ends the word
abbrev pub closed_octet : ℕ → Reading → Reading
closed_octet octet r = if octet == 32 then with_end r else with_mode Bad r

abbrev pub octet_in : Mode → ℕ → Reading → Reading
octet_in Begin octet r = first_octet octet r
octet_in Plain octet r = plain_octet octet r
octet_in Quoted octet r = quoted_octet octet r
octet_in Escaped octet r = escaped_octet octet r
octet_in FirstDigit octet r = with_mode (LastDigit octet) r
octet_in (LastDigit first) octet r = last_digit first octet r
octet_in Closed octet r = closed_octet octet r
octet_in Bad octet r = r

abbrev pub next_octet : ℕ → Reading → Reading
next_octet octet r = octet_in r.mode octet r

-- ---- whole lines

-- a line that is being read, after more of its octets
abbrev pub after : Reading → List ℕ → Reading
after r [] = r
after r (octet ∷ line) = after (next_octet octet r) line

-- the words at the end of a line, or nothing where a quote is open or something was bad
abbrev pub words_ending : Mode → Reading → Option (List (List ℕ))
words_ending Begin r = Some (with_end r).words
words_ending Plain r = Some (with_end r).words
words_ending Quoted r = None
words_ending Escaped r = None
words_ending FirstDigit r = None
words_ending (LastDigit first) r = None
words_ending Closed r = Some (with_end r).words
words_ending Bad r = None

abbrev pub words_at_end : Reading → Option (List (List ℕ))
words_at_end r = words_ending r.mode r

-- the words of a line, each of which may be in double quotes
abbrev pub quoted_words_of : List ℕ → Option (List (List ℕ))
quoted_words_of line = words_at_end (after start line)

-- ---- lines with quotes and lines without

abbrev pub has_quote : List ℕ → Bool
has_quote line = list_any (λ octet. octet == 34) line

abbrev pub is_ascii : List ℕ → Bool
is_ascii line = list_all (λ octet. nat_lt octet 128) line

-- the words of a line of ASCII without quotes are between its spaces
abbrev pub plain_words_of : List ℕ → Option (List (List ℕ))
plain_words_of line = if is_ascii line then Some (words_of line) else None

-- the words of any line
abbrev pub words_in : List ℕ → Option (List (List ℕ))
words_in line = if has_quote line then quoted_words_of line else plain_words_of line
