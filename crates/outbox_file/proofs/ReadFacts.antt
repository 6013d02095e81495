-- A text that was written is read again, also where a power cut left a part of its last line.
use Rattle.std.proofs.Common.{◌≡◌, inl, inr, ◌⊎◌, ⊎_elim, ℕ, zero, suc, ◌+◌, ◌-◌, ◌<◌, ◌≤◌, ◌^◌, ◌==◌, ◌&&◌, Bool, true, false, not, nat_le, min, List, [], ◌∷◌, ◌++◌, length, map, take, replicate, Option, Some, None, All, refl, sym, ap, ◌∙◌, subst, arith, codes, decimal, if◌then◌else◌, append_assoc, length-append}
use Rattle.std.specs.List.{fold, join_with_byte, list_all, onto_first}
use Rattle.std.specs.Prelude.{option_and_then}
use Rattle.std.specs.Str.{bytes_eq}
use Rattle.std.proofs.lemmas.Bool.{and_parts, cases_lt, leb-true}
use Rattle.std.proofs.lemmas.List.{append-nil, take-append-le, take_all}
use Rattle.std.proofs.lemmas.List.Elements.{All-append, All-cons, All-filter, All-nil}
use Rattle.std.proofs.lemmas.List.Folds.{list_all-append}
use Rattle.std.proofs.lemmas.List.Sums.{fold-append}
use Rattle.disk.specs.Crash.{Holed, LeavesBehind}
use Rattle.line_words.specs.Operands.{number_of}
use Rattle.line_words.specs.Words.{decimal_of, is_numeral, value_after, words_of}
use Rattle.outbox_file.specs.declared.book.Entry.{Entry}
use Rattle.outbox_file.specs.declared.lines.Line.{Line}
use Rattle.outbox_file.specs.declared.lines.Line.TheVariants.{Next, Queued, Began, Ended, Dropped}
use Rattle.outbox_file.specs.Books.{BookValue, after, after_all, empty, has_other, is_other, lines_of, without}
use Rattle.outbox_file.specs.Files.{IsPlainBook, IsPlainEntry}
use Rattle.outbox_file.specs.Texts.{IsNumber, IsPlain, Reading, book_by, book_in, book_text, is_line, is_whole, line_by, line_in, line_text, line_words, noted, queued_from, read_on, reading_of, said, short_alone, short_by, short_line, text_of, unread}
use Rattle.outbox_file.proofs.TextFacts.{both_lack, lacks, line_back, words_line, words_whole}

-- a book, and nothing of a further line
abbrev pub says : BookValue → Reading
says book = record { book = Some book; line = [] }

not_true : (b : Bool) → not b ≡ true → b ≡ false
not_true true is = absurd cc
not_true false is = refl

-- octets without a line feed stand behind the last line
pub more_read : (book : Option BookValue) (line octets : List ℕ) → is_line octets ≡ true → fold (read_on false) (record { book = book; line = line }) octets ≡ record { book = book; line = line ++ octets }
more_read book line [] plain = ap (λ (l : List ℕ). record { book = book; line = l }) (sym (append-nil line))
more_read book line (octet ∷ octets) plain =
    let both = and_parts (not (octet == 10)) (is_line octets) plain in
    rw (not_true (octet == 10) both.0) (more_read book (line ++ octet ∷ []) octets both.1 ∙ ap (λ (l : List ℕ). record { book = book; line = l }) (append_assoc line (octet ∷ []) octets))

ends : (book : BookValue) (line : Line) → IsPlain line → read_on false (record { book = Some book; line = line_words line }) 10 ≡ says (after line book)
ends book line plain =
    ap (λ (whole : Bool). record { book = if whole then said false (line_in (line_words line)) (Some book) else Some book; line = [] }) (words_whole line plain)
    ∙ ap (λ (l : Option Line). record { book = said false l (Some book); line = [] }) (line_back line plain)

-- one more line is read
pub line_read : (book : BookValue) (line : Line) → IsPlain line → fold (read_on false) (says book) (line_text line) ≡ says (after line book)
line_read book line plain =
    fold-append (read_on false) (says book) (line_words line) (10 ∷ [])
    ∙ ap (λ (r : Reading). read_on false r 10) (more_read (Some book) [] (line_words line) (words_line line plain))
    ∙ ends book line plain

-- so it is behind any text
pub text_then_line : (text : List ℕ) (book : BookValue) (line : Line) → reading_of text ≡ says book → IsPlain line → reading_of (text ++ line_text line) ≡ says (after line book)
text_then_line text book line is plain =
    fold-append (read_on false) unread text (line_text line) ∙ ap (λ (r : Reading). fold (read_on false) r (line_text line)) is ∙ line_read book line plain

-- ---- a part of a line, maybe with zeros in place of octets

zeros_line : (zeros : List ℕ) → Holed [] zeros → is_line zeros ≡ true
zeros_line [] all = refl
zeros_line (octet ∷ octets) all = rw (all.0) (zeros_line octets all.1)

-- nothing more is said
zeros_say : (book : Option BookValue) (line zeros : List ℕ) → Holed [] zeros → (fold (read_on false) (record { book = book; line = line }) zeros).book ≡ book
zeros_say book line zeros all = ap (λ (r : Reading). r.book) (more_read book line zeros (zeros_line zeros all))

-- an octet that is no line feed stands behind the line
goes_on : (book : BookValue) (line : List ℕ) (octet : ℕ) → not (octet == 10) ≡ true → read_on false (record { book = Some book; line = line }) octet ≡ record { book = Some book; line = line ++ octet ∷ [] }
goes_on book line octet more = rw (not_true (octet == 10) more) refl

-- a line that has a zero isn't whole, whatever stands behind it
torn_on : (line : List ℕ) (octet : ℕ) → is_whole line ≡ false → is_whole (line ++ octet ∷ []) ≡ false
torn_on line octet torn = list_all-append (λ o. not (o == 0)) line (octet ∷ []) ∙ rw torn refl

torn_by : (line : List ℕ) → is_whole (line ++ 0 ∷ []) ≡ false
torn_by line = list_all-append (λ o. not (o == 0)) line (0 ∷ []) ∙ by (is_whole line)
  where
    by : (whole : Bool) → (whole && false) ≡ false
    by true = refl
    by false = refl

-- a line with a zero says nothing
torn_says : (book : BookValue) (line : List ℕ) → is_whole line ≡ false → read_on false (record { book = Some book; line = line }) 10 ≡ says book
torn_says book line torn = ap (λ (whole : Bool). record { book = if whole then said false (line_in line) (Some book) else Some book; line = [] }) torn

module _ (book : BookValue) (line : Line) (plain : IsPlain line) where
  abbrev Either : Reading → Type 0
  Either reading = (reading.book ≡ Some book) ⊎ (reading.book ≡ Some (after line book))

  -- what was read of the line: it has a zero, or is as it was written
  abbrev Seen : List ℕ → List ℕ → Type 0
  Seen seen left = (is_whole seen ≡ false) ⊎ (seen ++ left ≡ line_words line)

  at_end : (seen : List ℕ) → Seen seen [] → Either (read_on false (record { book = Some book; line = seen }) 10)
  at_end seen (inl torn) = inl (ap (λ (r : Reading). r.book) (torn_says book seen torn))
  at_end seen (inr same) = inr (ap (λ (l : List ℕ). (read_on false (record { book = Some book; line = l }) 10).book) (sym (append-nil seen) ∙ same) ∙ ap (λ (r : Reading). r.book) (ends book line plain))

  ended : (zeros : List ℕ) (reading : Reading) → Holed [] zeros → Either reading → Either (fold (read_on false) reading zeros)
  ended zeros reading all either =
      let same : (fold (read_on false) reading zeros).book ≡ reading.book = zeros_say reading.book reading.line zeros all in
      ⊎_elim (λ one. inl (same ∙ one)) (λ other. inr (same ∙ other)) either

  seen_on : (seen : List ℕ) (octet : ℕ) (left : List ℕ) → Seen seen (octet ∷ left) → Seen (seen ++ octet ∷ []) left
  seen_on seen octet left (inl torn) = inl (torn_on seen octet torn)
  seen_on seen octet left (inr same) = inr (append_assoc seen (octet ∷ []) left ∙ same)

  tail_says : (left seen tail : List ℕ) → is_line left ≡ true → Seen seen left → Holed (left ++ 10 ∷ []) tail → Either (fold (read_on false) (record { book = Some book; line = seen }) tail)
  tail_says left seen [] solid so_far holed = inl refl
  tail_says [] seen (octet ∷ tail) solid so_far holed = ⊎_elim
      (λ feed. subst (λ (o : ℕ). Either (fold (read_on false) (read_on false (record { book = Some book; line = seen }) o) tail)) (sym feed) (ended tail _ holed.1 (at_end seen so_far)))
      (λ hole. subst (λ (o : ℕ). Either (fold (read_on false) (read_on false (record { book = Some book; line = seen }) o) tail)) (sym hole) (ended tail _ holed.1 (inl refl)))
      holed.0
  tail_says (one ∷ left) seen (octet ∷ tail) solid so_far holed =
      let both = and_parts (not (one == 10)) (is_line left) solid in
      ⊎_elim
      (λ same. subst (λ (o : ℕ). Either (fold (read_on false) (read_on false (record { book = Some book; line = seen }) o) tail)) (sym same)
      (subst (λ (r : Reading). Either (fold (read_on false) r tail)) (sym (goes_on book seen one both.0)) (tail_says left (seen ++ one ∷ []) tail both.1 (seen_on seen one left so_far) holed.1)))
      (λ hole. subst (λ (o : ℕ). Either (fold (read_on false) (read_on false (record { book = Some book; line = seen }) o) tail)) (sym hole)
      (tail_says left (seen ++ 0 ∷ []) tail both.1 (inl (torn_by seen)) holed.1))
      holed.0

-- of the last line a cut leaves nothing that says anything, or all of it
pub part_says : (text : List ℕ) (book : BookValue) (line : Line) (found : List ℕ) → reading_of text ≡ says book → IsPlain line → LeavesBehind text (line_text line) found
    → (book_in found ≡ Some book) ⊎ (book_in found ≡ Some (after line book))
part_says text book line found is plain left =
    let same : book_in found ≡ (fold (read_on false) (says book) left.tail).book =
    ap book_in left.is ∙ ap (λ (r : Reading). r.book) (fold-append (read_on false) unread text left.tail) ∙ ap (λ (r : Reading). (fold (read_on false) r left.tail).book) is in
    ⊎_elim (λ one. inl (same ∙ one)) (λ other. inr (same ∙ other)) (tail_says book line plain (line_words line) [] left.tail (words_line line plain) (inr refl) left.holed)

-- ---- a whole book

-- all of these are read as they were written
abbrev AllPlain : List Line → Type 0
AllPlain [] = Unit {0}
AllPlain (line ∷ lines) = IsPlain line × AllPlain lines

lines_read : (lines : List Line) (book : BookValue) → AllPlain lines → fold (read_on false) (says book) (text_of lines) ≡ says (after_all lines book)
lines_read [] book plain = refl
lines_read (line ∷ lines) book plain =
    fold-append (read_on false) (says book) (line_text line) (text_of lines)
    ∙ ap (λ (r : Reading). fold (read_on false) r (text_of lines)) (line_read book line plain.0)
    ∙ lines_read lines (after line book) plain.1

entries_plain : (entries : List Entry) (more : List Line) → All IsPlainEntry entries → AllPlain more → AllPlain (map Queued entries ++ more)
entries_plain [] more plain rest = rest
entries_plain (entry ∷ entries) more plain rest =
    let first : IsPlainEntry entry = plain zero entry (omega arith) in
    ((first.number, first.since, first.words, first.whole), entries_plain entries more (λ k d below. plain (suc k) d (omega arith)) rest)

begun_plain : (begun : List ℕ) (more : List Line) → All IsNumber begun → AllPlain more → AllPlain (map Began begun ++ more)
begun_plain [] more plain rest = rest
begun_plain (number ∷ begun) more plain rest = (plain zero number (omega arith), begun_plain begun more (λ k d below. plain (suc k) d (omega arith)) rest)

begun_after : (begun : List ℕ) (next : ℕ) (book : BookValue) → after_all (map Began begun ++ Next next ∷ []) book ≡ record { entries = book.entries; begun = book.begun ++ begun; next = next }
begun_after [] next book = ap (λ (l : List ℕ). record { entries = book.entries; begun = l; next = next }) (sym (append-nil book.begun))
begun_after (number ∷ begun) next book =
    begun_after begun next (after (Began number) book) ∙ ap (λ (l : List ℕ). record { entries = book.entries; begun = l; next = next }) (append_assoc book.begun (number ∷ []) begun)

entries_after : (entries : List Entry) (begun : List ℕ) (next : ℕ) (book : BookValue)
    → after_all (map Queued entries ++ (map Began begun ++ Next next ∷ [])) book ≡ record { entries = book.entries ++ entries; begun = book.begun ++ begun; next = next }
entries_after [] begun next book =
    begun_after begun next book ∙ ap (λ (l : List Entry). record { entries = l; begun = book.begun ++ begun; next = next }) (sym (append-nil book.entries))
entries_after (entry ∷ entries) begun next book =
    entries_after entries begun next (after (Queued entry) book)
    ∙ ap (λ (l : List Entry). record { entries = l; begun = book.begun ++ begun; next = next }) (append_assoc book.entries (entry ∷ []) entries)

pub book_read : (book : BookValue) → IsPlainBook book → reading_of (book_text book) ≡ says book
book_read book plain =
    lines_read (lines_of book) empty (entries_plain book.entries _ plain.entries (begun_plain book.begun _ plain.begun (plain.next, tt)))
    ∙ ap says (entries_after book.entries book.begun book.next empty)

-- ---- what is read is plain

abbrev IfPlain : Option Line → Type 0
IfPlain None = Unit {0}
IfPlain (Some line) = IsPlain line

abbrev IfNumber : Option ℕ → Type 0
IfNumber None = Unit {0}
IfNumber (Some number) = IsNumber number

abbrev IfPlainBook : Option BookValue → Type 0
IfPlainBook None = Unit {0}
IfPlainBook (Some book) = IsPlainBook book

number_plain : (word : List ℕ) → IfNumber (number_of word)
number_plain word = by (is_numeral word) (nat_le (value_after 0 word) (2 ^ 64 - 1)) refl
  where
    by : (digits within : Bool) → nat_le (value_after 0 word) (2 ^ 64 - 1) ≡ within → IfNumber (if digits && within then Some (value_after 0 word) else None)
    by false within is = tt
    by true false is = tt
    by true true is = omega (arith, leb-true (value_after 0 word) (2 ^ 64 - 1) is)

short_plain : (kind number : List ℕ) → IfPlain (short_line kind number)
short_plain kind number = by (number_of number) (number_plain number)
  where
    named : (n : ℕ) → IsNumber n → (a b c d : Bool)
        → IfPlain (if a then Some (Next n) else if b then Some (Began n) else if c then Some (Ended n) else if d then Some (Dropped n) else None)
    named n plain true b c d = plain
    named n plain false true c d = plain
    named n plain false false true d = plain
    named n plain false false false true = plain
    named n plain false false false false = tt

    by : (read : Option ℕ) → IfNumber read → IfPlain (option_and_then (short_by kind) read)
    by None plain = tt
    by (Some n) plain = named n plain (bytes_eq kind (codes "next")) (bytes_eq kind (codes "began")) (bytes_eq kind (codes "ended")) (bytes_eq kind (codes "dropped"))

-- parts of a text without a mark have none
parts_plain : (mark : ℕ) (text : List ℕ) → lacks mark text ≡ true → list_all (lacks mark) (words_of text) ≡ true
parts_plain mark [] plain = refl
parts_plain mark (octet ∷ octets) plain = by (octet == 32) (words_of octets) (parts_plain mark octets both.1)
  where
    both : (not (octet == mark) ≡ true) × (lacks mark octets ≡ true)
    both = and_parts (not (octet == mark)) (lacks mark octets) plain

    by : (cut : Bool) (parts : List (List ℕ)) → list_all (lacks mark) parts ≡ true → list_all (lacks mark) (if cut then [] ∷ parts else onto_first octet parts) ≡ true
    by true parts rest = rest
    by false [] rest = rw (both.0) refl
    by false (part ∷ parts) rest = rw (both.0) rest

joined_plain : (mark : ℕ) → lacks mark (32 ∷ []) ≡ true → (parts : List (List ℕ)) → list_all (lacks mark) parts ≡ true → lacks mark (join_with_byte 32 parts) ≡ true
joined_plain mark space [] plain = refl
joined_plain mark space (part ∷ []) plain = (and_parts (lacks mark part) true plain).0
joined_plain mark space (part ∷ next ∷ parts) plain =
    let both = and_parts (lacks mark part) (list_all (lacks mark) (next ∷ parts)) plain in
    both_lack mark part (32 ∷ join_with_byte 32 (next ∷ parts)) both.0
    (both_lack mark (32 ∷ []) (join_with_byte 32 (next ∷ parts)) space (joined_plain mark space (next ∷ parts) both.1))

queued_plain : (number : List ℕ) (words : List (List ℕ)) → list_all is_line words ≡ true → list_all is_whole words ≡ true → IfPlain (queued_from number words)
queued_plain number [] plain whole = tt
queued_plain number (since ∷ []) plain whole = tt
queued_plain number (since ∷ word ∷ words) plain whole = by (number_of number) (number_of since) (number_plain number) (number_plain since)
  where
    joined : is_line (join_with_byte 32 (word ∷ words)) ≡ true
    joined = joined_plain 10 refl (word ∷ words) (and_parts (is_line since) (list_all is_line (word ∷ words)) plain).1

    joined_whole : is_whole (join_with_byte 32 (word ∷ words)) ≡ true
    joined_whole = joined_plain 0 refl (word ∷ words) (and_parts (is_whole since) (list_all is_whole (word ∷ words)) whole).1

    by : (one two : Option ℕ) → IfNumber one → IfNumber two
        → IfPlain (option_and_then (λ n. option_and_then (λ s. Some (Queued (record { number = n; since = s; words = join_with_byte 32 (word ∷ words) }))) two) one)
    by None two first second = tt
    by (Some n) None first second = tt
    by (Some n) (Some s) first second = (first, second, joined, joined_whole)

words_plain : (words : List (List ℕ)) → list_all is_line words ≡ true → list_all is_whole words ≡ true → IfPlain (line_by words)
words_plain [] plain whole = tt
words_plain (kind ∷ []) plain whole = tt
words_plain (kind ∷ number ∷ words) plain whole = by (bytes_eq kind (codes "queued")) words (rest 10 plain) (rest 0 whole)
  where
    rest : (mark : ℕ) → list_all (lacks mark) (kind ∷ number ∷ words) ≡ true → list_all (lacks mark) words ≡ true
    rest mark all = (and_parts (lacks mark number) (list_all (lacks mark) words) (and_parts (lacks mark kind) (list_all (lacks mark) (number ∷ words)) all).1).1

    by : (queued : Bool) (words : List (List ℕ)) → list_all is_line words ≡ true → list_all is_whole words ≡ true → IfPlain (if queued then queued_from number words else short_alone kind number words)
    by true words plain whole = queued_plain number words plain whole
    by false [] plain whole = short_plain kind number
    by false (word ∷ words) plain whole = tt

line_plain : (text : List ℕ) → is_line text ≡ true → is_whole text ≡ true → IfPlain (line_in text)
line_plain text plain whole = words_plain (words_of text) (parts_plain 10 text plain) (parts_plain 0 text whole)

without_plain : (number : ℕ) (book : BookValue) → IsPlainBook book → IsPlainBook (without number book)
without_plain number book plain = record {
  entries = All-filter (is_other number) IsPlainEntry book.entries plain.entries;
  begun = All-filter (has_other number) IsNumber book.begun plain.begun;
  next = plain.next;
}

-- a book stays plain
pub after_plain : (line : Line) (book : BookValue) → IsPlain line → IsPlainBook book → IsPlainBook (after line book)
after_plain (Next number) book one plain = record { entries = plain.entries; begun = plain.begun; next = one }
after_plain (Queued entry) book one plain = record {
  entries = All-append IsPlainEntry book.entries (entry ∷ []) plain.entries (All-cons IsPlainEntry entry [] (record { number = one.0; since = one.1; words = one.2; whole = one.3 }) (All-nil IsPlainEntry));
  begun = plain.begun;
  next = omega arith;
}
after_plain (Began number) book one plain = record {
  entries = plain.entries;
  begun = All-append IsNumber book.begun (number ∷ []) plain.begun (All-cons IsNumber number [] one (All-nil IsNumber));
  next = plain.next;
}
after_plain (Ended number) book one plain = without_plain number book plain
after_plain (Dropped number) book one plain = without_plain number book plain

abbrev IsPlainReading : Reading → Type 0
IsPlainReading reading = IfPlainBook reading.book × (is_line reading.line ≡ true)

said_plain : (mends : Bool) (line : Option Line) (book : Option BookValue) → IfPlain line → IfPlainBook book → IfPlainBook (said mends line book)
said_plain true None book one plain = plain
said_plain false None book one plain = tt
said_plain mends (Some line) None one plain = tt
said_plain mends (Some line) (Some book) one plain = after_plain line book one plain

noted_plain : (mends : Bool) (line : List ℕ) (book : Option BookValue) → is_line line ≡ true → IfPlainBook book → IfPlainBook (noted mends line book)
noted_plain mends line book solid plain = by (is_whole line) refl
  where
    by : (whole : Bool) → is_whole line ≡ whole → IfPlainBook (if whole then said mends (line_in line) book else book)
    by true whole = said_plain mends (line_in line) book (line_plain line solid whole) plain
    by false torn = plain

octet_plain : (mends : Bool) (reading : Reading) (octet : ℕ) → IsPlainReading reading → IsPlainReading (read_on mends reading octet)
octet_plain mends reading octet plain = by (octet == 10) refl
  where
    by : (ends : Bool) → (octet == 10) ≡ ends
        → IsPlainReading (if ends then record { book = noted mends reading.line reading.book; line = [] } else record reading { line = reading.line ++ octet ∷ [] })
    by true is = (noted_plain mends reading.line reading.book plain.1 plain.0, refl)
    by false is = (plain.0, both_lack 10 reading.line (octet ∷ []) plain.1 (rw is refl))

text_plain : (mends : Bool) (text : List ℕ) (reading : Reading) → IsPlainReading reading → IsPlainReading (fold (read_on mends) reading text)
text_plain mends [] reading plain = plain
text_plain mends (octet ∷ octets) reading plain = text_plain mends octets (read_on mends reading octet) (octet_plain mends reading octet plain)

pub empty_plain : IsPlainBook empty
empty_plain = record { entries = All-nil IsPlainEntry; begun = All-nil IsNumber; next = omega arith }

-- what a text says is plain, mended or not
pub book_plain : (mends : Bool) (text : List ℕ) (book : BookValue) → book_by mends text ≡ Some book → IsPlainBook book
book_plain mends text book is = let all = (text_plain mends text unread (empty_plain, refl)).0 in subst IfPlainBook is all
