-- A line that was written is read again.
use Rattle.std.proofs.Common.{◌≡◌, ◌≢◌, ℕ, ◌+◌, ◌-◌, ◌<◌, ◌≤◌, ◌^◌, ◌==◌, ◌&&◌, Bool, true, false, not, nat_le, List, [], ◌∷◌, ◌++◌, length, Option, Some, None, Bor, All, refl, sym, ap, ◌∙◌, subst, arith, rules, codes, decimal, if◌then◌else◌}
use Rattle.std.specs.Char.{is_ascii_digit}
use Rattle.std.specs.List.{join_with_byte, list_all}
use Rattle.std.specs.Option.{is_some, option_copied}
use Rattle.std.proofs.lemmas.Bool.{and_parts, eqb-true, le-leb}
use Rattle.std.proofs.lemmas.Fmt.{decimal_nonempty, digits_decimal, digits_value-decimal}
use Rattle.std.proofs.lemmas.List.Elements.{All-nil, All-cons}
use Rattle.std.proofs.lemmas.List.Folds.{list_all-append}
use Rattle.std.proofs.lemmas.List.Splits.{join_with_byte-slice_split, slice_split_at, slice_split_none}
use Rattle.std.proofs.lemmas.Str.Parse.{IsNumeralModel, numerals_by_fold}
use Rattle.line_words.specs.Operands.{number_of}
use Rattle.line_words.specs.Words.{decimal_of, is_numeral, value_after, words_left, words_of}
use Rattle.line_words.proofs.WordFacts.{words_of-nonempty}
use Rattle.outbox_file.specs.declared.book.Entry.{Entry}
use Rattle.outbox_file.specs.declared.lines.Line.{Line}
use Rattle.outbox_file.specs.declared.lines.Line.TheVariants.{Next, Queued, Began, Ended, Dropped}
use Rattle.outbox_file.specs.Texts.{IsNumber, IsPlain, entry_line, is_line, is_whole, line_by, line_in, line_words, numbered, queued_since, queued_text, short_alone}

-- ---- numbers

own : IsNumeralModel (λ digits. list_all is_ascii_digit digits ≡ true) (value_after 0)
own = numerals_by_fold _ (search rules) value_after (search rules)

numeral : (word : List ℕ) → 0 < length word → list_all is_ascii_digit word ≡ true → is_numeral word ≡ true
numeral [] some all = absurd (omega arith)
numeral (digit ∷ digits) some all = all

pub number_back : (n : ℕ) → IsNumber n → number_of (decimal n) ≡ Some n
number_back n fits =
    let digits = numeral (decimal n) (decimal_nonempty n fits) (digits_decimal own n fits) in
    let value : value_after 0 (decimal n) ≡ n = digits_value-decimal own n fits in
    rw (digits, value, le-leb n (2 ^ 64 - 1) (omega arith)) refl

-- ---- marks that don't stand in a text

abbrev pub lacks : ℕ → List ℕ → Bool
lacks mark text = list_all (λ octet. not (octet == mark)) text

pub both_lack : (mark : ℕ) (one other : List ℕ) → lacks mark one ≡ true → lacks mark other ≡ true → lacks mark (one ++ other) ≡ true
both_lack mark one other first second = list_all-append (λ octet. not (octet == mark)) one other ∙ rw (first, second) refl

digit_not : (mark octet : ℕ) → is_ascii_digit mark ≡ false → is_ascii_digit octet ≡ true → not (octet == mark) ≡ true
digit_not mark octet none digit = by (octet == mark) refl
  where
    by : (same : Bool) → (octet == mark) ≡ same → not same ≡ true
    by false is = refl
    by true is = let some = subst (λ o. is_ascii_digit o ≡ true) (eqb-true octet mark is) digit in absurd cc

digits_lack : (mark : ℕ) → is_ascii_digit mark ≡ false → (word : List ℕ) → list_all is_ascii_digit word ≡ true → lacks mark word ≡ true
digits_lack mark none [] all = refl
digits_lack mark none (digit ∷ digits) all =
    let both = and_parts (is_ascii_digit digit) (list_all is_ascii_digit digits) all in
    rw (digit_not mark digit none both.0) (digits_lack mark none digits both.1)

decimal_lacks : (mark : ℕ) → is_ascii_digit mark ≡ false → (n : ℕ) → IsNumber n → lacks mark (decimal n) ≡ true
decimal_lacks mark none n fits = digits_lack mark none (decimal n) (digits_decimal own n fits)

-- ---- no line feed and no zero stand in a line

numbered_lacks : (mark : ℕ) → is_ascii_digit mark ≡ false → lacks mark (codes " ") ≡ true → (word : List ℕ) (n : ℕ) → lacks mark word ≡ true → IsNumber n → lacks mark (numbered word n) ≡ true
numbered_lacks mark none space word n solid fits = both_lack mark word (codes " " ++ decimal n) solid (both_lack mark (codes " ") (decimal n) space (decimal_lacks mark none n fits))

queued_lacks : (mark : ℕ) → is_ascii_digit mark ≡ false → lacks mark (codes " ") ≡ true → lacks mark (codes "queued ") ≡ true → (entry : Entry) → IsNumber entry.number → IsNumber entry.since
    → lacks mark entry.words ≡ true → lacks mark (queued_text entry) ≡ true
queued_lacks mark none space kind entry number since words =
    let last : List ℕ = codes " " ++ entry.words in
    let rest : List ℕ = decimal entry.since ++ last in
    both_lack mark (codes "queued ") (decimal entry.number ++ (codes " " ++ rest)) kind
    (both_lack mark (decimal entry.number) (codes " " ++ rest) (decimal_lacks mark none entry.number number)
    (both_lack mark (codes " ") rest space
    (both_lack mark (decimal entry.since) last (decimal_lacks mark none entry.since since)
    (both_lack mark (codes " ") entry.words space words))))

pub words_line : (line : Line) → IsPlain line → is_line (line_words line) ≡ true
words_line (Next number) plain = numbered_lacks 10 refl refl (codes "next") number refl plain
words_line (Queued entry) plain = queued_lacks 10 refl refl refl entry plain.0 plain.1 plain.2
words_line (Began number) plain = numbered_lacks 10 refl refl (codes "began") number refl plain
words_line (Ended number) plain = numbered_lacks 10 refl refl (codes "ended") number refl plain
words_line (Dropped number) plain = numbered_lacks 10 refl refl (codes "dropped") number refl plain

pub words_whole : (line : Line) → IsPlain line → is_whole (line_words line) ≡ true
words_whole (Next number) plain = numbered_lacks 0 refl refl (codes "next") number refl plain
words_whole (Queued entry) plain = queued_lacks 0 refl refl refl entry plain.0 plain.1 plain.3
words_whole (Began number) plain = numbered_lacks 0 refl refl (codes "began") number refl plain
words_whole (Ended number) plain = numbered_lacks 0 refl refl (codes "ended") number refl plain
words_whole (Dropped number) plain = numbered_lacks 0 refl refl (codes "dropped") number refl plain

-- ---- a line is read

not_true : (b : Bool) → not b ≡ true → b ≡ false
not_true true is = absurd cc
not_true false is = refl

no_space : (word : List ℕ) → lacks 32 word ≡ true → All (λ octet. (octet == 32) ≡ false) word
no_space [] solid = All-nil (λ octet. (octet == 32) ≡ false)
no_space (octet ∷ octets) solid =
    let both = and_parts (not (octet == 32)) (lacks 32 octets) solid in
    All-cons (λ octet. (octet == 32) ≡ false) octet octets (not_true (octet == 32) both.0) (no_space octets both.1)

first_word : (word rest : List ℕ) → lacks 32 word ≡ true → words_of (word ++ 32 ∷ rest) ≡ word ∷ words_of rest
first_word word rest solid = slice_split_at (λ octet. octet == 32) word 32 rest (no_space word solid) refl

numbered_words : (word : List ℕ) (n : ℕ) → lacks 32 word ≡ true → IsNumber n → words_of (numbered word n) ≡ word ∷ decimal n ∷ []
numbered_words word n solid fits =
    first_word word (decimal n) solid
    ∙ ap (λ words. word ∷ words) (slice_split_none (λ octet. octet == 32) (decimal n) (no_space (decimal n) (decimal_lacks 32 refl n fits)))

queued_words : (entry : Entry) → IsPlain (Queued entry) → words_of (queued_text entry) ≡ codes "queued" ∷ decimal entry.number ∷ decimal entry.since ∷ words_of entry.words
queued_words entry plain =
    first_word (codes "queued") (decimal entry.number ++ (codes " " ++ (decimal entry.since ++ (codes " " ++ entry.words)))) refl
    ∙ ap (λ words. codes "queued" ∷ words)
    (first_word (decimal entry.number) (decimal entry.since ++ (codes " " ++ entry.words)) (decimal_lacks 32 refl entry.number plain.0)
    ∙ ap (λ words. decimal entry.number ∷ words) (first_word (decimal entry.since) entry.words (decimal_lacks 32 refl entry.since plain.1)))

queued_parts : (number since : List ℕ) (parts : List (List ℕ)) → parts ≢ [] → queued_since number since parts ≡ entry_line number since (join_with_byte 32 parts)
queued_parts number since [] some = absurd (some refl)
queued_parts number since (word ∷ words) some = refl

-- the words behind the moment are those of the command
pub queued_left : (number since words : List ℕ) → queued_since number since (words_of words) ≡ entry_line number since words
queued_left number since words =
    queued_parts number since (words_of words) (words_of-nonempty words) ∙ ap (entry_line number since) (join_with_byte-slice_split 32 words)

more_words : (kind number : List ℕ) (parts : List (List ℕ)) → parts ≢ [] → short_alone kind number parts ≡ None
more_words kind number [] some = absurd (some refl)
more_words kind number (word ∷ words) some = refl

-- a short line has no third word
pub none_alone : (kind number : List ℕ) (rest : Option (Bor (List ℕ))) → is_some rest ≡ true → None ≡ short_alone kind number (words_left (option_copied rest))
none_alone kind number None some = absurd cc
none_alone kind number (Some text) some = sym (more_words kind number (words_of text.now) (words_of-nonempty text.now))

entry_back : (entry : Entry) → IsPlain (Queued entry) → entry_line (decimal entry.number) (decimal entry.since) entry.words ≡ Some (Queued entry)
entry_back entry plain = rw (number_back entry.number plain.0, number_back entry.since plain.1) refl

pub line_back : (line : Line) → IsPlain line → line_in (line_words line) ≡ Some line
line_back (Next number) plain = ap line_by (numbered_words (codes "next") number refl plain) ∙ rw (number_back number plain) refl
line_back (Queued entry) plain =
    ap line_by (queued_words entry plain) ∙ queued_left (decimal entry.number) (decimal entry.since) entry.words ∙ entry_back entry plain
line_back (Began number) plain = ap line_by (numbered_words (codes "began") number refl plain) ∙ rw (number_back number plain) refl
line_back (Ended number) plain = ap line_by (numbered_words (codes "ended") number refl plain) ∙ rw (number_back number plain) refl
line_back (Dropped number) plain = ap line_by (numbered_words (codes "dropped") number refl plain) ∙ rw (number_back number plain) refl
