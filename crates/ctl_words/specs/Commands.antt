-- Meaning. Which texts a server reads as one word of a command, how a word is quoted, and ranges of numbers.
use Rattle.std.specs.Prelude.{◌≤◌, ◌==◌, ◌||◌, ◌&&◌, ◌/◌, ◌%◌, ◌+◌, ◌++◌, ◌∷◌, [], ℕ, Bool, false, not, List, if◌then◌else◌, nat_lt, length, codes, decimal, flat_map}
use Rattle.std.specs.Char.{is_ascii_graphic}
use Rattle.std.specs.List.{list_all}
use Rattle.ctl_words.specs.declared.words.Verb.{Verb}
use Rattle.ctl_words.specs.declared.words.Verb.TheVariants as verbs

-- an octet that ends neither a word nor a line: no space and no line feed
abbrev pub is_inner : ℕ → Bool
is_inner octet = not ((octet == 32) || (octet == 10))

-- a text that the server reads as one word: not empty, and without an octet that ends a word
abbrev pub is_word : List ℕ → Bool
is_word text = if length text == 0 then false else list_all is_inner text

-- a path or a name at the receiver is longer than a command takes
abbrev pub has_long_name : List ℕ → List ℕ → Bool
has_long_name source target = nat_lt 255 (length source) || nat_lt 255 (length target)

-- a number is within a range
abbrev pub IsWithin : ℕ → ℕ → ℕ → Type 0
IsWithin least most number = (least ≤ number) × (number ≤ most)

-- a quote or a backslash, which needs a backslash between quotes
abbrev pub is_marked : ℕ → Bool
is_marked octet = (octet == 34) || (octet == 92)

-- a printable ASCII character
abbrev pub is_printable : ℕ → Bool
is_printable octet = (octet == 32) || is_ascii_graphic octet

-- an octet that doesn't make quotes necessary: printable, and not a space, a hash, a quote or a backslash
abbrev pub is_plain_octet : ℕ → Bool
is_plain_octet octet = is_ascii_graphic octet && not ((octet == 35) || is_marked octet)

-- a word that needs no quotes
abbrev pub is_plain : List ℕ → Bool
is_plain word = if length word == 0 then false else list_all is_plain_octet word

-- the hex digit of a number below sixteen
abbrev pub hex_digit : ℕ → ℕ
hex_digit number = if nat_lt number 10 then 48 + number else 87 + number

-- an octet as it is written between quotes
abbrev pub quoted_octet : ℕ → List ℕ
quoted_octet octet = if is_marked octet then 92 ∷ octet ∷ []
    else if is_printable octet then octet ∷ []
    else 92 ∷ 120 ∷ hex_digit (octet / 16) ∷ hex_digit (octet % 16) ∷ []

-- a word as it is written in a command: in quotes if it needs them
abbrev pub word_octets : List ℕ → List ℕ
word_octets word = if is_plain word then word else 34 ∷ [] ++ (flat_map quoted_octet word ++ 34 ∷ [])

-- the last word if the receiver is asked to report what became of the file, with a space before it
abbrev pub closure_octets : Bool → List ℕ
closure_octets is_closed = if is_closed then codes " closure" else []

-- a class and an entity, with a space before each and after both
abbrev pub numbers_octets : ℕ → ℕ → List ℕ
numbers_octets class remote = codes " " ++ (decimal class ++ (codes " " ++ (decimal remote ++ codes " ")))

-- the beginning of the command: the user, the class and the receiver
abbrev pub head_octets : List ℕ → ℕ → ℕ → List ℕ
head_octets user class remote = codes "send " ++ (word_octets user ++ numbers_octets class remote)

-- the source and the destination file name
abbrev pub names_octets : List ℕ → List ℕ → List ℕ
names_octets source target = word_octets source ++ (codes " " ++ word_octets target)

-- the word of a file that goes before others of its user, with a space before it
abbrev pub urgent_octets : Bool → List ℕ
urgent_octets is_urgent = if is_urgent then codes " urgent" else []

-- the source name that the receiver learns in place of the path, if there is one, with its word before it
abbrev pub alias_octets : List ℕ → List ℕ
alias_octets alias = if length alias == 0 then [] else codes " as " ++ word_octets alias

-- the last words: what is asked for beside the file's names
abbrev pub options_octets : Bool → Bool → List ℕ → List ℕ
options_octets is_closed is_urgent alias = closure_octets is_closed ++ (urgent_octets is_urgent ++ alias_octets alias)

-- the command that puts a file in the outbox
abbrev pub send_octets : List ℕ → ℕ → ℕ → List ℕ → List ℕ → List ℕ → List ℕ
send_octets user class remote source target options =
    head_octets user class remote ++ (names_octets source target ++ options)

-- the first word of a command for a transaction, with the space after it
abbrev pub verb_octets : Verb → List ℕ
verb_octets verbs.Cancel = codes "cancel "
verb_octets verbs.Suspend = codes "suspend "
verb_octets verbs.Resume = codes "resume "
verb_octets verbs.Abandon = codes "abandon "

-- the command for a user's transaction, by its source and its number
abbrev pub act_octets : Verb → List ℕ → ℕ → ℕ → List ℕ
act_octets verb user source seq =
    verb_octets verb ++ (word_octets user ++ (codes " " ++ (decimal source ++ (codes " " ++ decimal seq))))
