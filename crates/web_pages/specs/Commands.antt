-- Meaning. Commands that the console passes on.
use Rattle.std.specs.Prelude.{◌≡◌, ◌⊎◌, ◌==◌, ℕ, IsTrue, nat_le, List, Option, Some, None, take, position, codes}
use Rattle.std.specs.List.{list_all}

-- the line up to its first space
abbrev pub word_until : List ℕ → Option ℕ → List ℕ
word_until line None = line
word_until line (Some at) = take at line

-- the first word of a line: all before its first space
abbrev pub first_word : List ℕ → List ℕ
first_word line = word_until line (position (λ octet. octet == 32) line)

-- the word of a command on the outbox
abbrev pub IsOfOutbox : List ℕ → Type 0
IsOfOutbox word = (word ≡ codes "send") ⊎ (word ≡ codes "drop")

-- the word of a command on a transaction
abbrev pub IsOfTransaction : List ℕ → Type 0
IsOfTransaction word =
    (word ≡ codes "cancel") ⊎ ((word ≡ codes "report") ⊎ ((word ≡ codes "suspend") ⊎ ((word ≡ codes "resume")
    ⊎ ((word ≡ codes "journal") ⊎ (word ≡ codes "abandon")))))

-- the word of a command on a remote entity
abbrev pub IsOfRemote : List ℕ → Type 0
IsOfRemote word = (word ≡ codes "hold") ⊎ ((word ≡ codes "release") ⊎ (word ≡ codes "rate"))

-- a command that is passed on: in one line without octets below 32, on the outbox, a transaction or a remote entity
abbrev pub IsCommand : List ℕ → Type 0
IsCommand line =
    IsTrue (list_all (λ octet. nat_le 32 octet) line)
    × (IsOfOutbox (first_word line) ⊎ (IsOfTransaction (first_word line) ⊎ IsOfRemote (first_word line)))
