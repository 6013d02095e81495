-- Meaning. What stays of an outbox on a disk, and what is asked of the disk for each line.
use Rattle.std.specs.Prelude.{◌≡◌, ◌⊎◌, ℕ, Bool, true, false, All, List, [], ◌∷◌, ◌++◌, Option, Some, None, Result, OnOk, OnErr, codes}
use Rattle.disk.specs.Steps.{Step}
use Rattle.disk.specs.Steps.Step.{saw}
use Rattle.disk.specs.Crash.{MayFind}
use Rattle.disk.specs.Crash.Content.{flushed}
use Rattle.disk.specs.Parts.{IsKept}
use Rattle.disk.specs.Promise.{Changes, HoldsAfterCut, Is}
use Rattle.whole_files.specs.Links.{Keeps}
use Rattle.whole_files.specs.Wholes.{IsCopyOf}
use Rattle.outbox_file.specs.declared.book.Entry.{Entry}
use Rattle.outbox_file.specs.declared.file.StoredOutboxFault.{StoredOutboxFault}
use Rattle.outbox_file.specs.declared.file.StoredOutboxFault.TheVariants.{Unreadable}
use Rattle.outbox_file.specs.declared.lines.Line.{Line}
use Rattle.outbox_file.specs.declared.reading.BadLine.{BadLine}
use Rattle.outbox_file.specs.Books.{BookValue, after, empty}
use Rattle.outbox_file.specs.Texts.{IsNumber, book_by, book_in, is_line, is_whole, reading_of}

-- the path beside a path, where a file is written before it gets its name
abbrev pub beside : List ℕ → List ℕ
beside path = path ++ codes ".new"

-- the path beside a path, where the octets of a file are kept that had to be mended
abbrev pub aside : List ℕ → List ℕ
aside path = path ++ codes ".bad"

-- what was found says this, mended or not; where there is no file, nothing was queued yet
abbrev pub found_by : Bool → Option (List ℕ) → Option BookValue
found_by mends None = Some empty
found_by mends (Some text) = book_by mends text

abbrev pub found_book : Option (List ℕ) → Option BookValue
found_book found = found_by false found

-- whatever a power cut leaves, the file says this
pub record Holds (path : List ℕ) (book : BookValue) (steps : List Step) : Type 0 where
  pub only : (found : Option (List ℕ)) → MayFind steps path found → found_book found ≡ Some book

-- what is found at the path says the one or the other
abbrev pub SaysEither : List ℕ → BookValue → BookValue → List ℕ → Option (List ℕ) → Type 0
SaysEither path one other at found = (at ≡ path) × ((found_book found ≡ Some one) ⊎ (found_book found ≡ Some other))

-- At each moment what may be found at the path is what might be found before, or says the one or the other; and at no
-- other path but the one beside it anything changes.
abbrev pub Notes : List ℕ → BookValue → BookValue → List Step → List Step → Type 0
Notes path one other before now = Changes (Is (beside path)) (SaysEither path one other) before now

-- a file: what its disk was asked, its path, what was noted in it, and whether the last line could be written
pub record FileValue : Type 0 where
  pub done : List Step
  pub path : List ℕ
  pub book : BookValue
  pub is_sound : Bool

-- a file that is queued
abbrev pub queued_entry : ℕ → ℕ → List ℕ → Entry
queued_entry number since words = record { number = number; since = since; words = words }

-- one line is noted, or nothing is; where that succeeds, the file says it whatever a power cut leaves
pub record NotesLine {T E : Type 0} (line : Line) (before : FileValue) (result : Result T E) (after_it : FileValue) : Type 0 where
  pub said : OnOk result (after_it.book ≡ after line before.book)
  pub holds : OnOk result (Holds before.path (after line before.book) after_it.done)
  pub not : OnErr result (after_it.book ≡ before.book)
  pub notes : Notes before.path before.book (after line before.book) before.done after_it.done
  pub path : after_it.path ≡ before.path

-- these octets are kept beside a path, whatever a power cut leaves
pub record KeptAside (path octets : List ℕ) (before now : List Step) : Type 0 where
  pub place : List ℕ
  pub copy : IsCopyOf (aside path) place
  pub kept : Keeps (aside path) octets (Some place) before now
  pub holds : HoldsAfterCut now place octets

-- what was found says nothing by itself; its lines that can be parsed say this
pub record IsMended (mends : Bool) (path : List ℕ) (found : Option (List ℕ)) (book : BookValue) (before now : List Step) : Type 0 where
  pub may : mends ≡ true
  pub text : List ℕ
  pub is_text : found ≡ Some text
  pub bad : book_in text ≡ None
  pub said : book_by true text ≡ Some book
  pub aside : KeptAside path text before now

-- a path was read, and what was found says this; or it had to be mended, and was kept beside the path
pub record Reads (mends : Bool) (path : List ℕ) (book : BookValue) (before now : List Step) : Type 0 where
  pub found : Option (List ℕ)
  pub said : ((found_book found ≡ Some book) × (now ≡ saw path found ∷ before)) ⊎ IsMended mends path found book (saw path found ∷ before) now

-- a file that was opened: it was read, or mended; that is written again as a whole, and stays
pub record Opens (mends : Bool) (path : List ℕ) (before : List Step) (file : FileValue) : Type 0 where
  pub read : List Step
  pub reads : Reads mends path file.book before read
  pub notes : Notes path file.book file.book read file.done
  pub holds : Holds path file.book file.done
  pub is_path : file.path ≡ path

-- the fault of a file with a line that can't be parsed
abbrev pub fault_at : Option BadLine → StoredOutboxFault
fault_at (Some bad) = StoredOutboxFault.BadLine bad
fault_at None = Unreadable

-- ---- of the code

-- a file that is queued is read as it was written
pub record IsPlainEntry (entry : Entry) : Type 0 where
  pub number : IsNumber entry.number
  pub since : IsNumber entry.since
  pub words : is_line entry.words ≡ true
  pub whole : is_whole entry.words ≡ true

-- all that a book says is
pub record IsPlainBook (book : BookValue) : Type 0 where
  pub entries : All IsPlainEntry book.entries
  pub begun : All IsNumber book.begun
  pub next : IsNumber book.next

-- the file is open and flushed, and its text says a book
pub record IsStored (path : List ℕ) (book : BookValue) (steps : List Step) : Type 0 where
  pub text : List ℕ
  pub kept : IsKept (beside path) path (flushed text) steps
  pub says : reading_of text ≡ record { book = Some book; line = [] }
