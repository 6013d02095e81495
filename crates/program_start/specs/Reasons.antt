-- Meaning. Why a file to be sent can't be read, in words.
use Rattle.std.specs.Prelude.{ℕ, List, codes}
use Rattle.program_start.specs.declared.unread.Unread.{Unread}
use Rattle.program_start.specs.declared.unread.Unread.TheVariants as unread

abbrev pub unread_words : Unread → List ℕ
unread_words unread.NotThere = codes "is not there"
unread_words unread.Denied = codes "permission denied"
unread_words unread.Folder = codes "is a folder"
unread_words unread.NotPlain = codes "not a plain file"
unread_words unread.NoFolder = codes "a part of the path is not a folder"
unread_words unread.Circle = codes "its links lead in a circle"
unread_words unread.NoPath = codes "the path is too long, or has a zero octet"
unread_words unread.NotText = codes "the path is not UTF-8"
unread_words unread.System = codes "the system can't read it"
