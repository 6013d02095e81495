-- Worked rows: each reason why a file can't be read, in words.
use Rattle.std.proofs.Common.{◌≡◌, [], ◌∷◌, map, codes, refl}
use Rattle.program_start.specs.Reasons.{unread_words}
use Rattle.program_start.specs.declared.unread.Unread.TheVariants as unread

reasons : map unread_words (unread.NotThere ∷ unread.Denied ∷ unread.Folder ∷ unread.NotPlain ∷ unread.NoFolder ∷ unread.Circle ∷ unread.NoPath ∷ unread.NotText
    ∷ unread.System ∷ [])
    ≡ codes "is not there" ∷ codes "permission denied" ∷ codes "is a folder" ∷ codes "not a plain file" ∷ codes "a part of the path is not a folder"
    ∷ codes "its links lead in a circle" ∷ codes "the path is too long, or has a zero octet" ∷ codes "the path is not UTF-8"
    ∷ codes "the system can't read it" ∷ []
reasons = refl
