-- Worked rows: files that become steady, that change, and that are sent; names.
use Rattle.std.proofs.Common.{◌≡◌, ◌∷◌, [], true, false, Some, None, codes, map, refl, ℕ}
use Rattle.std.specs.Fmt.{digits}
use Rattle.ctl_folder.specs.declared.ends.AtEnd.TheVariants.{ToSent, ToFailed, Again}
use Rattle.ctl_folder.specs.declared.ends.Given.TheVariants.{Seen, Unseen}
use Rattle.ctl_folder.specs.declared.ends.Rest.TheVariants.{Watch, Leave, TakeBack}
use Rattle.ctl_folder.specs.declared.ends.Turn.TheVariants.{Arrived, Failed, Unread}
use Rattle.ctl_folder.specs.declared.watched.Mark.{Mark}
use Rattle.ctl_folder.specs.declared.watched.Standing.{Standing}
use Rattle.ctl_folder.specs.declared.watched.Standing.TheVariants.{Waiting, UnderWay, Refused}
use Rattle.ctl_folder.specs.declared.watched.Watched.{Watched}
use Rattle.ctl_folder.specs.Ends.{at_end, given_again, rest_of}
use Rattle.ctl_folder.specs.Names.{is_left_alone, kept_name, why_name}
use Rattle.ctl_folder.specs.Watching.{is_ready, is_renamed, is_steady, new_sight, next_to_send, watched_now}

-- a file by its size, its time and its number
abbrev of_size : ℕ → ℕ → ℕ → Mark
of_size size modified inode = record { size = size; modified = modified; inode = inode }

abbrev nine : Mark
nine = of_size 9 7 3

-- a file of nine octets that was written at moment 7, and is so since moment 1000
abbrev some : Standing → Watched
some standing = record { sight = record { mark = nine; since = 1000 }; standing = standing }

-- two seconds are enough, and less isn't
steady : map (λ now. is_steady now (new_sight nine 1000)) (1000 ∷ 2999 ∷ 3000 ∷ []) ≡ false ∷ false ∷ true ∷ []
steady = refl

-- a clock that goes back makes nothing steady
early : is_steady 0 (new_sight nine 1000) ≡ false
early = refl

only_those_that_wait : map (λ standing. is_ready 3000 (some standing)) (Waiting ∷ UnderWay ∷ Refused ∷ []) ≡ true ∷ false ∷ false ∷ []
only_those_that_wait = refl

new : watched_now None nine 1000 ≡ some Waiting
new = refl

unchanged : map (λ standing. watched_now (Some (some standing)) nine 5000) (Waiting ∷ UnderWay ∷ Refused ∷ [])
    ≡ some Waiting ∷ some UnderWay ∷ some Refused ∷ []
unchanged = refl

-- another size, another time, another file in its place
changed : watched_now (Some (some Refused)) (of_size 10 7 3) 5000 ≡ record { sight = new_sight (of_size 10 7 3) 5000; standing = Waiting }
changed = refl

touched : watched_now (Some (some UnderWay)) (of_size 9 8 3) 5000 ≡ record { sight = new_sight (of_size 9 8 3) 5000; standing = UnderWay }
touched = refl

replaced : watched_now (Some (some Waiting)) (of_size 9 7 4) 5000 ≡ record { sight = new_sight (of_size 9 7 4) 5000; standing = Waiting }
replaced = refl

-- only a file under way is looked for under another name
renamed : map (λ standing. is_renamed (some standing) (of_size 10 8 3)) (Waiting ∷ UnderWay ∷ Refused ∷ []) ≡ false ∷ true ∷ false ∷ []
renamed = refl

another : is_renamed (some UnderWay) (of_size 9 7 4) ≡ false
another = refl

-- an unchanged file that arrived, failed, or wasn't found; in its name and renamed
at_its_end : map (λ turn. at_end (Seen nine) (Some nine) turn false) (Arrived ∷ Failed ∷ Unread ∷ []) ≡ ToSent ∷ ToFailed ∷ ToFailed ∷ []
at_its_end = refl

renamed_at_its_end : map (λ turn. at_end (Seen nine) (Some nine) turn true) (Arrived ∷ Failed ∷ Unread ∷ []) ≡ ToSent ∷ ToFailed ∷ Again ∷ []
renamed_at_its_end = refl

-- one that changed, is gone, or was seen by nobody before it was read
not_as_given : map (λ turn. at_end (Seen nine) (Some (of_size 9 8 3)) turn false) (Arrived ∷ Failed ∷ Unread ∷ []) ≡ Again ∷ Again ∷ Again ∷ []
not_as_given = refl

gone : at_end (Seen nine) None Arrived false ≡ Again
gone = refl

unseen : at_end Unseen (Some nine) Arrived false ≡ Again
unseen = refl

-- what a server turns out to have: where it was, waiting elsewhere, and begun elsewhere
found_again : given_again (Seen nine) true true (of_size 1 1 1) ∷ given_again Unseen false false nine ∷ given_again (Seen nine) false true nine ∷ []
    ≡ Seen nine ∷ Seen nine ∷ Unseen ∷ []
found_again = refl

-- after it was moved: for ten seconds, and taken back if it changes
resting : map (λ now. rest_of (new_sight nine 1000) (Some nine) now) (1000 ∷ 10999 ∷ 11000 ∷ []) ≡ Watch ∷ Watch ∷ Leave ∷ []
resting = refl

moved_away : rest_of (new_sight nine 1000) None 1000 ≡ Leave
moved_away = refl

written_after : rest_of (new_sight nine 1000) (Some (of_size 10 8 3)) 20000 ≡ TakeBack
written_after = refl

-- the first one that is ready
next : next_to_send 3000 (some UnderWay ∷ some Refused ∷ some Waiting ∷ some Waiting ∷ []) ≡ Some 2
next = refl

none : next_to_send 2999 (some Waiting ∷ []) ≡ None
none = refl

names_left_alone : map is_left_alone (codes ".a" ∷ codes "a." ∷ [] ∷ []) ≡ true ∷ false ∷ false ∷ []
names_left_alone = refl

names_kept : map (λ number. kept_name number (codes "a")) (0 ∷ 1 ∷ 2 ∷ 10 ∷ []) ≡ codes "a" ∷ codes "a" ∷ codes "a.2" ∷ codes "a.10" ∷ []
unfolding digits
names_kept = refl

name_of_a_reason : why_name (codes "a.bin") ≡ codes "a.bin.why"
name_of_a_reason = refl
