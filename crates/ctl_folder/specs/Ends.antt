-- Meaning. What is done with a file of the folder at its end, and once it was moved.
use Rattle.std.specs.Prelude.{◌-◌, ℕ, Bool, false, not, Option, Some, None, if◌then◌else◌, nat_le}
use Rattle.ctl_folder.specs.Watching.{is_same}
use Rattle.ctl_folder.specs.declared.watched.Mark.{Mark}
use Rattle.ctl_folder.specs.declared.watched.Sight.{Sight}
use Rattle.ctl_folder.specs.declared.ends.Given.{Given}
use Rattle.ctl_folder.specs.declared.ends.Given.TheVariants.{Seen, Unseen}
use Rattle.ctl_folder.specs.declared.ends.Turn.{Turn}
use Rattle.ctl_folder.specs.declared.ends.Turn.TheVariants.{Arrived, Failed, Unread}
use Rattle.ctl_folder.specs.declared.ends.AtEnd.{AtEnd}
use Rattle.ctl_folder.specs.declared.ends.AtEnd.TheVariants.{ToSent, ToFailed, Again}
use Rattle.ctl_folder.specs.declared.ends.Rest.{Rest}
use Rattle.ctl_folder.specs.declared.ends.Rest.TheVariants.{Watch, Leave, TakeBack}

-- how many milliseconds a file is looked at after it was moved
abbrev pub settling : ℕ
settling = 10000

-- what is known of a file that a server turns out to have: what was known if it is where it was; nothing if its turn has
-- begun; else how it is now
abbrev pub given_again : Given → Bool → Bool → Mark → Given
given_again given same_place has_begun mark = if same_place then given else if has_begun then Unseen else Seen mark

-- a file is there, and as it was before the server read it
abbrev pub is_as_given : Given → Option Mark → Bool
is_as_given (Seen mark) (Some seen) = is_same mark seen
is_as_given (Seen mark) None = false
is_as_given Unseen seen = false

-- an unchanged file goes where its turn sends it; one that wasn't found under its old name is sent again
abbrev pub by_turn : Turn → Bool → AtEnd
by_turn Arrived renamed = ToSent
by_turn Failed renamed = ToFailed
by_turn Unread renamed = if renamed then Again else ToFailed

-- what is done with a file at its end
abbrev pub at_end : Given → Option Mark → Turn → Bool → AtEnd
at_end given seen turn renamed = if is_as_given given seen then by_turn turn renamed else Again

-- what is done with a file that was moved, by how it is now
abbrev pub rest_of : Sight → Option Mark → ℕ → Rest
rest_of sight None now = Leave
rest_of sight (Some seen) now = if not (is_same sight.mark seen) then TakeBack
    else if nat_le settling (now - sight.since) then Leave else Watch
