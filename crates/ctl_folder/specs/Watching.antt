-- Meaning. Which files of a folder are sent next.
use Rattle.std.specs.Prelude.{◌==◌, ◌&&◌, ◌-◌, ℕ, Bool, true, false, List, Option, Some, None, if◌then◌else◌, nat_le, nat_lt}
use Rattle.std.specs.List.{count_by, position}
use Rattle.ctl_folder.specs.declared.watched.Mark.{Mark}
use Rattle.ctl_folder.specs.declared.watched.Sight.{Sight}
use Rattle.ctl_folder.specs.declared.watched.Standing.{Standing}
use Rattle.ctl_folder.specs.declared.watched.Standing.TheVariants.{Waiting, UnderWay, Refused}
use Rattle.ctl_folder.specs.declared.watched.Watched.{Watched}

-- how many milliseconds a file has to stay as it is before it is sent
abbrev pub quiet : ℕ
quiet = 2000

-- how many files may be under way at once
abbrev pub most : ℕ
most = 64

-- a file or a copy of it is as it was seen: its size and its time
abbrev pub is_alike : Mark → Mark → Bool
is_alike before mark = (before.size == mark.size) && (before.modified == mark.modified)

-- a file is the one that was seen, and unchanged
abbrev pub is_same : Mark → Mark → Bool
is_same before mark = is_alike before mark && (before.inode == mark.inode)

-- a file that changes at a moment
abbrev pub new_sight : Mark → ℕ → Sight
new_sight mark now = record { mark = mark; since = now }

-- a file that was seen before: as it was, or changed now
abbrev pub sight_now : Sight → Mark → ℕ → Sight
sight_now before mark now = if is_same before.mark mark then before else new_sight mark now

-- where a file that was seen before stands: one that wasn't sent waits again once it changes
abbrev pub standing_of : Standing → Bool → Standing
standing_of Waiting same = Waiting
standing_of UnderWay same = UnderWay
standing_of Refused same = if same then Refused else Waiting

abbrev pub standing_now : Watched → Mark → Standing
standing_now before mark = standing_of before.standing (is_same before.sight.mark mark)

-- a file that is seen at a moment, given what was known of it before
abbrev pub watched_now : Option Watched → Mark → ℕ → Watched
watched_now None mark now = record { sight = new_sight mark now; standing = Waiting }
watched_now (Some before) mark now = record { sight = sight_now before.sight mark now; standing = standing_now before mark }

-- it is to be sent
abbrev pub is_waiting : Standing → Bool
is_waiting Waiting = true
is_waiting UnderWay = false
is_waiting Refused = false

-- the server has it
abbrev pub is_going : Standing → Bool
is_going Waiting = false
is_going UnderWay = true
is_going Refused = false

abbrev pub is_under_way : Watched → Bool
is_under_way file = is_going file.standing

-- a file under another name is one that was renamed while it is under way
abbrev pub is_renamed : Watched → Mark → Bool
is_renamed file mark = is_under_way file && (file.sight.mark.inode == mark.inode)

-- it has stayed as it is for long enough
abbrev pub is_steady : ℕ → Sight → Bool
is_steady now sight = nat_le quiet (now - sight.since)

-- it waits, and is steady
abbrev pub is_ready : ℕ → Watched → Bool
is_ready now file = is_waiting file.standing && is_steady now file.sight

-- the place of the file that is sent next: of the first one that is ready, if fewer than may be are under way
abbrev pub next_to_send : ℕ → List Watched → Option ℕ
next_to_send now files = if nat_lt (count_by is_under_way files) most then position (is_ready now) files else None
