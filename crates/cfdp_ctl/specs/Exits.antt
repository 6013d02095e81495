-- Meaning. The exit status of the program.
use Rattle.std.specs.Prelude.{ℕ, Bool, true, false, not, ◌&&◌, if◌then◌else◌, nat_lt}
use Rattle.ctl_views.specs.declared.ends.End.{End}
use Rattle.ctl_views.specs.declared.ends.End.TheVariants as ends
use Rattle.cfdp_ctl.specs.declared.fault.CtlFault.{CtlFault}
use Rattle.cfdp_ctl.specs.declared.fault.CtlFault.TheVariants as faults
use Rattle.cfdp_ctl.specs.declared.sent.Fate.{Fate}
use Rattle.cfdp_ctl.specs.declared.sent.Fate.TheVariants as fates

-- 2 if the command line can't be used, and else 1
abbrev pub status_of : CtlFault → ℕ
status_of faults.Words = 2
status_of faults.NoPath = 2
status_of faults.NoFolder = 2
status_of (faults.Station why) = 1
status_of faults.Output = 1
status_of faults.Input = 1
status_of faults.NoMemory = 1

-- an end is a success: the receiver keeps the file, or no report of it was asked for
abbrev pub is_good_end : Bool → End → Bool
is_good_end is_reported ends.Kept = true
is_good_end is_reported ends.Unreported = not is_reported
is_good_end is_reported ends.Lost = false

-- a file has arrived, as far as the sender can know
abbrev pub has_arrived : Bool → Fate → Bool
has_arrived is_reported fates.Queued = false
has_arrived is_reported fates.Again = false
has_arrived is_reported fates.UnderWay = false
has_arrived is_reported fates.Unsent = false
has_arrived is_reported (fates.Ended end) = is_good_end is_reported end

-- for files that were sent: 3 if the server refused one, 4 if one was awaited and didn't arrive, and else 0
abbrev pub send_status : Bool → Bool → Bool → ℕ
send_status all_taken is_awaited all_arrived = if not all_taken then 3 else if is_awaited && not all_arrived then 4 else 0

-- a file waits for a place in a full outbox: ends are awaited, and one of the files before hasn't ended
abbrev pub waits_for_room : Bool → ℕ → Bool
waits_for_room is_awaited under_way = is_awaited && nat_lt 0 under_way

-- a file is sent again: its end is no success, and it may be sent again
abbrev pub goes_again : Bool → End → ℕ → Bool
goes_again is_reported end retries = not (is_good_end is_reported end) && nat_lt 0 retries
