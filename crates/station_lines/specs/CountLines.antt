-- Meaning. The lines of a status that show what a server counts where that is asked for.
use Rattle.std.specs.Prelude.{ℕ, List, ◌++◌, codes}
use Rattle.std.specs.Option.{option_copied}
use Rattle.json.specs.Token.{Token}
use Rattle.station_lines.specs.Members.{line_of, moment_member, number_member, text_member}
use Rattle.station_lines.specs.StatusLines.{role_name, why_members}
use Rattle.station_lines.specs.declared.status.DeliveredStatus.{DeliveredStatus}
use Rattle.station_lines.specs.declared.status.EndedStatus.{EndedStatus}
use Rattle.station_lines.specs.declared.status.StoreStatus.{StoreStatus}

-- the role, the class and the condition of transactions that ended, and how many they are
abbrev pub ended_members : EndedStatus → List Token
ended_members e =
    text_member (codes "kind") (codes "ended") ++ (text_member (codes "role") (role_name e.end)
    ++ (number_member (codes "class") e.class ++ (number_member (codes "condition") e.condition
    ++ number_member (codes "count") e.count)))

-- the line of the transactions that ended in one way
abbrev pub ended_line : EndedStatus → List ℕ
ended_line e = line_of (ended_members e)

-- how many files came whole in a role, and how many octets they have together
abbrev pub delivered_members : DeliveredStatus → List Token
delivered_members d =
    text_member (codes "kind") (codes "delivered") ++ (text_member (codes "role") (role_name d.end)
    ++ (number_member (codes "files") d.files ++ number_member (codes "octets") d.octets))

-- the line of the files that came whole, in one role
abbrev pub delivered_line : DeliveredStatus → List ℕ
delivered_line d = line_of (delivered_members d)

-- the last file that was given to the store, when that was, and how long it took
abbrev pub store_members : StoreStatus → List Token
store_members s =
    text_member (codes "kind") (codes "store") ++ (number_member (codes "source") s.source.0
    ++ (number_member (codes "seq") s.seq ++ (moment_member (codes "at") s.at
    ++ number_member (codes "microseconds") s.microseconds)))

-- the line of the last file that was given to the store
abbrev pub store_line : StoreStatus → List ℕ
store_line s = line_of (store_members s ++ why_members (option_copied s.why))
