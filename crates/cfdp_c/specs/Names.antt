-- Meaning. The names of codes and of refusals.
use Rattle.std.specs.Prelude.{ℕ, ℤ, pos, negsuc, ◌==◌, if◌then◌else◌, Option, Some, None, List, codes}

-- the name of a code
abbrev pub code_text : ℤ → Option (List ℕ)
code_text (pos number) =
    if number == 0 then Some (codes "OK") else if number == 1 then Some (codes "REFUSED") else
    if number == 2 then Some (codes "NOTHING") else None
code_text (negsuc number) =
    if number == 0 then Some (codes "CLOSED") else if number == 1 then Some (codes "OPEN") else
    if number == 2 then Some (codes "NO_MEMORY") else if number == 3 then Some (codes "NO_ROOM") else
    if number == 4 then Some (codes "BAD_NUMBER") else if number == 5 then Some (codes "UNKNOWN") else
    if number == 6 then Some (codes "BAD_CONFIG") else if number == 7 then Some (codes "NO_NAME") else
    if number == 8 then Some (codes "NAME_TOO_LONG") else if number == 9 then Some (codes "MESSAGE_TOO_LONG") else
    if number == 10 then Some (codes "TOO_MANY_MESSAGES") else if number == 12 then Some (codes "NOT_ALLOWED") else
    if number == 13 then Some (codes "TOO_LATE") else None

-- the name of the refusal of this number
abbrev pub refusal_text : ℕ → Option (List ℕ)
refusal_text number =
    if number == 1 then Some (codes "NoTransaction") else if number == 2 then Some (codes "OldTransaction") else
    if number == 3 then Some (codes "LaneBusy") else if number == 4 then Some (codes "ModeMismatch") else
    if number == 5 then Some (codes "StaleTimer") else if number == 6 then Some (codes "StaleStored") else
    if number == 7 then Some (codes "Storing") else if number == 8 then Some (codes "WrongState") else
    if number == 9 then Some (codes "SeqExhausted") else if number == 10 then Some (codes "TooLarge") else
    if number == 11 then Some (codes "JournalFull") else if number == 12 then Some (codes "NoMemory") else
    if number == 13 then Some (codes "QueueFull") else if number == 20 then Some (codes "DecodeFault") else
    if number == 21 then Some (codes "NotForUs") else if number == 22 then Some (codes "WrongDirection") else
    if number == 23 then Some (codes "NoRoute") else if number == 24 then Some (codes "NotYours") else
    if number == 25 then Some (codes "UnknownRemote") else if number == 26 then Some (codes "WrongLane") else None
