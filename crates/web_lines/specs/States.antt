-- Meaning. The states of transactions.
use Rattle.std.specs.Prelude.{ℕ, ◌==◌, if◌then◌else◌, List, [], Option, Some, None, flat_map, option_and_then, option_to_list, codes}
use Rattle.std.specs.List.{count_by}
use Rattle.std.specs.Str.{bytes_eq}
use Rattle.json.specs.Json.{Json, document}
use Rattle.json.specs.Find.{get, as_str}
use Rattle.web_lines.specs.declared.kind.Kind.TheVariants.{Transaction}
use Rattle.web_lines.specs.declared.lines.Line.{Line}
use Rattle.web_lines.specs.declared.state.State.{State}
use Rattle.web_lines.specs.declared.state.State.TheVariants.{Active, Suspended, Storing, Closing, Ended}
use Rattle.web_lines.specs.Document.{is_of_kind}

-- a state's name
abbrev pub name_of_state : State → List ℕ
name_of_state Active = codes "active"
name_of_state Suspended = codes "suspended"
name_of_state Storing = codes "storing"
name_of_state Closing = codes "closing"
name_of_state Ended = codes "ended"

-- the state of this name
abbrev pub state_named : List ℕ → Option State
state_named name =
    if bytes_eq name (codes "active") then Some Active
    else (if bytes_eq name (codes "suspended") then Some Suspended
    else (if bytes_eq name (codes "storing") then Some Storing
    else (if bytes_eq name (codes "closing") then Some Closing
    else (if bytes_eq name (codes "ended") then Some Ended else None))))

-- the state that a line's member `state` names
abbrev pub state_in : Json → Option State
state_in value = option_and_then state_named (option_and_then as_str (get (codes "state") value))

-- the state of a line of a transaction, if it has one
abbrev pub state_of_line : Line → List State
state_of_line line = if is_of_kind Transaction line then option_to_list (option_and_then state_in (document line.text.now)) else []

-- the states of the transactions of lines
abbrev pub states_of : List Line → List State
states_of lines = flat_map state_of_line lines

-- states told apart
abbrev pub place_of_state : State → ℕ
place_of_state Active = 0
place_of_state Suspended = 1
place_of_state Storing = 2
place_of_state Closing = 3
place_of_state Ended = 4

-- how many of the states are this one
abbrev pub count_in_state : State → List State → ℕ
count_in_state state states = count_by (λ other. place_of_state other == place_of_state state) states
