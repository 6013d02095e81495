-- Meaning. Lines of a status, and the document that they make.
use Rattle.std.specs.Prelude.{◌≡◌, ◌==◌, ℕ, Bool, if◌then◌else◌, List, [], ◌∷◌, ◌++◌, Option, Some, None, drop, map, flat_map, option_and_then, codes}
use Rattle.std.specs.List.{count_by, slice_split}
use Rattle.std.specs.Str.{bytes_eq}
use Rattle.json.specs.Json.{Json, document}
use Rattle.json.specs.Find.{get, as_str}
use Rattle.web_lines.specs.declared.kind.Kind.{Kind}
use Rattle.web_lines.specs.declared.kind.Kind.TheVariants.{Entity, Log, User, Transaction, Remote, Refusal, Queued, Reading, Parked, Storing, Recorder, Ended, Delivered, Store}
use Rattle.web_lines.specs.declared.lines.Line.{Line}

-- the kind of this name
abbrev pub named : List ℕ → Option Kind
named name =
    if bytes_eq name (codes "entity") then Some Entity
    else (if bytes_eq name (codes "log") then Some Log
    else (if bytes_eq name (codes "user") then Some User
    else (if bytes_eq name (codes "transaction") then Some Transaction
    else (if bytes_eq name (codes "remote") then Some Remote
    else (if bytes_eq name (codes "refusal") then Some Refusal
    else (if bytes_eq name (codes "queued") then Some Queued
    else (if bytes_eq name (codes "reading") then Some Reading
    else (if bytes_eq name (codes "parked") then Some Parked
    else (if bytes_eq name (codes "storing") then Some Storing
    else (if bytes_eq name (codes "recorder") then Some Recorder
    else (if bytes_eq name (codes "ended") then Some Ended
    else (if bytes_eq name (codes "delivered") then Some Delivered
    else (if bytes_eq name (codes "store") then Some Store else None)))))))))))))

-- the text of a value's member `kind`
abbrev pub kind_name : Json → Option (List ℕ)
kind_name value = option_and_then as_str (get (codes "kind") value)

-- the kind of a value: its member `kind` names it
abbrev pub kind_of_value : Json → Option Kind
kind_of_value value = option_and_then named (kind_name value)

-- the kind of a text that is one JSON value
abbrev pub kind_of_text : List ℕ → Option Kind
kind_of_text text = option_and_then kind_of_value (document text)

-- a line's kind and text
abbrev pub said : Line → Kind × List ℕ
said line = (line.kind, line.text.now)

-- a text with its kind, if it has one
abbrev pub with_kind : Option Kind → List ℕ → List (Kind × List ℕ)
with_kind None text = []
with_kind (Some kind) text = (kind, text) ∷ []

-- one line of a status, if it is whole JSON of a known kind
abbrev pub known_line : List ℕ → List (Kind × List ℕ)
known_line text = with_kind (kind_of_text text) text

-- the lines of a status that are whole JSON of known kinds, in order
abbrev pub known_lines : List ℕ → List (Kind × List ℕ)
known_lines status = flat_map known_line (slice_split (λ octet. octet == 10) status)

-- these are the known lines of a status
abbrev pub AreLinesOf : List ℕ → List Line → Type 0
AreLinesOf status lines = map said lines ≡ known_lines status

-- the place of a kind's list in the document
abbrev pub place_of : Kind → ℕ
place_of Entity = 0
place_of Log = 1
place_of User = 2
place_of Transaction = 3
place_of Remote = 4
place_of Refusal = 5
place_of Queued = 6
place_of Reading = 7
place_of Parked = 8
place_of Storing = 9
place_of Recorder = 10
place_of Ended = 11
place_of Delivered = 12
place_of Store = 13

-- a line is of a kind
abbrev pub is_of_kind : Kind → Line → Bool
is_of_kind kind line = place_of line.kind == place_of kind

-- how many lines are of a kind
abbrev pub count_of_kind : Kind → List Line → ℕ
count_of_kind kind lines = count_by (is_of_kind kind) lines

-- what a line adds to the list of a kind: a comma and its text, if it is of the kind
abbrev pub listed : Kind → Line → List ℕ
listed kind line = if place_of line.kind == place_of kind then 44 ∷ line.text.now else []

-- the lines of a kind, as they came and in order, with commas between them
abbrev pub list_text : Kind → List Line → List ℕ
list_text kind lines = drop 1 (flat_map (listed kind) lines)

-- an opening and the lines of a kind; nothing where there is none
abbrev pub some_list : List ℕ → Kind → List Line → List ℕ
some_list opening kind lines = if count_of_kind kind lines == 0 then [] else opening ++ list_text kind lines

-- the document of lines: one object with a list for each kind; those of what is counted only where there are such lines
unfoldable pub document_text : List Line → List ℕ
document_text lines =
    codes "{\"entities\":[" ++ list_text Entity lines
    ++ codes "],\"logs\":[" ++ list_text Log lines
    ++ codes "],\"users\":[" ++ list_text User lines
    ++ codes "],\"transactions\":[" ++ list_text Transaction lines
    ++ codes "],\"remotes\":[" ++ list_text Remote lines
    ++ codes "],\"refusals\":[" ++ list_text Refusal lines
    ++ codes "],\"outbox\":[" ++ list_text Queued lines
    ++ codes "],\"reading\":[" ++ list_text Reading lines
    ++ codes "],\"parked\":[" ++ list_text Parked lines
    ++ codes "],\"storing\":[" ++ list_text Storing lines
    ++ codes "],\"recorders\":[" ++ list_text Recorder lines
    ++ some_list (codes "],\"ended\":[") Ended lines
    ++ some_list (codes "],\"delivered\":[") Delivered lines
    ++ some_list (codes "],\"stores\":[") Store lines
    ++ codes "]}\n"

-- the document of a status
abbrev pub IsDocument : List ℕ → List ℕ → Type 0
IsDocument status text = (lines : List Line) × AreLinesOf status lines × (text ≡ document_text lines)
