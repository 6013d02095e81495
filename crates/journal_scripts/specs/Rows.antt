-- Meaning. What a script has for the events of a journal: rows of words.
use Rattle.std.specs.Prelude.{ℕ, zero, suc, ◌-◌, ◌/◌, ◌==◌, ◌&&◌, not, nat_le, nat_lt, Bool, true, false, if◌then◌else◌, Option, Some, None, List, [], ◌∷◌, ◌++◌, length, take, drop, codes, decimal}
use Rattle.std.specs.List.{flat_map, list_all}
use Rattle.hex.specs.Hex.{encode_lower}
use Rattle.cfdp_types.specs.Put.{PutValue}
use Rattle.cfdp_types.specs.declared.key.TxnKey.{TxnKey}
use Rattle.cfdp_types.specs.declared.limits.TheConstants.{NAME_OCTETS}
use Rattle.cfdp_types.specs.declared.names.Class.{Class}
use Rattle.cfdp_types.specs.declared.names.Class.TheVariants.{One, Two}
use Rattle.cfdp_types.specs.declared.names.TimerKind.{TimerKind}
use Rattle.cfdp_types.specs.declared.names.TimerKind.TheVariants.{Ack, Nak, Check, Inactivity}
use Rattle.pdu_values.specs.Pdu.{PduValue}
use Rattle.pdu_values.specs.Spelling.{written}
use Rattle.txn_events.specs.declared.event.Event.{Event}
use Rattle.txn_events.specs.declared.event.Event.TheVariants.{Put, On}
use Rattle.txn_events.specs.declared.event.What.{What}
use Rattle.txn_events.specs.declared.event.What.TheVariants as what
use Rattle.journal_scripts.specs.declared.puts.TheConstants.{PIECE_OCTETS}

-- ---- rows

-- words as a line: with a space between each two
abbrev pub line_of : List (List ℕ) → List ℕ
line_of [] = []
line_of (word ∷ []) = word
line_of (word ∷ next ∷ words) = word ++ (32 ∷ line_of (next ∷ words))

-- the same with a line feed after it
abbrev pub row_text : List (List ℕ) → List ℕ
row_text [] = codes "\n"
row_text (word ∷ []) = word ++ codes "\n"
row_text (word ∷ next ∷ words) = word ++ (32 ∷ row_text (next ∷ words))

-- ---- before the first event, and after an event that issued indications to its user

abbrev pub first_words : ℕ → List (List ℕ)
first_words first = codes "set" ∷ codes "first" ∷ decimal first ∷ []

abbrev pub take_words : List ℕ → List (List ℕ)
take_words name = codes "take" ∷ name ∷ []

-- ---- events of a transaction that has begun

abbrev pub kind_word : TimerKind → List ℕ
kind_word Ack = codes "ack"
kind_word Nak = codes "nak"
kind_word Check = codes "check"
kind_word Inactivity = codes "inactivity"

abbrev pub answer_word : Bool → List ℕ
answer_word true = codes "yes"
answer_word false = codes "no"

-- a word, and the two numbers of a key
abbrev pub keyed_words : List ℕ → TxnKey → List (List ℕ)
keyed_words word key = word ∷ decimal key.source.0 ∷ decimal key.seq ∷ []

-- a request of the user with this name
abbrev pub asked_words : List ℕ → List ℕ → TxnKey → List (List ℕ)
asked_words word name key = word ∷ name ∷ decimal key.source.0 ∷ decimal key.seq ∷ []

-- a PDU, as the octets of its datagram
abbrev pub pdu_words : PduValue → List (List ℕ)
pdu_words pdu = codes "pdu" ∷ encode_lower (written pdu) ∷ []

abbrev pub on_words : List ℕ → TxnKey → What → List (List ℕ)
on_words name key what.Cancel = asked_words (codes "cancel") name key
on_words name key what.Suspend = asked_words (codes "suspend") name key
on_words name key what.Resume = asked_words (codes "resume") name key
on_words name key what.Report = asked_words (codes "report") name key
on_words name key what.Abandon = asked_words (codes "abandon") name key
on_words name key what.Pump = keyed_words (codes "pump") key
on_words name key (what.Pdu pdu) = pdu_words pdu
on_words name key (what.Timer kind stamp) = codes "timer" ∷ decimal key.source.0 ∷ decimal key.seq ∷ kind_word kind ∷ decimal stamp ∷ []
on_words name key (what.Stored stamp kept) = codes "stored" ∷ decimal key.source.0 ∷ decimal key.seq ∷ decimal stamp ∷ answer_word kept ∷ []

-- ---- puts

-- a file name that is a word: neither empty nor too long, of ASCII, with no space and no line feed
abbrev pub is_word_octet : ℕ → Bool
is_word_octet octet = nat_lt octet 128 && (not (octet == 32) && not (octet == 10))

abbrev pub is_word : List ℕ → Bool
is_word name = (nat_lt 0 (length name) && nat_le (length name) NAME_OCTETS) && list_all is_word_octet name

-- the name, if it is a word
abbrev pub word_of : List ℕ → Option (List ℕ)
word_of name = if is_word name then Some name else None

-- a put that lines can have: without messages, and with names that are words
abbrev pub is_plain : PutValue → Bool
is_plain put = nat_le (length put.messages) 0 && (is_word put.source_name && is_word put.destination_name)

abbrev pub class_word : Class → List ℕ
class_word One = codes "1"
class_word Two = codes "2"

abbrev pub closure_words : Bool → List (List ℕ)
closure_words true = codes "closure" ∷ []
closure_words false = []

-- a file in this many pieces of the greatest length, and a last one
abbrev pub pieces_in : ℕ → List ℕ → List (List ℕ)
pieces_in zero file = file ∷ []
pieces_in (suc more) file = take PIECE_OCTETS file ∷ pieces_in more (drop PIECE_OCTETS file)

-- how many pieces of the greatest length come before the last
abbrev pub whole_pieces : List ℕ → ℕ
whole_pieces file = (length file - 1) / PIECE_OCTETS

-- the pieces of a file; an empty one has none
abbrev pub pieces : List ℕ → List (List ℕ)
pieces [] = []
pieces (octet ∷ octets) = pieces_in (whole_pieces (octet ∷ octets)) (octet ∷ octets)

abbrev pub piece_words : List ℕ → List (List ℕ)
piece_words piece = codes "file" ∷ encode_lower piece ∷ []

abbrev pub piece_text : List ℕ → List ℕ
piece_text piece = row_text (piece_words piece)

-- a file as a word: a dash for an empty one, otherwise what the rows before have gathered
abbrev pub file_word : List ℕ → List ℕ
file_word [] = codes "-"
file_word (octet ∷ octets) = codes "@"

abbrev pub put_words : List ℕ → ℕ → PutValue → List (List ℕ)
put_words name lane put =
    codes "put" ∷ name ∷ decimal lane ∷ class_word put.class ∷ decimal put.destination.0 ∷ put.source_name ∷ put.destination_name
    ∷ file_word put.file ∷ closure_words put.closure

-- the rows for the pieces of its file, and its own; nothing for a put that lines can't have
abbrev pub put_text : List ℕ → ℕ → PutValue → List ℕ
put_text name lane put = if is_plain put then flat_map piece_text (pieces put.file) ++ row_text (put_words name lane put) else []

-- ---- all events

-- the rows for an event at a lane of the user with this name
abbrev pub event_text : List ℕ → ℕ → Event → List ℕ
event_text name lane (Put put params) = put_text name lane put
event_text name lane (On key happened) = row_text (on_words name key happened)

-- whether lines can have an event
abbrev pub is_plain_event : Event → Bool
is_plain_event (Put put params) = is_plain put
is_plain_event (On key happened) = true
