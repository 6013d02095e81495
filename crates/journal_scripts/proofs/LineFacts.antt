-- The line of each event says that event.
use Rattle.std.proofs.Common.{◌≡◌, ℕ, zero, suc, ◌+◌, ◌-◌, ◌*◌, ◌/◌, ◌<◌, ◌≤◌, ◌^◌, ◌==◌, ◌&&◌, Bool, true, false, not, IsTrue, nat_le, nat_lt, if◌then◌else◌, List, [], ◌∷◌, ◌++◌, length, map, take, drop, Option, Some, None, refl, sym, ap, ◌∙◌, subst, arith, slice_index}
use Rattle.std.specs.Prelude.{decimal, codes}
use Rattle.std.specs.List.{concat, list_all}
use Rattle.std.specs.Option.{option_map}
use Rattle.std.proofs.lemmas.Bool.{and_parts, le-ltb, leb-true, lt-ltb, ltb-true, ne_eqb}
use Rattle.hex.specs.Hex.{IsBytes, encode_lower}
use Rattle.cfdp_types.specs.Put.{PutValue, is_longer, put_fault}
use Rattle.cfdp_types.specs.declared.limits.TheConstants.{NAME_OCTETS}
use Rattle.cfdp_types.specs.declared.key.TxnKey.{TxnKey}
use Rattle.cfdp_types.specs.declared.names.Class.{Class}
use Rattle.cfdp_types.specs.declared.names.Class.TheVariants.{One, Two}
use Rattle.cfdp_types.specs.declared.names.TimerKind.{TimerKind}
use Rattle.cfdp_types.specs.declared.names.TimerKind.TheVariants.{Ack, Nak, Check, Inactivity}
use Rattle.config_reading.specs.Values.{ConfigValue}
use Rattle.pdu_values.specs.Spelling.{written}
use Rattle.txn_events.specs.declared.event.What.{What}
use Rattle.txn_events.specs.declared.event.What.TheVariants as what
use Rattle.entity_routing.specs.declared.world_event.Request.TheVariants as requests
use Rattle.entity_routing.specs.declared.world_event.WorldEvent.TheVariants as events
use Rattle.line_words.specs.Operands.{class_of, closure_of}
use Rattle.line_words.specs.Places.{user_of, lane_of}
use Rattle.script_lines.specs.declared.command.Command.{Command}
use Rattle.script_lines.specs.declared.command.Command.TheVariants as command
use Rattle.script_lines.specs.Commands.{answer_of, command_of, command_of_words, file_of, kind_of}
use Rattle.journal_scripts.specs.Rows.{answer_word, class_word, closure_words, file_word, is_plain, is_word, is_word_octet, kind_word, line_of, on_words, piece_words, pieces, pieces_in, put_words, whole_pieces}
use Rattle.journal_scripts.specs.declared.puts.TheConstants.{PIECE_OCTETS}
use Rattle.journal_scripts.proofs.PieceFacts.{all_pieces, bytes_dropped, bytes_taken}
use Rattle.std.proofs.lemmas.List.{length-drop, length-take-le}
use Rattle.journal_scripts.specs.Laws.{GathersFiles, IsKey, IsReady, IsUser, IsWhat, ReadsBack, caller_what}
use Rattle.journal_scripts.proofs.WordFacts.{are_solid, decimal_solid, hex_solid, is_solid, key_back, number_back, octets_back, stamp_back, word_name_back, word_solid, words_back}
use Rattle.journal_scripts.proofs.UserFacts.{name_solid, user_back}

-- ---- words of one kind

kind_back : (kind : TimerKind) → (kind_of (kind_word kind) ≡ Some kind) × (is_solid (kind_word kind) ≡ true)
kind_back Ack = (refl, refl)
kind_back Nak = (refl, refl)
kind_back Check = (refl, refl)
kind_back Inactivity = (refl, refl)

answer_back : (kept : Bool) → (answer_of (answer_word kept) ≡ Some kept) × (is_solid (answer_word kept) ≡ true)
answer_back true = (refl, refl)
answer_back false = (refl, refl)

-- ---- happenings

module _ (config : ConfigValue) (gathered : Option (List ℕ)) (user : ℕ) (name : List ℕ) (key : TxnKey) (is_user : IsUser config user name) (is_key : IsKey key) where
  source_solid : is_solid (decimal key.source.0) ≡ true
  source_solid = decimal_solid key.source.0 is_key.0

  seq_solid : is_solid (decimal key.seq) ≡ true
  seq_solid = decimal_solid key.seq is_key.1

  asked_solid : are_solid (name ∷ decimal key.source.0 ∷ decimal key.seq ∷ []) ≡ true
  asked_solid = rw (name_solid config user name is_user, source_solid, seq_solid) refl

  keyed_solid : are_solid (decimal key.source.0 ∷ decimal key.seq ∷ []) ≡ true
  keyed_solid = rw (source_solid, seq_solid) refl

  pub happening_back : (happened : What) → IsWhat happened
      → command_of config gathered (line_of (on_words name key happened)) ≡ Some (command.Event (caller_what user key happened))
  happening_back what.Cancel is =
      ap (command_of_words config gathered) (words_back (codes "cancel") (name ∷ decimal key.source.0 ∷ decimal key.seq ∷ []) asked_solid)
      ∙ rw (user_back config user name is_user, key_back key is_key) refl
  happening_back what.Suspend is =
      ap (command_of_words config gathered) (words_back (codes "suspend") (name ∷ decimal key.source.0 ∷ decimal key.seq ∷ []) asked_solid)
      ∙ rw (user_back config user name is_user, key_back key is_key) refl
  happening_back what.Resume is =
      ap (command_of_words config gathered) (words_back (codes "resume") (name ∷ decimal key.source.0 ∷ decimal key.seq ∷ []) asked_solid)
      ∙ rw (user_back config user name is_user, key_back key is_key) refl
  happening_back what.Report is =
      ap (command_of_words config gathered) (words_back (codes "report") (name ∷ decimal key.source.0 ∷ decimal key.seq ∷ []) asked_solid)
      ∙ rw (user_back config user name is_user, key_back key is_key) refl
  happening_back what.Abandon is =
      ap (command_of_words config gathered) (words_back (codes "abandon") (name ∷ decimal key.source.0 ∷ decimal key.seq ∷ []) asked_solid)
      ∙ rw (user_back config user name is_user, key_back key is_key) refl
  happening_back what.Pump is =
      ap (command_of_words config gathered) (words_back (codes "pump") (decimal key.source.0 ∷ decimal key.seq ∷ []) keyed_solid)
      ∙ rw (key_back key is_key) refl
  happening_back (what.Pdu pdu) is =
      ap (command_of_words config gathered) (words_back (codes "pdu") (encode_lower (written pdu) ∷ []) (rw (hex_solid (written pdu) is.0) refl))
      ∙ ap (option_map (λ o. command.Event (events.Deliver o))) (octets_back (written pdu) is.0 is.1)
  happening_back (what.Timer kind stamp) is =
      ap (command_of_words config gathered) (words_back (codes "timer") (decimal key.source.0 ∷ decimal key.seq ∷ kind_word kind ∷ decimal stamp ∷ [])
      (rw (source_solid, seq_solid, (kind_back kind).1, decimal_solid stamp (omega (arith, is))) refl))
      ∙ rw (key_back key is_key, (kind_back kind).0, stamp_back stamp is) refl
  happening_back (what.Stored stamp kept) is =
      ap (command_of_words config gathered) (words_back (codes "stored") (decimal key.source.0 ∷ decimal key.seq ∷ decimal stamp ∷ answer_word kept ∷ [])
      (rw (source_solid, seq_solid, decimal_solid stamp (omega (arith, is)), (answer_back kept).1) refl))
      ∙ rw (key_back key is_key, stamp_back stamp is, (answer_back kept).0) refl

-- ---- puts

class_back : (class : Class) → (class_of (class_word class) ≡ Some class) × (is_solid (class_word class) ≡ true)
class_back One = (refl, refl)
class_back Two = (refl, refl)

lane_back : (config : ConfigValue) (lane : ℕ) → lane < config.entity.put_lanes → lane < 2 ^ 64 → lane_of config (decimal lane) ≡ Some lane
lane_back config lane has fits = rw (number_back lane fits, lt-ltb lane config.entity.put_lanes has) refl

file_back : (gathered : Option (List ℕ)) (file : List ℕ) → ((file ≡ [] → ⊥) → gathered ≡ Some file) → file_of gathered (file_word file) ≡ Some file
file_back gathered [] is = refl
file_back gathered (octet ∷ octets) is = is (λ none. cc)

file_solid : (file : List ℕ) → is_solid (file_word file) ≡ true
file_solid [] = refl
file_solid (octet ∷ octets) = refl

closure_back : (closure : Bool) → (closure_of (closure_words closure) ≡ Some closure) × (are_solid (closure_words closure) ≡ true)
closure_back true = (refl, refl)
closure_back false = (refl, refl)

-- ---- pieces

piece_back : (config : ConfigValue) (gathered : Option (List ℕ)) (piece : List ℕ) → IsBytes piece → (piece ≡ [] → ⊥)
    → command_of config gathered (line_of (piece_words piece)) ≡ Some (command.File piece)
piece_back config gathered piece bytes some =
    ap (command_of_words config gathered) (words_back (codes "file") (encode_lower piece ∷ []) (rw (hex_solid piece bytes) refl))
    ∙ ap (option_map command.File) (octets_back piece bytes some)

-- names of allowed lengths make a put
no_fault : (source destination : List ℕ) → is_word source ≡ true → is_word destination ≡ true → put_fault source destination [] ≡ None
no_fault source destination source_is destination_is =
    let one = sizes source source_is in
    let two = sizes destination destination_is in
    rw (one.0, two.0, one.1, two.1) refl
  where
    sizes : (name : List ℕ) → is_word name ≡ true → ((length name == 0) ≡ false) × (is_longer NAME_OCTETS name ≡ false)
    sizes name is =
        let both = and_parts (nat_lt 0 (length name)) (nat_le (length name) NAME_OCTETS)
        (and_parts (nat_lt 0 (length name) && nat_le (length name) NAME_OCTETS) (list_all is_word_octet name) is).0 in
        let some : 0 < length name = ltb-true 0 (length name) both.0 in
        let few : length name ≤ NAME_OCTETS = leb-true (length name) NAME_OCTETS both.1 in
        (ne_eqb (length name) 0 (λ none. omega (arith, none)), le-ltb NAME_OCTETS (length name) few)

no_messages : (messages : List (List ℕ)) → nat_le (length messages) 0 ≡ true → messages ≡ []
no_messages [] none = refl
no_messages (message ∷ messages) none = absurd (omega (arith, leb-true (length (message ∷ messages)) 0 none))

module _ (config : ConfigValue) (gathered : Option (List ℕ)) (user lane : ℕ) (name : List ℕ) (put : PutValue) (is_user : IsUser config user name) (ready : IsReady config lane put gathered) where
  source_word : is_word put.source_name ≡ true
  source_word = (and_parts (is_word put.source_name) (is_word put.destination_name)
      (and_parts (nat_le (length put.messages) 0) (is_word put.source_name && is_word put.destination_name) ready.plain).1).0

  destination_word : is_word put.destination_name ≡ true
  destination_word = (and_parts (is_word put.source_name) (is_word put.destination_name)
      (and_parts (nat_le (length put.messages) 0) (is_word put.source_name && is_word put.destination_name) ready.plain).1).1

  none_said : put.messages ≡ []
  none_said = no_messages put.messages (and_parts (nat_le (length put.messages) 0) (is_word put.source_name && is_word put.destination_name) ready.plain).0

  solid : are_solid (name ∷ decimal lane ∷ class_word put.class ∷ decimal put.destination.0 ∷ put.source_name ∷ put.destination_name ∷ file_word put.file ∷ closure_words put.closure) ≡ true
  solid = rw (
    name_solid config user name is_user,
    decimal_solid lane ready.lane_is,
    (class_back put.class).1,
    decimal_solid put.destination.0 ready.number,
    word_solid put.source_name source_word,
    word_solid put.destination_name destination_word,
    file_solid put.file,
    (closure_back put.closure).1,
  ) refl

  pub put_back : command_of config gathered (line_of (put_words name lane put)) ≡ Some (command.Event (events.Request user (requests.Put lane put)))
  put_back =
      ap (command_of_words config gathered) (words_back (codes "put") (name ∷ decimal lane ∷ class_word put.class ∷ decimal put.destination.0 ∷ put.source_name ∷ put.destination_name ∷ file_word put.file ∷ closure_words put.closure) solid)
      ∙ rw (
        user_back config user name is_user,
        lane_back config lane ready.has_lane ready.lane_is,
        (closure_back put.closure).0,
        (class_back put.class).0,
        number_back put.destination.0 ready.number,
        word_name_back put.source_name source_word,
        word_name_back put.destination_name destination_word,
        file_back gathered put.file ready.file,
        no_fault put.source_name put.destination_name source_word destination_word,
      )
      (ap (λ messages. Some (command.Event (events.Request user (requests.Put lane (record put { messages = messages }))))) (sym none_said))

pub reads_back : ReadsBack
reads_back = record {
  happenings = λ config gathered user name key happened is_user is_key is. happening_back config gathered user name key is_user is_key happened is;
  puts = λ config gathered user lane name put is_user ready. put_back config gathered user lane name put is_user ready;
}

-- the pieces are octets, and none is empty
pieces_back : (config : ConfigValue) (gathered : Option (List ℕ)) (more : ℕ) (file : List ℕ) → IsBytes file → more * PIECE_OCTETS < length file
    → map (λ piece. command_of config gathered (line_of (piece_words piece))) (pieces_in more file) ≡ map (λ piece. Some (command.File piece)) (pieces_in more file)
pieces_back config gathered zero file bytes long = ap (λ said. said ∷ []) (piece_back config gathered file bytes (λ none. omega (arith, long, ap length none)))
pieces_back config gathered (suc more) file bytes long =
    let first : length (take PIECE_OCTETS file) ≡ PIECE_OCTETS = length-take-le PIECE_OCTETS file (omega arith) in
    let left = length-drop PIECE_OCTETS file in
    (λ i. piece_back config gathered (take PIECE_OCTETS file) (bytes_taken PIECE_OCTETS file bytes) (λ none. omega (arith, first, ap length none)) i
    ∷ pieces_back config gathered more (drop PIECE_OCTETS file) (bytes_dropped PIECE_OCTETS file bytes) (omega (arith, left, long)) i)

pub gathers_files : GathersFiles
gathers_files = record { read = read; whole = whole }
  where
    read : (config : ConfigValue) (gathered : Option (List ℕ)) (file : List ℕ) → IsBytes file
        → map (λ piece. command_of config gathered (line_of (piece_words piece))) (pieces file) ≡ map (λ piece. Some (command.File piece)) (pieces file)
    read config gathered [] bytes = refl
    read config gathered (octet ∷ octets) bytes =
        pieces_back config gathered (whole_pieces (octet ∷ octets)) (octet ∷ octets) bytes (omega arith)

    whole : (file : List ℕ) → concat (pieces file) ≡ file
    whole [] = refl
    whole (octet ∷ octets) = all_pieces (whole_pieces (octet ∷ octets)) (octet ∷ octets)
