-- Worked rows: what is written for events, and premises of the laws that are met.
use Rattle.std.proofs.Common.{◌≡◌, ℕ, ◌<◌, true, false, List, [], ◌∷◌, ◌++◌, map, length, Some, None, codes, refl, arith, slice_index, suc, zero}
use Rattle.std.specs.Fmt.{digits}
use Rattle.hex.specs.Hex.{IsBytes, encode_with}
use Rattle.cfdp_types.specs.Reference.{reference}
use Rattle.cfdp_types.specs.Put.{PutValue}
use Rattle.cfdp_types.specs.declared.key.TxnKey.{TxnKey}
use Rattle.cfdp_types.specs.declared.names.Class.TheVariants.{One, Two}
use Rattle.cfdp_types.specs.declared.names.TimerKind.TheVariants.{Ack, Nak, Check, Inactivity}
use Rattle.entity_config.specs.Reference.{reference_config}
use Rattle.txn_events.specs.Examples.{abc, put_value}
use Rattle.txn_events.specs.declared.event.Event.{Event}
use Rattle.txn_events.specs.declared.event.Event.TheVariants.{Put, On}
use Rattle.txn_events.specs.declared.event.What.TheVariants as what
use Rattle.journal_scripts.specs.declared.puts.TheConstants.{PIECE_OCTETS}
use Rattle.journal_scripts.specs.Rows.{event_text, first_words, is_plain, is_plain_event, line_of, pieces, pieces_in, row_text, take_words, whole_pieces}
use Rattle.journal_scripts.specs.Laws.{IsKey, IsReady, IsUser, IsWhat}

abbrev key : TxnKey
key = record { source = record { 0 = 2 }; seq = 4 }

-- ---- rows

rows : map row_text ([] ∷ (codes "a" ∷ []) ∷ (codes "a" ∷ codes "bc" ∷ codes "d" ∷ []) ∷ []) ≡ codes "\n" ∷ codes "a\n" ∷ codes "a bc d\n" ∷ []
rows = refl

lines : map line_of ([] ∷ (codes "a" ∷ []) ∷ (codes "a" ∷ codes "bc" ∷ codes "d" ∷ []) ∷ []) ≡ [] ∷ codes "a" ∷ codes "a bc d" ∷ []
lines = refl

beside : map row_text (first_words 907 ∷ take_words (codes "ops") ∷ []) ≡ codes "set first 907\n" ∷ codes "take ops\n" ∷ []
unfolding digits
beside = refl

-- ---- events

abbrev written_for : List Event → List (List ℕ)
written_for events = map (event_text (codes "ops") 3) events

happenings : written_for (map (On key) (what.Cancel ∷ what.Suspend ∷ what.Resume ∷ what.Report ∷ what.Abandon ∷ what.Pump ∷ what.Stored 7 true ∷ what.Stored 8 false ∷ []))
    ≡ codes "cancel ops 2 4\n" ∷ codes "suspend ops 2 4\n" ∷ codes "resume ops 2 4\n" ∷ codes "report ops 2 4\n" ∷ codes "abandon ops 2 4\n"
    ∷ codes "pump 2 4\n" ∷ codes "stored 2 4 7 yes\n" ∷ codes "stored 2 4 8 no\n" ∷ []
unfolding digits
happenings = refl

timers : written_for (map (On key) (what.Timer Ack 10 ∷ what.Timer Nak 11 ∷ what.Timer Check 12 ∷ what.Timer Inactivity 13 ∷ []))
    ≡ codes "timer 2 4 ack 10\n" ∷ codes "timer 2 4 nak 11\n" ∷ codes "timer 2 4 check 12\n" ∷ codes "timer 2 4 inactivity 13\n" ∷ []
unfolding digits
timers = refl

puts : written_for (Put (put_value One abc) reference ∷ Put (record (put_value Two []) { closure = true }) reference ∷ [])
    ≡ codes "file 616263\nput ops 3 1 1 a b @\n" ∷ codes "put ops 3 2 1 a b - closure\n" ∷ []
unfolding digits encode_with
puts = refl

-- ---- puts that lines can't have

abbrev with_name : List ℕ → PutValue
with_name name = record (put_value One abc) { source_name = name }

names : map (λ name. is_plain (with_name name)) (codes "a" ∷ codes "in/a.txt" ∷ [] ∷ codes "a b" ∷ codes "a\n" ∷ (128 ∷ []) ∷ [])
    ≡ true ∷ true ∷ false ∷ false ∷ false ∷ false ∷ []
names = refl

messages : map is_plain_event (Put (record (put_value One abc) { messages = codes "hello" ∷ [] }) reference ∷ On key what.Pump ∷ []) ≡ false ∷ true ∷ []
messages = refl

nothing_written : written_for (Put (record (put_value One abc) { messages = codes "hello" ∷ [] }) reference ∷ []) ≡ [] ∷ []
nothing_written = refl

-- ---- pieces

no_piece : pieces [] ≡ []
no_piece = refl

one_piece : pieces abc ≡ abc ∷ []
one_piece = refl

-- a file of exactly two pieces has no third one
piece_octets : PIECE_OCTETS ≡ 32768
piece_octets = refl

none_before : pieces_in 0 abc ≡ abc ∷ []
none_before = refl

-- ---- the laws' premises

alice : IsUser reference_config 0 (codes "alice")
alice = record { kept = refl; named = refl }

key_fits : IsKey key
key_fits = (omega arith, omega arith)

stamp_fits : IsWhat (what.Timer Ack 10)
stamp_fits = omega arith

ready : IsReady reference_config 1 (put_value One abc) (Some abc)
ready = record { plain = refl; has_lane = omega arith; lane_is = omega arith; number = omega arith; file = λ some. refl }

ready_without : IsReady reference_config 0 (put_value Two []) None
ready_without = record { plain = refl; has_lane = omega arith; lane_is = omega arith; number = omega arith; file = λ some. absurd (some refl) }

octets_of_abc : IsBytes abc
octets_of_abc zero = omega arith
octets_of_abc (suc zero) = omega arith
octets_of_abc (suc (suc zero)) = omega arith
octets_of_abc (suc (suc (suc i))) = omega arith
