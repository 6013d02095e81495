-- Worked rows: what lines say.
use Rattle.std.proofs.Common.{◌≡◌, ℕ, List, Option, true, false, [], ◌∷◌, ◌++◌, map, replicate, Some, None, codes, refl}
use Rattle.hex.specs.Hex.{decode_pairs}
use Rattle.cfdp_types.specs.declared.key.TxnKey.{TxnKey}
use Rattle.cfdp_types.specs.declared.names.Class.TheVariants.{One, Two}
use Rattle.cfdp_types.specs.declared.names.Checksum.TheVariants.{Modular, Null}
use Rattle.cfdp_types.specs.declared.names.Handler.TheVariants as handler
use Rattle.cfdp_types.specs.declared.names.Role.TheVariants.{Send, RecvOne, RecvTwo}
use Rattle.cfdp_types.specs.declared.names.TimerKind.TheVariants.{Ack, Nak, Check, Inactivity}
use Rattle.entity_config.specs.declared.setting.Setting.TheVariants as setting
use Rattle.entity_routing.specs.declared.world_event.Request.TheVariants as requests
use Rattle.entity_routing.specs.declared.world_event.WorldEvent.TheVariants as events
use Rattle.script_lines.specs.declared.command.Command.TheVariants as command
use Rattle.config_reading.specs.Values.{ConfigValue}
use Rattle.entity_config.specs.Reference.{reference_config}
use Rattle.script_lines.specs.declared.command.Command.{Command}
use Rattle.script_lines.specs.Commands.{command_of}

-- what a line says by the reference configuration, in a script that gathers no octets
abbrev said : List ℕ → Option Command
said line = command_of reference_config None line

-- ---- lines

bad_lines : map said (codes " " ∷ codes " # remark" ∷ codes "\r" ∷ codes "pdu" ∷ codes "pdu " ∷ codes "pdu 0"
    ∷ codes "pdu 0g" ∷ codes "pdu 00\r" ∷ codes "pdu 00 " ∷ codes "pdu  00" ∷ codes "pdu 00 00" ∷ codes " pdu 00"
    ∷ codes "PDU 00" ∷ codes "pdu00" ∷ codes "take" ∷ codes "take " ∷ codes "take carol" ∷ codes "take Alice"
    ∷ codes "take alice " ∷ codes "take alice bob" ∷ codes "take 0" ∷ codes "put alice" ∷ codes "sit alice" ∷ [])
    ≡ replicate 23 None
unfolding decode_pairs
bad_lines = refl

bad_answers_of_the_store : map said (codes "stored 1 2 3" ∷ codes "stored 1 2 3 maybe"
    ∷ codes "stored 1 2 3 yes no" ∷ codes "stored 1 2 3 yes " ∷ codes "stored  1 2 3 yes"
    ∷ codes "stored +1 2 3 yes" ∷ codes "stored 1 -2 3 yes" ∷ codes "stored 1 2 0x3 yes"
    ∷ codes "stored 18446744073709551616 2 3 yes" ∷ codes "stored 1 18446744073709551616 3 yes"
    ∷ codes "stored 1 99999999999999999999999 3 yes" ∷ codes "stored 1 2 4294967296 yes" ∷ [])
    ≡ replicate 12 None
bad_answers_of_the_store = refl

remarks : map said ([] ∷ codes "#" ∷ codes "# pdu 00" ∷ codes "#\r" ∷ []) ≡ replicate 4 (Some command.Nothing)
remarks = refl

deliveries : map said (codes "pdu 00" ∷ codes "pdu 0aFfaF" ∷ [])
    ≡ Some (command.Event (events.Deliver (0x00 ∷ []))) ∷ Some (command.Event (events.Deliver (0x0A ∷ 0xFF ∷ 0xAF ∷ []))) ∷ []
unfolding decode_pairs
deliveries = refl

answers_of_the_store : map said (codes "stored 1 2 3 yes" ∷ codes "stored 0 000 0000000000000000000000003 no"
    ∷ codes "stored 18446744073709551615 18446744073709551615 4294967295 no" ∷ [])
    ≡ Some (command.Event (events.Stored (record { source = record { 0 = 1 }; seq = 2 }) 3 true))
    ∷ Some (command.Event (events.Stored (record { source = record { 0 = 0 }; seq = 0 }) 3 false))
    ∷ Some (command.Event (events.Stored (record { source = record { 0 = 18446744073709551615 }; seq = 18446744073709551615 })
    4294967295 false))
    ∷ []
answers_of_the_store = refl

takes : map said (codes "take alice" ∷ codes "take bob" ∷ []) ≡ Some (command.Take 0) ∷ Some (command.Take 1) ∷ []
takes = refl

-- ---- settings

numbers_set : map said (codes "set capacity 1" ∷ codes "set first 63" ∷ codes "set ack_limit 3" ∷ codes "set nak_limit 4"
    ∷ codes "set check_limit 18446744073709551615" ∷ [])
    ≡ map (λ s. Some (command.Set s)) (setting.Capacity 1 ∷ setting.First 63 ∷ setting.AckLimit 3 ∷ setting.NakLimit 4
    ∷ setting.CheckLimit 18446744073709551615 ∷ [])
numbers_set = refl

handlers_set : map said (codes "set recv1 10 ignore" ∷ codes "set recv2 7 suspend" ∷ codes "set send 15 abandon" ∷ codes "set send 0 cancel" ∷ [])
    ≡ map (λ s. Some (command.Set s)) (setting.Handler RecvOne 10 handler.Ignore ∷ setting.Handler RecvTwo 7 handler.Suspend
    ∷ setting.Handler Send 15 handler.Abandon ∷ setting.Handler Send 0 handler.Cancel ∷ [])
handlers_set = refl

checksums_set : map said (codes "set checksum modular" ∷ codes "set checksum null" ∷ [])
    ≡ map (λ s. Some (command.Set s)) (setting.Checksum Modular ∷ setting.Checksum Null ∷ [])
checksums_set = refl

bad_settings : map said (codes "set" ∷ codes "set capacity" ∷ codes "set capacity -1" ∷ codes "set capacity 1 " ∷ codes "set users 2"
    ∷ codes "set recv1 16 ignore" ∷ codes "set recv3 10 ignore" ∷ codes "set recv1 10 drop" ∷ codes "set recv1 10 ignore 1"
    ∷ codes "set checksum" ∷ codes "set checksum 0" ∷ codes "set checksum crc" ∷ codes "set checksum null null" ∷ [])
    ≡ replicate 13 None
bad_settings = refl

-- ---- requests

-- the transaction of the rows
key : TxnKey
key = record { source = record { 0 = 2 }; seq = 4 }

asked : map said (codes "cancel alice 2 4" ∷ codes "suspend bob 2 4" ∷ codes "resume alice 2 4" ∷ codes "report alice 2 4" ∷ codes "abandon alice 2 4" ∷ [])
    ≡ Some (command.Event (events.Request 0 (requests.Cancel key))) ∷ Some (command.Event (events.Request 1 (requests.Suspend key))) ∷ Some (command.Event (events.Request 0 (requests.Resume key)))
    ∷ Some (command.Event (events.Request 0 (requests.Report key))) ∷ Some (command.Event (events.Request 0 (requests.Abandon key))) ∷ []
unfolding key
asked = refl

puts : map said (codes "put alice 0 1 1 a b 616263" ∷ codes "put bob 01 02 18446744073709551615 x y -" ∷ [])
    ≡ Some (command.Event (events.Request 0 (requests.Put 0 (record {
      destination = record { 0 = 1 };
      class = One;
      closure = false;
      source_name = codes "a";
      destination_name = codes "b";
      messages = [];
      file = codes "abc";
    }))))
    ∷ Some (command.Event (events.Request 1 (requests.Put 1 (record {
      destination = record { 0 = 18446744073709551615 };
      class = Two;
      closure = false;
      source_name = codes "x";
      destination_name = codes "y";
      messages = [];
      file = [];
    }))))
    ∷ []
unfolding decode_pairs
puts = refl

-- the last word of a Put may ask for closure
puts_with_closure : said (codes "put alice 0 1 1 a b 616263 closure")
    ≡ Some (command.Event (events.Request 0 (requests.Put 0 (record {
      destination = record { 0 = 1 };
      class = One;
      closure = true;
      source_name = codes "a";
      destination_name = codes "b";
      messages = [];
      file = codes "abc";
    }))))
unfolding decode_pairs
puts_with_closure = refl

bad_closures : map said (codes "put alice 0 1 1 a b - Closure" ∷ codes "put alice 0 1 1 a b - closure " ∷ codes "put alice 0 1 1 a b - closure closure"
    ∷ codes "put alice 0 1 1 a b -  closure" ∷ codes "put alice 0 1 1 a b closure" ∷ [])
    ≡ replicate 5 None
unfolding decode_pairs
bad_closures = refl

-- a name may have every octet below 128 but those of a space and a line feed
puts_any_name : said (codes "put alice 0 1 1 " ++ 127 ∷ codes " " ++ 1 ∷ 13 ∷ codes " -")
    ≡ Some (command.Event (events.Request 0 (requests.Put 0 (record {
      destination = record { 0 = 1 };
      class = One;
      closure = false;
      source_name = 127 ∷ [];
      destination_name = 1 ∷ 13 ∷ [];
      messages = [];
      file = [];
    }))))
unfolding decode_pairs
puts_any_name = refl

bad_requests : map said (codes "cancel" ∷ codes "cancel alice 2" ∷ codes "cancel carol 2 4" ∷ codes "cancel alice 2 4 5" ∷ codes "put alice 2 1 1 a b -"
    ∷ codes "put alice 0 3 1 a b -" ∷ codes "put alice 0 0 1 a b -" ∷ codes "put alice 0 1 1  b -" ∷ codes "put alice 0 1 1 a b" ∷ codes "put alice 0 1 1 a b - -" ∷ codes "put alice 0 1 1 a b 6"
    ∷ (codes "put alice 0 1 1 " ++ 128 ∷ codes " b -") ∷ [])
    ≡ replicate 12 None
unfolding decode_pairs
bad_requests = refl

-- ---- what happens inside the entity

inside : map said (codes "pump 2 4" ∷ codes "timer 2 4 ack 3" ∷ codes "timer 2 4 nak 3" ∷ codes "timer 2 4 check 3" ∷ codes "timer 2 4 inactivity 4294967295" ∷ [])
    ≡ Some (command.Event (events.Pump key)) ∷ Some (command.Event (events.Timer key Ack 3)) ∷ Some (command.Event (events.Timer key Nak 3)) ∷ Some (command.Event (events.Timer key Check 3))
    ∷ Some (command.Event (events.Timer key Inactivity 4294967295)) ∷ []
unfolding key
inside = refl

bad_inside : map said (codes "pump 2" ∷ codes "pump 2 4 5" ∷ codes "timer 2 4 ack" ∷ codes "timer 2 4 sleep 3" ∷ codes "timer 2 4 ack 4294967296" ∷ [])
    ≡ replicate 5 None
bad_inside = refl

-- ---- other users and lanes, and files in pieces

-- three users, each with 12 sending lanes
abbrev larger : ConfigValue
larger = record reference_config { entity = record reference_config.entity { put_lanes = 12 }; users = codes "ops" ∷ codes "alice" ∷ codes "bob" ∷ [] }

users_by_the_configuration : map (command_of larger None) (codes "take ops" ∷ codes "take alice" ∷ codes "report bob 2 4" ∷ codes "take carol" ∷ [])
    ≡ Some (command.Take 0) ∷ Some (command.Take 1) ∷ Some (command.Event (events.Request 2 (requests.Report key))) ∷ None ∷ []
unfolding key
users_by_the_configuration = refl

-- a file of three octets, from the lane with this number
abbrev from_lane : ℕ → Command
from_lane lane = command.Event (events.Request 0 (requests.Put lane (record {
  destination = record { 0 = 1 };
  class = One;
  closure = false;
  source_name = codes "a";
  destination_name = codes "b";
  messages = [];
  file = codes "abc";
})))

lanes_by_the_configuration : map (command_of larger None) (codes "put ops 11 1 1 a b 616263" ∷ codes "put ops 12 1 1 a b 616263" ∷ [])
    ≡ Some (from_lane 11) ∷ None ∷ []
unfolding decode_pairs
lanes_by_the_configuration = refl

gathered_file : map (command_of larger (Some (codes "abc"))) (codes "put ops 0 1 1 a b @" ∷ codes "put ops 0 1 1 a b 616263" ∷ codes "put ops 0 1 1 a b @@" ∷ [])
    ≡ Some (from_lane 0) ∷ Some (from_lane 0) ∷ None ∷ []
unfolding decode_pairs
gathered_file = refl

not_gathered : said (codes "put alice 0 1 1 a b @") ≡ None
not_gathered = refl

pieces : map said (codes "file 616263" ∷ codes "file" ∷ codes "file -" ∷ codes "file 6" ∷ codes "file 61 62" ∷ [])
    ≡ Some (command.File (codes "abc")) ∷ None ∷ None ∷ None ∷ None ∷ []
unfolding decode_pairs
pieces = refl
