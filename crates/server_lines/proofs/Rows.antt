-- Worked rows: what lines of commands say, by the reference configuration.
use Rattle.std.proofs.Common.{◌≡◌, true, false, [], ◌∷◌, ◌++◌, map, replicate, Some, None, codes, refl}
use Rattle.cfdp_types.specs.declared.key.TxnKey.{TxnKey}
use Rattle.cfdp_types.specs.declared.names.Class.TheVariants.{One, Two}
use Rattle.entity_config.specs.Reference.{reference_config}
use Rattle.entity_routing.specs.declared.world_event.Request.TheVariants as requests
use Rattle.event_levels.specs.declared.level.Level.TheVariants.{Detail, Info, Warning}
use Rattle.server_lines.specs.declared.command.Command.TheVariants as command
use Rattle.server_lines.specs.declared.command.Tuning.TheVariants as tuning
use Rattle.server_lines.specs.Commands.{command_of, options, options_of}

-- the transaction of the rows
abbrev key : TxnKey
key = record { source = record { 0 = 2 }; seq = 4 }

puts : map (command_of reference_config) (codes "put alice 0 1 1 a b" ∷ codes "put bob 01 2 007 x y closure" ∷ [])
    ≡ Some (command.Put (record {
      user = 0;
      lane = 0;
      class = One;
      closure = false;
      destination = record { 0 = 1 };
      source = codes "a";
      destination_name = codes "b";
    }))
    ∷ Some (command.Put (record {
      user = 1;
      lane = 1;
      class = Two;
      closure = true;
      destination = record { 0 = 7 };
      source = codes "x";
      destination_name = codes "y";
    }))
    ∷ []
puts = refl

bad_puts : map (command_of reference_config) (codes "put alice 0 1 1 a" ∷ codes "put alice 2 1 1 a b" ∷ codes "put carol 0 1 1 a b" ∷ codes "put alice 0 3 1 a b"
    ∷ codes "put alice 0 1 1  b" ∷ codes "put alice 0 1 1 a b " ∷ codes "put alice 0 1 1 a b Closure" ∷ codes "put alice 0 1 1 a b closure closure"
    ∷ codes "put alice 0 1 1 a b no closure" ∷ [])
    ≡ replicate 9 None
bad_puts = refl

others : map (command_of reference_config) (codes "take bob" ∷ codes "trace 2 4" ∷ codes "quit" ∷ codes "cancel alice 2 4" ∷ codes "report bob 2 4" ∷ [])
    ≡ Some (command.Take 1) ∷ Some (command.Trace key) ∷ Some command.Quit ∷ Some (command.Ask 0 (requests.Cancel key)) ∷ Some (command.Ask 1 (requests.Report key))
    ∷ []
others = refl

services : map (command_of reference_config) (codes "status" ∷ codes "follow" ∷ codes "follow 100" ∷ [])
    ≡ Some command.Status ∷ Some (command.Follow 0) ∷ Some (command.Follow 100) ∷ []
services = refl

bad_services : map (command_of reference_config) (codes "status now" ∷ codes "follow x" ∷ codes "follow 1 2" ∷ codes "follow " ∷ codes "follow 18446744073709551616" ∷ [])
    ≡ replicate 5 None
bad_services = refl

journals : map (command_of reference_config) (codes "journal 2 4" ∷ codes "journal 2" ∷ codes "journal 2 4 1" ∷ codes "journal x 4" ∷ [])
    ≡ Some (command.Journal key) ∷ None ∷ None ∷ None ∷ []
journals = refl

-- names in quotes have any octets, and what stands without quotes means what it means in a line without them
quoted : map (command_of reference_config) (codes "put \"alice\" 0 1 1 \"a b\" c\"d" ∷ codes "send bob 2 7 \"\\xff\\\"\" b closure" ∷ codes "\"quit\"" ∷ [])
    ≡ Some (command.Put (record {
      user = 0;
      lane = 0;
      class = One;
      closure = false;
      destination = record { 0 = 1 };
      source = codes "a b";
      destination_name = codes "c\"d";
    }))
    ∷ Some (command.Send (record {
      user = 1;
      class = Two;
      closure = true;
      destination = record { 0 = 7 };
      source = 255 ∷ 34 ∷ [];
      destination_name = codes "b";
      is_urgent = false;
      source_name = None;
    }))
    ∷ Some command.Quit
    ∷ []
quoted = refl

bad_quoted : map (command_of reference_config) (codes "put alice 0 1 1 \"a b" ∷ codes "put alice 0 1 1 \"a\"b c" ∷ codes "put alice 0 1 1 \"\" b" ∷ codes "send alice 1 1 \"\\n\" b"
    ∷ (codes "send alice 1 1 \"a\" " ++ 233 ∷ []) ∷ (codes "send alice 1 1 a " ++ 233 ∷ []) ∷ [])
    ≡ replicate 6 None
bad_quoted = refl

outbox : map (command_of reference_config) (codes "send alice 1 1 a b" ∷ codes "outbox" ∷ codes "drop 3" ∷ codes "hold 7" ∷ codes "release 7" ∷ [])
    ≡ Some (command.Send (record {
      user = 0;
      class = One;
      closure = false;
      destination = record { 0 = 1 };
      source = codes "a";
      destination_name = codes "b";
      is_urgent = false;
      source_name = None;
    }))
    ∷ Some command.Outbox
    ∷ Some (command.Drop 3)
    ∷ Some (command.Hold (record { 0 = 7 }))
    ∷ Some (command.Release (record { 0 = 7 }))
    ∷ []
outbox = refl

bad_outbox : map (command_of reference_config) (codes "send alice 0 1 1 a b" ∷ codes "send carol 1 1 a b" ∷ codes "send alice 1 1 a" ∷ codes "outbox 1" ∷ codes "drop"
    ∷ codes "drop x" ∷ codes "drop 1 2" ∷ codes "hold" ∷ codes "hold alice" ∷ codes "release 7 7 7" ∷ [])
    ≡ replicate 10 None
bad_outbox = refl

-- ---- what changes the server, or watches a part of it

-- what a file is sent with: closure, a turn before others, another source name, each or none, in this order
asked : map options_of ([] ∷ (codes "urgent" ∷ []) ∷ (codes "as" ∷ codes "n" ∷ []) ∷ (codes "closure" ∷ codes "urgent" ∷ codes "as" ∷ codes "n" ∷ [])
    ∷ (codes "closure" ∷ codes "as" ∷ codes "as" ∷ []) ∷ (codes "urgent" ∷ codes "as" ∷ codes "n" ∷ []) ∷ (codes "closure" ∷ codes "urgent" ∷ []) ∷ [])
    ≡ Some (options false false) ∷ Some (options false true) ∷ Some (record { closure = false; is_urgent = false; source_name = Some (codes "n") })
    ∷ Some (record { closure = true; is_urgent = true; source_name = Some (codes "n") }) ∷ Some (record { closure = true; is_urgent = false; source_name = Some (codes "as") })
    ∷ Some (record { closure = false; is_urgent = true; source_name = Some (codes "n") }) ∷ Some (options true true)
    ∷ []
asked = refl

bad_asked : map options_of ((codes "urgent" ∷ codes "closure" ∷ []) ∷ (codes "urgent" ∷ codes "urgent" ∷ []) ∷ (codes "as" ∷ []) ∷ (codes "as" ∷ [] ∷ [])
    ∷ (codes "as" ∷ codes "n" ∷ codes "urgent" ∷ []) ∷ (codes "closure" ∷ codes "closure" ∷ []) ∷ (codes "now" ∷ []) ∷ [])
    ≡ replicate 7 None
bad_asked = refl

urgent : command_of reference_config (codes "send alice 2 7 a b closure urgent as n")
    ≡ Some (command.Send (record {
      user = 0;
      class = Two;
      closure = true;
      destination = record { 0 = 7 };
      source = codes "a";
      destination_name = codes "b";
      is_urgent = true;
      source_name = Some (codes "n");
    }))
urgent = refl

rates : map (command_of reference_config) (codes "rate 7 125000" ∷ codes "rate 7 off" ∷ codes "rate 1000000000" ∷ codes "rate off" ∷ [])
    ≡ map (λ one. Some (command.Tune one))
    (tuning.Rate (Some (record { 0 = 7 })) (Some 125000) ∷ tuning.Rate (Some (record { 0 = 7 })) None ∷ tuning.Rate None (Some 1000000000) ∷ tuning.Rate None None ∷ [])
rates = refl

bad_rates : map (command_of reference_config) (codes "rate" ∷ codes "rate 0" ∷ codes "rate 1000000001" ∷ codes "rate 7 0" ∷ codes "rate alice 5" ∷ codes "rate off off"
    ∷ codes "rate 7 5 6" ∷ codes "rate 7 " ∷ [])
    ≡ replicate 8 None
bad_rates = refl

links : map (command_of reference_config) (codes "hold all" ∷ codes "release all" ∷ codes "release 7 600" ∷ codes "release 7 86400" ∷ [])
    ≡ map (λ one. Some (command.Tune one)) (tuning.HoldAll ∷ tuning.ReleaseAll ∷ tuning.ReleaseFor (record { 0 = 7 }) 600 ∷ tuning.ReleaseFor (record { 0 = 7 }) 86400 ∷ [])
links = refl

bad_links : map (command_of reference_config) (codes "hold all 7" ∷ codes "hold 7 600" ∷ codes "release all 600" ∷ codes "release 7 0" ∷ codes "release 7 86401"
    ∷ codes "release 7 600 1" ∷ codes "release" ∷ [])
    ≡ replicate 7 None
bad_links = refl

follows : map (command_of reference_config) (codes "follow warning" ∷ codes "follow 10 info" ∷ codes "follow 0 detail" ∷ codes "reopen" ∷ [])
    ≡ map (λ one. Some (command.Tune one)) (tuning.FollowFrom 0 Warning ∷ tuning.FollowFrom 10 Info ∷ tuning.FollowFrom 0 Detail ∷ tuning.Reopen ∷ [])
follows = refl

bad_follows : map (command_of reference_config) (codes "follow 10 all" ∷ codes "follow info 10" ∷ codes "follow info info" ∷ codes "follow 10 info 1" ∷ codes "reopen now" ∷ [])
    ≡ replicate 5 None
bad_follows = refl

bad_others : map (command_of reference_config) ([] ∷ codes "take" ∷ codes "take carol" ∷ codes "trace 2" ∷ codes "quit now" ∷ codes "quit " ∷ codes "cancel alice 2"
    ∷ codes "stop alice 2 4" ∷ codes " quit" ∷ [])
    ≡ replicate 9 None
bad_others = refl
