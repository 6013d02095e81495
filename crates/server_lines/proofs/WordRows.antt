-- Worked rows: each command that changes something, and those that change nothing.
use Rattle.std.proofs.Common.{◌≡◌, true, false, [], ◌∷◌, Some, None, codes, map, refl}
use Rattle.std.specs.Fmt.{digits}
use Rattle.cfdp_types.specs.declared.key.TxnKey.{TxnKey}
use Rattle.cfdp_types.specs.declared.names.Class.TheVariants.{One, Two}
use Rattle.entity_config.specs.Reference.{reference_config}
use Rattle.entity_routing.specs.declared.world_event.Request.TheVariants as request
use Rattle.event_levels.specs.declared.level.Level.TheVariants.{Info}
use Rattle.server_lines.specs.Commands.{command_of}
use Rattle.server_lines.specs.declared.command.Command.TheVariants as command
use Rattle.server_lines.specs.declared.command.PutCommand.{PutCommand}
use Rattle.server_lines.specs.declared.command.SendCommand.{SendCommand}
use Rattle.server_lines.specs.declared.command.Tuning.TheVariants as tuning
use Rattle.server_lines.specs.Words.{word_octets}
use Rattle.server_lines.specs.CommandWords.{aliased, ask_words, class_number, closure_octets, command_words, names_octets, put_words, send_words, tuning_words, urgent_octets}

-- a file for a lane, and one that waits, by the reference configuration; a transaction
abbrev put : PutCommand
put = record {
  user = 0;
  lane = 1;
  class = Two;
  closure = true;
  destination = record { 0 = 12 };
  source = codes "a b";
  destination_name = codes "c";
}

abbrev send : SendCommand
send = record {
  user = 1;
  class = One;
  closure = false;
  destination = record { 0 = 7 };
  source = codes "x";
  destination_name = 255 ∷ [];
  is_urgent = true;
  source_name = Some (codes "n");
}

abbrev key : TxnKey
key = record { source = record { 0 = 2 }; seq = 40 }

puts : put_words reference_config put ≡ codes "put alice 1 2 12 \"a b\" c closure"
unfolding digits
puts = refl

sends : send_words reference_config send ≡ codes "send bob 1 7 x \"\\xff\" urgent as n"
unfolding digits
sends = refl

-- a user that the configuration hasn't is written as an empty word
nobody : send_words reference_config (record send { user = 9 }) ≡ codes "send \"\" 1 7 x \"\\xff\" urgent as n"
unfolding digits
nobody = refl

asked : map (ask_words reference_config 0) (request.Cancel key ∷ request.Suspend key ∷ request.Resume key ∷ request.Abandon key ∷ request.Report key ∷ [])
    ≡ codes "cancel alice 2 40" ∷ codes "suspend alice 2 40" ∷ codes "resume alice 2 40" ∷ codes "abandon alice 2 40" ∷ [] ∷ []
unfolding digits
asked = refl

others : map (command_words reference_config) (command.Drop 30 ∷ command.Hold (record { 0 = 7 }) ∷ command.Release (record { 0 = 7 }) ∷ command.Quit ∷ command.Status ∷ command.Trace key ∷ [])
    ≡ codes "drop 30" ∷ codes "hold 7" ∷ codes "release 7" ∷ codes "quit" ∷ [] ∷ [] ∷ []
unfolding digits
others = refl

-- these words say the same command again
read_again : map (λ c. command_of reference_config (command_words reference_config c)) (command.Put put ∷ command.Send send ∷ command.Ask 1 (request.Resume key) ∷ [])
    ≡ Some (command.Put put) ∷ Some (command.Send send) ∷ Some (command.Ask 1 (request.Resume key)) ∷ []
unfolding digits
read_again = refl

tunings : map tuning_words
    (tuning.Rate None None ∷ tuning.Rate (Some (record { 0 = 9 })) (Some 8000) ∷ tuning.HoldAll ∷ tuning.ReleaseAll ∷ tuning.ReleaseFor (record { 0 = 9 }) 600 ∷ tuning.Reopen ∷ tuning.FollowFrom 3 Info ∷ [])
    ≡ codes "rate off" ∷ codes "rate 9 8000" ∷ codes "hold all" ∷ codes "release all" ∷ codes "release 9 600" ∷ codes "reopen" ∷ [] ∷ []
unfolding digits
tunings = refl

-- words that need quotes: empty, a space, a quote, a backslash, a line feed, an octet above ASCII
words : map word_octets ([] ∷ codes "a" ∷ codes "o p" ∷ (34 ∷ 92 ∷ 10 ∷ 255 ∷ []) ∷ codes "b#" ∷ [])
    ≡ codes "\"\"" ∷ codes "a" ∷ codes "\"o p\"" ∷ codes "\"\\\"\\\\\\x0a\\xff\"" ∷ codes "b#" ∷ []
words = refl

names : names_octets (codes "a b") (codes "c") ≡ codes " \"a b\" c"
names = refl

options : closure_octets true ∷ closure_octets false ∷ urgent_octets true ∷ urgent_octets false ∷ aliased None ∷ aliased (Some (codes "n")) ∷ []
    ≡ codes " closure" ∷ [] ∷ codes " urgent" ∷ [] ∷ [] ∷ codes " as n" ∷ []
options = refl

classes : map class_number (One ∷ Two ∷ []) ≡ 1 ∷ 2 ∷ []
classes = refl
