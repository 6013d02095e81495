-- A worked script: a setting, a file that is put, and a take.
use Rattle.std.proofs.Common.{true, false, [], ◌∷◌, Some, None, Ok, codes, inl, refl, arith}
use Rattle.std.specs.Fmt.{digits}
use Rattle.hex.specs.Hex.{decode_pairs}
use Rattle.cfdp_types.specs.Reference.{reference}
use Rattle.cfdp_types.specs.declared.names.Class.TheVariants.{One}
use Rattle.config_reading.specs.Values.{ConfigValue}
use Rattle.entity_config.specs.Reference.{reference_config}
use Rattle.entity_config.specs.declared.setting.Setting.TheVariants as setting
use Rattle.entity_routing.specs.declared.world_event.Request.TheVariants as requests
use Rattle.entity_routing.specs.declared.world_event.WorldEvent.TheVariants as events
use Rattle.indications.specs.declared.indication.Indication.TheVariants as told
use Rattle.sender_table.specs.Sending.{initial, step, state_of}
use Rattle.txn_events.specs.Examples.{abc, put_value}
use Rattle.txn_events.specs.declared.event.Event.TheVariants.{Put}
use Rattle.world_table.specs.Histories.{steps, takes}
use Rattle.script_lines.specs.declared.command.Command.TheVariants as command
use Rattle.script_replay.specs.Sessions.{Session, fresh, configured}
use Rattle.script_replay.specs.Run.{Plays, PlaysLine}
use Rattle.script_laws.specs.ScriptLaws.{CanBe, Begins}
use Rattle.script_laws.proofs.ScriptFacts.{plays_what_can_be}

-- room for one bundle instead of eight
abbrev narrow : ConfigValue
narrow = record reference_config { entity = record reference_config.entity { capacity = 1 } }

abbrev set : Session
set = record { config = narrow; may_set = true; gathered = None; history = [] }

-- alice's first file went to the first lane
abbrev put : Session
put = record { config = narrow; may_set = false; gathered = None; history = steps 0 0 (Put (put_value One abc) reference) ∷ [] }

abbrev took : Session
took = record { config = narrow; may_set = false; gathered = None; history = takes 0 ∷ steps 0 0 (Put (put_value One abc) reference) ∷ [] }

set_line : PlaysLine fresh (codes "set capacity 1") set []
set_line = record {
  command = command.Set (setting.Capacity 1);
  short = omega (arith);
  says = refl;
  answers = record { early = refl; config = narrow; set = refl; after_is = refl; silent = refl };
}

put_line : PlaysLine set (codes "put alice 0 1 1 a b 616263") put (codes "ok\ntxn 2 4\n")
unfolding decode_pairs digits initial step state_of
put_line = record {
  command = command.Event (events.Request 0 (requests.Put 0 (put_value One abc)));
  short = omega (arith);
  says = refl;
  answers = record {
    may = (omega (arith), omega (arith));
    result = Ok (record { key = record { source = record { 0 = 2 }; seq = 4 }; pdus = []; timers = []; deposit = None });
    answered = inl (record {
      taken = record { free = refl; room = omega (arith); done_is = record { key = refl; pdus = refl; timers = refl; deposit = refl } };
      refused = tt;
    });
    after_is = refl;
    printed = refl;
  };
}

take_line : PlaysLine put (codes "take alice") took (codes "alice 2 4 Transaction\n")
unfolding digits initial step state_of
take_line = record {
  command = command.Take 0;
  short = omega (arith);
  says = refl;
  answers = record {
    may = omega (arith);
    taken = Some (record { user = 0; lane = 0; key = record { source = record { 0 = 2 }; seq = 4 }; inds = told.Transaction ∷ [] });
    gives = refl;
    after_is = refl;
    printed = refl;
  };
}

plays : Plays fresh (codes "set capacity 1" ∷ codes "put alice 0 1 1 a b 616263" ∷ codes "take alice" ∷ []) took
    (codes "ok\ntxn 2 4\nalice 2 4 Transaction\n")
plays = (
  set,
  [],
  codes "ok\ntxn 2 4\nalice 2 4 Transaction\n",
  set_line,
  (
    put,
    codes "ok\ntxn 2 4\n",
    codes "alice 2 4 Transaction\n",
    put_line,
    (took, codes "alice 2 4 Transaction\n", [], take_line, (refl, refl), refl),
    refl,
  ),
  refl,
)

-- the reference configuration is within all limits, and nothing has happened with it
fresh_begins : Begins fresh
fresh_begins = record { kept = refl; begins = refl }

-- so may any other begin that is within the limits, but none with a history
configured_begins : Begins (configured narrow)
configured_begins = record { kept = refl; begins = refl }

has_happened : Begins took → ⊥
has_happened is = let none = is.begins in cc

-- so all that happened can happen
can_be : CanBe took
can_be = plays_what_can_be fresh took (codes "set capacity 1" ∷ codes "put alice 0 1 1 a b 616263" ∷ codes "take alice" ∷ [])
    (codes "ok\ntxn 2 4\nalice 2 4 Transaction\n") fresh_begins plays
