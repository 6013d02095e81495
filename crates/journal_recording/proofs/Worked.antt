-- A worked script: a put, of which its user is told.
use Rattle.std.proofs.Common.{◌≡◌, ◌≢◌, true, List, [], ◌∷◌, Some, None, codes, refl, arith, IsTrue}
use Rattle.std.specs.Fmt.{digits}
use Rattle.hex.specs.Hex.{encode_with}
use Rattle.cfdp_types.specs.Reference.{reference}
use Rattle.cfdp_types.specs.declared.names.Class.TheVariants.{One}
use Rattle.entity_config.specs.Reference.{reference_config}
use Rattle.entity_parts.specs.FirstLanes.{first_lane}
use Rattle.indications.specs.declared.bundle.Bundle.{Bundle}
use Rattle.indications.specs.declared.indication.Indication.TheVariants as told
use Rattle.sender_table.specs.Sending.{initial, step, state_of}
use Rattle.txn_events.specs.Examples.{abc, put_value}
use Rattle.txn_events.specs.declared.event.Event.{Event}
use Rattle.txn_events.specs.declared.event.Event.TheVariants.{Put}
use Rattle.world_table.specs.Histories.{Happening, steps, takes, events_for, taken_by}
use Rattle.world_core.proofs.OpeningFacts.{are_idle}
use Rattle.journal_recording.specs.Recording.{IsScriptOf, Step, first_text, name_in, take_text, taken_if}

abbrev put : Event
put = Put (put_value One abc) reference

abbrev history : List Happening
history = takes 0 ∷ steps 0 0 put ∷ []

begins : first_text (Some 907) ≡ codes "set first 907\n"
unfolding digits
begins = refl

no_begin : first_text None ≡ []
no_begin = refl

names : name_in reference_config 1 ≡ codes "bob"
names = refl

takes_written : take_text true (codes "bob") ≡ codes "take bob\n"
takes_written = refl

takes_happen : taken_if true 1 [] ≡ takes 1 ∷ []
takes_happen = refl

put_step : Step reference_config (codes "alice") (record { user = 0; lane = 0 }) [] put history (codes "file 616263\nput alice 0 1 1 a b @\ntake alice\n")
unfolding digits encode_with
put_step = record { routed = record { place = record { user = 0; lane = 0 }; event = put }; goes = refl; told = true; later_is = refl; text_is = refl }

script : IsScriptOf reference_config (Some 1) (record { user = 0; lane = 0 }) (put ∷ []) (codes "set first 1\nfile 616263\nput alice 0 1 1 a b @\ntake alice\n")
unfolding digits initial step state_of
script = record {
  begun = reference_config;
  begins = refl;
  history = history;
  lines = codes "file 616263\nput alice 0 1 1 a b @\ntake alice\n";
  steps_are = (history, codes "file 616263\nput alice 0 1 1 a b @\ntake alice\n", [], put_step, (refl, refl), refl);
  routed = ((omega arith, omega arith), tt);
  idle = are_idle reference_config (omega arith) (omega arith);
  legal = ((λ none. cc), (tt, refl, tt));
  none_left = refl;
  text_is = refl;
}

-- the premise of the second law
its_events : events_for (first_lane reference_config) history 0 0 4 ≡ put ∷ []
its_events = refl
