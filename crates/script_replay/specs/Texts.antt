-- Meaning. The output of single lines of a script.
use Rattle.std.specs.Prelude.{ℕ, Bool, List, [], slice_get, Option, Some, None, Result, Ok, Err, codes}
use Rattle.answer_texts.specs.AnswerTexts.{done_text, refusal_text, fault_line, refused_text}
use Rattle.answer_texts.specs.ToldTexts.{bundle_text}
use Rattle.config_reading.specs.Values.{ConfigValue}
use Rattle.entity_parts.specs.declared.refusal.EntityRefusal.{EntityRefusal}
use Rattle.entity_parts.specs.declared.refusal.EntityRefusal.TheVariants as answer
use Rattle.entity_parts.specs.Refusals.{number_of, name_of}
use Rattle.entity_routing.specs.declared.refusal.RouteRefusal.{RouteRefusal}
use Rattle.entity_routing.specs.declared.refusal.RouteRefusal.TheVariants.{DecodeFault}
use Rattle.entity_routing.specs.Refusal.{refusal_number, refusal_name}
use Rattle.indications.specs.declared.bundle.Bundle.{Bundle}
use Rattle.lane_table.specs.declared.done.Done.{Done}
use Rattle.pdu_reading.specs.Fault.{fault_number}

-- a user's name in a configuration; nothing for a user that it doesn't have
abbrev pub user_name : ConfigValue → ℕ → List ℕ
user_name config user = named (slice_get config.users user)
  where
    named : Option (List ℕ) → List ℕ
    named None = []
    named (Some name) = name

-- why no lane receives an event; for octets that are not a PDU, the decode fault
abbrev pub route_text : RouteRefusal → List ℕ
route_text (DecodeFault fault) = fault_line (fault_number fault)
route_text why = refusal_text (refusal_number why) (refusal_name why)

-- the answer to an event, which is a Put or another one
abbrev pub answer_text : Bool → Result Done EntityRefusal → List ℕ
answer_text is_put (Ok done) = done_text is_put done
answer_text is_put (Err (answer.Lane refused)) = refused_text refused
answer_text is_put (Err (answer.Route why)) = route_text why
answer_text is_put (Err answer.WrongLane) = refusal_text (number_of answer.WrongLane) (name_of answer.WrongLane)

-- the bundle that the user with this name took, or `none`
abbrev pub taken_text : List ℕ → Option Bundle → List ℕ
taken_text name None = codes "none\n"
taken_text name (Some bundle) = bundle_text name bundle
