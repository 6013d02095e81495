-- Of the code. How an entity of one thread arrives at its answers.
use Rattle.std.specs.Prelude.{◌≡◌, List, ◌∷◌, Result, Ok, Err, IfOk, IfErr}
use Rattle.config_reading.specs.Values.{ConfigValue}
use Rattle.lane_table.specs.declared.done.Done.{Done}
use Rattle.lane_table.specs.declared.refused.Refused.{Refused}
use Rattle.world_table.specs.Histories.{Happening, steps}
use Rattle.entity_routing.specs.declared.refusal.RouteRefusal.{RouteRefusal}
use Rattle.entity_routing.specs.Routes.{Routed}
use Rattle.world_core.specs.Posts.{Post}
use Rattle.world_core.specs.Standing.{Takes, IsRefusedAt}
use Rattle.entity_parts.specs.declared.refusal.EntityRefusal.{EntityRefusal}
use Rattle.entity_parts.specs.declared.refusal.EntityRefusal.TheVariants as answer
use Rattle.world_core.specs.Opening.{layout_of}
use Rattle.world_core.specs.Worlds.{StandsAfter}

-- the lane accepted the event, and the users stand after the longer history
pub record IsTakenIn (config : ConfigValue) (history : List Happening) (routed : Routed) (posts : List Post) (done : Done) : Type 0 where
  pub takes_it : Takes (layout_of config) history routed.place.user routed.place.lane routed.event done
  pub stands : StandsAfter (record { config = config; posts = posts }) (steps routed.place.user routed.place.lane routed.event ∷ history)

-- a lane's answer
pub record AnswersAt (config : ConfigValue) (history : List Happening) (routed : Routed) (posts : List Post) (result : Result Done EntityRefusal) : Type 0 where
  pub taken : IfOk result (IsTakenIn config history routed posts)
  pub refused : IfErr result (λ why. (refused : Refused) × (why ≡ answer.Lane refused)
      × IsRefusedAt (layout_of config) history routed.place.user routed.place.lane routed.event refused)

-- the answer, by the route of the event
abbrev pub Answers : ConfigValue → List Happening → Result Routed RouteRefusal → List Post → Result Done EntityRefusal → Type 0
Answers config history (Err why) posts result = result ≡ Err (answer.Route why)
Answers config history (Ok routed) posts result = AnswersAt config history routed posts result
