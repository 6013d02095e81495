-- Meaning. An entity of one thread, which has a configuration and users, and its answers.
use Rattle.std.specs.Prelude.{◌≡◌, ℕ, List, ◌∷◌, Result, Ok, Err, IfOk, IfErr, IsTrue}
use Rattle.cfdp_types.specs.declared.image.Image.{Image}
use Rattle.cfdp_types.specs.declared.key.TxnKey.{TxnKey}
use Rattle.config_reading.specs.Values.{ConfigValue, is_config}
use Rattle.indications.specs.declared.bundle.Bundle.{Bundle}
use Rattle.lane_table.specs.declared.done.Done.{Done}
use Rattle.lane_table.specs.declared.refused.Refused.{Refused}
use Rattle.lane_table.specs.Steps.{plainly, image_of}
use Rattle.txn_lane.specs.Transactions.{IsWhy}
use Rattle.world_table.specs.Histories.{Happening, steps, takes, held_for}
use Rattle.entity_routing.specs.declared.place.Place.{Place}
use Rattle.entity_routing.specs.declared.refusal.RouteRefusal.{RouteRefusal}
use Rattle.entity_routing.specs.declared.world_event.WorldEvent.{WorldEvent}
use Rattle.entity_routing.specs.declared.world_event.WorldEvent.TheVariants as events
use Rattle.entity_routing.specs.Routes.{Routed}
use Rattle.entity_parts.specs.Asking.{MayRequest}
use Rattle.world_core.specs.Posts.{Post}
use Rattle.world_core.specs.Standing.{lane_in, UsersStandAfter, Takes, IsRefusedAt}
use Rattle.entity_parts.specs.declared.refusal.EntityRefusal.{EntityRefusal}
use Rattle.entity_parts.specs.declared.refusal.EntityRefusal.TheVariants as answer
use Rattle.entity_parts.specs.Refusals.{IsUnreadFrom}
use Rattle.entity_parts.specs.FirstLanes.{first_lane}
use Rattle.world_core.specs.Opening.{layout_of}
use Rattle.world_core.specs.Routed.{AreRouted}

-- what contracts see of an entity: its configuration, and its users
pub record WorldValue : Type 0 where
  pub config : ConfigValue
  pub posts : List Post

-- the entity stands after the history, whose steps each are in the lane that their event goes to
pub record StandsAfter (world : WorldValue) (history : List Happening) : Type 0 where
  pub stand : UsersStandAfter (layout_of world.config) history world.posts
  pub routed : AreRouted world.config history

-- the configuration is within all limits, and the entity stands after some history
pub record IsWorld (world : WorldValue) : Type 0 where
  pub kept : IsTrue (is_config world.config)
  pub history : List Happening
  pub stands : StandsAfter world history

-- ---- what the caller must ensure

-- a user's request is admissible; other events always are
abbrev pub MayCome : ConfigValue → WorldEvent → Type 0
MayCome config (events.Request user request) = MayRequest config user request
MayCome config event = Unit {0}

-- ---- answers

-- an event for a lane is accepted there, or refused with the lane's reason
pub record IsAnsweredAt (config : ConfigValue) (history : List Happening) (routed : Routed) (result : Result Done EntityRefusal) : Type 0 where
  pub taken : IfOk result (Takes (layout_of config) history routed.place.user routed.place.lane routed.event)
  pub refused : IfErr result (λ why. (refused : Refused) × (why ≡ answer.Lane refused)
      × IsRefusedAt (layout_of config) history routed.place.user routed.place.lane routed.event refused)

-- the answer, by the route of the event
abbrev pub IsAnswered : ConfigValue → List Happening → Result Routed RouteRefusal → Result Done EntityRefusal → Type 0
IsAnswered config history (Err why) result = result ≡ Err (answer.Route why)
IsAnswered config history (Ok routed) result = IsAnsweredAt config history routed result

-- the datagram is a PDU, but memory ran out
abbrev pub IsUnread : WorldEvent → Result Done EntityRefusal → Type 0
IsUnread (events.Deliver octets) result = IsUnreadFrom octets result
IsUnread event result = ⊥

-- the history after an event: one that is accepted is a step of the lane that it goes to
abbrev pub history_after : List Happening → Result Routed RouteRefusal → Result Done EntityRefusal → List Happening
history_after history found (Err why) = history
history_after history (Err why) (Ok done) = history
history_after history (Ok routed) (Ok done) = steps routed.place.user routed.place.lane routed.event ∷ history

-- the bundle is at the front of what waits for a user, and the others wait after it
abbrev pub IsFront : ConfigValue → List Happening → ℕ → Bundle → Type 0
IsFront config history user bundle = held_for (first_lane config) history user ≡ bundle ∷ held_for (first_lane config) (takes user ∷ history) user

-- the file of the waiting deposit, or why there is none
abbrev pub IsImage : WorldValue → List Happening → TxnKey → ℕ → Result Place RouteRefusal → Result Image EntityRefusal → Type 0
IsImage world history key stamp (Err why) result = result ≡ Err (answer.Route why)
IsImage world history key stamp (Ok place) result =
    IfOk result (λ image. image_of (lane_in (layout_of world.config) history place.user place.lane) key stamp ≡ Ok image)
    × IfErr result (λ why. (refused : _) × (why ≡ answer.Lane (plainly refused))
    × IsWhy (image_of (lane_in (layout_of world.config) history place.user place.lane) key stamp) refused)
