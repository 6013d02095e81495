-- Which refusals pass by, and which are final, computed.
use Rattle.std.proofs.Common.{◌≡◌, true, false, refl}
use Rattle.lane_table.specs.Steps.{plainly}
use Rattle.txn_events.specs.declared.refusal.Refusal.TheVariants as refusal
use Rattle.entity_routing.specs.declared.refusal.RouteRefusal.TheVariants as routes
use Rattle.entity_parts.specs.Refusals.{is_passing, is_final}
use Rattle.entity_parts.specs.declared.refusal.EntityRefusal.TheVariants as answer

no_memory_passes : is_passing (answer.Lane (plainly refusal.NoMemory)) ≡ true
no_memory_passes = refl

full_queue_passes : is_passing (answer.Lane (plainly refusal.QueueFull)) ≡ true
full_queue_passes = refl

full_journal_stays : is_passing (answer.Lane (plainly refusal.JournalFull)) ≡ false
full_journal_stays = refl

no_lane_stays : is_passing answer.WrongLane ≡ false
no_lane_stays = refl

no_route_stays : is_passing (answer.Route routes.NoRoute) ≡ false
no_route_stays = refl

none_there_is_final : is_final (answer.Lane (plainly refusal.NoTransaction)) ≡ true
none_there_is_final = refl

ended_is_final : is_final (answer.Lane (plainly refusal.OldTransaction)) ≡ true
ended_is_final = refl

no_lane_is_final : is_final answer.WrongLane ≡ true
no_lane_is_final = refl

no_route_is_final : is_final (answer.Route routes.NoRoute) ≡ true
no_route_is_final = refl

wrong_state_is_not_final : is_final (answer.Lane (plainly refusal.WrongState)) ≡ false
wrong_state_is_not_final = refl

busy_is_not_final : is_final (answer.Lane (plainly refusal.LaneBusy)) ≡ false
busy_is_not_final = refl
