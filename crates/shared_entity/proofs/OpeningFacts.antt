-- How the lanes of an entity begin, each with its outlet.
use Rattle.std.proofs.Common.{◌≡◌, ℕ, List, [], Option, Some, None, refl, sym, ap, ◌∙◌, subst}
use Rattle.atomic_table.specs.Seated.{TableId}
use Rattle.config_reading.specs.Values.{ConfigValue, PeerValue}
use Rattle.entity_parts.specs.FirstLanes.{numbers_of, greatest_of, lane_for, first_lane}
use Rattle.entity_routing.specs.Places.{source_of_lane}
use Rattle.shared_lanes.specs.Held.{IsBehindLock}
use Rattle.lane_table.specs.Keeping.{Keeps}
use Rattle.lane_table.specs.Lane.{State, IsSound}
use Rattle.lane_table.specs.declared.lane_side.LaneSide.TheVariants.{Sending, Receiving}
use Rattle.lane_table.proofs.StepFacts.{idle_keeps}
use Rattle.indications.specs.declared.bundle.Bundle.{Bundle}
use Rattle.user_queues.specs.Shared.{OutletEnd}
use Rattle.shared_entity.specs.Opening.{IsFresh}

-- a lane to which nothing has happened
record IsFirst (user lane : ℕ) (state : State) : Type 0 where
  of_user : state.user ≡ user
  of_lane : state.lane ≡ lane
  keeps : Keeps state []

first_is : (config : ConfigValue) (user lane : ℕ) (source : Option PeerValue) → IsFirst user lane (lane_for config user lane source)
first_is config user lane None = record {
  of_user = refl;
  of_lane = refl;
  keeps = idle_keeps (Sending (numbers_of config) (greatest_of config)) user lane config.entity.local;
}
first_is config user lane (Some peer) = record {
  of_user = refl;
  of_lane = refl;
  keeps = idle_keeps (Receiving peer.remote.params) user lane peer.remote.id;
}

pub fresh_behind : (queue : ℕ → TableId) (config : ConfigValue) (outlet : OutletEnd) (user lane : ℕ) (state : State) → IsFresh queue outlet
    → user ≡ outlet.knows.user → lane ≡ outlet.knows.lane → state ≡ first_lane config user lane → IsSound state
    → IsBehindLock queue (record { lane = state; outlet = outlet })
fresh_behind queue config outlet user lane state fresh of_user of_lane is sound =
    let first : IsFirst user lane (first_lane config user lane) = first_is config user lane (source_of_lane config user lane) in
    let same_user : state.user ≡ outlet.knows.user = ap (λ (s : State). s.user) is ∙ first.of_user ∙ of_user in
    let same_lane : state.lane ≡ outlet.knows.lane = ap (λ (s : State). s.lane) is ∙ first.of_lane ∙ of_lane in
    record {
      sound = sound;
      of_queue = fresh.of_queue ∙ ap queue (sym same_user);
      of_user = sym same_user;
      of_lane = sym same_lane;
      kept = subst (λ (s : State). Keeps s outlet.knows.sent) (sym is)
          (subst (λ (sent : List Bundle). Keeps (first_lane config user lane) sent) (sym fresh.none_sent) first.keeps);
    }
