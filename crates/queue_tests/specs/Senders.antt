-- Rows. Lanes that send transactions which end at once, and what the queues keep of them.
use Rattle.std.specs.Prelude.{◌≡◌, ℕ, List, []}
use Rattle.indications.specs.declared.bundle.Bundle.{Bundle}
use Rattle.user_queues.specs.Queue.{Queue, all_put}
use Rattle.user_queues.specs.Shared.{OutletEnd, PortEnd}
use Rattle.queue_tests.specs.Ended.{told_by, AreEnded, AllEnded}

-- the bundle is the only one of the transaction with this number
abbrev pub IsOver : Bundle → ℕ → ℕ → Type 0
IsOver bundle lane number =
    (bundle.user ≡ 0) × (bundle.lane ≡ lane) × (bundle.key ≡ record { source = record { 0 = 1 }; seq = number })
    × (bundle.inds ≡ told_by number)

-- the outlet is of this lane of the first user, and has sent nothing yet
abbrev pub IsFreshLane : OutletEnd → ℕ → Type 0
IsFreshLane outlet lane = (outlet.knows.user ≡ 0) × (outlet.knows.lane ≡ lane) × (outlet.knows.sent ≡ [])

-- both outlets are of one queue with the port
abbrev pub AreFresh : PortEnd → OutletEnd → OutletEnd → Type 0
AreFresh port first second =
    (IsFreshLane first 0 × IsFreshLane second 1) × (first.queue ≡ port.queue) × (second.queue ≡ port.queue)

-- an outlet is of this lane of the first user, and has sent bundles with numbers up to this one
pub record SendsOver (outlet : OutletEnd) (lane last : ℕ) : Type 0 where
  pub of_user : outlet.knows.user ≡ 0
  pub of_lane : outlet.knows.lane ≡ lane
  pub ended : AreEnded 0 lane (record { 0 = 1 }) last outlet.knows.sent

-- two outlets of one queue have sent such bundles
abbrev pub BothSend : OutletEnd → OutletEnd → ℕ → Type 0
BothSend first second last = SendsOver first 0 last × SendsOver second 1 last

-- a queue of two lanes of the first user that has taken bundles with numbers up to this one
pub record HoldsOver (queue : Queue) (last : ℕ) : Type 0 where
  pub of_user : queue.user ≡ 0
  pub lanes : queue.lanes ≡ 2
  pub ended : (taken : List Bundle) × AllEnded 0 (record { 0 = 1 }) last (all_put taken queue)
