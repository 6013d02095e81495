-- Meaning. The effect of a deposit.
use Rattle.std.specs.Prelude.{◌≡◌, ◌+◌, ◌⊎◌, ℕ, Bool, Option, Some, None, List, Result, Ok, Err, is_ok, if◌then◌else◌}
use Rattle.atomic_table.specs.Seated.{TableId}
use Rattle.cfdp_types.specs.declared.key.Deposit.{Deposit}
use Rattle.cfdp_types.specs.declared.image.Image.{Image}
use Rattle.txn_events.specs.declared.event.What.TheVariants as what
use Rattle.lane_table.specs.declared.done.Done.{Done}
use Rattle.lane_table.specs.declared.refused.Refused.{Refused}
use Rattle.config_reading.specs.Values.{ConfigValue}
use Rattle.entity_routing.specs.Routes.{key_place, routed_key}
use Rattle.entity_parts.specs.declared.refusal.EntityRefusal.{EntityRefusal}
use Rattle.entity_parts.specs.declared.refusal.EntityRefusal.TheVariants as answer
use Rattle.shared_lanes.specs.Held.{HasStepped}
use Rattle.shared_entity.specs.Answering.{MayAnswer, MayGiveImage}
use Rattle.file_stores.specs.declared.filestore.StoreFault.{StoreFault}
use Rattle.entity_workers.specs.declared.deposit.DepositRest.{DepositRest}

-- the answer to the entity's call for a lane's step
abbrev pub Stepped : Type 0
Stepped = Result (Result Done Refused) EntityRefusal

-- a possible answer to the call that notifies a lane whether its file is kept
abbrev pub MayBeTold : (ℕ → TableId) → ConfigValue → Deposit → Bool → Stepped → Type 0
MayBeTold queue config deposit kept result =
    MayAnswer queue HasStepped (routed_key config deposit.key (what.Stored deposit.stamp kept)) result

-- why a lane was not notified: the call is refused, or the lane refuses the event
abbrev pub IsNotTold : (ℕ → TableId) → ConfigValue → Deposit → Bool → EntityRefusal → Type 0
IsNotTold queue config deposit kept why =
    MayBeTold queue config deposit kept (Err why)
    ⊎ ((refused : Refused) × (why ≡ answer.Lane refused) × MayBeTold queue config deposit kept (Ok (Err refused)))

-- the lane of a deposit was notified whether its file is kept, or that remains to be done
abbrev pub IsHandedIn : (ℕ → TableId) → ConfigValue → Deposit → Bool → Result Done DepositRest → Type 0
IsHandedIn queue config deposit kept (Ok done) = MayBeTold queue config deposit kept (Ok (Ok done))
IsHandedIn queue config deposit kept (Err rest) =
    (rest.deposit ≡ deposit) × (rest.answer ≡ Some kept) × IsNotTold queue config deposit kept rest.refusal

-- the effect of a deposit on a store: the store before, the name, the octets, the answer, and the store after
abbrev pub Asking : Type 0 → Type 1
Asking S = S → List ℕ → List ℕ → Result (Unit {0}) StoreFault → S → Type 0

-- the store was asked once: it tried the deposit, counted one more try, and one more failure if it keeps nothing
pub record IsAskedOnce {S : Type 0} (tried failed : S → ℕ) (deposits : Asking S) (before : S) (name octets : List ℕ) (answer : Result (Unit {0}) StoreFault) (after : S) : Type 0 where
  pub tried_once : tried after ≡ tried before + 1
  pub failed_by_answer : failed after ≡ failed before + (if is_ok answer then 0 else 1)
  pub deposited : deposits before name octets answer after

-- the store was asked to keep a file that the entity may give for the deposit, and `kept` is its answer
pub record HasAnswered {S : Type 0} (queue : ℕ → TableId) (config : ConfigValue) (asks : Asking S) (deposit : Deposit) (kept : Bool) (before after : S) : Type 0 where
  pub image : Image
  pub answer : Result (Unit {0}) StoreFault
  pub given : MayGiveImage queue deposit.key deposit.stamp (key_place config deposit.key) (Ok image)
  pub asked : asks before image.destination_name image.octets answer after
  pub is : kept ≡ is_ok answer

-- what was done of a deposit that is not complete, by whether the store was asked
abbrev pub IsBegun : {S : Type 0} → (ℕ → TableId) → ConfigValue → Asking S → Deposit → S → S → Option Bool → EntityRefusal → Type 0
IsBegun queue config asks deposit before after None why =
    (after ≡ before) × MayGiveImage queue deposit.key deposit.stamp (key_place config deposit.key) (Err why)
IsBegun queue config asks deposit before after (Some kept) why =
    HasAnswered queue config asks deposit kept before after × IsNotTold queue config deposit kept why

-- the deposit was made: the store was asked and the lane was notified; or `rest` says what remains to be done
abbrev pub IsDeposited : {S : Type 0} → (ℕ → TableId) → ConfigValue → Asking S → Deposit → S → Result Done DepositRest → S → Type 0
IsDeposited queue config asks deposit before (Ok done) after =
    (kept : Bool) × HasAnswered queue config asks deposit kept before after × MayBeTold queue config deposit kept (Ok (Ok done))
IsDeposited queue config asks deposit before (Err rest) after =
    (rest.deposit ≡ deposit) × IsBegun queue config asks deposit before after rest.answer rest.refusal
