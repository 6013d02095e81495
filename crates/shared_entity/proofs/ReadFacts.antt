-- What is read of the very lane that lies behind a lock.
use Rattle.std.proofs.Common.{◌≡◌, true, false, Result, Ok, Err, IsOk, inl, inr, refl, sym, ap, ◌∙◌, subst, ⊎_elim}
use Rattle.std.specs.Prelude.{if◌then◌else◌}
use Rattle.txn_events.specs.declared.refusal.Refusal.{Refusal}
use Rattle.txn_events.specs.declared.refusal.Refusal.TheVariants as refusal
use Rattle.txn_events.specs.Logs.{IsWhy}
use Rattle.lane_table.specs.Lane.{State}
use Rattle.lane_table.specs.Steps.{plainly}
use Rattle.entity_routing.specs.declared.place.Place.{Place}
use Rattle.shared_lanes.specs.Held.{HeldValue}
use Rattle.entity_parts.specs.declared.refusal.EntityRefusal.TheVariants as answer
use Rattle.shared_entity.specs.Reads.{is_lane_of, said_by_lane, read_at, IsUpToMemory}

-- where another lane lies
pub read_elsewhere : {A : Type 0} (place : Place) (reads : State → Result A Refusal) (held : HeldValue) → is_lane_of place held.lane ≡ false
    → Err answer.WrongLane ≡ read_at place reads held
read_elsewhere place reads held not_there =
    sym (ap (λ b. if b then said_by_lane (reads held.lane) else Err answer.WrongLane) not_there)

-- where the lane of the place lies
pub read_there : {A : Type 0} (place : Place) (reads : State → Result A Refusal) (held : HeldValue) (given : Result A Refusal)
    → is_lane_of place held.lane ≡ true → reads held.lane ≡ given → said_by_lane given ≡ read_at place reads held
read_there place reads held given there is =
    sym (ap (λ b. if b then said_by_lane (reads held.lane) else Err answer.WrongLane) there ∙ ap said_by_lane is)

said_ok : {A : Type 0} (given : Result A Refusal) → IsOk given → IsOk (said_by_lane given)
said_ok (Ok given) ok = ok
said_ok (Err why) ok = ok

-- and that lane refuses, or memory runs out
pub refused_there : {A : Type 0} (place : Place) (reads : State → Result A Refusal) (held : HeldValue) (why : Refusal)
    → is_lane_of place held.lane ≡ true → IsWhy (reads held.lane) why
    → IsUpToMemory (read_at place reads held) (Err (answer.Lane (plainly why)))
refused_there {A} place reads held why there is = ⊎_elim
    (λ (refused : reads held.lane ≡ Err why). inl (read_there place reads held (Err why) there refused))
    (λ (memory : (why ≡ refusal.NoMemory) × IsOk (reads held.lane)). inr (subst IsOk (read_there place reads held (reads held.lane) there refl) (said_ok (reads held.lane) memory.1), ap (λ (w : Refusal). Err (answer.Lane (plainly w))) memory.0))
    is
