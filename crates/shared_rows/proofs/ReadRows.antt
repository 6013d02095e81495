-- Worked readings of what lies behind a lock: of the lane of a place, and of another.
use Rattle.std.proofs.Common.{◌≡◌, true, false, Result, Ok, Err, inl, inr, refl, ap, ⊎_elim}
use Rattle.std.proofs.lemmas.Bool.{false≢true}
use Rattle.cfdp_types.specs.declared.image.Image.{Image}
use Rattle.txn_events.specs.declared.refusal.Refusal.TheVariants as refusal
use Rattle.lane_table.specs.Steps.{image_of, plainly}
use Rattle.world_rows.specs.ReceivingLaneRows.{key, storing, image, image_waits, other_stamp}
use Rattle.lane_traces.specs.Traces.{how_far}
use Rattle.entity_parts.specs.declared.refusal.EntityRefusal.{EntityRefusal}
use Rattle.entity_parts.specs.declared.refusal.EntityRefusal.TheVariants as answer
use Rattle.shared_entity.specs.Reads.{is_lane_of, said_by_lane, read_at, IsUpToMemory}
use Rattle.shared_rows.proofs.AnswerRows.{place, waits}
use Rattle.shared_rows.proofs.TraceRows.{traced, still_open, above_the_last}

-- ---- whose lane it is

its_own : is_lane_of (place 0 2) storing ≡ true
its_own = refl

not_another_users : is_lane_of (place 1 2) storing ≡ false
not_another_users = refl

not_another : is_lane_of (place 0 3) storing ≡ false
not_another = refl

-- ---- what is read there

trace_there : read_at (place 0 2) (λ lane. how_far lane (key 5)) waits ≡ Ok (traced 3 false)
trace_there = ap said_by_lane still_open

none_there : read_at (place 0 2) (λ lane. how_far lane (key 6)) waits ≡ Err (answer.Lane (plainly refusal.NoTransaction))
none_there = ap said_by_lane above_the_last

image_there : read_at (place 0 2) (λ lane. image_of lane (key 5) 2) waits ≡ Ok image
image_there = ap said_by_lane image_waits

stale_there : read_at (place 0 2) (λ lane. image_of lane (key 5) 1) waits ≡ Err (answer.Lane (plainly refusal.StaleStored))
stale_there = ap said_by_lane other_stamp

-- and nothing of another lane
at_another_user : read_at (place 1 2) (λ lane. how_far lane (key 5)) waits ≡ Err answer.WrongLane
at_another_user = refl

at_another_lane : read_at (place 0 3) (λ lane. how_far lane (key 6)) waits ≡ Err answer.WrongLane
at_another_lane = refl

-- ---- memory aside

abbrev no_memory : EntityRefusal
no_memory = answer.Lane (plainly refusal.NoMemory)

as_due : IsUpToMemory (Ok image) (Ok image)
as_due = inl refl

refused_as_due : IsUpToMemory {A = Image} (Err answer.WrongLane) (Err answer.WrongLane)
refused_as_due = inl refl

memory_ran_out : IsUpToMemory (Ok image) (Err no_memory)
memory_ran_out = inr (refl, refl)

given_is_none : (result : Result Image EntityRefusal) (given : Image) (why : EntityRefusal) → result ≡ Ok given → result ≡ Err why → ⊥
given_is_none result given why some none = cc

wrong_is_memory : (result : Result Image EntityRefusal) → result ≡ Err answer.WrongLane → result ≡ Err no_memory → ⊥
wrong_is_memory result wrong memory = cc

-- nothing else is answered where there is an image, and no want of memory where there is none
no_other_refusal : IsUpToMemory (Ok image) (Err answer.WrongLane) → ⊥
no_other_refusal is = ⊎_elim
    (λ due. given_is_none (Err answer.WrongLane) image answer.WrongLane due refl)
    (λ memory. wrong_is_memory (Err answer.WrongLane) refl memory.1)
    is

no_memory_for_none : IsUpToMemory {A = Image} (Err answer.WrongLane) (Err no_memory) → ⊥
no_memory_for_none is = ⊎_elim (λ due. wrong_is_memory (Err no_memory) due refl) (λ memory. false≢true memory.0) is
