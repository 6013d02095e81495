-- Worked answers of an entity: what its callers see to, and what is answered where no lane is told.
use Rattle.std.proofs.Common.{◌≡◌, ℕ, List, [], ◌∷◌, Result, Ok, Err, inl, refl, arith}
use Rattle.cfdp_types.specs.declared.image.Image.{Image}
use Rattle.cfdp_types.specs.declared.key.TxnKey.{TxnKey}
use Rattle.cfdp_types.specs.declared.names.Class.TheVariants.{One, Two}
use Rattle.gap_list.specs.Runs.{runs_of, runs_from}
use Rattle.pdu_values.specs.Numbers.{number_of}
use Rattle.pdu_values.specs.Pdu.{PduValue}
use Rattle.pdu_values.specs.Tlvs.{messages_in}
use Rattle.pdu_reading.specs.FixedHeader.{header_of}
use Rattle.pdu_reading.specs.Items.{items_within, items_to_end}
use Rattle.pdu_reading.specs.Reading.{body_of, fixed_header_at, fixed_header_fault, lv_at, metadata_at, number_at, reading}
use Rattle.pdu_reading.specs.declared.fault.DecodeFault.TheVariants as faults
use Rattle.receiver_table.specs.Reception.{initial, step, state_of}
use Rattle.txn_events.specs.Examples.{abc, put_value}
use Rattle.txn_events.specs.declared.event.Event.TheVariants.{On}
use Rattle.txn_events.specs.declared.event.What.TheVariants as what
use Rattle.txn_events.specs.declared.refusal.Refusal.{Refusal}
use Rattle.txn_events.specs.declared.refusal.Refusal.TheVariants as refusal
use Rattle.lane_table.specs.declared.done.Done.{Done}
use Rattle.lane_table.specs.declared.refused.Refused.{Refused}
use Rattle.lane_table.specs.Steps.{plainly}
use Rattle.world_rows.specs.ReceivingLaneRows.{metadata, part, eof, image}
use Rattle.world_table.specs.Histories.{Happening, steps}
use Rattle.entity_config.specs.Reference.{reference_config}
use Rattle.entity_routing.specs.Routes.{Routed}
use Rattle.entity_routing.specs.declared.refusal.RouteRefusal.TheVariants as routes
use Rattle.entity_routing.specs.declared.world_event.Request.TheVariants as requests
use Rattle.entity_routing.specs.declared.world_event.WorldEvent.TheVariants as events
use Rattle.entity_parts.specs.declared.refusal.EntityRefusal.{EntityRefusal}
use Rattle.entity_parts.specs.declared.refusal.EntityRefusal.TheVariants as answer
use Rattle.entity_parts.specs.Asking.{MayRequest}
use Rattle.world_core.specs.Worlds.{IsAnswered, IsImage, IsUnread, MayCome, WorldValue, history_after}
use Rattle.entity_parts.specs.Refusals.{IsNotRead, IsUnreadFrom}

abbrev key : ℕ → ℕ → TxnKey
key source seq = record { source = record { 0 = source }; seq = seq }

-- ---- what a caller sees to

-- bob's second sending lane is his last, and he the last user
bob_puts : MayRequest reference_config 1 (requests.Put 1 (put_value One abc))
bob_puts = (omega (arith), omega (arith))

no_third_lane : MayRequest reference_config 1 (requests.Put 2 (put_value One abc)) → ⊥
no_third_lane may = let within = may.1 in omega (arith, within)

nobody_puts : MayRequest reference_config 2 (requests.Put 1 (put_value One abc)) → ⊥
nobody_puts may = let below = may.0 in omega (arith, below)

bob_cancels : MayRequest reference_config 1 (requests.Cancel (key 2 4))
bob_cancels = omega (arith)

nobody_cancels : MayRequest reference_config 2 (requests.Cancel (key 2 4)) → ⊥
nobody_cancels may = omega (arith, may)

-- so it is where it happens
request_comes : MayCome reference_config (events.Request 1 (requests.Put 1 (put_value One abc)))
request_comes = bob_puts

nobody_asks : MayCome reference_config (events.Request 2 (requests.Report (key 2 4))) → ⊥
nobody_asks may = omega (arith, may)

lane_not_there : MayCome reference_config (events.Request 0 (requests.Put 2 (put_value One abc))) → ⊥
lane_not_there may = let within = may.1 in omega (arith, within)

-- all else may always come
octets_come : (octets : List ℕ) → MayCome reference_config (events.Deliver octets)
octets_come octets = tt

pump_comes : MayCome reference_config (events.Pump (key 3 1))
pump_comes = tt

-- ---- where there is no route

no_route : (history : List Happening) → IsAnswered reference_config history (Err routes.NoRoute) (Err (answer.Route routes.NoRoute))
no_route history = refl

-- nothing else is answered then
other_route : (history : List Happening) → IsAnswered reference_config history (Err routes.NoRoute) (Err (answer.Route routes.NotYours)) → ⊥
other_route history is = cc

not_by_a_lane : (history : List Happening) (refused : Refused) → IsAnswered reference_config history (Err routes.NoRoute) (Err (answer.Lane refused)) → ⊥
not_by_a_lane history refused is = cc

not_taken : (history : List Happening) (done : Done) → IsAnswered reference_config history (Err routes.NoRoute) (Ok done) → ⊥
not_taken history done is = cc

-- ---- where a lane is told

-- a transaction that alice's first lane does not know
abbrev unknown : Routed
unknown = record { place = record { user = 0; lane = 0 }; event = On (key 2 4) what.Report }

unknown_there : IsAnswered reference_config [] (Ok unknown) (Err (answer.Lane (plainly refusal.NoTransaction)))
unknown_there = record { taken = tt; refused = (plainly refusal.NoTransaction, refl, inl refl) }

route_is_lane : (why : Refused) → answer.Route routes.NoRoute ≡ answer.Lane why → ⊥
route_is_lane why e = cc

no_refusal_of_routes : IsAnswered reference_config [] (Ok unknown) (Err (answer.Route routes.NoRoute)) → ⊥
no_refusal_of_routes is = let refused = is.refused in route_is_lane refused.0 refused.1

-- ---- what has happened then

-- an event that is taken is a step of the lane that it goes to; one that is refused is nothing
taken_then : (done : Done) → history_after [] (Ok unknown) (Ok done) ≡ steps 0 0 (On (key 2 4) what.Report) ∷ []
taken_then done = refl

refused_then : (history : List Happening) (why : EntityRefusal) → history_after history (Ok unknown) (Err why) ≡ history
refused_then history why = refl

unrouted_then : (history : List Happening) (why : EntityRefusal) → history_after history (Err routes.NoRoute) (Err why) ≡ history
unrouted_then history why = refl

-- ---- octets that are not read

-- Metadata, as it comes from entity 1
abbrev metadata_octets : List ℕ
metadata_octets = 0x24 ∷ 0x00 ∷ 0x0A ∷ 0x00 ∷ 0x01 ∷ 0x05 ∷ 0x02 ∷ 0x07 ∷ 0x00 ∷ 0x00 ∷ 0x00 ∷ 0x00 ∷ 0x03 ∷ 0x01 ∷ 0x61 ∷ 0x01 ∷ 0x62 ∷ []

no_memory_for_it : IsUnreadFrom {A = Done} metadata_octets (Err (answer.Lane (plainly refusal.NoMemory)))
unfolding reading fixed_header_at fixed_header_fault header_of body_of number_at lv_at metadata_at items_to_end items_within messages_in number_of
no_memory_for_it = (refl, refl)

-- octets that are no PDU are never so
no_pdu : IsUnreadFrom {A = Done} [] (Err (answer.Lane (plainly refusal.NoMemory))) → ⊥
unfolding reading fixed_header_at fixed_header_fault header_of body_of number_at lv_at metadata_at items_to_end items_within messages_in number_of
no_pdu is = let read = is.0 in cc

-- and where memory ran out, that is answered
other_reason : IsUnreadFrom {A = Done} metadata_octets (Err (answer.Route routes.NotForUs)) → ⊥
other_reason is = let why = is.1 in cc

nothing_to_read : (result : Result Done EntityRefusal) → IsUnread (events.Pump (key 1 5)) result → ⊥
nothing_to_read result is = is

-- the fault of octets that are no PDU
too_short : IsNotRead (Err faults.TooShort) (answer.Route (routes.DecodeFault faults.TooShort))
too_short = refl

other_fault : IsNotRead (Err faults.TooShort) (answer.Route routes.NoRoute) → ⊥
other_fault is = cc

not_for_memory : IsNotRead (Err faults.TooShort) (answer.Lane (plainly refusal.NoMemory)) → ⊥
not_for_memory is = cc

read_without_memory : (pdu : PduValue) → IsNotRead (Ok pdu) (answer.Lane (plainly refusal.NoMemory))
read_without_memory pdu = refl

-- ---- images

no_route_to_image : (world : WorldValue) (history : List Happening) → IsImage world history (key 3 1) 2 (Err routes.NoRoute) (Err (answer.Route routes.NoRoute))
no_route_to_image world history = refl

no_image_so : (world : WorldValue) (history : List Happening) (given : Image) → IsImage world history (key 3 1) 2 (Err routes.NoRoute) (Ok given) → ⊥
no_image_so world history given is = cc

no_other_route_to_image : (world : WorldValue) (history : List Happening) → IsImage world history (key 3 1) 2 (Err routes.NoRoute) (Err (answer.Route routes.NotYours)) → ⊥
no_other_route_to_image world history is = cc

-- a file of alice waits to be kept
abbrev pub waiting : List Happening
waiting = steps 0 3 (eof Two 5) ∷ steps 0 3 (part Two 5) ∷ steps 0 3 (metadata Two 5) ∷ []

abbrev world : WorldValue
world = record { config = reference_config; posts = [] }

image_given : IsImage world waiting (key 1 5) 2 (Ok (record { user = 0; lane = 3 })) (Ok image)
unfolding initial step state_of runs_of runs_from
image_given = (refl, tt)

-- by its own stamp, and from its own lane
stale : IsImage world waiting (key 1 5) 3 (Ok (record { user = 0; lane = 3 })) (Err (answer.Lane (plainly refusal.StaleStored)))
unfolding initial step state_of runs_of runs_from
stale = (tt, (refusal.StaleStored, refl, inl refl))

none_beside : IsImage world waiting (key 1 5) 2 (Ok (record { user = 0; lane = 2 })) (Err (answer.Lane (plainly refusal.StaleStored)))
unfolding initial step state_of runs_of runs_from
none_beside = (tt, (refusal.StaleStored, refl, inl refl))

given_is_refused : (given : Image) (why : Refusal) (found : Result Image Refusal) → found ≡ Err why → found ≡ Ok given → ⊥
given_is_refused given why found refused given_is = cc

not_by_another_stamp : (given : Image) → IsImage world waiting (key 1 5) 3 (Ok (record { user = 0; lane = 3 })) (Ok given) → ⊥
unfolding initial step state_of runs_of runs_from
not_by_another_stamp given is = given_is_refused given refusal.StaleStored _ refl is.0
