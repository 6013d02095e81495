-- Worked places of transactions, and where what users ask for goes.
use Rattle.std.proofs.Common.{◌≡◌, ℕ, true, false, List, [], ◌∷◌, map, Option, Some, None, Ok, Err, codes, refl, arith}
use Rattle.cfdp_types.specs.declared.key.TxnKey.{TxnKey}
use Rattle.cfdp_types.specs.declared.names.Class.TheVariants.{One}
use Rattle.cfdp_types.specs.declared.names.TimerKind.TheVariants as timer
use Rattle.cfdp_types.specs.declared.params.ParamsParts.{ParamsParts}
use Rattle.cfdp_types.specs.Put.{PutValue}
use Rattle.cfdp_types.specs.Reference.{reference}
use Rattle.txn_events.specs.declared.event.Event.TheVariants.{Put, On}
use Rattle.txn_events.specs.declared.event.What.TheVariants as what
use Rattle.config_reading.specs.Values.{ConfigValue, PeerValue, is_config}
use Rattle.entity_config.specs.Reference.{reference_config}
use Rattle.entity_routing.specs.declared.place.Place.{Place}
use Rattle.entity_routing.specs.declared.refusal.RouteRefusal.{RouteRefusal}
use Rattle.entity_routing.specs.declared.refusal.RouteRefusal.TheVariants as refusals
use Rattle.entity_routing.specs.declared.world_event.Request.{Request}
use Rattle.entity_routing.specs.declared.world_event.Request.TheVariants as requests
use Rattle.entity_routing.specs.declared.world_event.WorldEvent.TheVariants as events
use Rattle.pdu_reading.specs.declared.fault.DecodeFault.TheVariants.{TooShort}
use Rattle.entity_routing.specs.Refusal.{refusal_name, refusal_number}
use Rattle.entity_routing.specs.Places.{lanes_of, place_of, source_of_lane}
use Rattle.entity_routing.specs.RouteLaws.{IsFrom}
use Rattle.entity_routing.specs.Routes.{key_place, own_place, put_params, route, routed_request}
use Rattle.entity_routing.proofs.NumberFacts.{numbers_tell}

abbrev key : ℕ → ℕ → TxnKey
key source seq = record { source = record { 0 = source }; seq = seq }

abbrev at : ℕ → ℕ → Option Place
at user lane = Some (record { user = user; lane = lane })

-- a remote entity with parameters that tell it from others
abbrev params : ℕ → ParamsParts
params segment_octets = record reference { segment_octets = segment_octets }

abbrev peer : ℕ → Option ℕ → PeerValue
peer id user = record { remote = record { id = record { 0 = id }; user = user; params = reference }; address = codes "127.0.0.1:7001" }

-- the reference configuration with other remote entities
abbrev with_peers : List PeerValue → ConfigValue
with_peers peers = record reference_config { peers = peers }

-- ---- the reference configuration: the entity's own numbers go round the users, and then round the lanes

own_numbers : map (λ seq. place_of reference_config (key 2 seq)) (4 ∷ 5 ∷ 6 ∷ 7 ∷ 8 ∷ []) ≡ at 0 0 ∷ at 1 0 ∷ at 0 1 ∷ at 1 1 ∷ at 0 0 ∷ []
own_numbers = refl

-- alice's receiving lanes stand behind her two sending lanes
from_a_source : map (λ seq. place_of reference_config (key 1 seq)) (5 ∷ 6 ∷ 7 ∷ []) ≡ at 0 3 ∷ at 0 2 ∷ at 0 3 ∷ []
from_a_source = refl

from_nobody : place_of reference_config (key 3 1) ≡ None
from_nobody = refl

no_route : key_place reference_config (key 3 1) ≡ Err refusals.NoRoute
no_route = refl

lanes : map (lanes_of reference_config) (0 ∷ 1 ∷ []) ≡ 4 ∷ 2 ∷ []
lanes = refl

sources_of_lanes : map (source_of_lane reference_config 0) (0 ∷ 1 ∷ 2 ∷ 3 ∷ 4 ∷ []) ≡ None ∷ None ∷ Some (peer 1 (Some 0)) ∷ Some (peer 1 (Some 0)) ∷ None ∷ []
sources_of_lanes = refl

no_sources : map (source_of_lane reference_config 1) (0 ∷ 1 ∷ 2 ∷ []) ≡ None ∷ None ∷ None ∷ []
no_sources = refl

-- so a number tells which of a source's lanes it is in, and no other
from_one : IsFrom reference_config (record { 0 = 1 }) (record { user = 0; lane = 3 })
from_one = record { peer = peer 1 (Some 0); found = refl; id = refl }

told_by_number : place_of reference_config (key 1 7) ≡ at 0 3
told_by_number = (numbers_tell reference_config (key 1 7) (record { user = 0; lane = 3 }) refl from_one).1 refl

zero_one : (a b : ℕ) → a ≡ b → a ≡ 0 → b ≡ 1 → ⊥
zero_one a b e a_is b_is = omega (arith, e, a_is, b_is)

not_by_another : place_of reference_config (key 1 6) ≡ at 0 3 → ⊥
not_by_another is = zero_one 0 1 ((numbers_tell reference_config (key 1 6) (record { user = 0; lane = 3 }) refl from_one).0 is) refl refl

-- ---- two users with a source each

abbrev two_sources : ConfigValue
two_sources = with_peers (peer 1 (Some 0) ∷ peer 3 (Some 1) ∷ [])

is_two_sources : is_config two_sources ≡ true
is_two_sources = refl

another_user : map (place_of two_sources) (key 3 4 ∷ key 3 5 ∷ key 1 5 ∷ []) ≡ at 1 2 ∷ at 1 3 ∷ at 0 3 ∷ []
another_user = refl

lanes_of_both : map (lanes_of two_sources) (0 ∷ 1 ∷ []) ≡ 4 ∷ 4 ∷ []
lanes_of_both = refl

-- ---- two sources of one user, another user's between them, and a remote entity that only receives

abbrev one_user : ConfigValue
one_user = with_peers (peer 9 None ∷ peer 1 (Some 0) ∷ peer 4 (Some 1) ∷ peer 3 (Some 0) ∷ [])

is_one_user : is_config one_user ≡ true
is_one_user = refl

-- the second source's lanes stand behind the first's
later_source : map (place_of one_user) (key 1 4 ∷ key 1 5 ∷ key 3 4 ∷ key 3 5 ∷ key 4 4 ∷ []) ≡ at 0 2 ∷ at 0 3 ∷ at 0 4 ∷ at 0 5 ∷ at 1 2 ∷ []
later_source = refl

lanes_of_two_sources : map (lanes_of one_user) (0 ∷ 1 ∷ []) ≡ 6 ∷ 4 ∷ []
lanes_of_two_sources = refl

sources_in_order : map (source_of_lane one_user 0) (1 ∷ 2 ∷ 3 ∷ 4 ∷ 5 ∷ 6 ∷ []) ≡ None ∷ Some (peer 1 (Some 0)) ∷ Some (peer 1 (Some 0)) ∷ Some (peer 3 (Some 0)) ∷ Some (peer 3 (Some 0)) ∷ None ∷ []
sources_in_order = refl

-- nothing comes from a remote entity that only receives, but a file may go to it
only_receives : place_of one_user (key 9 4) ≡ None
only_receives = refl

sent_to_receiver : put_params one_user (record { 0 = 9 }) ≡ Ok reference
sent_to_receiver = refl

-- as many receiving lanes as there are of each source count, and not the sending lanes
abbrev narrow : ConfigValue
narrow = record one_user { entity = record one_user.entity { put_lanes = 1; receive_lanes = 3 } }

narrow_places : map (place_of narrow) (key 3 5 ∷ key 1 5 ∷ key 2 6 ∷ key 2 7 ∷ []) ≡ at 0 6 ∷ at 0 3 ∷ at 0 0 ∷ at 1 0 ∷ []
narrow_places = refl

narrow_lanes : map (lanes_of narrow) (0 ∷ 1 ∷ []) ≡ 7 ∷ 4 ∷ []
narrow_lanes = refl

narrow_sources : map (source_of_lane narrow 0) (0 ∷ 1 ∷ 3 ∷ 4 ∷ 6 ∷ 7 ∷ [])
    ≡ None ∷ Some (peer 1 (Some 0)) ∷ Some (peer 1 (Some 0)) ∷ Some (peer 3 (Some 0)) ∷ Some (peer 3 (Some 0)) ∷ None ∷ []
narrow_sources = refl

-- ---- requests

abbrev put : ℕ → PutValue
put destination = record { destination = record { 0 = destination }; class = One; closure = false; source_name = 97 ∷ []; destination_name = 98 ∷ []; messages = []; file = [] }

alice_cancels : route reference_config (events.Request 0 (requests.Cancel (key 2 4))) ≡ Ok (record { place = record { user = 0; lane = 0 }; event = On (key 2 4) what.Cancel })
alice_cancels = refl

-- each request but a Put, asked by another user than the transaction's
abbrev requests_about : TxnKey → List Request
requests_about about = requests.Cancel about ∷ requests.Suspend about ∷ requests.Resume about ∷ requests.Report about ∷ requests.Abandon about ∷ []

bob_asks : map (routed_request reference_config 1) (requests_about (key 2 4)) ≡ map (λ why. Err why) (refusals.NotYours ∷ refusals.NotYours ∷ refusals.NotYours ∷ refusals.NotYours ∷ refusals.NotYours ∷ [])
bob_asks = refl

alice_asks : map (routed_request reference_config 0) (requests_about (key 1 5))
    ≡ map (λ happens. Ok (record { place = record { user = 0; lane = 3 }; event = On (key 1 5) happens })) (what.Cancel ∷ what.Suspend ∷ what.Resume ∷ what.Report ∷ what.Abandon ∷ [])
alice_asks = refl

-- where there is no route, it is no other user's
nobody_asks : map (λ user. own_place reference_config user (key 3 1)) (0 ∷ 1 ∷ []) ≡ Err refusals.NoRoute ∷ Err refusals.NoRoute ∷ []
nobody_asks = refl

-- a Put goes to the lane that it names, with the parameters of its destination
abbrev two_params : ConfigValue
two_params = with_peers ((record (peer 1 (Some 0)) { remote = record { id = record { 0 = 1 }; user = Some 0; params = params 300 } }) ∷ (record (peer 3 None) { remote = record { id = record { 0 = 3 }; user = None; params = params 400 } }) ∷ [])

puts : map (λ destination. route two_params (events.Request 1 (requests.Put 1 (put destination)))) (1 ∷ 3 ∷ [])
    ≡ Ok (record { place = record { user = 1; lane = 1 }; event = Put (put 1) (params 300) })
    ∷ Ok (record { place = record { user = 1; lane = 1 }; event = Put (put 3) (params 400) })
    ∷ []
puts = refl

-- to no remote entity, and to the entity itself
unknown_remotes : map (λ destination. route reference_config (events.Request 0 (requests.Put 1 (put destination)))) (9 ∷ 2 ∷ []) ≡ Err refusals.UnknownRemote ∷ Err refusals.UnknownRemote ∷ []
unknown_remotes = refl

-- ---- what happens inside the entity is asked by no user

inside : map (route reference_config) (events.Pump (key 2 5) ∷ events.Timer (key 1 5) timer.Nak 3 ∷ events.Stored (key 1 6) 2 true
    ∷ events.Stored (key 1 5) 3 false ∷ events.Timer (key 2 4) timer.Ack 4 ∷ events.Timer (key 1 6) timer.Check 0 ∷ events.Timer (key 1 6) timer.Inactivity 1 ∷ events.Pump (key 3 1) ∷ [])
    ≡ Ok (record { place = record { user = 1; lane = 0 }; event = On (key 2 5) what.Pump })
    ∷ Ok (record { place = record { user = 0; lane = 3 }; event = On (key 1 5) (what.Timer timer.Nak 3) })
    ∷ Ok (record { place = record { user = 0; lane = 2 }; event = On (key 1 6) (what.Stored 2 true) })
    ∷ Ok (record { place = record { user = 0; lane = 3 }; event = On (key 1 5) (what.Stored 3 false) })
    ∷ Ok (record { place = record { user = 0; lane = 0 }; event = On (key 2 4) (what.Timer timer.Ack 4) })
    ∷ Ok (record { place = record { user = 0; lane = 2 }; event = On (key 1 6) (what.Timer timer.Check 0) })
    ∷ Ok (record { place = record { user = 0; lane = 2 }; event = On (key 1 6) (what.Timer timer.Inactivity 1) })
    ∷ Err refusals.NoRoute
    ∷ []
inside = refl

-- ---- numbers and names

abbrev all_refusals : List RouteRefusal
all_refusals = refusals.DecodeFault TooShort ∷ refusals.NotForUs ∷ refusals.WrongDirection ∷ refusals.NoRoute ∷ refusals.NotYours ∷ refusals.UnknownRemote ∷ []

numbers : map refusal_number all_refusals ≡ 20 ∷ 21 ∷ 22 ∷ 23 ∷ 24 ∷ 25 ∷ []
numbers = refl

names : map refusal_name all_refusals ≡ codes "DecodeFault" ∷ codes "NotForUs" ∷ codes "WrongDirection" ∷ codes "NoRoute" ∷ codes "NotYours" ∷ codes "UnknownRemote" ∷ []
names = refl
