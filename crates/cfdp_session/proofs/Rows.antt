-- Rows. Worked answers, as what is kept of them and as numbers.
use Rattle.std.specs.Prelude.{◌≡◌, ℕ, true, [], ◌∷◌, Some, None, Ok, Err, slice_get}
use Rattle.std.proofs.Common.{refl}
use Rattle.cfdp_types.specs.declared.image.Image.{Image}
use Rattle.cfdp_types.specs.declared.key.Deposit.{Deposit}
use Rattle.cfdp_types.specs.declared.key.EntityId.{EntityId}
use Rattle.cfdp_types.specs.declared.key.TxnKey.{TxnKey}
use Rattle.pdu_values.specs.declared.pdu.Direction.TheVariants.{TowardReceiver, TowardSender}
use Rattle.entity_routing.specs.declared.world_event.WorldEvent.TheVariants as events
use Rattle.timer_list.specs.declared.armed.Armed.{Armed}
use Rattle.cfdp_session.specs.Turns.{TurnsValue}
use Rattle.cfdp_session.specs.Steps.{expiry, left_after}
use Rattle.cfdp_session.specs.Turning.{turned}
use Rattle.cfdp_types.specs.declared.names.Class.TheVariants.{Two}
use Rattle.cfdp_types.specs.declared.names.Delivery.TheVariants.{Incomplete}
use Rattle.cfdp_types.specs.declared.names.FileStatus.TheVariants.{Rejected}
use Rattle.cfdp_types.specs.declared.names.TimerKind.TheVariants as timer
use Rattle.cfdp_types.specs.declared.timer_op.TimerOp.TheVariants.{Arm, Disarm}
use Rattle.pdu_reading.specs.declared.fault.DecodeFault.TheVariants.{BadVersion}
use Rattle.indications.specs.declared.bundle.Bundle.{Bundle}
use Rattle.indications.specs.declared.indication.Indication.{Indication}
use Rattle.indications.specs.declared.indication.Indication.TheVariants as told
use Rattle.indications.specs.declared.indication.Phase.TheVariants as phase
use Rattle.indications.specs.declared.side.Side.TheVariants.{Sender}
use Rattle.lane_table.specs.declared.done.Done.{Done}
use Rattle.txn_events.specs.declared.refusal.Refusal.TheVariants.{LaneBusy, QueueFull, StaleTimer, WrongState}
use Rattle.entity_routing.specs.declared.refusal.RouteRefusal.TheVariants.{DecodeFault, NoRoute}
use Rattle.entity_parts.specs.declared.refusal.EntityRefusal.TheVariants as answer
use Rattle.lane_table.specs.Steps.{plainly}
use Rattle.cfdp_session.specs.Flat.{bare, class_code, flat_bundle, flat_deposit, flat_done, flat_image, flat_indication, flat_missing, flat_timer, lanes_in, side_code, sized_file, user_number}
use Rattle.cfdp_session.specs.Kept.{deposit_of, image_parts, indications_of, listed, parts_at, pdus_of, timers_of, toward}
use Rattle.cfdp_session.specs.Orders.{put_to}
use Rattle.config_reading.specs.declared.fault.ConfigFault.TheVariants as fault
use Rattle.config_reading.specs.declared.fault.Key.TheVariants as key_of
use Rattle.entity_config.specs.Reference.{reference_config}
use Rattle.entity_config.specs.declared.setting.Setting.TheVariants as setting
use Rattle.cfdp_session.specs.Plans.{with_settings}

abbrev key : TxnKey
key = record { source = record { 0 = 1 }; seq = 5 }

abbrev deposit : Deposit
deposit = record { key = key; stamp = 3 }

-- a step that starts one timer, stops another and hands a file out
abbrev step : Done
step = record { key = key; pdus = []; timers = Arm key timer.Nak 3 1000 ∷ Disarm key timer.Inactivity 3 ∷ []; deposit = Some deposit }

abbrev metadata : Indication
metadata = told.MetadataRecv (record { source = record { 0 = 1 }; size = 12; source_name = 97 ∷ []; destination_name = 98 ∷ 99 ∷ []; messages = (100 ∷ []) ∷ [] })

abbrev bundle : Bundle
bundle = record { user = 4; lane = 2; key = key; inds = told.EofRecv ∷ metadata ∷ [] }

abbrev image : Image
image = record { source_name = 97 ∷ []; destination_name = 98 ∷ 99 ∷ []; octets = 1 ∷ 2 ∷ 3 ∷ [] }

-- ---- what is kept

row-pdus-of-none : pdus_of None ≡ []
row-pdus-of-none = refl

row-one : listed {A = ℕ} (Some 7) ≡ 7 ∷ []
row-one = refl

row-timers : slice_get (timers_of (Some (Ok step))) 1 ≡ Some (Disarm key timer.Inactivity 3)
row-timers = refl

row-timers-refused : timers_of (Some (Err answer.WrongLane)) ≡ []
row-timers-refused = refl

row-deposit : deposit_of (Some (Ok step)) ≡ Some deposit
row-deposit = refl

row-deposit-refused : deposit_of (Some (Err answer.WrongLane)) ≡ None
row-deposit-refused = refl

row-indications : indications_of (Some bundle) ≡ told.EofRecv ∷ metadata ∷ []
row-indications = refl

row-source-name : slice_get (parts_at (slice_get (indications_of (Some bundle)) 1)) 0 ≡ Some (97 ∷ [])
row-source-name = refl

row-message : slice_get (parts_at (slice_get (indications_of (Some bundle)) 1)) 2 ≡ Some (100 ∷ [])
row-message = refl

row-no-texts : parts_at (slice_get (indications_of (Some bundle)) 0) ≡ []
row-no-texts = refl

row-image-content : slice_get (image_parts (Some image)) 2 ≡ Some (1 ∷ 2 ∷ 3 ∷ [])
row-image-content = refl

row-image-name : slice_get (image_parts (Some image)) 1 ≡ Some (98 ∷ 99 ∷ [])
row-image-name = refl

-- ---- time and turns

abbrev nak : Armed
nak = record { key = key; kind = timer.Nak; stamp = 3; deadline = 500 }

-- two users with two sending lanes each, of which two may have something to send
abbrev turns : TurnsValue
turns = record { ready = Some 8 ∷ None ∷ Some 6 ∷ None ∷ []; turn = 0 }

abbrev local : EntityId
local = record { 0 = 1 }

row-taken : turned local (events.Deliver []) (Ok step) turns ≡ record { ready = Some 8 ∷ Some 5 ∷ Some 6 ∷ None ∷ []; turn = 0 }
row-taken = refl

row-of-another : turned (record { 0 = 2 }) (events.Deliver []) (Ok step) turns ≡ turns
row-of-another = refl

row-pumped : turned local (events.Pump key) (Ok step) turns ≡ record { ready = Some 8 ∷ Some 5 ∷ Some 6 ∷ None ∷ []; turn = 2 }
row-pumped = refl

row-nothing-left : turned local (events.Pump (record key { seq = 6 })) (Err (answer.Lane (plainly WrongState))) turns
    ≡ record { ready = Some 8 ∷ None ∷ None ∷ None ∷ []; turn = 3 }
row-nothing-left = refl

row-queue-full : turned local (events.Pump (record key { seq = 6 })) (Err (answer.Lane (plainly QueueFull))) turns
    ≡ record { ready = Some 8 ∷ None ∷ Some 6 ∷ None ∷ []; turn = 3 }
row-queue-full = refl

row-other-refused : turned local (events.Timer (record key { seq = 6 }) timer.Ack 1) (Err answer.WrongLane) turns ≡ turns
row-other-refused = refl

row-expiry : expiry nak ≡ events.Timer key timer.Nak 3
row-expiry = refl

row-goes-back : left_after (Some (Err (answer.Lane (plainly QueueFull)))) nak [] ≡ nak ∷ []
row-goes-back = refl

row-is-gone : left_after (Some (Err (answer.Lane (plainly StaleTimer)))) nak [] ≡ []
row-is-gone = refl

row-toward-receiver : toward TowardReceiver local (record { 0 = 2 }) ≡ record { 0 = 2 }
row-toward-receiver = refl

row-toward-sender : toward TowardSender local (record { 0 = 2 }) ≡ local
row-toward-sender = refl

row-no-user : user_number None ≡ 18446744073709551615
row-no-user = refl

row-user : user_number (Some 3) ≡ 3
row-user = refl

-- ---- numbers

row-done : flat_done (Some (Ok step)) ≡ record { source = 1; seq = 5; pdus = 0; timers = 2; refusal = 0; fault = 0; deposit = 1 }
row-done = refl

row-nothing-done : flat_done None ≡ record { source = 0; seq = 0; pdus = 0; timers = 0; refusal = 0; fault = 0; deposit = 0 }
row-nothing-done = refl

row-refused : flat_done (Some (Err (answer.Lane (plainly LaneBusy)))) ≡ record { source = 0; seq = 0; pdus = 0; timers = 0; refusal = 3; fault = 0; deposit = 0 }
row-refused = refl

row-no-pdu : flat_done (Some (Err (answer.Route (DecodeFault BadVersion)))) ≡ record { source = 0; seq = 0; pdus = 0; timers = 0; refusal = 20; fault = 2; deposit = 0 }
row-no-pdu = refl

row-no-route : flat_done (Some (Err (answer.Route NoRoute))) ≡ record { source = 0; seq = 0; pdus = 0; timers = 0; refusal = 23; fault = 0; deposit = 0 }
row-no-route = refl

row-arms : flat_timer (Arm key timer.Nak 3 1000) ≡ record { source = 1; seq = 5; stamp = 3; ms = 1000; kind = 2; arms = 1 }
row-arms = refl

row-stops : flat_timer (Disarm key timer.Inactivity 3) ≡ record { source = 1; seq = 5; stamp = 3; ms = 0; kind = 4; arms = 0 }
row-stops = refl

row-bundle : flat_bundle bundle ≡ record { source = 1; seq = 5; user = 4; lane = 2; indications = 2 }
row-bundle = refl

row-flat-deposit : flat_deposit deposit ≡ record { source = 1; seq = 5; stamp = 3 }
row-flat-deposit = refl

row-image : flat_image image ≡ record { source_name = 1; destination_name = 2; octets = 3; refusal = 0 }
row-image = refl

row-missing : flat_missing (answer.Route NoRoute) ≡ record { source_name = 0; destination_name = 0; octets = 0; refusal = 23 }
row-missing = refl

row-metadata : flat_indication metadata ≡ record (bare 5) { source = 1; size = 12; parts = 3 }
row-metadata = refl

row-finished : flat_indication (told.TransactionFinished 4 Incomplete Rejected) ≡ record (bare 4) { condition = 4; delivery = 1; status = 1 }
row-finished = refl

row-segment : flat_indication (told.FileSegmentRecv 8 4) ≡ record (bare 6) { offset = 8; length = 4 }
row-segment = refl

row-report : flat_indication (told.Report phase.Storing 9) ≡ record (bare 9) { phase = 3; progress = 9 }
row-report = refl

row-fault : flat_indication (told.Fault 7 9) ≡ record (bare 10) { condition = 7; progress = 9 }
row-fault = refl

row-put : (put_to (record { 0 = 2 }) Two true (97 ∷ []) (98 ∷ []) (1 ∷ 2 ∷ []) ((9 ∷ []) ∷ [])).source_name ≡ 97 ∷ []
row-put = refl

row-put-message : (put_to (record { 0 = 2 }) Two true (97 ∷ []) (98 ∷ []) (1 ∷ 2 ∷ []) ((9 ∷ []) ∷ [])).messages ≡ (9 ∷ []) ∷ []
row-put-message = refl

-- ---- settings

row-settings : with_settings (setting.First 5 ∷ setting.First 7 ∷ setting.Capacity 3 ∷ []) (Ok reference_config)
    ≡ Ok (record reference_config { entity = record reference_config.entity { first = 7; capacity = 3 } })
row-settings = refl

row-setting-refused : with_settings (setting.First 5 ∷ setting.Capacity 0 ∷ setting.First 7 ∷ []) (Ok reference_config) ≡ Err (fault.OutOfRange key_of.Capacity)
row-setting-refused = refl

-- ---- transactions that run

row-no-size : sized_file None ≡ (0, 0)
row-no-size = refl

row-size : sized_file (Some (record { size = 9; source_name = []; destination_name = [] })) ≡ (9, 1)
row-size = refl

row-sends : side_code Sender ≡ 1
row-sends = refl

row-class : class_code Two ≡ 2
row-class = refl

row-lanes : lanes_in reference_config 0 ≡ Some 4
row-lanes = refl

row-no-lanes : lanes_in reference_config 2 ≡ None
row-no-lanes = refl
