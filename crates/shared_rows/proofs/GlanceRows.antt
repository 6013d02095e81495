-- Worked looks at lanes.
use Rattle.std.proofs.Common.{◌≡◌, true, false, [], ◌∷◌, Some, None, refl}
use Rattle.cfdp_types.specs.declared.names.Class.TheVariants.{One, Two}
use Rattle.gap_list.specs.Runs.{runs_of, runs_from}
use Rattle.indications.specs.declared.indication.Phase.TheVariants as phase
use Rattle.indications.specs.declared.side.Side.TheVariants.{Sender, Receiver}
use Rattle.txn_events.specs.declared.event.What.TheVariants as what
use Rattle.receiver_table.specs.Reception as reception
use Rattle.sender_table.specs.Sending as sending
use Rattle.lane_table.specs.Glances.{glance_of}
use Rattle.world_rows.specs.ReceivingLaneRows.{key, after, storing, cancelled, part}
use Rattle.world_rows.specs.ReceivingLaneRows as receiving
use Rattle.world_rows.specs.SendingLaneRows as puts

-- ---- a lane that receives

-- nothing was opened
nothing_yet : glance_of receiving.fresh ≡ None
nothing_yet = refl

-- the file is whole, and the store is asked
is_storing : glance_of storing ≡ Some (record {
  key = key 5;
  end = Receiver;
  peer = record { 0 = 1 };
  class = One;
  phase = phase.Storing;
  progress = 3;
  has_ended = false;
  entries = 3;
  file = Some (record { size = 3; source_name = 97 ∷ []; destination_name = 98 ∷ [] });
})
unfolding reception.initial reception.step reception.state_of runs_of runs_from
is_storing = refl

-- data alone: of its file only the octets are known
no_metadata_yet : glance_of (after receiving.fresh (part Two 5 ∷ [])) ≡ Some (record {
  key = key 5;
  end = Receiver;
  peer = record { 0 = 1 };
  class = Two;
  phase = phase.Active;
  progress = 3;
  has_ended = false;
  entries = 1;
  file = None;
})
unfolding reception.initial reception.step reception.state_of runs_of runs_from
no_metadata_yet = refl

-- it was cancelled before an octet came
was_cancelled : glance_of (after receiving.fresh cancelled) ≡ Some (record {
  key = key 5;
  end = Receiver;
  peer = record { 0 = 1 };
  class = One;
  phase = phase.Active;
  progress = 0;
  has_ended = true;
  entries = 2;
  file = Some (record { size = 3; source_name = 97 ∷ []; destination_name = 98 ∷ [] });
})
unfolding reception.initial reception.step reception.state_of runs_of runs_from
was_cancelled = refl

-- ---- a lane that sends

-- a file was put and is suspended, before anything left
is_suspended : glance_of (after puts.fresh (puts.put Two ∷ puts.on 4 what.Suspend ∷ [])) ≡ Some (record {
  key = puts.key 4;
  end = Sender;
  peer = record { 0 = 1 };
  class = Two;
  phase = phase.Suspended;
  progress = 0;
  has_ended = false;
  entries = 2;
  file = Some (record { size = 3; source_name = 97 ∷ []; destination_name = 98 ∷ [] });
})
unfolding sending.initial sending.step sending.state_of runs_of runs_from
is_suspended = refl
