-- Rows. Worked histories of receiving lanes: two files in sequence in one lane, and another user's file meanwhile.
use Rattle.std.proofs.Common.{◌≡◌, ℕ, true, All, List, [], ◌∷◌, Option, Some, None, Ok, Err, Contains, refl, ap, ◌∙◌, arith}
use Rattle.cfdp_types.specs.Reference.{reference}
use Rattle.cfdp_types.specs.declared.key.TxnKey.{TxnKey}
use Rattle.cfdp_types.specs.declared.names.Class.TheVariants.{One, Two}
use Rattle.cfdp_types.specs.declared.names.Delivery.TheVariants.{Complete}
use Rattle.cfdp_types.specs.declared.names.FileStatus.TheVariants.{Retained}
use Rattle.gap_list.specs.Runs.{runs_of, runs_from}
use Rattle.indications.specs.declared.indication.Indication.TheVariants as told
use Rattle.indications.specs.LaneLists.{of_lane, told_of, IsLaneList}
use Rattle.pdu_values.specs.declared.bodies.Eof.{Eof}
use Rattle.receiver_table.specs.Reception.{Entry, initial, step, state_of}
use Rattle.txn_events.specs.Examples.{finished_acknowledged}
use Rattle.txn_events.specs.declared.event.What.TheVariants as what
use Rattle.txn_events.specs.declared.refusal.Refusal.TheVariants as refusal
use Rattle.lane_table.specs.declared.lane_side.LaneSide.TheVariants.{Receiving}
use Rattle.lane_table.specs.Lane.{State, idle, issued_in, IsSound}
use Rattle.lane_table.specs.Logs.{Log, received}
use Rattle.lane_table.specs.Steps.{image_of}
use Rattle.world_rows.specs.ReceivingLaneRows.{key, metadata, part, eof, on, image}
use Rattle.world_table.specs.Histories.{Happening, steps, takes, lane_after, events_for, log_for, mine, AreIdle, IsHistory}
use Rattle.world_table.specs.HistoryLaws.{IsEventOf, IsLogged, HasGoodFile, IsImageOf}
use Rattle.world_table.proofs.HistoryFacts.{tells_lane_lists, keeps_journals}
use Rattle.world_table.proofs.EventFacts.{keeps_events_apart}
use Rattle.world_table.proofs.LogFacts.{logs_are_legal, delivers_good, gives_images}

-- every user's lanes receive from entity 1
abbrev pub lanes : ℕ → ℕ → State
lanes user lane = idle (Receiving reference) user lane (record { 0 = 1 })

pub idle_lanes : AreIdle lanes
idle_lanes = record { numbered = λ user lane. tt; idle_is = λ user lane. refl }

-- a file of alice is waiting for the file store, and a file of bob is being received; newest first
abbrev pub waiting : List Happening
waiting = steps 0 2 (eof Two 5) ∷ steps 1 2 (metadata One 6) ∷ steps 0 2 (part Two 5) ∷ steps 0 2 (metadata Two 5) ∷ []

-- alice's file was kept, and the next one is being received in the same lane
abbrev pub history : List Happening
history =
    steps 0 2 (part One 7) ∷ steps 0 2 (metadata One 7) ∷ steps 0 2 (on 5 (finished_acknowledged 0)) ∷ takes 0
    ∷ steps 0 2 (on 5 (what.Stored 2 true)) ∷ waiting

-- both histories are legal
pub can_wait : IsHistory lanes waiting
unfolding initial step state_of runs_of runs_from
can_wait = ((refl, refl), refl, ((refl, refl), refl, ((refl, refl), refl, ((refl, refl), refl, tt))))

some_is_none : {A : Type 0} {x : A} {xs : List A} → x ∷ xs ≡ [] → ⊥
some_is_none e = cc

pub can_be : IsHistory lanes history
unfolding initial step state_of runs_of runs_from
can_be =
    ((refl, refl), refl, ((refl, refl), refl, ((refl, refl), refl, ((λ none. some_is_none none), (tt, refl, can_wait)))))

-- an ended transaction is not opened again
pub not_again : IsHistory lanes (steps 0 2 (metadata Two 5) ∷ history) → ⊥
unfolding initial step state_of runs_of runs_from
not_again can = let free = can.1 in absurd cc

-- ---- transactions

-- each transaction has its own events
pub first_events : events_for lanes history 0 2 5
    ≡ metadata Two 5 ∷ part Two 5 ∷ eof Two 5 ∷ on 5 (what.Stored 2 true) ∷ on 5 (finished_acknowledged 0) ∷ []
first_events = refl

pub second_events : events_for lanes history 0 2 7 ≡ metadata One 7 ∷ part One 7 ∷ []
second_events = refl

pub events_of_bob : events_for lanes history 1 2 6 ≡ metadata One 6 ∷ []
events_of_bob = refl

-- the number of another user's transaction has no events here, and no log
pub no_events : events_for lanes history 0 2 6 ≡ []
no_events = refl

pub no_log : log_for lanes history 0 2 6 ≡ None
no_log = refl

-- the lane's last transaction is the second one
pub last_is_second : (lane_after lanes history 0 2).last ≡ Some 7
last_is_second = refl

pub journal_of_second : (lane_after lanes history 0 2).journal ≡ events_for lanes history 0 2 7
journal_of_second = keeps_journals lanes history 0 2 7 idle_lanes can_be last_is_second

-- all its events name the transaction, which an event of another one doesn't
pub events_name_it : All (IsEventOf (key 5)) (events_for lanes history 0 2 5)
events_name_it = keeps_events_apart lanes history 0 2 5 idle_lanes can_be

pub none_of_another : IsEventOf (key 5) (on 7 (what.Stored 2 true)) → ⊥
none_of_another named = seven_five 7 5 (ap (λ (k : TxnKey). k.seq) named.0) refl refl
  where
    seven_five : (a b : ℕ) → a ≡ b → a ≡ 7 → b ≡ 5 → ⊥
    seven_five a b e a_is b_is = omega (arith, e, a_is, b_is)

-- ---- the users' indications

pub told_of_first : told_of 5 (of_lane 2 (mine lanes history 0))
    ≡ told.MetadataRecv (record { source = record { 0 = 1 }; size = 3; source_name = 97 ∷ []; destination_name = 98 ∷ []; messages = [] }) ∷ told.FileSegmentRecv 0 3 ∷ told.EofRecv ∷ told.TransactionFinished 0 Complete Retained ∷ []
unfolding initial step state_of runs_of runs_from
told_of_first = refl

pub told_of_second : told_of 7 (of_lane 2 (mine lanes history 0))
    ≡ told.MetadataRecv (record { source = record { 0 = 1 }; size = 3; source_name = 97 ∷ []; destination_name = 98 ∷ []; messages = [] }) ∷ told.FileSegmentRecv 0 3 ∷ []
unfolding initial step state_of runs_of runs_from
told_of_second = refl

-- the users' indications are what the logs issue
pub logged_of_first : issued_in (log_for lanes history 0 2 5)
    ≡ told.MetadataRecv (record { source = record { 0 = 1 }; size = 3; source_name = 97 ∷ []; destination_name = 98 ∷ []; messages = [] }) ∷ told.FileSegmentRecv 0 3 ∷ told.EofRecv ∷ told.TransactionFinished 0 Complete Retained ∷ []
unfolding initial step state_of runs_of runs_from
logged_of_first = refl

pub logged_of_second : issued_in (log_for lanes history 0 2 7)
    ≡ told.MetadataRecv (record { source = record { 0 = 1 }; size = 3; source_name = 97 ∷ []; destination_name = 98 ∷ []; messages = [] }) ∷ told.FileSegmentRecv 0 3 ∷ []
unfolding initial step state_of runs_of runs_from
logged_of_second = refl

-- so the lane's bundles are a lane list, of two words in order
pub both_listed : IsLaneList 0 2 (record { 0 = 1 }) (of_lane 2 (mine lanes history 0))
both_listed = (tells_lane_lists lanes history 0 2 idle_lanes can_be).0

-- ---- logs

-- the lane's state is sound, and both logs are legal
pub lane_sound : IsSound (lane_after lanes history 0 2)
lane_sound = (logs_are_legal lanes history 0 2 idle_lanes can_be).0

pub first_logged : IsLogged (events_for lanes history 0 2 5) (log_for lanes history 0 2 5)
first_logged = (logs_are_legal lanes history 0 2 idle_lanes can_be).1 5

pub second_logged : IsLogged (events_for lanes history 0 2 7) (log_for lanes history 0 2 7)
second_logged = (logs_are_legal lanes history 0 2 idle_lanes can_be).1 7

-- events without a log are not logged
pub not_logged : IsLogged (metadata Two 5 ∷ []) None → ⊥
not_logged is = is

-- ---- files

-- a complete delivery was indicated to alice
pub first_completes : Contains (told_of 5 (of_lane 2 (mine lanes history 0))) (told.TransactionFinished 0 Complete Retained)
unfolding initial step state_of runs_of runs_from
first_completes = (3, omega (arith), refl)

-- so the file was received
pub first_is_good : HasGoodFile lanes history 0 2 5
first_is_good = delivers_good lanes history 0 2 5 0 Retained idle_lanes can_be refl first_completes

-- of the second file no EOF was received
abbrev entries_of : Option Log → List Entry
entries_of (Some (received reception log)) = log
entries_of other = []

none_is_some : (eof : Eof) → None ≡ Some eof → ⊥
none_is_some eof e = cc

pub second_is_not : HasGoodFile lanes history 0 2 7 → ⊥
unfolding initial step state_of runs_of runs_from
second_is_not file =
    none_is_some file.good.eof (ap (λ (o : Option Log). (state_of (entries_of o)).eof) file.is_received.log_is ∙ file.good.eof_came)

-- while the file was waiting, the lane gave its image
pub image_waits : image_of (lane_after lanes waiting 0 2) (key 5) 2 ≡ Ok image
unfolding initial step state_of runs_of runs_from
image_waits = refl

pub image_is_the_file : IsImageOf lanes waiting 0 2 (key 5) 2 image
image_is_the_file = gives_images lanes waiting 0 2 (key 5) 2 image idle_lanes can_wait image_waits

-- once it was kept the lane gives none, and for another user's file neither
pub image_is_gone : image_of (lane_after lanes history 0 2) (key 5) 2 ≡ Err refusal.StaleStored
unfolding initial step state_of runs_of runs_from
image_is_gone = refl

pub no_image_of_bob : image_of (lane_after lanes waiting 1 2) (key 5) 2 ≡ Err refusal.StaleStored
unfolding initial step state_of runs_of runs_from
no_image_of_bob = refl
