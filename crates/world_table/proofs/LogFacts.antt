-- The logs of a history: they are legal, those of complete deliveries are of good files, and images are of such files.
use Rattle.std.proofs.Common.{◌≡◌, ℕ, ◌==◌, List, [], ◌∷◌, Option, Some, None, Ok, Contains, refl, sym, ap, ◌∙◌, subst, arith}
use Rattle.cfdp_types.specs.Steps.{is_stamp}
use Rattle.cfdp_types.specs.declared.image.Image.{Image}
use Rattle.cfdp_types.specs.declared.key.EntityId.{EntityId}
use Rattle.cfdp_types.specs.declared.key.TxnKey.{TxnKey}
use Rattle.cfdp_types.specs.declared.names.Delivery.TheVariants.{Complete}
use Rattle.indications.specs.declared.indication.Indication.{Indication}
use Rattle.indications.specs.declared.indication.Indication.TheVariants as told
use Rattle.indications.specs.declared.side.Side.TheVariants.{Sender, Receiver}
use Rattle.receiver_table.specs.Reception as receiver
use Rattle.receiver_laws.specs.ReceptionLaws.{IsGiven}
use Rattle.receiver_laws.proofs.ReceptionDeposits.{deposits_good}
use Rattle.txn_events.specs.declared.event.Event.{Event}
use Rattle.txn_events.specs.declared.refusal.Refusal.TheVariants as refusal
use Rattle.lane_table.specs.declared.lane_side.LaneSide.{LaneSide}
use Rattle.lane_table.specs.Logs.{Log, sent, received, IsLegal, image_in}
use Rattle.lane_table.specs.Lane.{State, key_at, log_from, log_of, issued_in}
use Rattle.lane_table.specs.Steps.{is_key}
use Rattle.lane_table.proofs.LogFacts.{log_side}
use Rattle.lane_table.proofs.RunFacts.{completes_good}
use Rattle.lane_table.proofs.SentFacts.{some_is}
use Rattle.lane_table.proofs.StepFacts.{both_true}
use Rattle.lane_table.proofs.ImageFacts.{log_under, no_image, IsGivenBy, given_by, stamp_is, same_key, waits_by, given_is}
use Rattle.world_table.specs.Histories.{Happening, lane_after, events_for, log_for, AreIdle, IsHistory}
use Rattle.world_table.specs.HistoryLaws.{IsLogged, IsReceived, HasGoodFile, IsImageOf, LogsAreLegal, DeliversGood, GivesImages}
use Rattle.world_table.proofs.HistoryFacts.{runs, tells_what_logs_tell}

-- ---- all logs

pub logs_are_legal : LogsAreLegal
logs_are_legal lanes history user lane idle legal =
    let run = runs lanes history user lane idle legal in (run.sound, run.logged)

legal_from : (side : LaneSide) (source : EntityId) (number : ℕ) (events : List Event) (log : Log)
    → IsLogged events (log_from side source (Some number) events) → log_from side source (Some number) events ≡ Some log → IsLegal log
legal_from side source number [] log logged is = absurd cc
legal_from side source number (first ∷ later) log logged is = by (log_from side source (Some number) (first ∷ later)) logged is
  where
    by : (found : Option Log) → IsLogged (first ∷ later) found → found ≡ Some log → IsLegal log
    by None logged is = absurd cc
    by (Some other) logged is = subst IsLegal (some_is other log is) logged

-- ---- those of a lane that receives

-- what came by a lane that receives
came_by : (lanes : ℕ → ℕ → State) (history : List Happening) (user lane number : ℕ) (reception : receiver.Reception) (log : List receiver.Entry)
    → AreIdle lanes → IsHistory lanes history → log_for lanes history user lane number ≡ Some (received reception log)
    → IsReceived lanes history user lane number reception log
came_by lanes history user lane number reception log idle legal is =
    let first : State = lanes user lane in
    let events : List Event = events_for lanes history user lane number in
    record {
      log_is = is;
      key_is = log_under first.side first.source number events (received reception log) is;
      legal =
          legal_from first.side first.source number events (received reception log)
          ((logs_are_legal lanes history user lane idle legal).1 number) is;
    }

-- ---- complete deliveries

none_told : (x : Indication) → Contains [] x → ⊥
none_told x told = let none = told.1 in omega (arith, none)

no_receiver : Sender ≡ Receiver → ⊥
no_receiver is = absurd cc

pub delivers_good : DeliversGood
delivers_good lanes history user lane number condition status idle legal of_end contained =
    by (log_for lanes history user lane number) refl
    (subst (λ (l : List Indication). Contains l (told.TransactionFinished condition Complete status))
    (tells_what_logs_tell lanes history user lane number idle legal) contained)
  where
    by : (found : Option Log) → log_for lanes history user lane number ≡ found
        → Contains (issued_in found) (told.TransactionFinished condition Complete status) → HasGoodFile lanes history user lane number
    by None is contained = absurd (none_told (told.TransactionFinished condition Complete status) contained)
    by (Some (sent sending log)) is contained =
        let first : State = lanes user lane in
        absurd
        (no_receiver
        (sym (log_side first.side first.source (Some number) (events_for lanes history user lane number) (sent sending log) is) ∙ of_end))
    by (Some (received reception log)) is contained =
        let came = came_by lanes history user lane number reception log idle legal is in
        record { reception = reception; log = log; is_received = came; good = completes_good reception log condition status came.legal contained }

-- ---- images

-- the log of what a lane stands at is that of its last transaction's events
log_there : (lanes : ℕ → ℕ → State) (history : List Happening) (user lane number : ℕ) → AreIdle lanes → IsHistory lanes history
    → (lane_after lanes history user lane).last ≡ Some number → log_of (lane_after lanes history user lane) ≡ log_for lanes history user lane number
log_there lanes history user lane number idle legal last =
    let run = runs lanes history user lane idle legal in
    let state : State = lane_after lanes history user lane in
    ap (λ (side : LaneSide). log_from side state.source state.last state.journal) run.of_side
    ∙ ap (λ (source : EntityId). log_from (lanes user lane).side source state.last state.journal) run.of_source
    ∙ ap (λ (o : Option ℕ). log_from (lanes user lane).side (lanes user lane).source o state.journal) last
    ∙ ap (log_from (lanes user lane).side (lanes user lane).source (Some number)) (run.journal number last)

image_by : (lanes : ℕ → ℕ → State) (history : List Happening) (user lane : ℕ) (key : TxnKey) (stamp : ℕ) (image : Image) → AreIdle lanes → IsHistory lanes history
    → key_at (lanes user lane).source key.seq ≡ key → (log : Log) → log_for lanes history user lane key.seq ≡ Some log → image_in log stamp ≡ Ok image
    → IsImageOf lanes history user lane key stamp image
image_by lanes history user lane key stamp image idle legal of_key (sent sending log) is given = absurd (no_image refusal.StaleStored image given)
image_by lanes history user lane key stamp image idle legal of_key (received reception log) is given =
    let came = came_by lanes history user lane key.seq reception log idle legal is in
    let waits = waits_by log stamp image (is_stamp (receiver.state_of log).waiting stamp) refl given in
    let good : IsGiven (receiver.state_of log) stamp = deposits_good reception log stamp came.legal waits in
    record {
      reception = reception;
      log = log;
      is_received = came;
      key_is = came.key_is ∙ of_key;
      given = good;
      image_is = given_is log stamp image good given;
    }

pub gives_images : GivesImages
gives_images lanes history user lane key stamp image idle legal is =
    let run = runs lanes history user lane idle legal in
    let state : State = lane_after lanes history user lane in
    let given : IsGivenBy state key stamp image = given_by state key stamp image (is_key state key) (log_of state) refl refl is in
    let both = both_true (key.source.0 == state.source.0) (is_stamp state.last key.seq) given.is_key in
    let last : state.last ≡ Some key.seq = stamp_is state.last key.seq both.1 in
    image_by lanes history user lane key stamp image idle legal
    (ap (λ (source : EntityId). key_at source key.seq) (sym run.of_source) ∙ same_key key state.source both.0) given.log
    (sym (log_there lanes history user lane key.seq idle legal last) ∙ given.log_is) given.given
