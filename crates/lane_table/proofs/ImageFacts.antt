-- The log that a sound lane stands at is legal and of the lane's key, so the image that it gives is of a good file.
use Rattle.std.proofs.Common.{◌≡◌, ℕ, ◌==◌, Bool, true, false, List, [], ◌∷◌, Option, Some, None, Result, Ok, Err, refl, sym, ap, ◌∙◌, subst}
use Rattle.std.specs.Option.{option_map}
use Rattle.std.proofs.lemmas.Bool.{eqb-true}
use Rattle.cfdp_types.specs.Steps.{is_stamp}
use Rattle.cfdp_types.specs.declared.image.Image.{Image}
use Rattle.cfdp_types.specs.declared.key.EntityId.{EntityId}
use Rattle.cfdp_types.specs.declared.key.TxnKey.{TxnKey}
use Rattle.receiver_table.specs.Images.{image_at}
use Rattle.receiver_table.specs.Reception as receiver
use Rattle.receiver_laws.specs.ReceptionLaws.{IsGiven}
use Rattle.receiver_laws.proofs.ReceptionDeposits.{deposits_good}
use Rattle.txn_events.specs.declared.event.Event.{Event}
use Rattle.txn_events.specs.declared.event.Event.TheVariants.{Put, On}
use Rattle.txn_events.specs.declared.event.What.TheVariants as what
use Rattle.txn_events.specs.declared.refusal.Refusal.{Refusal}
use Rattle.txn_events.specs.declared.refusal.Refusal.TheVariants as refusal
use Rattle.lane_table.specs.declared.lane_side.LaneSide.{LaneSide}
use Rattle.lane_table.specs.declared.lane_side.LaneSide.TheVariants.{Sending, Receiving}
use Rattle.lane_table.specs.Logs.{Transaction, sends, receives, Log, sent, received, body_opens, opened_by, log_by, IsLegal, image_in}
use Rattle.lane_table.specs.Lane.{State, IsRun, key_at, log_from, log_of}
use Rattle.lane_table.specs.Steps.{is_key, image_of}
use Rattle.lane_table.proofs.SentFacts.{some_is}
use Rattle.lane_table.proofs.StepFacts.{if_some, both_true}
use Rattle.lane_table.specs.Images.{IsOwnFile, GivesOwnFiles}

-- ---- a log that gives an image is of a reception under the lane's key

-- a log is of a sending, or of a reception under a key
abbrev pub IsUnder : TxnKey → Log → Type 0
IsUnder key (sent sending log) = Unit {0}
IsUnder key (received reception log) = reception.key ≡ key

abbrev Opens : TxnKey → Transaction → Type 0
Opens key (sends sending) = Unit {0}
Opens key (receives reception) = reception.key ≡ key

under_by : (key : TxnKey) (transaction : Transaction) (events : List Event) → Opens key transaction → IsUnder key (log_by transaction events)
under_by key (sends sending) events opens = tt
under_by key (receives reception) events opens = opens

opens_under : (side : LaneSide) (key : TxnKey) (event : Event) (transaction : Transaction) → opened_by side key event ≡ Some transaction → Opens key transaction
opens_under side key event (sends sending) is = tt
opens_under (Sending numbers greatest) key (Put request params) (receives reception) is = absurd cc
opens_under (Sending numbers greatest) key (On named event) (receives reception) is = absurd cc
opens_under (Receiving params) key (Put request others) (receives reception) is = absurd cc
opens_under (Receiving params) key (On named (what.Pdu pdu)) (receives reception) is =
    let opened : receiver.Reception = record { key = key; params = params; header = pdu.header } in
    subst (Opens key)
    (some_is (receives opened) (receives reception) (if_some (body_opens pdu.body) (Some (receives opened)) (receives reception) is).1) refl
opens_under (Receiving params) key (On named what.Cancel) (receives reception) is = absurd cc
opens_under (Receiving params) key (On named what.Suspend) (receives reception) is = absurd cc
opens_under (Receiving params) key (On named what.Resume) (receives reception) is = absurd cc
opens_under (Receiving params) key (On named what.Report) (receives reception) is = absurd cc
opens_under (Receiving params) key (On named what.Abandon) (receives reception) is = absurd cc
opens_under (Receiving params) key (On named what.Pump) (receives reception) is = absurd cc
opens_under (Receiving params) key (On named (what.Timer kind stamp)) (receives reception) is = absurd cc
opens_under (Receiving params) key (On named (what.Stored stamp kept)) (receives reception) is = absurd cc

mapped_under : (key : TxnKey) (opened : Option Transaction) (events : List Event) (log : Log)
    → ((transaction : Transaction) → opened ≡ Some transaction → Opens key transaction)
    → option_map (λ (t : Transaction). log_by t events) opened ≡ Some log → IsUnder key log
mapped_under key None events log opens is = absurd cc
mapped_under key (Some transaction) events log opens is =
    subst (IsUnder key) (some_is (log_by transaction events) log is) (under_by key transaction events (opens transaction refl))

pub log_under : (side : LaneSide) (source : EntityId) (number : ℕ) (journal : List Event) (log : Log)
    → log_from side source (Some number) journal ≡ Some log → IsUnder (key_at source number) log
log_under side source number [] log is = absurd cc
log_under side source number (first ∷ later) log is =
    mapped_under (key_at source number) (opened_by side (key_at source number) first) (first ∷ later) log
    (opens_under side (key_at source number) first) is

-- ---- what gives an image

pub no_image : (why : Refusal) (image : Image) → (let none : Result Image Refusal = Err why in none) ≡ Ok image → ⊥
no_image why image is = absurd cc

-- the lane has the key, and its log gives the image
pub record IsGivenBy (state : State) (key : TxnKey) (stamp : ℕ) (image : Image) : Type 0 where
  pub log : Log
  pub is_key : is_key state key ≡ true
  pub log_is : log_of state ≡ Some log
  pub given : image_in log stamp ≡ Ok image

pub given_by : (state : State) (key : TxnKey) (stamp : ℕ) (image : Image) (here : Bool) (found : Option Log) → is_key state key ≡ here → log_of state ≡ found
    → image_of state key stamp ≡ Ok image → IsGivenBy state key stamp image
given_by state key stamp image false found here is given = absurd (no_image refusal.StaleStored image (rw here at given))
given_by state key stamp image true None here is given = absurd (no_image refusal.StaleStored image (rw (here, is) at given))
given_by state key stamp image true (Some log) here is given =
    record { log = log; is_key = here; log_is = is; given = rw (here, is) at given }

pub stamp_is : (last : Option ℕ) (number : ℕ) → is_stamp last number ≡ true → last ≡ Some number
stamp_is None number is = absurd cc
stamp_is (Some l) number is = ap Some (eqb-true l number is)

pub same_key : (key : TxnKey) (source : EntityId) → (key.source.0 == source.0) ≡ true → key_at source key.seq ≡ key
same_key key source is =
    let same : source.0 ≡ key.source.0 = sym (eqb-true key.source.0 source.0 is) in
    ap (λ (n : ℕ). let k : TxnKey = record { source = record { 0 = n }; seq = key.seq } in k) same

-- only a deposit that waits has an image
pub waits_by : (log : List receiver.Entry) (stamp : ℕ) (image : Image) (waits : Bool) → is_stamp (receiver.state_of log).waiting stamp ≡ waits
    → image_at (receiver.state_of log) stamp ≡ Ok image → (receiver.state_of log).waiting ≡ Some stamp
waits_by log stamp image true waits given = stamp_is (receiver.state_of log).waiting stamp waits
waits_by log stamp image false waits given = absurd (no_image refusal.StaleStored image (rw waits at given))

pub given_is : (log : List receiver.Entry) (stamp : ℕ) (image : Image) (given : IsGiven (receiver.state_of log) stamp)
    → image_at (receiver.state_of log) stamp ≡ Ok image → given.image ≡ image
given_is log stamp image given is = same given.image image (sym given.given ∙ is)
  where
    same : (one other : Image) → (let ok : Result Image Refusal = Ok one in ok) ≡ Ok other → one ≡ other
    same one other e = cc

-- ---- the law

legal_of : (last : Option ℕ) (number : ℕ) (found : Option Log) (log : Log) → IsRun last found → last ≡ Some number → found ≡ Some log → IsLegal log
legal_of (Some l) number (Some other) log run last is = subst IsLegal (some_is other log is) run
legal_of (Some l) number None log run last is = absurd cc
legal_of None number found log run last is = absurd cc

own_by : (state : State) (key : TxnKey) (stamp : ℕ) (image : Image) (log : Log) → log_of state ≡ Some log → IsUnder key log → IsLegal log
    → image_in log stamp ≡ Ok image → IsOwnFile state key stamp image
own_by state key stamp image (sent sending log) log_is under legal is = absurd (no_image refusal.StaleStored image is)
own_by state key stamp image (received reception log) log_is under legal is =
    let waits = waits_by log stamp image (is_stamp (receiver.state_of log).waiting stamp) refl is in
    let good : IsGiven (receiver.state_of log) stamp = deposits_good reception log stamp legal waits in
    record {
      reception = reception;
      log = log;
      log_is = log_is;
      key_is = under;
      legal = legal;
      waits = waits;
      given = good;
      image_is = given_is log stamp image good is;
    }

pub gives_own_files : GivesOwnFiles
gives_own_files state key stamp image sound is =
    let given : IsGivenBy state key stamp image = given_by state key stamp image (is_key state key) (log_of state) refl refl is in
    let both = both_true (key.source.0 == state.source.0) (is_stamp state.last key.seq) given.is_key in
    let last : state.last ≡ Some key.seq = stamp_is state.last key.seq both.1 in
    let there : log_from state.side state.source (Some key.seq) state.journal ≡ Some given.log =
    ap (λ (o : Option ℕ). log_from state.side state.source o state.journal) (sym last) ∙ given.log_is in
    own_by state key stamp image given.log given.log_is
    (subst (λ (k : TxnKey). IsUnder k given.log) (same_key key state.source both.0) (log_under state.side state.source key.seq state.journal given.log there))
    (legal_of state.last key.seq (log_of state) given.log sound.run last given.log_is) given.given
