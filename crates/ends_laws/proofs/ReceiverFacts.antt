-- What a receiver's file store gets where all that came agrees with a Put.
use Rattle.std.proofs.Common.{◌≡◌, ℕ, ◌+◌, ◌-◌, ◌<◌, ◌≤◌, Bool, true, false, nat_le, List, [], ◌∷◌, length, get_or, slice_get, if◌then◌else◌, is_some, IfSome, Option, Some, None, Ok, Result, refl, sym, ap, ◌∙◌, subst, arith}
use Rattle.std.proofs.lemmas.Bool.{true≢false, leb-true, eqb-true}
use Rattle.std.proofs.lemmas.List.{ext_get_or}
use Rattle.std.proofs.lemmas.Option.{slice_get_within, slice_get-get_or}
use Rattle.cfdp_types.specs.Condition as condition
use Rattle.cfdp_types.specs.Put.{PutValue}
use Rattle.cfdp_types.specs.Steps.{is_stamp}
use Rattle.cfdp_types.specs.declared.image.Image.{Image}
use Rattle.cfdp_types.specs.declared.key.Deposit.{Deposit}
use Rattle.cfdp_types.specs.declared.names.Class.{Class}
use Rattle.cfdp_types.specs.declared.names.Class.TheVariants.{One, Two}
use Rattle.cfdp_types.specs.declared.names.Delivery.{Delivery}
use Rattle.cfdp_types.specs.declared.names.Delivery.TheVariants.{Complete, Incomplete}
use Rattle.cfdp_types.specs.declared.names.FileStatus.{FileStatus}
use Rattle.cfdp_types.specs.declared.names.FileStatus.TheVariants.{Retained}
use Rattle.cfdp_types.specs.declared.names.Handler.{Handler}
use Rattle.cfdp_types.specs.declared.names.Handler.TheVariants as handler
use Rattle.cfdp_types.specs.declared.names.TimerKind.{TimerKind}
use Rattle.pdu_values.specs.declared.bodies.Eof.{Eof}
use Rattle.pdu_values.specs.declared.bodies.FileData.{FileData}
use Rattle.pdu_values.specs.declared.pdu.Body.{Body}
use Rattle.pdu_values.specs.declared.pdu.Body.TheVariants as body
use Rattle.txn_events.specs.Events.{body_of_event}
use Rattle.txn_events.specs.declared.answer.Answer.{Answer}
use Rattle.txn_events.specs.declared.event.What.{What}
use Rattle.txn_events.specs.declared.refusal.Refusal.{Refusal}
use Rattle.txn_events.specs.declared.event.What.TheVariants as what
use Rattle.receiver_table.specs.Reception.{Reception, Entry, State, initial, step, state_of, metadata_of, eof_of, file_data_of, octet_at, waiting_after}
use Rattle.receiver_table.specs.Refusals.{refusal_at}
use Rattle.receiver_table.specs.Answers.{response_to, with_event, handler_of, finish_response, fault_response, status_of, accepted_at, answer_at}
use Rattle.receiver_table.specs.Images.{image_of, image_at, or_stale}
use Rattle.receiver_laws.specs.LegalReceptions.{IsLegal}
use Rattle.receiver_laws.specs.ReceptionLaws.{IsGiven}
use Rattle.receiver_laws.proofs.ReceptionDeposits.{deposits_good}
use Rattle.ends_laws.specs.Agreement.{Describes, HasOctetsOf, AgreesWith, image_of_put}
use Rattle.ends_laws.specs.ReceiverLaws.{AllAgree, DepositsThePut, GivesThePut}
use Rattle.ends_laws.proofs.EntryFacts.{accepted_parts, older_both, if_there}

-- ---- what came, of which all agrees

record Fits (put : PutValue) (state : State) : Type 0 where
  pub metadata : IfSome state.metadata (Describes put)
  pub eof : IfSome state.eof (λ e. e.size ≡ length put.file)
  pub received : (i : ℕ) → IfSome (state.received i) (λ x. slice_get put.file i ≡ Some x)

metadata_fits : (put : PutValue) (b : Option Body) → IfSome b (AgreesWith put) → IfSome (metadata_of b) (Describes put)
metadata_fits put (Some (body.Metadata m)) agrees = agrees
metadata_fits put _ agrees = tt

size_fits : (put : PutValue) (e : Eof) (fine : Bool) → (e.condition ≡ condition.no_error → e.size ≡ length put.file)
    → (fine ≡ true → e.condition ≡ condition.no_error) → IfSome (if fine then Some e else None) (λ f. f.size ≡ length put.file)
size_fits put e true agrees is = agrees (is refl)
size_fits put e false agrees is = tt

eof_fits : (put : PutValue) (b : Option Body) → IfSome b (AgreesWith put) → IfSome (eof_of b) (λ e. e.size ≡ length put.file)
eof_fits put (Some (body.Eof e)) agrees = size_fits put e _ agrees (λ fine. eqb-true e.condition condition.no_error fine)
eof_fits put _ agrees = tt

same_octet : (file : List ℕ) (i : ℕ) (o : Option ℕ) → ((x : ℕ) → o ≡ Some x → slice_get file i ≡ Some x) → IfSome o (λ x. slice_get file i ≡ Some x)
same_octet file i None is = tt
same_octet file i (Some x) is = is x refl

part_octet : (file : List ℕ) (d : FileData) (i : ℕ) (reached : Bool) → HasOctetsOf file d → (reached ≡ true → d.offset ≤ i)
    → (x : ℕ) → (if reached then slice_get d.octets (i - d.offset) else None) ≡ Some x → slice_get file i ≡ Some x
part_octet file d i false has from x is = absurd cc
part_octet file d i true has from x is =
    let above : d.offset ≤ i = from refl in
    let place : d.offset + (i - d.offset) ≡ i = omega (arith, above) in
    ap (slice_get file) (sym place) ∙ has (i - d.offset) (slice_get_within d.octets (i - d.offset) x is) ∙ is

data_fits : (put : PutValue) (b : Option Body) (i : ℕ) → IfSome b (AgreesWith put)
    → IfSome (octet_at (file_data_of b) i) (λ x. slice_get put.file i ≡ Some x)
data_fits put (Some (body.FileData d)) i agrees =
    same_octet put.file i (octet_at (Some d) i) (part_octet put.file d i (nat_le d.offset i) agrees (λ reached. leb-true d.offset i reached))
data_fits put _ i agrees = tt

fits : (put : PutValue) (log : List Entry) → AllAgree put log → Fits put (state_of log)
unfolding initial step state_of
fits put [] agree = record { metadata = tt; eof = tt; received = λ i. tt }
fits put (entry ∷ front) agree =
    let before = fits put front agree.1 in
    let b = body_of_event entry.event in
    record {
      metadata = older_both (Describes put) (state_of front).metadata (metadata_of b) before.metadata (metadata_fits put b agree.0);
      eof = older_both (λ e. e.size ≡ length put.file) (state_of front).eof (eof_of b) before.eof (eof_fits put b agree.0);
      received = λ i. older_both (λ x. slice_get put.file i ≡ Some x) ((state_of front).received i) (octet_at (file_data_of b) i)
          (before.received i) (data_fits put b i agree.0);
    }

-- ---- images

same_image : (image : Image) (put : PutValue) → image.source_name ≡ put.source_name → image.destination_name ≡ put.destination_name
    → image.octets ≡ put.file → image ≡ image_of_put put
same_image image put source destination octets =
    ap (λ (s : List ℕ). let i : Image = record { source_name = s; destination_name = image.destination_name; octets = image.octets } in i) source
    ∙ ap (λ (d : List ℕ). let i : Image = record { source_name = put.source_name; destination_name = d; octets = image.octets } in i) destination
    ∙ ap (λ (o : List ℕ). let i : Image = record { source_name = put.source_name; destination_name = put.destination_name; octets = o } in i) octets

some_octet : (file octets : List ℕ) (i : ℕ) (o : Option ℕ) → is_some o ≡ true → IfSome o (λ x. slice_get file i ≡ Some x) → slice_get octets i ≡ o
    → slice_get octets i ≡ slice_get file i
some_octet file octets i None there same is = absurd cc
some_octet file octets i (Some x) there same is = is ∙ sym same

same_read : (xs ys : List ℕ) (i : ℕ) → i < length xs → i < length ys → slice_get xs i ≡ slice_get ys i → get_or xs i 0 ≡ get_or ys i 0
same_read xs ys i below within same =
    some_is (get_or xs i 0) (get_or ys i 0) (sym (slice_get-get_or xs i 0 below) ∙ same ∙ slice_get-get_or ys i 0 within)
  where
    some_is : (a b : ℕ) → Some a ≡ Some b → a ≡ b
    some_is a b e = cc

given_is : (put : PutValue) (state : State) (stamp : ℕ) → Fits put state → (given : IsGiven state stamp) → given.image ≡ image_of_put put
given_is put state stamp all given =
    let describes : Describes put given.good.metadata =
    if_there (Describes put) state.metadata given.good.metadata all.metadata given.good.metadata_came in
    let size : given.good.eof.size ≡ length put.file =
    if_there (λ e. e.size ≡ length put.file) state.eof given.good.eof all.eof given.good.eof_came in
    let long = given.size in
    same_image given.image put (given.source_name ∙ describes.source_name) (given.destination_name ∙ describes.destination_name)
    (ext_get_or 0 given.image.octets put.file (long ∙ size)
    (λ i below.
    let under : i < given.good.eof.size = omega (arith, long, below) in
    let within : i < length put.file = omega (arith, size, under) in
    same_read given.image.octets put.file i below within
    (some_octet put.file given.image.octets i (state.received i) (given.good.none_missing i under) (all.received i) (given.octets i under))))

-- while a deposit waits, the Put's file is given
pub waiting_gives : (put : PutValue) (reception : Reception) (log : List Entry) (stamp : ℕ) → IsLegal reception log → AllAgree put log
    → (state_of log).waiting ≡ Some stamp → image_at (state_of log) stamp ≡ Ok (image_of_put put)
waiting_gives put reception log stamp legal agree waits =
    let given = deposits_good reception log stamp legal waits in
    given.given ∙ ap Ok (given_is put (state_of log) stamp (fits put log agree) given)

-- a stamp that is the one that waits
pub waits_at : (waiting : Option ℕ) (stamp : ℕ) → is_stamp waiting stamp ≡ true → waiting ≡ Some stamp
waits_at None stamp is = absurd cc
waits_at (Some kept) stamp is = ap Some (eqb-true kept stamp is)

given_then : (waits : Bool) (o : Option Image) (image : Image) → (if waits then or_stale o else or_stale None) ≡ Ok image → waits ≡ true
given_then true o image e = refl
given_then false o image e = absurd cc

pub gives_the_put : GivesThePut
gives_the_put put reception log stamp image legal agree is =
    let state = state_of log in
    let waits = waits_at state.waiting stamp (given_then (is_stamp state.waiting stamp) (image_of state.received state.metadata state.eof) image is) in
    ok_is (image_at state stamp) image (image_of_put put) is (waiting_gives put reception log stamp legal agree waits)
  where
    ok_is : (given : Result Image Refusal) (one other : Image) → given ≡ Ok one → given ≡ Ok other → one ≡ other
    ok_is given one other first second = cc

-- ---- deposits

-- the file store's answer hands nothing out
finish_hands_out : (reception : Reception) (state : State) (code : ℕ) (delivery : Delivery) (status : FileStatus) (class : Class) → reception.header.class ≡ class
    → (finish_response reception state code delivery status).deposit ≡ false
finish_hands_out reception state code delivery status One is = rw is refl
finish_hands_out reception state code delivery status Two is = rw is refl

fault_hands_out : (reception : Reception) (state : State) (kinds : List TimerKind) (code : ℕ) (h : Handler) → handler_of reception code ≡ h
    → (fault_response reception state kinds code).deposit ≡ false
fault_hands_out reception state kinds code handler.Cancel is = rw is (finish_hands_out reception state code Incomplete (status_of code) reception.header.class refl)
fault_hands_out reception state kinds code handler.Suspend is = rw is refl
fault_hands_out reception state kinds code handler.Ignore is = rw is refl
fault_hands_out reception state kinds code handler.Abandon is = rw is refl

stored_hands_out : (reception : Reception) (front now : State) (stamp : ℕ) (kept : Bool) → (response_to reception front now (what.Stored stamp kept)).deposit ≡ false
stored_hands_out reception front now stamp true = finish_hands_out reception now condition.no_error Complete Retained reception.header.class refl
stored_hands_out reception front now stamp false = fault_hands_out reception now [] condition.filestore_rejection _ refl

handed : (so : Bool) (own deposit : Deposit) → (if so then Some own else None) ≡ Some deposit → so ≡ true
handed true own deposit e = refl
handed false own deposit e = absurd cc

-- what is handed out waits from then on
waits_after : (waiting : Option ℕ) (event : What) (given : Option Deposit) (deposit : Deposit) → given ≡ Some deposit
    → ((stamp : ℕ) (kept : Bool) → event ≡ what.Stored stamp kept → ⊥) → waiting_after waiting event given ≡ Some deposit.stamp
waits_after waiting (what.Stored stamp kept) given deposit is other = absurd (other stamp kept refl)
waits_after waiting what.Cancel given deposit is other = rw is refl
waits_after waiting what.Suspend given deposit is other = rw is refl
waits_after waiting what.Resume given deposit is other = rw is refl
waits_after waiting what.Report given deposit is other = rw is refl
waits_after waiting what.Abandon given deposit is other = rw is refl
waits_after waiting what.Pump given deposit is other = rw is refl
waits_after waiting (what.Pdu pdu) given deposit is other = rw is refl
waits_after waiting (what.Timer kind stamp) given deposit is other = rw is refl

pub was_accepted : (reception : Reception) (front : State) (event : What) (answer : Answer) → answer_at reception front event ≡ Ok answer
    → (refusal_at reception front event ≡ None) × (answer ≡ accepted_at reception front event)
unfolding answer_at
was_accepted reception front event answer e = accepted_parts (refusal_at reception front event) (accepted_at reception front event) answer e

deposit_waits : (reception : Reception) (entry : Entry) (front : List Entry) (deposit : Deposit) → IsLegal reception (entry ∷ front)
    → entry.answer.deposit ≡ Some deposit → (state_of (entry ∷ front)).waiting ≡ Some deposit.stamp
unfolding step state_of
deposit_waits reception entry front deposit legal is =
    let state = state_of front in
    let given = was_accepted reception state entry.event entry.answer legal.2 in
    let now = with_event state entry.event in
    waits_after state.waiting entry.event entry.answer.deposit deposit is
    (λ stamp kept stored.
    let so = handed (response_to reception state now entry.event).deposit _ deposit (sym (ap (λ (a : Answer). a.deposit) given.1) ∙ is) in
    let none : (response_to reception state now entry.event).deposit ≡ false =
    subst (λ e. (response_to reception state (with_event state e) e).deposit ≡ false) (sym stored)
    (stored_hands_out reception state (with_event state (what.Stored stamp kept)) stamp kept) in
    true≢false (sym so ∙ none))

pub deposits_the_put : DepositsThePut
deposits_the_put put reception entry front deposit legal agree is =
    waiting_gives put reception (entry ∷ front) deposit.stamp legal agree (deposit_waits reception entry front deposit legal is)
