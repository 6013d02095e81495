-- Rows as the code makes them.
use Rattle.std.proofs.Common.{◌≡◌, ℕ, Bool, List, [], ◌++◌, Option, Result, Ok, Err, IfOk, refl, sym, ap, ◌∙◌, append-nil}
use Rattle.cfdp_types.specs.declared.names.Class.{Class}
use Rattle.cfdp_types.specs.declared.names.Class.TheVariants.{One, Two}
use Rattle.cfdp_types.specs.declared.names.TimerKind.{TimerKind}
use Rattle.indications.specs.declared.indication.Indication.{Indication}
use Rattle.pdu_values.specs.declared.bodies.Finished.{Finished}
use Rattle.receiver_table.specs.Reception.{Reception}
use Rattle.receiver_table.specs.Answers as table
use Rattle.receiver_table.specs.Answers.{nothing, tells, acknowledges, ◌and_then◌}
use Rattle.receiver_parts.specs.Response.{only, IsResponse, response_value, arms_of}
use Rattle.receiver_parts.specs.declared.response.Response as response_type

pub only_is : (inds : List Indication) → IsResponse (only inds) (tells inds)
only_is inds = record { inds = refl; ack = refl; nak = refl; keep_alive = refl; finished = refl; deposit = refl; arms = refl }

-- where nothing was told before
pub alone : {E : Type 0} (result : Result response_type.Response E) (inds : List Indication) (wanted : table.Response) → inds ≡ [] → IfOk result (λ response. IsResponse response (tells inds and_then wanted))
    → IfOk result (λ response. IsResponse response wanted)
alone (Ok response) inds wanted none is = record {
  inds = is.inds ∙ ap (λ l. l ++ wanted.inds) none;
  ack = is.ack;
  nak = is.nak;
  keep_alive = is.keep_alive;
  finished = is.finished;
  deposit = is.deposit;
  arms = is.arms;
}
alone (Err e) inds wanted none is = tt

by_class : (reception : Reception) (code : ℕ) (inds : List Indication) (response : response_type.Response) (class : Class) → reception.header.class ≡ class
    → IsResponse response (acknowledges reception code and_then tells inds) → IsResponse response (tells inds and_then acknowledges reception code)
by_class reception code inds response One e is = rw e (record { inds = (rw e at is).inds ∙ sym (append-nil inds); ack = (rw e at is).ack; nak = (rw e at is).nak; keep_alive = (rw e at is).keep_alive; finished = (rw e at is).finished; deposit = (rw e at is).deposit; arms = (rw e at is).arms })
by_class reception code inds response Two e is = rw e (record { inds = (rw e at is).inds ∙ sym (append-nil inds); ack = (rw e at is).ack; nak = (rw e at is).nak; keep_alive = (rw e at is).keep_alive; finished = (rw e at is).finished; deposit = (rw e at is).deposit; arms = (rw e at is).arms })

pub acknowledged_last : (reception : Reception) (code : ℕ) (inds : List Indication) (response : response_type.Response)
    → IsResponse response (acknowledges reception code and_then tells inds) → IsResponse response (tells inds and_then acknowledges reception code)
acknowledged_last reception code inds response is = by_class reception code inds response reception.header.class refl is

alone_by_class : (reception : Reception) (code : ℕ) (response : response_type.Response) (class : Class) → reception.header.class ≡ class
    → IsResponse response (acknowledges reception code and_then tells []) → IsResponse response (acknowledges reception code)
alone_by_class reception code response One e is = rw e (record { inds = (rw e at is).inds; ack = (rw e at is).ack; nak = (rw e at is).nak; keep_alive = (rw e at is).keep_alive; finished = (rw e at is).finished; deposit = (rw e at is).deposit; arms = (rw e at is).arms })
alone_by_class reception code response Two e is = rw e (record { inds = (rw e at is).inds; ack = (rw e at is).ack; nak = (rw e at is).nak; keep_alive = (rw e at is).keep_alive; finished = (rw e at is).finished; deposit = (rw e at is).deposit; arms = (rw e at is).arms })

pub acknowledged_alone : (reception : Reception) (code : ℕ) (response : response_type.Response)
    → IsResponse response (acknowledges reception code and_then tells []) → IsResponse response (acknowledges reception code)
acknowledged_alone reception code response is = alone_by_class reception code response reception.header.class refl is

made_row : List Indication → Option ℕ → Bool → Bool → Option Finished → Bool → List TimerKind → table.Response
made_row inds ack nak keep_alive finished deposit arms = record { inds = inds; ack = ack; nak = nak; keep_alive = keep_alive; finished = finished; deposit = deposit; arms = arms }

same_row : (inds inds' : List Indication) (ack ack' : Option ℕ) (nak nak' keep keep' : Bool) (finished finished' : Option Finished) (deposit deposit' : Bool) (arms arms' : List TimerKind)
    → inds ≡ inds' → ack ≡ ack' → nak ≡ nak' → keep ≡ keep' → finished ≡ finished' → deposit ≡ deposit' → arms ≡ arms'
    → made_row inds ack nak keep finished deposit arms ≡ made_row inds' ack' nak' keep' finished' deposit' arms'
same_row inds inds' ack ack' nak nak' keep keep' finished finished' deposit deposit' arms arms' a b c d e f g = cc

-- the response that the table wants
pub response_is : (response : response_type.Response) (wanted : table.Response) → IsResponse response wanted → response_value response ≡ wanted
unfolding made_row
response_is response wanted is =
    same_row response.inds wanted.inds response.ack wanted.ack response.nak wanted.nak response.keep_alive wanted.keep_alive response.finished wanted.finished response.deposit wanted.deposit (arms_of response) wanted.arms
    is.inds is.ack is.nak is.keep_alive is.finished is.deposit is.arms
