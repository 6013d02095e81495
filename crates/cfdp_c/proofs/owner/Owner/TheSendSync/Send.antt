use Rattle.std.specs.Prelude.{Option, Some, None}
use Rattle.cfdp_session.specs.declared.session.Session.{Session}
use mir.Raw.{raw}
use base.Shift.{Keyless}
use denote.Memory.{lone}
use denote.RawPtr.{Ptr}
use denote.Struct.Struct.{exits_of}
use denote.Struct.Owning.{shape, fields, to}
use denote.Param.Send.{IsSend, AllSend, owning_send, struct_send, sendable}
use Rattle.std.proofs.Crossing as heap
use Rattle.std_alloc.proofs.SendSync.{quiet, lies}
use Rattle.cfdp_session.specs.contracts.session.Session as State
use Rattle.cfdp_session.proofs.session.Session.TheSendSync.{the_send as state}
use Rattle.cfdp_c.specs.Owned.{owned}
use Rattle.cfdp_c.specs.contracts.owner.Owner.{the_row, the_type}

keyless : (p : Ptr) (o : Option Session) → Keyless (owned p o)
keyless p (Some x) = (lies State.the_row state p x, heap.frees.frees (record { memory = record { seal = tt } }) (raw (lone State.the_row.mir)) p)
keyless p None = tt

pub send : IsSend the_row
send =
    let all : AllSend (fields the_type) = (search sendable, tt) in
    owning_send the_type all (λ d. keyless d.at d.held)
    (λ k. quiet (to the_type) (exits_of k (fields the_type)) ((struct_send (shape the_type) all).leaving k))
