-- Meaning. What a handle in C's hands owns.
use Rattle.std.specs.Prelude.{Bool, true, false, Option, Some, None}
use mir.Syntax.{Ty}
use base.Fml.{Fml, ftrue}
use denote.RawPtr.{Ptr}
use Rattle.std.specs.contracts.impls.GlobalAllocator.TheImpl.{ghosts}
use Rattle.std_alloc.specs.Box.Ownership.{box_owns}
use Rattle.cfdp_session.specs.contracts.session.Session.{the_row}
use Rattle.cfdp_session.specs.declared.session.Session.{Session}

-- the right to free a block of the C library's heap
abbrev pub heap_token : Ty → Ptr → Fml
heap_token = ghosts.dealloc_token (record { memory = record { seal = tt } })

-- the session on the heap at this pointer, with the right to free its block, or nothing
abbrev pub owned : Ptr → Option Session → Fml
owned p (Some x) = box_owns heap_token the_row p x
owned p None = ftrue

-- whether there is a session
abbrev pub is_full : Option Session → Bool
is_full (Some x) = true
is_full None = false
