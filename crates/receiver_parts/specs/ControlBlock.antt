-- Of the code. How the code keeps the state of a reception.
use Rattle.std.specs.Prelude.{◌≡◌, ℕ, ◌≤◌, ◌-◌, ◌+◌, false, is_some, Option, None, Some, true}
use Rattle.cfdp_types.specs.declared.limits.TheConstants.{FILE_OCTETS, JOURNAL_ENTRIES, JOURNAL_ENTRIES_KEPT}
use Rattle.txn_events.specs.Timers.{stamp_of, tries_of, AreFew}
use Rattle.pdu_values.specs.declared.bodies.Eof.{Eof}
use Rattle.pdu_values.specs.declared.bodies.Metadata.{Metadata}
use Rattle.receiver_table.specs.Reception.{State}
use Rattle.receiver_parts.specs.declared.control.ControlBlock.{ControlBlock}

-- the state of a reception with a control block, this Metadata and these octets
abbrev pub state_from : ControlBlock → Option Metadata → (ℕ → Option ℕ) → State
state_from control metadata received = record {
  entries = control.entries;
  received = received;
  progress = control.progress;
  metadata = metadata;
  closure = control.closure;
  eof = control.eof;
  waiting = control.waiting;
  finished = control.finished;
  paused = control.paused;
  armed = stamp_of control.armed;
  tries = tries_of control.tries;
  ended = control.ended;
}

-- no octet
abbrev pub nowhere : ℕ → Option ℕ
nowhere i = None

-- the state of a control block, without Metadata and octets
abbrev pub bare : ControlBlock → State
bare control = state_from control None nowhere

-- the control block before the first event
abbrev pub first : ControlBlock
first = record {
  entries = 0;
  progress = 0;
  closure = None;
  eof = None;
  waiting = None;
  finished = None;
  paused = false;
  ended = false;
  armed = record { ack = None; nak = None; check = None; inactivity = None };
  tries = record { ack = 0; nak = 0; check = 0; inactivity = 0 };
}

-- the size in an EOF, 0 if there is none
abbrev pub eof_size : Option Eof → ℕ
eof_size None = 0
eof_size (Some e) = e.size

-- the size in the EOF is not beyond the largest file
abbrev pub IsSmall : ControlBlock → Type 0
IsSmall control = eof_size control.eof ≤ FILE_OCTETS

-- numbers can be incremented; the journal has room until an end is issued, and one more place while the file
-- store is asked
pub record IsSound (control : ControlBlock) : Type 0 where
  pub few : AreFew control.entries control.tries
  pub small : IsSmall control
  pub goes_on : control.ended ≡ false → control.entries + 1 ≤ JOURNAL_ENTRIES
  pub asks : control.ended ≡ false → is_some control.waiting ≡ true → control.entries ≤ JOURNAL_ENTRIES - JOURNAL_ENTRIES_KEPT
