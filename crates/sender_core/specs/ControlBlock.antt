-- Of the code. How the code keeps the state of a sender.
use Rattle.std.specs.Prelude.{◌≡◌, ℕ, ◌-◌, ◌<◌, ◌≤◌, Bool, true, false, Option, Some, None}
use Rattle.cfdp_types.specs.declared.limits.TheConstants.{JOURNAL_ENTRIES, JOURNAL_ENTRIES_KEPT}
use Rattle.pdu_values.specs.declared.bodies.Eof.{Eof}
use Rattle.sender_table.specs.Sending.{State}
use Rattle.txn_events.specs.Timers.{stamp_of, tries_of, AreFew}
use Rattle.sender_core.specs.declared.control.ControlBlock.{ControlBlock}

-- the state of a sender with a control block, and with these offsets remaining to be sent
abbrev pub state_from : ControlBlock → (ℕ → Bool) → State
state_from control remains = record {
  entries = control.entries;
  metadata_remains = control.metadata_remains;
  remains = remains;
  progress = control.progress;
  eof = control.eof;
  acknowledged = control.acknowledged;
  paused = control.paused;
  armed = stamp_of control.armed;
  tries = tries_of control.tries;
  ended = control.ended;
}

-- the control block before the Put, but for its number of entries
abbrev pub first : ℕ → ControlBlock
first entries = record {
  entries = entries;
  metadata_remains = true;
  progress = 0;
  eof = None;
  acknowledged = false;
  paused = false;
  ended = false;
  armed = record { ack = None; nak = None; check = None; inactivity = None };
  tries = record { ack = 0; nak = 0; check = 0; inactivity = 0 };
}

-- no offset
abbrev pub nowhere : ℕ → Bool
nowhere i = false

-- the size in an EOF, 0 if there is none
abbrev pub eof_size : Option Eof → ℕ
eof_size None = 0
eof_size (Some e) = e.size

-- numbers can be incremented, the journal has room until an end is issued, and nothing beyond the file was sent
pub record IsSound (size : ℕ) (control : ControlBlock) : Type 0 where
  pub few : AreFew control.entries control.tries
  pub goes_on : control.ended ≡ false → control.entries ≤ JOURNAL_ENTRIES - JOURNAL_ENTRIES_KEPT
  pub progress : control.progress ≤ size
  pub eof : eof_size control.eof ≤ size

-- all offsets that remain to be sent are in the file
abbrev pub IsInside : ℕ → (ℕ → Bool) → Type 0
IsInside size remains = (i : ℕ) → remains i ≡ true → i < size
