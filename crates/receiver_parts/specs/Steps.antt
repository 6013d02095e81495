-- Of the code. How the code computes what follows an event and its response.
use Rattle.std.specs.Prelude.{◌≡◌, ◌+◌, max, ◌||◌, Bool, [], false, Option, None}
use Rattle.std.specs.List.{list_any}
use Rattle.cfdp_types.specs.Steps.{newer_or, older_or}
use Rattle.cfdp_types.specs.declared.key.Deposit.{Deposit}
use Rattle.cfdp_types.specs.declared.names.TimerKind.{TimerKind}
use Rattle.txn_events.specs.Timers.{tries_of, tries_by}
use Rattle.indications.specs.Words.{paused_after}
use Rattle.indications.specs.Words.{is_end}
use Rattle.txn_events.specs.declared.event.What.{What}
use Rattle.txn_events.specs.Events.{body_of_event}
use Rattle.receiver_table.specs.Reception.{is_storing, is_suspended, waiting_after, closure_of, eof_of, extent_of, file_data_of}
use Rattle.receiver_parts.specs.ControlBlock.{bare}
use Rattle.receiver_parts.specs.declared.response.Response as response_type
use Rattle.receiver_parts.specs.declared.control.ControlBlock.{ControlBlock}

-- all timers are stopped: the transaction has ended, waits for the file store, or is suspended
abbrev pub is_quiet : ControlBlock → Bool
is_quiet next = next.ended || is_storing (bare next) || is_suspended (bare next)

-- `now` is the control block with the event, before it is answered; `more` says whether the event brings more of the
-- file
pub record IsWithEvent (control : ControlBlock) (event : What) (more : Bool) (now : ControlBlock) : Type 0 where
  pub entries : now.entries ≡ control.entries + 1
  pub progress : now.progress ≡ max control.progress (extent_of (file_data_of (body_of_event event)))
  pub closure : now.closure ≡ older_or control.closure (closure_of (body_of_event event))
  pub eof : now.eof ≡ older_or control.eof (eof_of (body_of_event event))
  pub waiting : now.waiting ≡ waiting_after control.waiting event None
  pub finished : now.finished ≡ control.finished
  pub paused : now.paused ≡ control.paused
  pub ended : now.ended ≡ control.ended
  pub armed : now.armed ≡ control.armed
  pub tries : (kind : TimerKind) → tries_of now.tries kind ≡ tries_by event [] (record { ack = false; nak = more }) kind (tries_of control.tries kind)

-- `next` is the control block after an event, its response and its deposit, but for the timers that run
pub record IsNext (control : ControlBlock) (now : ControlBlock) (event : What) (response : response_type.Response) (deposit : Option Deposit) (more : Bool) (next : ControlBlock) : Type 0 where
  pub entries : next.entries ≡ now.entries
  pub progress : next.progress ≡ now.progress
  pub closure : next.closure ≡ now.closure
  pub eof : next.eof ≡ now.eof
  pub waiting : next.waiting ≡ waiting_after control.waiting event deposit
  pub finished : next.finished ≡ newer_or response.finished control.finished
  pub paused : next.paused ≡ paused_after control.paused response.inds
  pub ended : next.ended ≡ (control.ended || list_any is_end response.inds)
  pub tries : (kind : TimerKind) → tries_of next.tries kind ≡ tries_by event response.inds (record { ack = false; nak = more }) kind (tries_of control.tries kind)
