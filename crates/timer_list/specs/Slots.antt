-- Of the code. How a map keeps the list: the timers in order, with unused places between them.
use Rattle.std.specs.Prelude.{ℕ, ◌+◌, Bool, true, false, ◌&&◌, ◌==◌, List, [], ◌∷◌, Option, Some, None, is_some, option_and_then, nat_le, min, fold}
use Rattle.std.specs.List.{filter_map, list_all}
use Rattle.std.specs.Map.{lookup}
use Rattle.cfdp_types.specs.declared.key.TxnKey.{TxnKey}
use Rattle.cfdp_types.specs.declared.names.TimerKind.{TimerKind}
use Rattle.cfdp_types.specs.Steps.{is_kind}
use Rattle.timer_list.specs.declared.armed.Armed.{Armed}
use Rattle.timer_list.specs.declared.slot.Slot.{Slot}
use Rattle.timer_list.specs.declared.slot.Slot.TheVariants as slot
use Rattle.timer_list.specs.declared.slot.Run.{Run}
use Rattle.timer_list.specs.Timers.{is_key}

-- whether the place is this timer's
abbrev pub is_slot : TxnKey → TimerKind → Slot → Bool
is_slot key kind (slot.Timer other_key other_kind) = is_key key other_key && is_kind kind other_kind
is_slot key kind (slot.Vacant index) = false

-- the timer that runs at a place, if one does
abbrev pub timer_at : Slot → Option Run → Option Armed
timer_at (slot.Timer key kind) (Some run) = Some (record { key = key; kind = kind; stamp = run.stamp; deadline = run.deadline })
timer_at (slot.Timer key kind) None = None
timer_at (slot.Vacant index) run = None

-- whether a timer runs at the place
abbrev pub is_running : Slot → Option Run → Bool
is_running place run = is_some (timer_at place run)

-- the running timers, in order
abbrev pub timers_in : List (Slot × Option Run) → List Armed
timers_in entries = filter_map (λ entry. timer_at entry.0 entry.1) entries

-- the value at the timer's place, if it has one
abbrev pub value_at : TxnKey → TimerKind → List (Slot × Option Run) → Option (Option Run)
value_at key kind entries = lookup (is_slot key kind) entries

-- each unused place has its own number, where the first place has number `place`
abbrev pub are_in_place : ℕ → List Slot → Bool
are_in_place place [] = true
are_in_place place (slot.Timer key kind ∷ slots) = are_in_place (place + 1) slots
are_in_place place (slot.Vacant number ∷ slots) = (number == place) && are_in_place (place + 1) slots

-- whether two slots are the same place
abbrev pub same_slot : Slot → Slot → Bool
same_slot (slot.Timer key kind) other = is_slot key kind other
same_slot (slot.Vacant index) (slot.Vacant other) = index == other
same_slot (slot.Vacant index) (slot.Timer key kind) = false

-- the stamp and deadline of the timer, if it runs
abbrev pub run_at : TxnKey → TimerKind → List (Slot × Option Run) → Option Run
run_at key kind entries = option_and_then (λ run. run) (value_at key kind entries)

-- the stamp and deadline of an entry's timer
abbrev pub run_of : Armed → Run
run_of timer = record { stamp = timer.stamp; deadline = timer.deadline }

-- no entry expires before this time
abbrev pub none_before : ℕ → List Armed → Bool
none_before moment timers = list_all (λ timer. nat_le moment timer.deadline) timers

-- the earliest time at which an entry expires; the greatest 64-bit number where there is none
abbrev pub least_deadline : List Armed → ℕ
least_deadline timers = fold (λ least timer. min least timer.deadline) 18446744073709551615 timers
