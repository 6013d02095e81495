-- Worked lists of timers: what operations and moments make of them.
use Rattle.std.proofs.Common.{◌≡◌, ℕ, true, false, List, [], ◌∷◌, Some, None, refl}
use Rattle.cfdp_types.specs.declared.key.TxnKey.{TxnKey}
use Rattle.cfdp_types.specs.declared.names.TimerKind.{TimerKind}
use Rattle.cfdp_types.specs.declared.names.TimerKind.TheVariants.{Ack, Nak}
use Rattle.cfdp_types.specs.declared.timer_op.TimerOp.TheVariants as op
use Rattle.timer_list.specs.declared.armed.Armed.{Armed}
use Rattle.timer_list.specs.Timers.{after, arms_new, first_due, has_timer, without_due}

abbrev key : ℕ → TxnKey
key seq = record { source = record { 0 = 1 }; seq = seq }

abbrev timer : ℕ → TimerKind → ℕ → ℕ → Armed
timer seq kind stamp deadline = record { key = key seq; kind = kind; stamp = stamp; deadline = deadline }

-- three timers, of which the second was armed by a later step
abbrev three : List Armed
three = timer 5 Ack 1 1000 ∷ timer 5 Nak 3 500 ∷ timer 7 Nak 1 800 ∷ []

new_goes_last : after (op.Arm (key 7) Ack 2 1000) 20 three ≡ timer 5 Ack 1 1000 ∷ timer 5 Nak 3 500 ∷ timer 7 Nak 1 800 ∷ timer 7 Ack 2 1020 ∷ []
new_goes_last = refl

again_keeps_place : after (op.Arm (key 5) Ack 4 1000) 900 three ≡ timer 5 Ack 4 1900 ∷ timer 5 Nak 3 500 ∷ timer 7 Nak 1 800 ∷ []
again_keeps_place = refl

same_step_counts : after (op.Arm (key 5) Nak 3 1000) 0 three ≡ timer 5 Ack 1 1000 ∷ timer 5 Nak 3 1000 ∷ timer 7 Nak 1 800 ∷ []
same_step_counts = refl

late_arming : after (op.Arm (key 5) Nak 2 1000) 0 three ≡ three
late_arming = refl

late_disarming : after (op.Disarm (key 5) Nak 2) 0 three ≡ three
late_disarming = refl

disarming : after (op.Disarm (key 5) Nak 4) 0 three ≡ timer 5 Ack 1 1000 ∷ timer 7 Nak 1 800 ∷ []
disarming = refl

same_step_disarms : after (op.Disarm (key 5) Nak 3) 0 three ≡ timer 5 Ack 1 1000 ∷ timer 7 Nak 1 800 ∷ []
same_step_disarms = refl

nothing_to_disarm : after (op.Disarm (key 9) Nak 4) 0 three ≡ three
nothing_to_disarm = refl

last_moment : after (op.Arm (key 5) Nak 1 10) 18446744073709551610 [] ≡ timer 5 Nak 1 18446744073709551615 ∷ []
last_moment = refl

none_is_due : first_due 499 three ≡ None
none_is_due = refl

due_at_deadline : first_due 500 three ≡ Some (timer 5 Nak 3 500)
due_at_deadline = refl

-- the first of the list, not the one that expired first
first_of_list : first_due 1000 three ≡ Some (timer 5 Ack 1 1000)
first_of_list = refl

others_stay : without_due 500 three ≡ timer 5 Ack 1 1000 ∷ timer 7 Nak 1 800 ∷ []
others_stay = refl

nothing_taken : without_due 499 three ≡ three
nothing_taken = refl

has_its_timer : has_timer (key 7) Nak three ≡ true
has_its_timer = refl

lacks_other_kind : has_timer (key 7) Ack three ≡ false
lacks_other_kind = refl

lacks_other_source : has_timer (record { source = record { 0 = 2 }; seq = 7 }) Nak three ≡ false
lacks_other_source = refl

arming_needs_room : arms_new (op.Arm (key 7) Ack 1 1000) three ≡ true
arming_needs_room = refl

rearming_needs_none : arms_new (op.Arm (key 7) Nak 1 1000) three ≡ false
rearming_needs_none = refl

disarming_needs_none : arms_new (op.Disarm (key 7) Ack 1) three ≡ false
disarming_needs_none = refl
