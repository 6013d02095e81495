-- Worked timers that have expired.
use Rattle.std.proofs.Common.{◌≡◌, ℕ, Bool, true, false, [], ◌∷◌, map, Some, None, refl}
use Rattle.cfdp_types.specs.declared.names.TimerKind.{TimerKind}
use Rattle.cfdp_types.specs.declared.names.TimerKind.TheVariants.{Ack, Check, Inactivity, Nak}
use Rattle.timer_list.specs.declared.armed.Armed.{Armed}
use Rattle.program_agenda.specs.Expiries.{expiry_of}
use Rattle.program_agenda.specs.declared.expiry.Expiry.TheVariants.{Fires, Rests, RunsUntil}
use Rattle.program_agenda.specs.declared.expiry.TimedLink.{TimedLink}

-- a timer whose deadline was the moment 1,000, and a link to entity number 3 that was released at a moment
abbrev timer : TimerKind → Armed
timer kind = record { key = record { source = record { 0 = 2 }; seq = 4 }; kind = kind; stamp = 7; deadline = 1000 }

abbrev link : Bool → ℕ → TimedLink
link is_held released = record { remote = 3; is_held = is_held; released = released; silence = 500 }

-- each kind rests on a held link, whether it was released before or not
held : map (λ kind. expiry_of (timer kind) (Some (link true 0)) 1200) (Ack ∷ Nak ∷ Check ∷ Inactivity ∷ [])
    ≡ Rests 3 ∷ Rests 3 ∷ Rests 3 ∷ Rests 3 ∷ []
held = refl

held_again : expiry_of (timer Inactivity) (Some (link true 900)) 1200 ≡ Rests 3
held_again = refl

-- on an open link, and without one, each kind fires
opened : map (λ kind. expiry_of (timer kind) (Some (link false 0)) 1200) (Ack ∷ Nak ∷ Check ∷ Inactivity ∷ [])
    ≡ Fires ∷ Fires ∷ Fires ∷ Fires ∷ []
opened = refl

without_link : expiry_of (timer Inactivity) None 1200 ≡ Fires
without_link = refl

-- after a release silence counts anew, and other timers fire
released : map (λ kind. expiry_of (timer kind) (Some (link false 900)) 1200) (Ack ∷ Nak ∷ Check ∷ Inactivity ∷ [])
    ≡ Fires ∷ Fires ∷ Fires ∷ RunsUntil 1400 ∷ []
released = refl

-- at the end of that silence it fires, not a millisecond before
just_before : expiry_of (timer Inactivity) (Some (link false 900)) 1399 ≡ RunsUntil 1400
just_before = refl

at_its_end : expiry_of (timer Inactivity) (Some (link false 900)) 1400 ≡ Fires
at_its_end = refl
