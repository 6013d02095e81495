-- Rows. What lanes accept and send in a run, and the numbers of sending lanes.
use Rattle.std.proofs.Common.{◌≡◌, ◌≤◌, ℕ, List, [], ◌∷◌, Option, Some, ap, arith, refl}
use Rattle.cfdp_types.specs.Reference.{reference}
use Rattle.cfdp_types.specs.declared.key.EntityId.{EntityId}
use Rattle.cfdp_types.specs.declared.names.Class.TheVariants.{One, Two}
use Rattle.cfdp_types.specs.declared.names.Delivery.TheVariants.{Incomplete}
use Rattle.cfdp_types.specs.declared.names.FileStatus.TheVariants.{Unreported}
use Rattle.gap_list.specs.Runs.{runs_of, runs_from}
use Rattle.indications.specs.declared.bundle.Bundle.{Bundle}
use Rattle.indications.specs.declared.indication.Indication.{Indication}
use Rattle.indications.specs.declared.indication.Indication.TheVariants as told
use Rattle.indications.specs.LaneLists.{IsLaneList}
use Rattle.indications.specs.declared.side.Side.TheVariants as side
use Rattle.sender_table.specs.Sending as sender
use Rattle.txn_events.specs.Examples.{header}
use Rattle.pdu_values.specs.declared.pdu.Body.TheVariants as body
use Rattle.pdu_values.specs.declared.bodies.Prompt.TheVariants as prompt
use Rattle.txn_events.specs.declared.event.Event.{Event}
use Rattle.txn_events.specs.declared.event.Event.TheVariants.{On}
use Rattle.txn_events.specs.declared.event.What.{What}
use Rattle.txn_events.specs.declared.event.What.TheVariants as what
use Rattle.lane_table.specs.declared.lane_side.LaneSide.TheVariants.{Sending, Receiving}
use Rattle.lane_table.specs.declared.lane_side.Numbers.{Numbers}
use Rattle.lane_table.specs.Lane.{number_at, number_after, IsNumberOf, IsNumbered}
use Rattle.lane_table.specs.Steps.{IsKeyed, stepped}
use Rattle.lane_table.specs.Keeping.{AreSent, Keeps, bundle_of, sent_after, events_of, AreTaken}
use Rattle.lane_table.proofs.RunFacts.{sends_lane_lists}
use Rattle.lane_table.proofs.SentFacts.{some_is}
use Rattle.lane_table.proofs.StepFacts.{idle_keeps}
use Rattle.world_rows.specs.ReceivingLaneRows as receiving
use Rattle.world_rows.specs.SendingLaneRows as sending

-- ---- the key of an event

-- an event with a PDU has the PDU's key
pub keyed_pdu : IsKeyed (receiving.metadata Two 5)
keyed_pdu = (refl, refl)

-- a PDU of number 5, with the key of another number and with that of another source
abbrev pub prompt_of_five : What
prompt_of_five = what.Pdu (record { header = header Two; body = body.Prompt prompt.Nak })

five_six : (five six : ℕ) → five ≡ six → five ≡ 5 → six ≡ 6 → ⊥
five_six five six e five_is six_is = omega (arith, e, five_is, six_is)

pub other_number : IsKeyed (On (receiving.key 6) prompt_of_five) → ⊥
other_number keyed = five_six 5 6 keyed.1 refl refl

one_two : (one two : ℕ) → one ≡ two → one ≡ 1 → two ≡ 2 → ⊥
one_two one two e one_is two_is = omega (arith, e, one_is, two_is)

pub other_source : IsKeyed (On (sending.key 5) prompt_of_five) → ⊥
other_source keyed = no_one keyed.0
  where
    no_one : (receiving.key 5).source ≡ (sending.key 5).source → ⊥
    no_one e = one_two 1 2 (ap (λ (id : EntityId). id.0) e) refl refl

-- other events may have any key
pub keyed_report : IsKeyed (On (receiving.key 6) what.Report)
keyed_report = tt

pub keyed_put : IsKeyed (sending.put One)
keyed_put = tt

-- ---- numbers

-- five users with three lanes each, which count from one
abbrev pub numbers : Numbers
numbers = record { first = 1; lanes = 3; users = 5 }

pub first_number : number_at numbers 4 2 1 ≡ 29
first_number = refl

pub second_number : number_after numbers 4 2 (Some 29) ≡ 44
second_number = refl

-- the numbers give back user and lane
pub gives_back : IsNumberOf numbers 4 2 44
gives_back = record { of_user = refl; of_lane = refl }

-- without lanes, or without users, there are no numbers
pub numbered : IsNumbered (Sending (record { first = 1; lanes = 3; users = 5 }) 255)
numbered = (omega (arith), omega (arith))

pub no_lanes : IsNumbered (Sending (record { first = 1; lanes = 0; users = 5 }) 255) → ⊥
no_lanes is = let none = is.0 in omega (arith, none)

pub no_users : IsNumbered (Sending (record { first = 1; lanes = 3; users = 0 }) 255) → ⊥
no_users is = let none = is.1 in omega (arith, none)

pub receiving_numbered : IsNumbered (Receiving reference)
receiving_numbered = tt

-- ---- runs

-- a lane that accepts nothing sends nothing
pub nothing_taken : AreTaken receiving.fresh []
nothing_taken = tt

pub nothing_sent : sent_after receiving.fresh [] ≡ []
nothing_sent = refl

-- and it knows that it sent no bundle
pub nothing_kept : Keeps receiving.fresh []
nothing_kept = idle_keeps (Receiving reference) 0 2 (record { 0 = 1 })

-- a Put, which is cancelled, and another Put
abbrev pub puts : List Event
puts = sending.put One ∷ sending.on 4 what.Cancel ∷ sending.put One ∷ []

pub puts_taken : AreTaken sending.fresh puts
unfolding sender.initial sender.step sender.state_of runs_of runs_from
puts_taken = (tt, refl, (tt, refl, (tt, refl, tt)))

-- a bundle of the lane
abbrev pub bundle : ℕ → List Indication → Bundle
bundle number inds = record { user = 0; lane = 0; key = sending.key number; inds = inds }

pub put_bundle : bundle_of (stepped sending.fresh (sending.put One)) ≡ bundle 4 (told.Transaction ∷ []) ∷ []
unfolding sender.initial sender.step sender.state_of runs_of runs_from
put_bundle = refl

pub puts_sent : sent_after sending.fresh puts
    ≡ bundle 4 (told.Transaction ∷ []) ∷ bundle 4 (told.TransactionFinished 15 Incomplete Unreported ∷ []) ∷ bundle 8 (told.Transaction ∷ []) ∷ []
unfolding sender.initial sender.step sender.state_of runs_of runs_from
puts_sent = refl

-- the events of each transaction
pub first_events : events_of 4 sending.fresh puts ≡ sending.put One ∷ sending.on 4 what.Cancel ∷ []
first_events = refl

pub second_events : events_of 8 sending.fresh puts ≡ sending.put One ∷ []
second_events = refl

-- so what the lane sends is a lane list
pub puts_list : IsLaneList 0 0 (record { 0 = 2 }) (sent_after sending.fresh puts)
puts_list = sends_lane_lists sending.fresh.side 0 0 (record { 0 = 2 }) puts (omega (arith), omega (arith)) puts_taken

-- there is no bundle with a number between the one before the last and the last
abbrev ended_and_begun : List Bundle
ended_and_begun = bundle 4 (told.Transaction ∷ told.TransactionFinished 15 Incomplete Unreported ∷ []) ∷ bundle 8 (told.Transaction ∷ []) ∷ []

not_above_the_one_before : AreSent side.Sender 0 0 (record { 0 = 2 }) (Some 8) (Some 3) (told.Transaction ∷ []) ended_and_begun → ⊥
not_above_the_one_before sent =
    let up_to : 4 ≤ 3 = (sent.others 4 refl not_the_last).0 in omega (arith, up_to)
  where
    not_the_last : (let last : Option ℕ = Some 8 in last) ≡ Some 4 → ⊥
    not_the_last e = let number : 8 ≡ 4 = some_is 8 4 e in omega (arith, number)

-- nor a bundle of the other end
no_receiver : side.Receiver ≡ side.Sender → ⊥
no_receiver e = cc

not_of_the_other_end : AreSent side.Receiver 0 0 (record { 0 = 2 }) (Some 8) (Some 4) (told.Transaction ∷ []) ended_and_begun → ⊥
not_of_the_other_end sent = no_receiver (sent.sided 4)
