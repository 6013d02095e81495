-- A worked history of an entity by its configuration: where its events go, and what its laws say of it.
use Rattle.std.proofs.Common.{◌≡◌, ℕ, true, false, IsTrue, All, List, [], ◌∷◌, ◌++◌, map, Some, Contains, refl, ap, arith}
use Rattle.std.specs.List.{list_any}
use Rattle.cfdp_types.specs.declared.names.Class.TheVariants.{One, Two}
use Rattle.cfdp_types.specs.declared.names.Delivery.TheVariants.{Complete, Incomplete}
use Rattle.cfdp_types.specs.declared.names.FileStatus.TheVariants.{Retained, Unreported}
use Rattle.gap_list.specs.Runs.{runs_of, runs_from}
use Rattle.indications.specs.declared.indication.Indication.TheVariants as told
use Rattle.indications.specs.declared.side.Side.TheVariants.{Sender, Receiver}
use Rattle.indications.specs.Words.{is_end, IsBegunOf}
use Rattle.receiver_table.specs.Reception as receiver
use Rattle.sender_table.specs.Sending as sender
use Rattle.txn_events.specs.Examples.{finished_acknowledged}
use Rattle.txn_events.specs.declared.event.What.TheVariants as what
use Rattle.config_reading.specs.Values.{is_config}
use Rattle.entity_config.specs.Reference.{reference_config}
use Rattle.world_rows.specs.ReceivingLaneRows as receiving
use Rattle.world_rows.specs.SendingLaneRows as sending
use Rattle.world_table.specs.Histories.{Happening, steps, takes, mine, IsHistory}
use Rattle.entity_routing.specs.declared.place.Place.{Place}
use Rattle.entity_parts.specs.FirstLanes.{first_lane}
use Rattle.world_core.specs.Routed.{AreRouted, IsRoutedTo}
use Rattle.world_laws.specs.EntityLaws.{IsAtHome, HasFile, end_here, told_under}
use Rattle.world_laws.proofs.EndFacts.{tells_nothing_more}
use Rattle.world_laws.proofs.KeyFacts.{tells_at_home}
use Rattle.world_laws.proofs.WordFacts.{delivers_files, tells_words}
use Rattle.world_run_rows.proofs.WorldRows.{waiting}

-- a file comes for alice, she and bob put one, and she cancels hers; the newest first
abbrev history : List Happening
history = steps 0 0 (sending.on 4 what.Cancel) ∷ steps 1 1 (sending.put One) ∷ steps 0 0 (sending.put One) ∷ waiting

-- she takes a bundle, and puts another file
abbrev later : List Happening
later = steps 0 0 (sending.put One) ∷ takes 0 ∷ []

kept : IsTrue (is_config reference_config)
kept = refl

-- ---- where events go

are_routed : AreRouted reference_config history
are_routed = (refl, ((omega (arith), omega (arith)), ((omega (arith), omega (arith)), (refl, (refl, (refl, tt))))))

all_routed : AreRouted reference_config (later ++ history)
all_routed = ((omega (arith), omega (arith)), are_routed)

-- a PDU of number 5 is no event of the lane for even numbers, nor of bob's
same_place : (one other : Place) → Some one ≡ Some other → one ≡ other
same_place one other e = cc

three_two : (a b : ℕ) → a ≡ b → a ≡ 3 → b ≡ 2 → ⊥
three_two a b e a_is b_is = omega (arith, e, a_is, b_is)

zero_one : (a b : ℕ) → a ≡ b → a ≡ 0 → b ≡ 1 → ⊥
zero_one a b e a_is b_is = omega (arith, e, a_is, b_is)

not_beside : IsRoutedTo reference_config 0 2 (receiving.metadata Two 5) → ⊥
not_beside routed =
    three_two 3 2 (ap (λ (p : Place). p.lane) (same_place (record { user = 0; lane = 3 }) (record { user = 0; lane = 2 }) routed)) refl refl

not_to_bob : IsRoutedTo reference_config 1 3 (receiving.metadata Two 5) → ⊥
not_to_bob routed =
    zero_one 0 1 (ap (λ (p : Place). p.user) (same_place (record { user = 0; lane = 3 }) (record { user = 1; lane = 3 }) routed)) refl refl

-- a Put is of a sending lane, of a user that there is
no_put_behind : IsRoutedTo reference_config 0 2 (sending.put One) → ⊥
no_put_behind routed = let within = routed.1 in omega (arith, within)

no_put_of_nobody : IsRoutedTo reference_config 2 0 (sending.put One) → ⊥
no_put_of_nobody routed = let below = routed.0 in omega (arith, below)

-- one step that goes wrong is enough
not_all_routed : AreRouted reference_config (takes 0 ∷ steps 0 2 (receiving.metadata Two 5) ∷ waiting) → ⊥
not_all_routed routed = not_beside routed.0

-- ---- keys

can_be : IsHistory (first_lane reference_config) history
unfolding receiver.initial receiver.step receiver.state_of sender.initial sender.step sender.state_of runs_of runs_from
can_be =
    (tt, refl, (tt, refl, (tt, refl, ((refl, refl), refl, ((refl, refl), refl, ((refl, refl), refl, tt))))))

some_is_none : {A : Type 0} {x : A} {xs : List A} → x ∷ xs ≡ [] → ⊥
some_is_none e = cc

all_can_be : IsHistory (first_lane reference_config) (later ++ history)
unfolding receiver.initial receiver.step receiver.state_of sender.initial sender.step sender.state_of runs_of runs_from
all_can_be = (tt, refl, ((λ none. some_is_none none), can_be))

-- what alice is told is at home
alice_at_home : All (IsAtHome reference_config 0) (mine (first_lane reference_config) history 0)
alice_at_home = tells_at_home reference_config history 0 kept are_routed can_be

-- ---- ends

-- of a key, what was told, whatever else there was
told_of_four : told_under (sending.key 4) (mine (first_lane reference_config) history 0)
    ≡ told.Transaction ∷ told.TransactionFinished 15 Incomplete Unreported ∷ []
unfolding receiver.initial receiver.step receiver.state_of sender.initial sender.step sender.state_of runs_of runs_from
told_of_four = refl

told_of_five : told_under (receiving.key 5) (mine (first_lane reference_config) history 0)
    ≡ told.MetadataRecv (record { source = record { 0 = 1 }; size = 3; source_name = 97 ∷ []; destination_name = 98 ∷ []; messages = [] }) ∷ told.FileSegmentRecv 0 3 ∷ told.EofRecv ∷ []
unfolding receiver.initial receiver.step receiver.state_of sender.initial sender.step sender.state_of runs_of runs_from
told_of_five = refl

-- the number alone is no key
none_of_another_source : told_under (sending.key 5) (mine (first_lane reference_config) history 0) ≡ []
unfolding receiver.initial receiver.step receiver.state_of sender.initial sender.step sender.state_of runs_of runs_from
none_of_another_source = refl

-- the one has ended, and the other has not
four_ended : IsTrue (list_any is_end (told_under (sending.key 4) (mine (first_lane reference_config) history 0)))
unfolding receiver.initial receiver.step receiver.state_of sender.initial sender.step sender.state_of runs_of runs_from
four_ended = refl

five_goes_on : list_any is_end (told_under (receiving.key 5) (mine (first_lane reference_config) history 0)) ≡ false
unfolding receiver.initial receiver.step receiver.state_of sender.initial sender.step sender.state_of runs_of runs_from
five_goes_on = refl

-- so nothing more is told of it, to her or to bob
four_stays : (user : ℕ) → told_under (sending.key 4) (mine (first_lane reference_config) (later ++ history) user)
    ≡ told_under (sending.key 4) (mine (first_lane reference_config) history user)
four_stays user = tells_nothing_more reference_config later history 0 user (sending.key 4) kept all_routed all_can_be four_ended

-- ---- words and files

-- the file that came is kept
abbrev completed : List Happening
completed = steps 0 3 (receiving.on 5 (finished_acknowledged 0)) ∷ steps 0 3 (receiving.on 5 (what.Stored 2 true)) ∷ history

completed_routed : AreRouted reference_config completed
completed_routed = (refl, (refl, are_routed))

completed_can_be : IsHistory (first_lane reference_config) completed
unfolding receiver.initial receiver.step receiver.state_of sender.initial sender.step sender.state_of runs_of runs_from
completed_can_be = ((refl, refl), refl, (tt, refl, can_be))

-- the entity sends its own, and receives what comes from others
ends : map (end_here reference_config) (sending.key 4 ∷ receiving.key 5 ∷ []) ≡ Sender ∷ Receiver ∷ []
ends = refl

four_begun : IsBegunOf Sender (told_under (sending.key 4) (mine (first_lane reference_config) completed 0))
four_begun = tells_words reference_config completed 0 (sending.key 4) kept completed_routed completed_can_be

five_begun : IsBegunOf Receiver (told_under (receiving.key 5) (mine (first_lane reference_config) completed 0))
five_begun = tells_words reference_config completed 0 (receiving.key 5) kept completed_routed completed_can_be

five_completes : Contains (told_under (receiving.key 5) (mine (first_lane reference_config) completed 0)) (told.TransactionFinished 0 Complete Retained)
unfolding receiver.initial receiver.step receiver.state_of sender.initial sender.step sender.state_of runs_of runs_from
five_completes = (3, omega (arith), refl)

five_came : HasFile reference_config completed 0 (receiving.key 5)
five_came = delivers_files reference_config completed 0 (receiving.key 5) 0 Retained kept completed_routed completed_can_be refl five_completes

-- to alice, and to nobody else
not_for_bob : HasFile reference_config completed 1 (receiving.key 5) → ⊥
not_for_bob file =
    zero_one 0 1 (ap (λ (p : Place). p.user) (same_place (record { user = 0; lane = 3 }) (record { user = 1; lane = file.lane }) file.place)) refl refl
