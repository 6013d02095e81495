-- The file that was put stands where its sender was told so.
use Rattle.std.proofs.Common.{◌≡◌, ℕ, Bool, true, List, [], ◌∷◌, ◌++◌, refl, sym, ◌∙◌, ap, subst, append_assoc}
use Rattle.cfdp_types.specs.Put.{PutValue}
use Rattle.cfdp_types.specs.declared.image.Image.{Image}
use Rattle.disk.specs.Steps.{Step}
use Rattle.disk.specs.Crash.{MayFind}
use Rattle.disk.specs.Promise.{HoldsAfterCut}
use Rattle.disk.proofs.Spared.{stays_kept}
use Rattle.txn_events.specs.declared.event.What.TheVariants as what
use Rattle.sender_table.specs.Sending as sender
use Rattle.receiver_table.specs.Reception as receiver
use Rattle.ends_laws.specs.Agreement.{image_of_put}
use Rattle.ends_schedules.specs.Schedules.{Move, sends, receives, echoes, receiver_log, IsSchedule}
use Rattle.ends_schedules.proofs.ScheduleFacts.{begins_as_schedule, images_are_the_put, schedule_before, tells_what_was_stored}
use Rattle.ends_disk.specs.Histories.{Happening, at_ends, at_disk, moves_of, steps_of, Deposited, IsTrueAnswer, AnswersTruly, Stands, StandsWhenTold}

-- ---- histories, one after the other

pub moves_append : (later earlier : List Happening) → moves_of (later ++ earlier) ≡ moves_of later ++ moves_of earlier
moves_append [] earlier = refl
moves_append (at_ends move ∷ later) earlier = ap (λ (l : List Move). move ∷ l) (moves_append later earlier)
moves_append (at_disk step ∷ later) earlier = moves_append later earlier

pub steps_append : (later earlier : List Happening) → steps_of (later ++ earlier) ≡ steps_of later ++ steps_of earlier
steps_append [] earlier = refl
steps_append (at_ends move ∷ later) earlier = steps_append later earlier
steps_append (at_disk step ∷ later) earlier = ap (λ (l : List Step). step ∷ l) (steps_append later earlier)

begins : (sending : sender.Sending) (reception : receiver.Reception) (all later earlier : List Happening) → all ≡ later ++ earlier → IsSchedule sending reception (moves_of all)
    → IsSchedule sending reception (moves_of earlier)
begins sending reception all later earlier is schedule =
    begins_as_schedule sending reception (moves_of later) (moves_of earlier)
    (subst (IsSchedule sending reception) (ap moves_of is ∙ moves_append later earlier) schedule)

-- ---- what stands behind an answer of the file store

module _ (is_path_of : List ℕ → List ℕ → Bool) where
  record Behind (entry : receiver.Entry) (all : List Happening) : Type 0 where
    pub later : List Happening
    pub earlier : List Happening
    pub all_is : all ≡ later ++ earlier
    pub is_true : IsTrueAnswer is_path_of entry.event earlier

  one_more : (happening : Happening) (entry : receiver.Entry) (all : List Happening) → Behind entry all → Behind entry (happening ∷ all)
  one_more happening entry all behind = record {
    later = happening ∷ behind.later;
    earlier = behind.earlier;
    all_is = ap (λ (l : List Happening). happening ∷ l) behind.all_is;
    is_true = behind.is_true;
  }

  here : (one entry : receiver.Entry) (earlier : List Happening) → one ≡ entry → IsTrueAnswer is_path_of one.event earlier → Behind entry (at_ends (receives one) ∷ earlier)
  here one entry earlier same is = record {
    later = at_ends (receives one) ∷ [];
    earlier = earlier;
    all_is = refl;
    is_true = subst (λ (e : receiver.Entry). IsTrueAnswer is_path_of e.event earlier) same is;
  }

  behind_of : (all : List Happening) (later front : List receiver.Entry) (entry : receiver.Entry) → receiver_log (moves_of all) ≡ later ++ entry ∷ front → AnswersTruly is_path_of all → Behind entry all
  behind_of [] [] front entry is truly = absurd cc
  behind_of [] (other ∷ later) front entry is truly = absurd cc
  behind_of (at_ends (sends one) ∷ all) later front entry is truly = one_more (at_ends (sends one)) entry all (behind_of all later front entry is truly)
  behind_of (at_ends (echoes pdu) ∷ all) later front entry is truly = one_more (at_ends (echoes pdu)) entry all (behind_of all later front entry is truly)
  behind_of (at_disk step ∷ all) later front entry is truly = one_more (at_disk step) entry all (behind_of all later front entry is truly)
  behind_of (at_ends (receives one) ∷ all) [] front entry is truly = let same : one ≡ entry = cc in here one entry all same truly.0
  behind_of (at_ends (receives one) ∷ all) (other ∷ later) front entry is truly =
      let rest : receiver_log (moves_of all) ≡ later ++ entry ∷ front = cc in
      one_more (at_ends (receives one)) entry all (behind_of all later front entry rest truly.1)

  -- ---- the file stands

  pub stands : (put : PutValue) (all later made : List Happening) (image : Image) (path : List ℕ) → all ≡ later ++ made → image ≡ image_of_put put → is_path_of image.destination_name path ≡ true
      → HoldsAfterCut (steps_of made) path image.octets → Stands is_path_of put all
  stands put all later made image path all_is same place held = record {
    path = path;
    is_place = subst (λ (i : Image). is_path_of i.destination_name path ≡ true) same place;
    later = later;
    made = made;
    earlier_is = all_is;
    holds = holds;
    stays = λ after spared found may. stays_kept (steps_of made) (steps_of after ++ steps_of later) path put.file holds spared found
        (subst (λ (l : List Step). MayFind l path found) (split after) may);
  }
    where
      holds : HoldsAfterCut (steps_of made) path put.file
      holds = subst (λ (i : Image). HoldsAfterCut (steps_of made) path i.octets) same held

      split : (after : List Happening) → steps_of (after ++ all) ≡ (steps_of after ++ steps_of later) ++ steps_of made
      split after =
          steps_append after all ∙ ap (λ (l : List Step). steps_of after ++ l) (ap steps_of all_is ∙ steps_append later made)
          ∙ sym (append_assoc (steps_of after) (steps_of later) (steps_of made))

  deposited_stands : (sending : sender.Sending) (reception : receiver.Reception) (all later earlier : List Happening) (stamp : ℕ) → IsSchedule sending reception (moves_of all) → all ≡ later ++ earlier
      → Deposited is_path_of stamp earlier → Stands is_path_of sending.request all
  deposited_stands sending reception all later earlier stamp schedule all_is done =
      let before = begins sending reception all later earlier all_is schedule in
      let made = begins sending reception earlier done.later (done.during ++ done.given) done.earlier_is before in
      let gave = begins sending reception (done.during ++ done.given) done.during done.given refl made in
      stands sending.request all (later ++ done.later) (done.during ++ done.given) done.image done.path
      (all_is ∙ ap (λ (l : List Happening). later ++ l) done.earlier_is ∙ sym (append_assoc later done.later (done.during ++ done.given)))
      (images_are_the_put sending reception (moves_of done.given) stamp done.image gave done.gave)
      done.is_place done.holds

pub stands_when_told : StandsWhenTold
stands_when_told is_path_of sending reception earlier entry condition status schedule truly tells =
    let stored = tells_what_was_stored sending reception (moves_of earlier) entry condition status schedule tells in
    let behind = behind_of is_path_of earlier stored.0.later stored.0.front (record { event = what.Stored stored.0.stamp true; answer = stored.0.answer }) stored.0.log_is truly in
    deposited_stands is_path_of sending reception earlier behind.later behind.earlier stored.0.stamp
    (schedule_before sending reception (sends entry) (moves_of earlier) schedule) behind.all_is behind.is_true
