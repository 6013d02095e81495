-- Worked words: what is one, and what is none.
use Rattle.std.proofs.Common.{◌≡◌, ℕ, ◌<◌, ◌↔◌, List, [], ◌∷◌, map, IsTrue, refl, zero, suc, arith}
use Rattle.std.specs.List.{list_any}
use Rattle.std.proofs.lemmas.Bool.Decides.{nat_tests}
use Rattle.cfdp_types.specs.declared.condition.Condition.{Condition}
use Rattle.cfdp_types.specs.declared.names.FileStatus.{FileStatus}
use Rattle.indications.specs.declared.indication.Phase.{Phase}
use Rattle.cfdp_types.specs.declared.names.Delivery.{Delivery}
use Rattle.cfdp_types.specs.declared.names.Delivery.TheVariants.{Complete, Incomplete}
use Rattle.cfdp_types.specs.declared.names.FileStatus.TheVariants.{Retained, Unreported}
use Rattle.indications.specs.declared.indication.Indication.{Indication}
use Rattle.indications.specs.declared.indication.Indication.TheVariants as told
use Rattle.indications.specs.declared.kind.IndicationKind.TheVariants as kind
use Rattle.indications.specs.Kinds.{kind_of}
use Rattle.indications.specs.declared.side.Side.TheVariants.{Sender}
use Rattle.indications.specs.Words.{tells_of, IsNew, IsBegun, IsWord, IsBegunOf, IsWordOf}

-- ---- kinds

kinds : (condition : Condition) (delivery : Delivery) (status : FileStatus) (phase : Phase) (n length : ℕ) (name : List ℕ) (messages : List (List ℕ)) → map kind_of (
    told.Transaction ∷ told.EofSent ∷ told.EofRecv ∷ told.TransactionFinished condition delivery status
    ∷ told.MetadataRecv (record { source = record { 0 = n }; size = n; source_name = name; destination_name = name; messages = messages }) ∷ told.FileSegmentRecv n length
    ∷ told.Suspended condition ∷ told.Resumed n ∷ told.Report phase n ∷ told.Fault condition n ∷ told.Abandoned condition n ∷ [])
    ≡ kind.Opening ∷ kind.EofSent ∷ kind.EofRecv ∷ kind.End delivery
    ∷ kind.Metadata ∷ kind.Segment n length
    ∷ kind.Suspension ∷ kind.Resumption ∷ kind.Notice ∷ kind.Notice ∷ kind.End Incomplete ∷ []
kinds condition delivery status phase n length name messages = refl

-- ---- a receiver

abbrev metadata : Indication
metadata = told.MetadataRecv (record { source = record { 0 = 1 }; size = 3; source_name = 97 ∷ []; destination_name = 98 ∷ []; messages = [] })

abbrev finished : Indication
finished = told.TransactionFinished 0 Complete Retained

-- an empty file, complete
empty_file : IsWord (metadata ∷ told.EofRecv ∷ finished ∷ [])
empty_file = ((refl, refl, (refl, refl, (refl, (refl, refl, (0, λ i. (λ told. absurd cc, λ below. absurd (omega (arith, below))))), tt))), refl)

-- the second and third octet before the first, then complete: what was told, newest first
abbrev segments : List Indication
segments = told.EofRecv ∷ told.FileSegmentRecv 0 1 ∷ told.FileSegmentRecv 1 2 ∷ metadata ∷ []

segments_fill : (i : ℕ) → IsTrue (list_any (tells_of i) segments) ↔ (i < 3)
segments_fill i = (λ told. grind (arith, nat_tests, told), λ below. grind (arith, nat_tests, below))

first_octet_is_new : IsNew (told.FileSegmentRecv 1 2 ∷ metadata ∷ []) 0 1
first_octet_is_new zero low high = refl
first_octet_is_new (suc i) low high = absurd (omega (arith, high))

two_segments : IsWord (metadata ∷ told.FileSegmentRecv 1 2 ∷ told.FileSegmentRecv 0 1 ∷ told.EofRecv ∷ finished ∷ [])
two_segments = (
  (
    refl,
    refl,
    (
      refl,
      (omega arith, omega arith, λ i low high. refl),
      (
        refl,
        (omega arith, omega arith, first_octet_is_new),
        (refl, refl, (refl, (refl, refl, (3, segments_fill)), tt)),
      ),
    ),
  ),
  refl,
)

second_eof : IsBegun (told.EofRecv ∷ told.EofRecv ∷ []) → ⊥
second_eof begun = let twice = begun.2.1 in absurd cc

second_metadata : IsBegun (metadata ∷ metadata ∷ []) → ⊥
second_metadata begun = let twice = begun.2.1 in absurd cc

resumed_first : IsBegun (told.Resumed 0 ∷ []) → ⊥
resumed_first begun = let paused = begun.1 in absurd cc

suspended_twice : IsBegun (told.Suspended 14 ∷ told.Suspended 14 ∷ []) → ⊥
suspended_twice begun = let paused = begun.2.1 in absurd cc

-- by one offset
overlap : IsBegun (told.FileSegmentRecv 0 4 ∷ told.FileSegmentRecv 3 1 ∷ []) → ⊥
overlap begun = let new = begun.2.1.2 3 (omega arith) (omega arith) in absurd cc

no_octet : IsBegun (told.FileSegmentRecv 0 0 ∷ []) → ⊥
no_octet begun = absurd (omega (arith, begun.1.0))

-- the second octet is missing
complete_with_a_hole : IsBegun (metadata ∷ told.FileSegmentRecv 0 1 ∷ told.FileSegmentRecv 2 1 ∷ told.EofRecv ∷ finished ∷ []) → ⊥
complete_with_a_hole begun =
    let filled = begun.2.2.2.2.1.2 in
    let last : 2 < filled.0 = (filled.1 2).0 refl in
    let hole = (filled.1 1).1 (omega (arith, last)) in
    absurd cc

complete_without_eof : IsBegun (metadata ∷ finished ∷ []) → ⊥
complete_without_eof begun = let came = begun.2.1.1 in absurd cc

after_an_end : IsBegun (told.Abandoned 8 0 ∷ told.Fault 8 0 ∷ []) → ⊥
after_an_end begun = let runs = begun.2.0 in absurd cc

no_receiver_sends : IsBegun (told.EofSent ∷ []) → ⊥
no_receiver_sends begun = begun.1

-- ---- a sender

transaction_of_sender : IsWordOf Sender (told.Transaction ∷ told.EofSent ∷ told.TransactionFinished 0 Incomplete Unreported ∷ [])
transaction_of_sender = ((refl, refl, (refl, (refl, refl), (refl, refl, tt))), refl)

transaction_twice : IsBegunOf Sender (told.Transaction ∷ told.Transaction ∷ []) → ⊥
transaction_twice begun = let first = begun.2.1 in absurd cc

-- a sender's word: suspended before its EOF and resumed after it
suspended_sending : (condition : Condition) (status : FileStatus) → IsWordOf Sender (
    told.Transaction ∷ told.Suspended condition ∷ told.EofSent ∷ told.Resumed 3
    ∷ told.TransactionFinished condition Complete status ∷ [])
suspended_sending condition status =
    ((refl, refl, (refl, (refl, refl), (refl, (refl, refl), (refl, (refl, refl), (refl, refl, tt))))), refl)

-- a beginning of a receiver's word, which reports and faults don't end
reported_reception : (phase : Phase) (condition : Condition) → IsBegun (
    told.EofRecv ∷ told.Report phase 0 ∷ told.Fault condition 0 ∷ told.Suspended condition ∷ [])
reported_reception phase condition = (refl, refl, (refl, tt, (refl, tt, (refl, refl, tt))))
