-- Meaning. The words that the indications of one transaction form, at its sender and at its receiver.
use Rattle.std.specs.Prelude.{◌≡◌, ℕ, ◌+◌, ◌<◌, ◌≤◌, ◌↔◌, Bool, true, false, IsTrue, List, [], ◌∷◌}
use Rattle.std.specs.List.{list_any}
use Rattle.cfdp_types.specs.declared.limits.TheConstants.{FILE_OCTETS}
use Rattle.cfdp_types.specs.declared.names.Delivery.{Delivery}
use Rattle.cfdp_types.specs.declared.names.Delivery.TheVariants.{Complete, Incomplete}
use Rattle.indications.specs.declared.indication.Indication.{Indication}
use Rattle.indications.specs.declared.indication.Indication.TheVariants as told
use Rattle.indications.specs.declared.kind.IndicationKind.{IndicationKind}
use Rattle.indications.specs.declared.kind.IndicationKind.TheVariants as kind
use Rattle.indications.specs.declared.side.Side.{Side}
use Rattle.indications.specs.declared.side.Side.TheVariants.{Sender, Receiver}
use Rattle.indications.specs.Kinds.{kind_of, is_ending, is_complete_end, is_opening, is_eof_sending, is_metadata_reception, is_eof_reception, is_segment_reception, is_resumption, has_octet, suspended_behind}

-- the end of the transaction
abbrev pub is_end : Indication → Bool
is_end indication = is_ending (kind_of indication)

-- an end that claims the file is complete
abbrev pub is_complete : Indication → Bool
is_complete indication = is_complete_end (kind_of indication)

-- the start of a sender's transaction
abbrev pub is_transaction : Indication → Bool
is_transaction indication = is_opening (kind_of indication)

-- the sender has sent its EOF
abbrev pub is_eof_sent : Indication → Bool
is_eof_sent indication = is_eof_sending (kind_of indication)

-- the Metadata was received
abbrev pub is_metadata : Indication → Bool
is_metadata indication = is_metadata_reception (kind_of indication)

-- the EOF was received
abbrev pub is_eof : Indication → Bool
is_eof indication = is_eof_reception (kind_of indication)

-- the transaction is resumed
abbrev pub is_resumed : Indication → Bool
is_resumed indication = is_resumption (kind_of indication)

-- a fault was ignored
abbrev pub is_fault : Indication → Bool
is_fault (told.Fault code progress) = true
is_fault _ = false

-- new octets of the file were received
abbrev pub is_segment : Indication → Bool
is_segment indication = is_segment_reception (kind_of indication)

-- whether the indication reports the octet at this offset
abbrev pub tells_of : ℕ → Indication → Bool
tells_of i indication = has_octet i (kind_of indication)

-- whether the transaction is suspended after these indications, which are newest first
abbrev pub is_paused : List Indication → Bool
is_paused [] = false
is_paused (indication ∷ before) = suspended_behind (kind_of indication) (is_paused before)

-- whether the transaction is suspended after these indications, which are oldest first, given whether it was before
abbrev pub paused_after : Bool → List Indication → Bool
paused_after paused [] = paused
paused_after paused (indication ∷ later) = paused_after (suspended_behind (kind_of indication) paused) later

-- no octet of these offsets was reported before
abbrev pub IsNew : List Indication → ℕ → ℕ → Type 0
IsNew before offset length = (i : ℕ) → offset ≤ i → i < offset + length → list_any (tells_of i) before ≡ false

-- the reported segments are exactly the offsets below some size
abbrev pub IsFilled : List Indication → Type 0
IsFilled before = (size : ℕ) × ((i : ℕ) → IsTrue (list_any (tells_of i) before) ↔ (i < size))

-- a receiver may issue Transaction-Finished with this delivery code after these indications
abbrev pub MayFinish : List Indication → Delivery → Type 0
MayFinish before Incomplete = Unit {0}
MayFinish before Complete = IsTrue (list_any is_metadata before) × IsTrue (list_any is_eof before) × IsFilled before

-- a receiver that has issued no end may issue this kind next; the indications before it are newest first
abbrev pub IsNextKind : List Indication → IndicationKind → Type 0
IsNextKind before kind.Opening = ⊥
IsNextKind before kind.EofSent = ⊥
IsNextKind before kind.EofRecv = list_any is_eof before ≡ false
IsNextKind before kind.Metadata = list_any is_metadata before ≡ false
IsNextKind before (kind.Segment offset length) =
    (0 < length) × (offset + length ≤ FILE_OCTETS) × IsNew before offset length
IsNextKind before kind.Suspension = is_paused before ≡ false
IsNextKind before kind.Resumption = is_paused before ≡ true
IsNextKind before (kind.End delivery) = MayFinish before delivery
IsNextKind before kind.Notice = Unit {0}

-- what a receiver may issue next
abbrev pub IsNext : List Indication → Indication → Type 0
IsNext before next = IsNextKind before (kind_of next)

-- the sender's transaction has started
abbrev pub IsOpened : List Indication → Type 0
IsOpened before = IsTrue (list_any is_transaction before)

-- a sender that has issued no end may issue this kind next: Transaction once, and nothing before it
abbrev pub IsNextKindOfSender : List Indication → IndicationKind → Type 0
IsNextKindOfSender before kind.Opening = list_any is_transaction before ≡ false
IsNextKindOfSender before kind.EofSent = IsOpened before × (list_any is_eof_sent before ≡ false)
IsNextKindOfSender before kind.EofRecv = ⊥
IsNextKindOfSender before kind.Metadata = ⊥
IsNextKindOfSender before (kind.Segment offset length) = ⊥
IsNextKindOfSender before kind.Suspension = IsOpened before × (is_paused before ≡ false)
IsNextKindOfSender before kind.Resumption = IsOpened before × (is_paused before ≡ true)
IsNextKindOfSender before (kind.End delivery) = IsOpened before
IsNextKindOfSender before kind.Notice = IsOpened before

-- what a sender may issue next
abbrev pub IsNextOfSender : List Indication → Indication → Type 0
IsNextOfSender before next = IsNextKindOfSender before (kind_of next)

-- what a side may issue next, where it has issued no end
abbrev pub IsNextOf : Side → List Indication → Indication → Type 0
IsNextOf Sender = IsNextOfSender
IsNextOf Receiver = IsNext

-- all indications, newest first: those issued before, newest first, and the new ones, oldest first
abbrev pub told_onto : List Indication → List Indication → List Indication
told_onto before [] = before
told_onto before (next ∷ rest) = told_onto (next ∷ before) rest

-- each of these may be issued after those before it, which are newest first, and none after an end
abbrev pub MayFollowOf : Side → List Indication → List Indication → Type 0
MayFollowOf side before [] = Unit {0}
MayFollowOf side before (next ∷ rest) =
    (list_any is_end before ≡ false) × IsNextOf side before next × MayFollowOf side (next ∷ before) rest

-- the beginning of a side's word
abbrev pub IsBegunOf : Side → List Indication → Type 0
IsBegunOf side indications = MayFollowOf side [] indications

-- a side's word: it has an end, and nothing follows it
abbrev pub IsWordOf : Side → List Indication → Type 0
IsWordOf side indications = IsBegunOf side indications × IsTrue (list_any is_end indications)

-- a receiver may issue each of these after those before it
abbrev pub MayFollow : List Indication → List Indication → Type 0
MayFollow = MayFollowOf Receiver

-- the beginning of a receiver's word
abbrev pub IsBegun : List Indication → Type 0
IsBegun = IsBegunOf Receiver

-- a receiver's word
abbrev pub IsWord : List Indication → Type 0
IsWord = IsWordOf Receiver
