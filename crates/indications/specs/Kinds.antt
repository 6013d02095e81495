-- Meaning. The kind of each indication, listed here only: what it changes in the user's view of its transaction.
use Rattle.std.specs.Prelude.{ℕ, ◌+◌, Bool, true, false, ◌&&◌, nat_lt, nat_le}
use Rattle.cfdp_types.specs.declared.names.Delivery.TheVariants.{Complete, Incomplete}
use Rattle.indications.specs.declared.indication.Indication.{Indication}
use Rattle.indications.specs.declared.indication.Indication.TheVariants as told
use Rattle.indications.specs.declared.kind.IndicationKind.{IndicationKind}
use Rattle.indications.specs.declared.kind.IndicationKind.TheVariants as kind

-- an abandoned transaction doesn't claim a complete file; reports and faults change nothing
abbrev pub kind_of : Indication → IndicationKind
kind_of told.Transaction = kind.Opening
kind_of told.EofSent = kind.EofSent
kind_of told.EofRecv = kind.EofRecv
kind_of (told.TransactionFinished condition delivery status) = kind.End delivery
kind_of (told.MetadataRecv metadata) = kind.Metadata
kind_of (told.FileSegmentRecv offset length) = kind.Segment offset length
kind_of (told.Suspended condition) = kind.Suspension
kind_of (told.Resumed progress) = kind.Resumption
kind_of (told.Report phase progress) = kind.Notice
kind_of (told.Fault condition progress) = kind.Notice
kind_of (told.Abandoned condition progress) = kind.End Incomplete

-- ---- tests of a kind

abbrev pub is_opening : IndicationKind → Bool
is_opening kind.Opening = true
is_opening _ = false

abbrev pub is_eof_sending : IndicationKind → Bool
is_eof_sending kind.EofSent = true
is_eof_sending _ = false

abbrev pub is_eof_reception : IndicationKind → Bool
is_eof_reception kind.EofRecv = true
is_eof_reception _ = false

abbrev pub is_metadata_reception : IndicationKind → Bool
is_metadata_reception kind.Metadata = true
is_metadata_reception _ = false

abbrev pub is_segment_reception : IndicationKind → Bool
is_segment_reception (kind.Segment offset length) = true
is_segment_reception _ = false

abbrev pub is_resumption : IndicationKind → Bool
is_resumption kind.Resumption = true
is_resumption _ = false

abbrev pub is_ending : IndicationKind → Bool
is_ending (kind.End delivery) = true
is_ending _ = false

-- an end that claims the file is complete
abbrev pub is_complete_end : IndicationKind → Bool
is_complete_end (kind.End Complete) = true
is_complete_end _ = false

-- the octet at this offset is in the segment
abbrev pub has_octet : ℕ → IndicationKind → Bool
has_octet i (kind.Segment offset length) = nat_le offset i && nat_lt i (offset + length)
has_octet i _ = false

-- whether the transaction is suspended after an indication of this kind, given whether it was before
abbrev pub suspended_behind : IndicationKind → Bool → Bool
suspended_behind kind.Suspension before = true
suspended_behind kind.Resumption before = false
suspended_behind _ before = before
