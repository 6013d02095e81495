-- Meaning. How much each event matters.
use Rattle.std.specs.Prelude.{ℕ, ◌==◌, ◌&&◌, ◌||◌, Bool, true, false, if◌then◌else◌}
use Rattle.cfdp_types.specs.declared.names.Delivery.{Delivery}
use Rattle.cfdp_types.specs.declared.names.Delivery.TheVariants.{Complete, Incomplete}
use Rattle.cfdp_types.specs.declared.names.FileStatus.{FileStatus}
use Rattle.cfdp_types.specs.declared.names.FileStatus.TheVariants.{Discarded, Rejected, Retained, Unreported}
use Rattle.indications.specs.declared.indication.Indication.{Indication}
use Rattle.indications.specs.declared.indication.Indication.TheVariants as told
use Rattle.event_levels.specs.declared.event.EventKind.{EventKind}
use Rattle.event_levels.specs.declared.event.EventKind.TheVariants as event
use Rattle.event_levels.specs.declared.level.Level.{Level}
use Rattle.event_levels.specs.declared.level.Level.TheVariants.{Detail, Info, Warning}

-- what goes as it should is info, else a warning
abbrev pub level_when : Bool → Level
level_when good = if good then Info else Warning

abbrev pub is_complete : Delivery → Bool
is_complete Complete = true
is_complete Incomplete = false

abbrev pub is_retained : FileStatus → Bool
is_retained Retained = true
is_retained _ = false

abbrev pub is_unreported : FileStatus → Bool
is_unreported Unreported = true
is_unreported _ = false

-- a transaction ended as it should: without a fault, and the file is complete and retained, or nothing is known of that
-- where no report was asked for
abbrev pub is_good_end : ℕ → Delivery → FileStatus → Bool
is_good_end condition delivery status =
    (condition == 0) && ((is_complete delivery && is_retained status) || is_unreported status)

-- a piece of a file is a detail; faults, ends that aren't good, what is abandoned, and stops that no user asked for are
-- warnings
abbrev pub level_of_indication : Indication → Level
level_of_indication (told.FileSegmentRecv offset octets) = Detail
level_of_indication (told.TransactionFinished condition delivery status) = level_when (is_good_end condition delivery status)
level_of_indication (told.Suspended condition) = level_when (condition == 14)
level_of_indication (told.Fault condition progress) = Warning
level_of_indication (told.Abandoned condition progress) = Warning
level_of_indication _ = Info

-- a store that failed, a refusal, and what is lost or given up are warnings
abbrev pub level_of : EventKind → Level
level_of (event.Indication indication) = level_of_indication indication.now
level_of (event.Stored kept) = level_when kept
level_of event.Unsent = Warning
level_of event.Refused = Warning
level_of event.Unparked = Warning
level_of event.JournalFull = Warning
level_of _ = Info
