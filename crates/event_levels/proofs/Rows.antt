-- Worked rows: levels, and the level of each event.
use Rattle.std.proofs.Common.{◌≡◌, true, false, List, [], ◌∷◌, map, Some, None, codes, refl}
use Rattle.cfdp_types.specs.declared.names.Delivery.TheVariants.{Complete, Incomplete}
use Rattle.cfdp_types.specs.declared.names.FileStatus.TheVariants.{Discarded, Rejected, Retained, Unreported}
use Rattle.indications.specs.declared.indication.Indication.TheVariants as told
use Rattle.event_levels.specs.declared.event.EventKind.TheVariants as event
use Rattle.event_levels.specs.declared.level.Level.{Level}
use Rattle.event_levels.specs.declared.level.Level.TheVariants.{Detail, Info, Warning}
use Rattle.event_levels.specs.Events.{level_of, level_of_indication}
use Rattle.event_levels.specs.Levels.{level_named, name_of, reaches}

abbrev levels : List Level
levels = Detail ∷ Info ∷ Warning ∷ []

order : map (λ level. map (reaches level) levels) levels
    ≡ (true ∷ false ∷ false ∷ []) ∷ (true ∷ true ∷ false ∷ []) ∷ (true ∷ true ∷ true ∷ []) ∷ []
order = refl

names : map (λ level. level_named (name_of level)) levels ≡ Some Detail ∷ Some Info ∷ Some Warning ∷ []
names = refl

no_names : map level_named (codes "Info" ∷ codes "" ∷ codes "warnings" ∷ codes "0" ∷ []) ≡ None ∷ None ∷ None ∷ None ∷ []
no_names = refl

indications : map level_of_indication
    (told.Transaction ∷ told.EofSent ∷ told.EofRecv ∷ told.MetadataRecv (record { source = record { 0 = 1 }; size = 3; source_name = []; destination_name = []; messages = [] }) ∷ told.FileSegmentRecv 0 3 ∷ told.Resumed 3
    ∷ told.Fault 7 3 ∷ told.Abandoned 8 3 ∷ told.Suspended 14 ∷ told.Suspended 8 ∷ [])
    ≡ Info ∷ Info ∷ Info ∷ Info ∷ Detail ∷ Info ∷ Warning ∷ Warning ∷ Info ∷ Warning ∷ []
indications = refl

-- complete; not reported, as class 1 has it; not complete; canceled; rejected by the store, with and without a fault;
-- complete, but not kept
ends : map level_of_indication
    (told.TransactionFinished 0 Complete Retained ∷ told.TransactionFinished 0 Incomplete Unreported ∷ told.TransactionFinished 0 Incomplete Discarded
    ∷ told.TransactionFinished 15 Complete Retained ∷ told.TransactionFinished 4 Complete Rejected
    ∷ told.TransactionFinished 0 Complete Rejected ∷ told.TransactionFinished 0 Complete Discarded ∷ [])
    ≡ Info ∷ Info ∷ Warning ∷ Warning ∷ Warning ∷ Warning ∷ Warning ∷ []
ends = refl

events : map level_of (event.Start ∷ event.End ∷ event.Put ∷ event.Hold ∷ event.Release ∷ event.Skipped ∷ event.Command ∷ event.Stored true ∷ [])
    ≡ Info ∷ Info ∷ Info ∷ Info ∷ Info ∷ Info ∷ Info ∷ Info ∷ []
events = refl

warnings : map level_of (event.Stored false ∷ event.Unsent ∷ event.Refused ∷ event.Unparked ∷ event.JournalFull ∷ [])
    ≡ Warning ∷ Warning ∷ Warning ∷ Warning ∷ Warning ∷ []
warnings = refl
