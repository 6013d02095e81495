-- Meaning. Which ends say that a file came whole.
use Rattle.std.specs.Prelude.{ℕ, ◌==◌, Bool, true, false, ◌&&◌}
use Rattle.cfdp_types.specs.declared.names.Delivery.{Delivery}
use Rattle.cfdp_types.specs.declared.names.Delivery.TheVariants.{Complete, Incomplete}
use Rattle.cfdp_types.specs.declared.names.FileStatus.{FileStatus}
use Rattle.cfdp_types.specs.declared.names.FileStatus.TheVariants.{Discarded, Rejected, Retained, Unreported}

abbrev pub is_complete : Delivery → Bool
is_complete Complete = true
is_complete Incomplete = false

abbrev pub is_retained : FileStatus → Bool
is_retained Retained = true
is_retained _ = false

-- without a fault, complete and retained
abbrev pub is_whole : ℕ → Delivery → FileStatus → Bool
is_whole condition delivery status = (condition == 0) && (is_complete delivery && is_retained status)
