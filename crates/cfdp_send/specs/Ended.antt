-- Meaning. The exit status, by the indications of the user.
use Rattle.std.specs.Prelude.{ℕ, ◌==◌, ◌&&◌, Bool, true, false, if◌then◌else◌, List, [], ◌∷◌, Option, Some, None}
use Rattle.std.specs.Option.{option_or}
use Rattle.cfdp_types.specs.declared.key.TxnKey.{TxnKey}
use Rattle.cfdp_types.specs.declared.names.Delivery.{Delivery}
use Rattle.cfdp_types.specs.declared.names.Delivery.TheVariants.{Complete, Incomplete}
use Rattle.indications.specs.declared.bundle.Bundle.{Bundle}
use Rattle.indications.specs.declared.indication.Indication.{Indication}
use Rattle.indications.specs.declared.indication.Indication.TheVariants as told

-- the receiver has the whole file
abbrev pub is_complete : Delivery → Bool
is_complete Complete = true
is_complete Incomplete = false

-- an end without an error and with a complete file is 0, another end is 2, and any other indication has no status
abbrev pub end_status : Indication → Option ℕ
end_status (told.TransactionFinished condition delivery status) = Some (if (condition == 0) && is_complete delivery then 0 else 2)
end_status (told.Abandoned condition progress) = Some 2
end_status _ = None

-- by the first indication of an end
abbrev pub status_in : List Indication → Option ℕ
status_in [] = None
status_in (first ∷ later) = option_or (end_status first) (status_in later)

-- a bundle is of this transaction
abbrev pub is_bundle_of : Bundle → TxnKey → Bool
is_bundle_of bundle key = (bundle.key.source.0 == key.source.0) && (bundle.key.seq == key.seq)

-- by a bundle, if it is of this transaction
abbrev pub status_of : Bundle → TxnKey → Option ℕ
status_of bundle key = if is_bundle_of bundle key then status_in bundle.inds else None
