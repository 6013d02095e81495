-- Every number of a fault, and every value of a few bits as it is read.
use Rattle.std.proofs.Common.{◌≡◌, [], ◌∷◌, map, refl}
use Rattle.cfdp_types.specs.declared.names.Delivery.TheVariants.{Complete, Incomplete}
use Rattle.cfdp_types.specs.declared.names.FileStatus.TheVariants.{Discarded, Rejected, Retained, Unreported}
use Rattle.pdu_values.specs.declared.bodies.TransactionStatus.TheVariants.{Undefined, Active, Terminated, Unrecognized}
use Rattle.pdu_values.specs.declared.bodies.Prompt.TheVariants as prompts
use Rattle.pdu_reading.specs.declared.fault.DecodeFault.TheVariants.{TooShort, BadVersion, CrcPresent, LengthMismatch, UnknownDirective, FieldCut, NoFileName, NoMemory}
use Rattle.pdu_reading.specs.Fault.{fault_number}
use Rattle.pdu_reading.specs.Reading.{delivery_of, file_status_of, transaction_status_of, prompt_of}

-- ---- numbers of faults

fault_numbers : map fault_number (TooShort ∷ BadVersion ∷ CrcPresent ∷ LengthMismatch ∷ UnknownDirective ∷ FieldCut ∷ NoFileName ∷ NoMemory ∷ []) ≡ 1 ∷ 2 ∷ 3 ∷ 5 ∷ 6 ∷ 7 ∷ 8 ∷ 9 ∷ []
fault_numbers = refl

-- ---- bits as they are read

deliveries : map delivery_of (0 ∷ 1 ∷ []) ≡ Complete ∷ Incomplete ∷ []
deliveries = refl

file_statuses_read : map file_status_of (0 ∷ 1 ∷ 2 ∷ 3 ∷ []) ≡ Discarded ∷ Rejected ∷ Retained ∷ Unreported ∷ []
file_statuses_read = refl

transaction_statuses_read : map transaction_status_of (0 ∷ 1 ∷ 2 ∷ 3 ∷ []) ≡ Undefined ∷ Active ∷ Terminated ∷ Unrecognized ∷ []
transaction_statuses_read = refl

prompts_read : map prompt_of (0 ∷ 1 ∷ []) ≡ prompts.Nak ∷ prompts.KeepAlive ∷ []
prompts_read = refl
