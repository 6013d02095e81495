-- Of the code. How the code examines the file so far.
use Rattle.std.specs.Prelude.{ℕ, Bool, false, not, ◌&&◌, ◌||◌, ◌==◌, nat_lt, is_some, if◌then◌else◌, [], length, Option, Some, None}
use Rattle.cfdp_types.specs.Condition as condition
use Rattle.cfdp_types.specs.ChecksumType as checksum
use Rattle.gap_list.specs.Runs.{missing_runs}
use Rattle.pdu_values.specs.declared.bodies.Eof.{Eof}
use Rattle.receiver_table.specs.Reception.{Reception, State}
use Rattle.receiver_table.specs.Answers.{Response, nothing, fault_response, stores, waits_for_rest}
use Rattle.receiver_parts.specs.declared.examine.Finding.{Finding}
use Rattle.receiver_parts.specs.declared.examine.Finding.TheVariants.{Nothing, Faulty, Whole, Waits}

-- the Metadata was received, and its checksum type is not supported
abbrev pub is_unsupported_type : Option ℕ → Bool
is_unsupported_type None = false
is_unsupported_type (Some number) = not (number == checksum.modular) && not (number == checksum.null)

-- the file has no checksum
abbrev pub is_null_type : Option ℕ → Bool
is_null_type None = false
is_null_type (Some number) = number == checksum.null

-- no offset below a size is missing
abbrev pub is_full : (ℕ → Bool) → ℕ → Bool
is_full set size = length (missing_runs set size) == 0

-- whether the complete file has the EOF's checksum, or has none
abbrev pub compared : Option ℕ → Eof → ℕ → Finding
compared number e word = if is_null_type number || (word == e.checksum) then Whole else Faulty condition.file_checksum_failure

-- the finding once an EOF was received; `set` are the received offsets and `word` is their checksum
abbrev pub finding_at_eof : Option ℕ → Option Eof → ℕ → (ℕ → Bool) → ℕ → Finding
finding_at_eof number None progress set word = Nothing
finding_at_eof number (Some e) progress set word =
    if nat_lt e.size progress then Faulty condition.file_size_error
    else if is_some number && is_full set e.size then compared number e word
    else Waits

-- the finding: the first case that applies
abbrev pub finding_of : Option ℕ → Option Eof → ℕ → (ℕ → Bool) → ℕ → Finding
finding_of number eof progress set word =
    if is_unsupported_type number then Faulty condition.unsupported_checksum_type else finding_at_eof number eof progress set word

-- the response to a finding
abbrev pub found_response : Reception → State → Finding → Response
found_response reception state Nothing = nothing
found_response reception state (Faulty code) = fault_response reception state [] code
found_response reception state Whole = stores
found_response reception state Waits = waits_for_rest reception state
