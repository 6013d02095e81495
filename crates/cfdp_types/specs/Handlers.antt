-- Meaning. What an entity does at a fault (CCSDS 727.0-B-5, 4.8): which handlers may be named, and which one counts.
use Rattle.std.specs.Prelude.{ℕ, Bool, true, false, cond, ◌&&◌, ◌||◌, ◌==◌, List, [], ◌∷◌, IsTrue}
use Rattle.std.specs.List.{All}
use Rattle.cfdp_types.specs.Condition.{positive_ack_limit, filestore_rejection, file_checksum_failure, file_size_error, nak_limit, inactivity, check_limit, unsupported_checksum_type}
use Rattle.cfdp_types.specs.declared.names.Handler.{Handler}
use Rattle.cfdp_types.specs.declared.names.Handler.TheVariants.{Cancel, Suspend, Ignore, Abandon}
use Rattle.cfdp_types.specs.declared.names.Role.{Role}
use Rattle.cfdp_types.specs.declared.names.Role.TheVariants.{Send, RecvOne, RecvTwo}
use Rattle.cfdp_types.specs.declared.fault_table.Handlers.{Handlers}

-- a limit was reached or a time ran out: the transaction could still go on
abbrev pub is_limit : ℕ → Bool
is_limit c = c == positive_ack_limit || c == nak_limit || c == inactivity || c == check_limit

-- the file can't be delivered whole: the transaction can only end
abbrev pub is_failure : ℕ → Bool
is_failure c =
    c == filestore_rejection || c == file_checksum_failure || c == file_size_error || c == unsupported_checksum_type

-- a condition for which a handler may be named
abbrev pub has_handler : ℕ → Bool
has_handler c = is_limit c || is_failure c

-- whether a suspended transaction can be resumed: a class 1 receiver's can't
abbrev pub can_resume : Role → Bool
can_resume Send = true
can_resume RecvOne = false
can_resume RecvTwo = true

-- whether a table of the role may name the handler for the condition
abbrev pub is_allowed : Role → ℕ → Handler → Bool
is_allowed role c Cancel = has_handler c
is_allowed role c Abandon = has_handler c
is_allowed role c Ignore = is_limit c
is_allowed role c Suspend = is_limit c && can_resume role

-- the role may name the handler of each pair for that pair's condition
abbrev pub AreAllowed : Role → List (ℕ × Handler) → Type 0
AreAllowed role pairs = All (λ pair. IsTrue (is_allowed role pair.0 pair.1)) pairs

-- the handler of the last pair for a condition, or `before` where no pair is for it
abbrev pub act_after : Handler → List (ℕ × Handler) → ℕ → Handler
act_after before [] c = before
act_after before (pair ∷ pairs) c = act_after (cond (pair.0 == c) pair.1 before) pairs c

-- the handler of the last pair for a condition, Cancel where no pair is for it
abbrev pub act : List (ℕ × Handler) → ℕ → Handler
act pairs c = act_after Cancel pairs c

-- a fault table: its role and its handlers
pub record FaultTableValue : Type 0 where
  pub role : Role
  pub handlers : Handlers

-- the table's handler for a condition, Cancel where the condition has none
abbrev pub handler_in : FaultTableValue → ℕ → Handler
handler_in table c =
    cond (c == positive_ack_limit) table.handlers.positive_ack_limit
    (cond (c == filestore_rejection) table.handlers.filestore_rejection
    (cond (c == file_checksum_failure) table.handlers.file_checksum_failure
    (cond (c == file_size_error) table.handlers.file_size_error
    (cond (c == nak_limit) table.handlers.nak_limit
    (cond (c == inactivity) table.handlers.inactivity
    (cond (c == check_limit) table.handlers.check_limit
    (cond (c == unsupported_checksum_type) table.handlers.unsupported_checksum_type
    Cancel)))))))

-- the role allows each handler of the table
abbrev pub IsFaultTable : FaultTableValue → Type 0
IsFaultTable table = (c : ℕ) → IsTrue (has_handler c) → IsTrue (is_allowed table.role c (handler_in table c))

-- the handlers, with the one for a condition replaced
abbrev pub handlers_with : Handlers → ℕ → Handler → Handlers
handlers_with old c handler = record {
  positive_ack_limit = cond (c == positive_ack_limit) handler old.positive_ack_limit;
  filestore_rejection = cond (c == filestore_rejection) handler old.filestore_rejection;
  file_checksum_failure = cond (c == file_checksum_failure) handler old.file_checksum_failure;
  file_size_error = cond (c == file_size_error) handler old.file_size_error;
  nak_limit = cond (c == nak_limit) handler old.nak_limit;
  inactivity = cond (c == inactivity) handler old.inactivity;
  check_limit = cond (c == check_limit) handler old.check_limit;
  unsupported_checksum_type = cond (c == unsupported_checksum_type) handler old.unsupported_checksum_type;
}

-- the table with another handler for a condition
abbrev pub with_handler : FaultTableValue → ℕ → Handler → FaultTableValue
with_handler table c handler = record table { handlers = handlers_with table.handlers c handler }
