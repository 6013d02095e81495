-- A fault table that cancels at every fault is known by its role.
use Rattle.std.proofs.Common.{◌≡◌, ℕ, [], Result, Ok, IfOk, subst}
use Rattle.cfdp_types.specs.declared.fault_table.HandlerNotAllowed.{HandlerNotAllowed}
use Rattle.cfdp_types.specs.declared.names.Role.{Role}
use Rattle.cfdp_types.specs.Handlers.{FaultTableValue, act, handler_in}
use Rattle.cfdp_types.specs.Reference.{all_cancel}

cancels : (role : Role) (table : FaultTableValue) → table.role ≡ role → ((c : ℕ) → handler_in table c ≡ act [] c) → table ≡ all_cancel role
cancels role table own handlers = λ i. record {
  role = own i;
  handlers = record {
    positive_ack_limit = handlers 1 i;
    filestore_rejection = handlers 4 i;
    file_checksum_failure = handlers 5 i;
    file_size_error = handlers 6 i;
    nak_limit = handlers 7 i;
    inactivity = handlers 8 i;
    check_limit = handlers 10 i;
    unsupported_checksum_type = handlers 11 i;
  };
}

pub cancels_where_ok : (r : Result FaultTableValue HandlerNotAllowed) (role : Role) (table : FaultTableValue) → r ≡ Ok table
    → IfOk r (λ made. made.role ≡ role) → IfOk r (λ made. (c : ℕ) → handler_in made c ≡ act [] c) → table ≡ all_cancel role
cancels_where_ok r role table made own handlers =
    let P : Result FaultTableValue HandlerNotAllowed → Type 0 = λ x. IfOk x (λ t. t.role ≡ role) in
    let Q : Result FaultTableValue HandlerNotAllowed → Type 0 = λ x. IfOk x (λ t. (c : ℕ) → handler_in t c ≡ act [] c) in
    cancels role table (subst P made own) (subst Q made handlers)
