-- Fault tables, one pair after the other.
use Rattle.std.proofs.Common.{◌≡◌, ℕ, ◌+◌, ◌<◌, Bool, true, false, cond, ◌==◌, ◌&&◌, List, [], ◌∷◌, ◌++◌, IsTrue, length, take, get_or, refl, sym, ap, ◌∙◌, arith}
use Rattle.std.proofs.lemmas.List.{take_more}
use Rattle.std.proofs.lemmas.List.Elements.{All-push}
use Rattle.cfdp_types.specs.Condition.{positive_ack_limit, filestore_rejection, file_checksum_failure, file_size_error, nak_limit, inactivity, check_limit, unsupported_checksum_type}
use Rattle.cfdp_types.specs.Handlers.{AreAllowed, FaultTableValue, act, IsFaultTable, act_after, handler_in, has_handler, is_allowed, is_limit, with_handler}
use Rattle.cfdp_types.specs.declared.names.Handler.{Handler}
use Rattle.cfdp_types.specs.declared.names.Handler.TheVariants.{Cancel, Suspend, Ignore, Abandon}
use Rattle.cfdp_types.specs.declared.names.Role.{Role}
use Rattle.cfdp_types.specs.declared.names.Role.TheVariants.{RecvOne}

-- a later pair counts where it is for the condition
pub act_after-append : (before : Handler) (pairs : List (ℕ × Handler)) (pair : ℕ × Handler) (c : ℕ) → act_after before (pairs ++ pair ∷ []) c ≡ cond (pair.0 == c) pair.1 (act_after before pairs c)
act_after-append before [] pair c = refl
act_after-append before (first ∷ pairs) pair c = act_after-append (cond (first.0 == c) first.1 before) pairs pair c

-- one of the handlers, where another one is put in for a condition
one_with : (named c code : ℕ) (handler old rest later : Handler) → ((c == code) ≡ false → later ≡ cond (named == c) handler rest) → cond (c == code) (cond (named == code) handler old) later ≡ cond (named == c) handler (cond (c == code) old rest)
one_with named c code handler old rest later h = Prim.grind arith

-- a condition without a handler is none for which a handler is put in
others : (named c : ℕ) (handler : Handler) → IsTrue (has_handler named) → (c == positive_ack_limit) ≡ false → (c == filestore_rejection) ≡ false → (c == file_checksum_failure) ≡ false → (c == file_size_error) ≡ false → (c == nak_limit) ≡ false → (c == inactivity) ≡ false → (c == check_limit) ≡ false → (c == unsupported_checksum_type) ≡ false → Cancel ≡ cond (named == c) handler Cancel
others named c handler h h1 h4 h5 h6 h7 h8 h10 h11 = Prim.grind arith

-- a table that another handler was put into says it, and for every other condition what it said before
pub handler_in-with : (table : FaultTableValue) (named : ℕ) (handler : Handler) (c : ℕ) → IsTrue (has_handler named) → handler_in (with_handler table named handler) c ≡ cond (named == c) handler (handler_in table c)
handler_in-with table named handler c h =
    let old = table.handlers in
    one_with named c positive_ack_limit handler old.positive_ack_limit _ _
    (λ h1. one_with named c filestore_rejection handler old.filestore_rejection _ _
    (λ h4. one_with named c file_checksum_failure handler old.file_checksum_failure _ _
    (λ h5. one_with named c file_size_error handler old.file_size_error _ _
    (λ h6. one_with named c nak_limit handler old.nak_limit _ _
    (λ h7. one_with named c inactivity handler old.inactivity _ _
    (λ h8. one_with named c check_limit handler old.check_limit _ _
    (λ h10. one_with named c unsupported_checksum_type handler old.unsupported_checksum_type _ _
    (λ h11. others named c handler h h1 h4 h5 h6 h7 h8 h10 h11))))))))

-- what may be named has a handler
pub allowed-has_handler : (role : Role) (c : ℕ) (handler : Handler) → IsTrue (is_allowed role c handler) → IsTrue (has_handler c)
allowed-has_handler role c Cancel h = h
allowed-has_handler role c Abandon h = h
allowed-has_handler role c Ignore h = Prim.grind arith
allowed-has_handler role c Suspend h = Prim.grind arith

-- a table of the role that says what the pairs name
pub record IsTableOf (role : Role) (pairs : List (ℕ × Handler)) (table : FaultTableValue) : Type 0 where
  pub role_is : table.role ≡ role
  pub allowed : AreAllowed role pairs
  pub handlers : (c : ℕ) → handler_in table c ≡ act pairs c

pub IsTableOf-append : (role : Role) (pairs : List (ℕ × Handler)) (table : FaultTableValue) (pair : ℕ × Handler) → IsTableOf role pairs table → IsTrue (is_allowed role pair.0 pair.1) → IsTableOf role (pairs ++ pair ∷ []) (with_handler table pair.0 pair.1)
IsTableOf-append role pairs table pair is allowed = record {
  role_is = is.role_is;
  allowed = All-push (λ (p : ℕ × Handler). IsTrue (is_allowed role p.0 p.1)) pairs pair is.allowed allowed;
  handlers = λ c.
      handler_in-with table pair.0 pair.1 c (allowed-has_handler role pair.0 pair.1 allowed)
      ∙ ap (λ (h : Handler). cond (pair.0 == c) pair.1 h) (is.handlers c)
      ∙ sym (act_after-append Cancel pairs pair c);
}

-- one more pair of a list
pub IsTableOf-next : (role : Role) (pairs : List (ℕ × Handler)) (i : ℕ) (pair : ℕ × Handler) (table next : FaultTableValue) → i < length pairs → pair ≡ get_or pairs i pair → IsTableOf role (take i pairs) table → IsTrue (is_allowed table.role pair.0 pair.1) → next ≡ with_handler table pair.0 pair.1 → IsTableOf role (take (i + 1) pairs) next
IsTableOf-next role pairs i pair table next h at is allowed e =
    let more : take (i + 1) pairs ≡ take i pairs ++ pair ∷ [] = take_more pairs i pair h ∙ ap (λ (p : ℕ × Handler). take i pairs ++ p ∷ []) (sym at) in
    let may : IsTrue (is_allowed role pair.0 pair.1) = rw is.role_is at allowed in
    rw (more, e) (IsTableOf-append role (take i pairs) table pair is may)

-- a condition without a handler is cancelled
pub handler_in-none : (table : FaultTableValue) (c : ℕ) → has_handler c ≡ false → handler_in table c ≡ Cancel
handler_in-none table c h = Prim.grind arith

no_suspend_by : (table : FaultTableValue) → IsFaultTable table → table.role ≡ RecvOne → (c : ℕ) (b : Bool) → has_handler c ≡ b → handler_in table c ≡ Suspend → ⊥
no_suspend_by table is role c false none suspends =
    let cancels : handler_in table c ≡ Cancel = handler_in-none table c none in cc
no_suspend_by table is role c true some suspends =
    let may : IsTrue (is_limit c && false) = rw suspends at (rw role at (is c some)) in Prim.grind arith

-- a class 1 receiver is suspended by no fault
pub never_suspends : (table : FaultTableValue) → IsFaultTable table → table.role ≡ RecvOne → (c : ℕ) → handler_in table c ≡ Suspend → ⊥
never_suspends table is role c suspends = no_suspend_by table is role c (has_handler c) refl suspends
