-- Meaning. A Put request: what it holds, and why it may be refused.
use Rattle.std.specs.Prelude.{ℕ, ◌≤◌, Bool, cond, ◌||◌, ◌==◌, nat_lt, List, length, Option, Some, None}
use Rattle.std.specs.List.{All, list_any}
use Rattle.cfdp_types.specs.declared.key.EntityId.{EntityId}
use Rattle.cfdp_types.specs.declared.limits.TheConstants.{MESSAGES, MESSAGE_OCTETS, NAME_OCTETS}
use Rattle.cfdp_types.specs.declared.names.Class.{Class}
use Rattle.cfdp_types.specs.declared.put_request.PutFault.{PutFault}
use Rattle.cfdp_types.specs.declared.put_request.PutFault.TheVariants.{NoName, NameTooLong, MessageTooLong, TooManyMessages, NoMemory}

-- the parts of a Put request
pub record PutValue : Type 0 where
  pub destination : EntityId
  pub class : Class
  -- whether the receiver is asked for a Finished PDU; in class 2 it sends one unasked
  pub closure : Bool
  pub source_name : List ℕ
  pub destination_name : List ℕ
  pub messages : List (List ℕ)
  pub file : List ℕ

-- a file name that Metadata can hold
pub record IsName (name : List ℕ) : Type 0 where
  pub least : 1 ≤ length name
  pub most : length name ≤ NAME_OCTETS

-- messages to the user that Metadata can hold, no more than a request may have
pub record AreMessages (messages : List (List ℕ)) : Type 0 where
  pub count : length messages ≤ MESSAGES
  pub octets : All (λ message. length message ≤ MESSAGE_OCTETS) messages

-- names and messages keep their limits
pub record IsPut (put : PutValue) : Type 0 where
  pub source_name : IsName put.source_name
  pub destination_name : IsName put.destination_name
  pub messages : AreMessages put.messages

-- whether there are more octets than `most`
abbrev pub is_longer : ℕ → List ℕ → Bool
is_longer most octets = nat_lt most (length octets)

-- why such names and messages are refused, the first that applies; NoMemory aside
abbrev pub put_fault : List ℕ → List ℕ → List (List ℕ) → Option PutFault
put_fault source_name destination_name messages =
    cond (length source_name == 0 || length destination_name == 0) (Some NoName)
    (cond (is_longer NAME_OCTETS source_name || is_longer NAME_OCTETS destination_name) (Some NameTooLong)
    (cond (list_any (is_longer MESSAGE_OCTETS) messages) (Some MessageTooLong)
    (cond (nat_lt MESSAGES (length messages)) (Some TooManyMessages)
    None)))

-- the number of a fault
abbrev pub put_fault_number : PutFault → ℕ
put_fault_number NoName = 1
put_fault_number NameTooLong = 2
put_fault_number MessageTooLong = 3
put_fault_number TooManyMessages = 4
put_fault_number NoMemory = 5
