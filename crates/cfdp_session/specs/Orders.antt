-- Meaning. The Put request of an order, with the messages that were added before.
use Rattle.std.specs.Prelude.{ℕ, Bool, List}
use Rattle.cfdp_types.specs.declared.key.EntityId.{EntityId}
use Rattle.cfdp_types.specs.declared.names.Class.{Class}
use Rattle.cfdp_types.specs.Put.{PutValue}
use Rattle.cfdp_session.specs.declared.order.Order.{Order}

-- a file under its names for a receiver, with these messages
abbrev pub put_to : EntityId → Class → Bool → List ℕ → List ℕ → List ℕ → List (List ℕ) → PutValue
put_to destination class closure source_name destination_name file messages =
    record { destination = destination; class = class; closure = closure; source_name = source_name; destination_name = destination_name; messages = messages; file = file }

-- the same, from an order
abbrev pub put_of : Order → List (List ℕ) → PutValue
put_of order = put_to order.destination order.class order.closure order.source_name.now order.destination_name.now order.file.now
