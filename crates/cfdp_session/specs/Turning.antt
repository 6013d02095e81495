-- Meaning. Which transactions of an entity may have something to send, after each event.
use Rattle.std.specs.Prelude.{ℕ, ◌==◌, ◌&&◌, not, if◌then◌else◌, Result, Ok, Err}
use Rattle.cfdp_types.specs.declared.key.EntityId.{EntityId}
use Rattle.cfdp_types.specs.declared.key.TxnKey.{TxnKey}
use Rattle.lane_table.specs.declared.done.Done.{Done}
use Rattle.entity_parts.specs.Refusals.{is_passing}
use Rattle.entity_parts.specs.declared.refusal.EntityRefusal.{EntityRefusal}
use Rattle.entity_routing.specs.declared.world_event.WorldEvent.{WorldEvent}
use Rattle.entity_routing.specs.declared.world_event.WorldEvent.TheVariants as events
use Rattle.cfdp_session.specs.Turns.{TurnsValue, passed, rested, woken}

-- a transaction of the entity's own that was asked for its next PDU has had its turn
abbrev pub after_turn : EntityId → WorldEvent → TurnsValue → TurnsValue
after_turn local (events.Pump key) turns = if key.source.0 == local.0 then passed key.seq turns else turns
after_turn local _ turns = turns

-- one that took an event may have something to send
abbrev pub woken_by : EntityId → TxnKey → TurnsValue → TurnsValue
woken_by local key turns = if key.source.0 == local.0 then woken key.seq turns else turns

-- one that was refused its next PDU has nothing to send, unless the refusal is temporary
abbrev pub rested_by : EntityId → WorldEvent → EntityRefusal → TurnsValue → TurnsValue
rested_by local (events.Pump key) why turns = if (key.source.0 == local.0) && not (is_passing why) then rested key.seq turns else turns
rested_by local _ why turns = turns

-- the turns after an event and its answer
abbrev pub turned : EntityId → WorldEvent → Result Done EntityRefusal → TurnsValue → TurnsValue
turned local event (Ok done) turns = woken_by local done.key (after_turn local event turns)
turned local event (Err why) turns = rested_by local event why (after_turn local event turns)
