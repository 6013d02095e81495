use Rattle.std.proofs.Common.{IsTrue, map, sym}
use Rattle.std.proofs.lemmas.Result.{IfOk-at_ok}
use Rattle.toml.specs.View.{table_view, view}
use Rattle.config_reading.specs.Shown.{shown}
use Rattle.config_reading.specs.Values.{is_entity}
use Rattle.config_reading.proofs.ReadLimits.{entity_in-limits}
use Rattle.config_reading.proofs.RemoteLimits.{read_is_config}
use Rattle.config_reading.proofs.reading.parts_in.Goals as goal

pub remotes_in-requires : goal.remotes_in-requires
remotes_in-requires c = IfOk-at_ok (λ entity. IsTrue (is_entity entity)) (sym c.in_ok-entity.ensures) (entity_in-limits (table_view c.in_ok-entity_table.entity_table.now))

pub returns-clause-limits : goal.returns-clause-limits
returns-clause-limits c =
    read_is_config (table_view c.in_ok-entity_table.entity_table.now) (view c.in_ok-required-2.field-0.now) (view c.in_ok-required-3.field-0.now)
    (map (λ table. table_view table.now) c.in_ok-user_tables.user_tables.items) (map (λ table. table_view table.now) c.in_ok-remote_tables.remote_tables.items)
    (shown c.in_ok-entity.entity c.in_ok-users.users c.in_ok-peers.peers)
    (sym c.in_ok-entity.ensures) c.in_ok-user_tables.ensures c.in_ok-remote_tables.ensures
    (rw c.deref.ensures.value at c.in_ok-users.ensures) (rw (c.deref-2.ensures.value, c.deref-3.ensures.value) at c.in_ok-peers.ensures)
