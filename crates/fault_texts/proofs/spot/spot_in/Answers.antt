use Rattle.std.proofs.Common.{IsTrue, sym}
use Rattle.std.proofs.lemmas.Result.{IfOk-at_ok}
use Rattle.toml.specs.View.{table_view}
use Rattle.config_reading.specs.Values.{is_entity}
use Rattle.config_reading.proofs.ReadLimits.{entity_in-limits}
use Rattle.fault_texts.proofs.spot.spot_in.Goals as goal

pub spot_among-requires : goal.spot_among-requires
spot_among-requires c = IfOk-at_ok (λ entity. IsTrue (is_entity entity)) (sym c.in-Ok-entity_in.ensures) (entity_in-limits (table_view c.in-Ok.table.now))
