use Rattle.config_reading.proofs.FaultTables.{cancels_where_ok}
use Rattle.config_reading.proofs.reading.handlers.cancelling.Goals as goal

pub returns : goal.returns
returns c = cancels_where_ok c.new.result c.args.role c.unwrap.result c.unwrap.ensures c.new.ensures.role c.new.ensures.handlers
