use Rattle.std.proofs.Common.{string_bytes}
use Rattle.station_store.proofs.Storing.{copy_reached}
use Rattle.station_store.proofs.keeping.keep.Goals as goal

pub returns-clause-reached : goal.returns-clause-reached
returns-clause-reached g c = copy_reached string_bytes c.keep_file.result _ _ _ _ c.requires c.keep_file.ensures.kept c.keep_file.ensures.copy
