use Rattle.std.proofs.Common.{rules, tests, string_bytes, sym, ◌∙◌}
use Rattle.std.proofs.lemmas.Iterator.Consumers.{YieldsList-from_rest}
use Rattle.std.proofs.lemmas.Iterator.Search.{all_from_yields_List}
use Rattle.station_config.specs.Station.{is_known}
use Rattle.station_config.proofs.Walks.{knows_all-view}
use Rattle.station_config.proofs.walk.knows_all.Goals as goal

pub returns : goal.returns
returns c =
    all_from_yields_List (λ name. is_known c.args.section.now (string_bytes name)) _ _ _ c.all.ensures.ran
    (YieldsList-from_rest _ c.keys.ensures.rest) (λ x b q k. search (rules, tests))
    ∙ sym (knows_all-view c.args.section.now c.args.table.now.entries)
