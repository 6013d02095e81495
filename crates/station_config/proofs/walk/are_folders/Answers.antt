use Rattle.std.proofs.Common.{rules, tests, sym, ◌∙◌}
use Rattle.std.proofs.lemmas.Iterator.{YieldsList-from_slice}
use Rattle.std.proofs.lemmas.Iterator.Search.{all_from_yields_List}
use Rattle.toml.specs.View.{view}
use Rattle.station_config.specs.Station.{is_folders}
use Rattle.station_config.proofs.Walks.{all_items-view}
use Rattle.station_config.proofs.walk.are_folders.Goals as goal

pub returns : goal.returns
returns c =
    all_from_yields_List (λ value. is_folders (view value)) _ _ _ c.all.ensures.ran (YieldsList-from_slice c.args.items.now cc) (λ x b q k. search (rules, tests))
    ∙ sym (all_items-view is_folders c.args.items.now)
