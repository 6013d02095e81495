use Rattle.std.proofs.Common.{rules, tests, sym, ◌∙◌}
use Rattle.std.proofs.lemmas.Iterator.{YieldsList-from_slice}
use Rattle.std.proofs.lemmas.Iterator.Search.{any_from_yields_List}
use Rattle.toml.specs.View.{view}
use Rattle.station_config.specs.Station.{is_word}
use Rattle.station_config.proofs.Walks.{any_item-view}
use Rattle.station_config.proofs.walk.is_in_list.Goals as goal

pub returns : goal.returns
returns c =
    any_from_yields_List (λ value. is_word c.args.word.now (view value)) _ _ _ c.any.ensures.ran (YieldsList-from_slice c.args.items.now cc) (λ x b q k. search (rules, tests))
    ∙ sym (any_item-view (is_word c.args.word.now) c.args.items.now)
