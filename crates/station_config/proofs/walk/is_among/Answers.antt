use Rattle.std.proofs.Common.{rules, tests, sym, ◌∙◌}
use Rattle.std.proofs.lemmas.Iterator.{YieldsList-from_slice}
use Rattle.std.proofs.lemmas.Iterator.Search.{any_from_yields_List}
use Rattle.cfdp_types.proofs.PutLemmas.{list_any-map}
use Rattle.station_config.specs.Station.{is_at, meant}
use Rattle.station_config.proofs.walk.is_among.Goals as goal

pub returns : goal.returns
returns c =
    any_from_yields_List (λ row. is_at c.args.section.now c.args.name.now (meant row)) _ _ _ c.any.ensures.ran (YieldsList-from_slice c.args.rows.now cc) (λ x b q k. search (rules, tests))
    ∙ sym (list_any-map (is_at c.args.section.now c.args.name.now) meant c.args.rows.now)
