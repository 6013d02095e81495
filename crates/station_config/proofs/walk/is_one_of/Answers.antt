use Rattle.std.proofs.Common.{rules, tests, sym, ◌∙◌}
use Rattle.std.proofs.lemmas.Iterator.{YieldsList-from_slice}
use Rattle.std.proofs.lemmas.Iterator.Search.{any_from_yields_List}
use Rattle.config_reading.specs.Texts.{is_same_text}
use Rattle.cfdp_types.proofs.PutLemmas.{list_any-map}
use Rattle.station_config.proofs.walk.is_one_of.Goals as goal

pub returns : goal.returns
returns c =
    any_from_yields_List (λ word. is_same_text word.now c.args.text.now) _ _ _ c.any.ensures.ran (YieldsList-from_slice c.args.words.now cc) (λ x b q k. search (rules, tests))
    ∙ sym (list_any-map (λ word. is_same_text word c.args.text.now) (λ word. word.now) c.args.words.now)
