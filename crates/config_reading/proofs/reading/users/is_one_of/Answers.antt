use Rattle.std.proofs.Common.{rules, tests, string_bytes, sym, ◌∙◌}
use Rattle.std.proofs.lemmas.Iterator.{YieldsList-from_slice}
use Rattle.std.proofs.lemmas.Iterator.Search.{any_from_yields_List}
use Rattle.config_reading.specs.Texts.{is_same_text}
use Rattle.cfdp_types.proofs.PutLemmas.{list_any-map}
use Rattle.config_reading.proofs.reading.users.is_one_of.Goals as goal

pub returns : goal.returns
returns c =
    any_from_yields_List (λ other. is_same_text c.args.name.now (string_bytes other)) _ _ _ c.any.ensures.ran (YieldsList-from_slice c.args.names.now cc) (λ x b q k. search (rules, tests))
    ∙ sym (list_any-map (is_same_text c.args.name.now) string_bytes c.args.names.now)
