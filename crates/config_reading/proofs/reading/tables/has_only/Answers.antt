use Rattle.std.proofs.Common.{rules, tests, string_bytes, sym, ◌∙◌}
use Rattle.std.specs.List.{list_any}
use Rattle.std.proofs.lemmas.Iterator.Consumers.{YieldsList-from_rest}
use Rattle.std.proofs.lemmas.Iterator.Search.{all_from_yields_List}
use Rattle.config_reading.specs.Faults.{key_text}
use Rattle.config_reading.specs.Texts.{is_same_text}
use Rattle.config_reading.proofs.Tables.{has_only-view}
use Rattle.config_reading.proofs.reading.tables.has_only.Goals as goal

pub returns : goal.returns
returns c =
    all_from_yields_List (λ name. list_any (λ known. is_same_text (key_text known) (string_bytes name)) c.args.keys.now) _ _ _ c.all.ensures.ran
    (YieldsList-from_rest _ c.keys.ensures.rest) (λ x b q k. search (rules, tests))
    ∙ sym (has_only-view c.args.keys.now c.args.table.now.entries)
