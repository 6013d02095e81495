use Rattle.std.proofs.Common.{◌∙◌, rules, tests}
use Rattle.std.proofs.lemmas.Iterator.{YieldsList-from_slice}
use Rattle.std.proofs.lemmas.Iterator.Search.{YieldsList-from_take_while}
use Rattle.std.proofs.lemmas.Iterator.Consumers.{count_from_yields_List}
use Rattle.std.proofs.lemmas.List.Folds.{length-prefix_len}
use Rattle.disk.specs.Steps.{is_slash}
use Rattle.station_store.proofs.names.leading_slashes.Goals as goal

pub returns-clause-count : goal.returns-clause-count
returns-clause-count c =
    count_from_yields_List _ _ c.count.ensures.ran
    (YieldsList-from_take_while _ is_slash (YieldsList-from_slice c.args.name.now cc) c.take_while.ensures.closure c.take_while.ensures.done (λ x b q k. search (rules, tests)))
    ∙ length-prefix_len is_slash c.args.name.now
