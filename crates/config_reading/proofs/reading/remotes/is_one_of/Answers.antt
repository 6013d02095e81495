use Rattle.std.proofs.Common.{rules, tests, sym, ◌∙◌}
use Rattle.std.proofs.lemmas.Iterator.{YieldsList-from_slice}
use Rattle.std.proofs.lemmas.Iterator.Search.{any_from_yields_List}
use Rattle.config_reading.specs.Shown.{peer_shown}
use Rattle.config_reading.specs.Values.{has_id}
use Rattle.cfdp_types.proofs.PutLemmas.{list_any-map}
use Rattle.config_reading.proofs.reading.remotes.is_one_of.Goals as goal

pub returns : goal.returns
returns c =
    any_from_yields_List (λ peer. has_id c.args.id (peer_shown peer)) _ _ _ c.any.ensures.ran (YieldsList-from_slice c.args.peers.now cc) (λ x b q k. search (rules, tests))
    ∙ sym (list_any-map (has_id c.args.id) peer_shown c.args.peers.now)
