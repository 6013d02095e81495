use Rattle.std.proofs.Common.{sym, ◌∙◌}
use Rattle.entity_config.proofs.Sources.{source_found}
use Rattle.entity_config.proofs.config.Config.source_at.Goals as goal

pub returns : goal.returns
returns c = rw (← c.self.view_is) (c.source_among.ensures ∙ rw c.deref.ensures.value (sym (source_found c.args.user c.args.place c.self.inside.peers.items)))
