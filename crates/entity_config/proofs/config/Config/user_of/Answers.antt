use Rattle.std.proofs.Common.{string_bytes, sym, ◌∙◌}
use Rattle.config_reading.specs.Texts.{is_same_text}
use Rattle.config_reading.proofs.Lists.{position-map}
use Rattle.entity_config.proofs.config.Config.user_of.Goals as goal

pub returns : goal.returns
returns c = rw (← c.self.view_is) (c.place_of.ensures ∙ rw c.deref.ensures.value (sym (position-map string_bytes (is_same_text c.args.name.now) c.self.inside.users.items)))
