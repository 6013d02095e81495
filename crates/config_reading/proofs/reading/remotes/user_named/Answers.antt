use Rattle.std.proofs.Common.{string_bytes}
use Rattle.config_reading.specs.Texts.{is_same_text}
use Rattle.config_reading.proofs.Lists.{position-map}
use Rattle.config_reading.proofs.reading.remotes.user_named.Goals as goal

pub returns-in-Some : goal.returns-in-Some
returns-in-Some c = rw (← c.in_ok-name.ensures, position-map string_bytes (is_same_text c.in_ok-name.name.now) c.args.users.now, ← c.in-Some.ensures)

pub returns-in-None : goal.returns-in-None
returns-in-None c = rw (← c.in_ok-name.ensures, position-map string_bytes (is_same_text c.in_ok-name.name.now) c.args.users.now, ← c.in-None.ensures)
