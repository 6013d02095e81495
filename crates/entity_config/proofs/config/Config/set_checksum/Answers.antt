use Rattle.std.proofs.Common.{IsTrue, List, map, refl, string_bytes, subst, sym}
use Rattle.entity_config.specs.Settings.{with_checksum}
use Rattle.config_reading.specs.Shown.{shown}
use Rattle.config_reading.specs.Values.{PeerValue, is_config}
use Rattle.entity_config.proofs.Kept.{config_kept}
use Rattle.entity_config.proofs.config.Config.set_checksum.Goals as goal

pub invariant_of-self : goal.invariant_of-self
invariant_of-self c =
    let P : List PeerValue → Type 0 = λ peers. IsTrue (is_config (record { entity = c.self.inside.entity; users = map string_bytes c.self.inside.users.items; peers = peers })) in
    subst P (sym c.change_checksum.ensures)
    (config_kept (with_checksum c.args.checksum) (shown c.self.inside.entity c.self.inside.users c.self.inside.peers) (λ params. refl) c.self.invariant)
