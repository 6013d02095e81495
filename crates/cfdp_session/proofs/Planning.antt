-- One more setting is made after all others.
use Rattle.std.specs.Prelude.{◌≡◌, List, [], ◌∷◌, ◌++◌, Result, Ok, Err}
use Rattle.std.proofs.Common.{refl}
use Rattle.config_reading.specs.Values.{ConfigValue}
use Rattle.config_reading.specs.declared.fault.ConfigFault.{ConfigFault}
use Rattle.entity_config.specs.declared.setting.Setting.{Setting}
use Rattle.entity_config.specs.Settings.{with_setting}
use Rattle.cfdp_session.specs.Plans.{with_settings}

pub one_more : (settings : List Setting) (setting : Setting) (config : Result ConfigValue ConfigFault)
    → with_settings (settings ++ setting ∷ []) config ≡ with_settings (setting ∷ []) (with_settings settings config)
one_more settings setting (Err fault) = refl
one_more [] setting (Ok config) = refl
one_more (first ∷ later) setting (Ok config) = one_more later setting (with_setting first config)
