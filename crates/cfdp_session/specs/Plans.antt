-- Meaning. Of what an entity is made anew, as long as it has received no event: a configuration's text, and settings.
use Rattle.std.specs.Prelude.{◌≡◌, ℕ, List, [], ◌∷◌, ◌++◌, Option, Some, None, Result, Ok, Err}
use Rattle.config_reading.specs.Values.{ConfigValue}
use Rattle.config_reading.specs.Walk.{config_of}
use Rattle.config_reading.specs.declared.fault.ConfigFault.{ConfigFault}
use Rattle.entity_config.specs.Settings.{with_setting}
use Rattle.entity_config.specs.declared.setting.Setting.{Setting}
use Rattle.cfdp_session.specs.declared.plan.Unset.{Unset}
use Rattle.cfdp_session.specs.declared.plan.Unset.TheVariants.{TooLate, NotAllowed, NoMemory}

-- the text, and the settings in the order in which they were made
pub record PlanValue : Type 0 where
  pub text : List ℕ
  pub settings : List Setting

-- a configuration with settings made one after the other, or the first fault
abbrev pub with_settings : List Setting → Result ConfigValue ConfigFault → Result ConfigValue ConfigFault
with_settings settings (Err fault) = Err fault
with_settings [] (Ok config) = Ok config
with_settings (setting ∷ later) (Ok config) = with_settings later (with_setting setting config)

-- the configuration that a plan is of
abbrev pub planned : PlanValue → Result ConfigValue ConfigFault
planned plan = with_settings plan.settings (config_of plan.text)

-- the plan with one more setting
abbrev pub and_setting : PlanValue → Setting → PlanValue
and_setting plan setting = record plan { settings = plan.settings ++ setting ∷ [] }

-- why a setting is not made, where one may still be made: the configuration with it has a fault, or memory ran out
abbrev pub IsUnsettable : PlanValue → Setting → Unset → Type 0
IsUnsettable plan setting TooLate = ⊥
IsUnsettable plan setting NotAllowed = (fault : ConfigFault) × (planned (and_setting plan setting) ≡ Err fault)
IsUnsettable plan setting NoMemory = Unit {0}

-- why a setting is not made; it is too late exactly where there is no plan any more
abbrev pub IsUnset : Option PlanValue → Setting → Unset → Type 0
IsUnset None setting why = why ≡ TooLate
IsUnset (Some plan) setting why = IsUnsettable plan setting why
