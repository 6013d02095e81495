-- Meaning. When there is something to explain of a configuration's text.
use Rattle.std.specs.Prelude.{◌≡◌, ◌⊎◌, ℕ, List, Option, Some, None, Ok, Err}
use Rattle.config_reading.specs.Values.{ConfigValue}
use Rattle.config_reading.specs.Walk.{config_of}
use Rattle.config_reading.specs.declared.fault.ConfigFault.{ConfigFault}
use Rattle.config_reading.specs.declared.fault.ConfigFault.TheVariants.{BadToml}

-- nothing is explained of a text that is a configuration; otherwise the text has a fault, or is no TOML
abbrev pub IsExplained : List ℕ → Option (List ℕ) → Type 0
IsExplained text None = (config : ConfigValue) × (config_of text ≡ Ok config)
IsExplained text (Some sentence) = (why : ConfigFault) × ((why ≡ BadToml) ⊎ (config_of text ≡ Err why))
