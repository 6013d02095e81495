use Rattle.std.proofs.Common.{refl, inl}
use Rattle.config_reading.specs.declared.fault.ConfigFault.TheVariants.{BadToml}
use Rattle.fault_texts.proofs.explaining.explained.Goals as goal

pub returns-in_ok-format-in-Err : goal.returns-in_ok-format-in-Err
returns-in_ok-format-in-Err c = (BadToml, inl refl)
