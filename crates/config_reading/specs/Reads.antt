-- Of the code. How the result of a reading function compares with what the text means.
use Rattle.std.specs.Prelude.{◌≡◌, ◌⊎◌, Result, Ok, Err}
use Rattle.config_reading.specs.declared.fault.ConfigFault.{ConfigFault}
use Rattle.config_reading.specs.declared.fault.ConfigFault.TheVariants as fault
use Rattle.config_reading.specs.Walk.{Read}

-- the result, as contracts see it
abbrev pub seen : {A B : Type 0} → (A → B) → Result A ConfigFault → Read B
seen see (Ok x) = Ok (see x)
seen see (Err f) = Err f

-- the result is what the text means, or NoMemory
abbrev pub Reads : {A B : Type 0} → (A → B) → Result A ConfigFault → Read B → Type 0
Reads see (Ok x) meant = meant ≡ Ok (see x)
Reads see (Err f) meant = (f ≡ fault.NoMemory) ⊎ (meant ≡ Err f)
