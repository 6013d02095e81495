-- Meaning. Settings of a handle, before its first event, by the code of the call.
use Rattle.std.specs.Prelude.{◌≡◌, ◌⊎◌, ℤ, Option, Some, None}
use Rattle.entity_config.specs.declared.setting.Setting.{Setting}
use Rattle.cfdp_session.specs.declared.plan.Unset.{Unset}
use Rattle.cfdp_session.specs.declared.plan.Unset.TheVariants.{TooLate, NotAllowed, NoMemory}
use Rattle.cfdp_session.specs.declared.session.Session.{Session}
use Rattle.cfdp_session.specs.Plans.{IsUnset}
use Rattle.cfdp_session.specs.Steps.{IsSet}
use Rattle.cfdp_c.specs.declared.codes.TheConstants.{OK, BAD_NUMBER, CLOSED, NO_MEMORY, NOT_ALLOWED, TOO_LATE}

-- the code for a setting that is not made
abbrev pub unset_code : Unset → ℤ
unset_code TooLate = TOO_LATE
unset_code NotAllowed = NOT_ALLOWED
unset_code NoMemory = NO_MEMORY

-- the setting is made, or it is not and nothing changes
abbrev pub IsSetting : ℤ → Session → Option Session → Setting → Type 0
IsSetting code old after setting =
    ((code ≡ OK) × ((new : Session) × (after ≡ Some new) × IsSet old setting new))
    ⊎ ((why : Unset) × (code ≡ unset_code why) × IsUnset old.plan setting why × (after ≡ Some old))

-- a setting for a handle; BAD_NUMBER where the numbers stand for none
abbrev pub Sets : ℤ → Option Session → Option Session → Option Setting → Type 0
Sets code before after None = (code ≡ BAD_NUMBER) × (after ≡ before)
Sets code None after (Some setting) = (code ≡ CLOSED) × (after ≡ None)
Sets code (Some old) after (Some setting) = IsSetting code old after setting
