use Rattle.std.proofs.Common.{◌≡◌, Ok, drop}
use Rattle.cfdp_session.specs.Plans.{with_settings}
use Rattle.cfdp_session.proofs.plan.make_all.Given as goal

-- the settings that are left lead from this configuration to where all of them lead
abbrev pub invariant-loop-setting : goal.invariant-loop-setting
invariant-loop-setting l = with_settings (drop l.setting-index l.settings) (Ok l.config) ≡ with_settings l.settings (Ok l.fn.config)
