-- Meaning. The commands for a server, by docs/control-socket.md.
use Rattle.std.specs.Prelude.{ℕ, ◌++◌, List, Option, Some, None, codes, decimal}
use Rattle.ctl_windows.specs.declared.window.Rate.{Rate}
use Rattle.ctl_windows.specs.declared.window.Rate.TheVariants as rates

abbrev pub hold_octets : ℕ → List ℕ
hold_octets remote = codes "hold " ++ decimal remote

abbrev pub release_octets : ℕ → ℕ → List ℕ
release_octets remote seconds = codes "release " ++ (decimal remote ++ (codes " " ++ decimal seconds))

abbrev pub rate_octets : ℕ → Rate → Option (List ℕ)
rate_octets remote rates.Same = None
rate_octets remote rates.Off = Some (codes "rate " ++ (decimal remote ++ codes " off"))
rate_octets remote (rates.Octets octets) = Some (codes "rate " ++ (decimal remote ++ (codes " " ++ decimal octets)))
