use Rattle.std.proofs.Common.{◌≡◌, ◌++◌, string_bytes}
use Rattle.std.specs.Prelude.{flat_map}
use Rattle.station_lines.specs.Letters.{safe_char}
use Rattle.station_lines.proofs.letters.push_letters.Given as goal

-- what stands for the characters so far is added
abbrev pub invariant-loop-letter : goal.invariant-loop-letter
invariant-loop-letter l = string_bytes l.text ≡ string_bytes l.initial.text ++ flat_map safe_char l.yielded
