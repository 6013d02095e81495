-- Meaning. The line of progress.
use Rattle.std.specs.Prelude.{ℕ, ◌*◌, ◌/◌, ◌==◌, nat_lt, min, if◌then◌else◌, List, [], ◌++◌, codes, decimal}

-- how much of a file was sent, in whole percent: 100 of an empty file
abbrev pub percent_of : ℕ → ℕ → ℕ
percent_of reach size = if size == 0 then 100 else min (reach * 100) 18446744073709551615 / size

-- the line, which overwrites the one before
abbrev pub progress_text : ℕ → ℕ → List ℕ
progress_text reach size = codes "\r" ++ (decimal reach ++ (codes " of " ++ (decimal size ++ codes " octets sent")))

-- what follows it once the whole file was sent
abbrev pub awaited_text : ℕ → ℕ → List ℕ
awaited_text reach size = if nat_lt reach size then [] else codes ", waiting for the end"
