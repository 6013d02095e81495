-- Of the code. The sets of offsets that segments form.
use Rattle.std.specs.Prelude.{ℕ, ◌<◌, ◌↔◌, Bool, IsTrue}

-- the set is exactly the offsets below some size
abbrev pub IsInitial : (ℕ → Bool) → Type 0
IsInitial set = (size : ℕ) × ((i : ℕ) → IsTrue (set i) ↔ (i < size))
